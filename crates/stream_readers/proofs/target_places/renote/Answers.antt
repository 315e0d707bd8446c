use Rattle.std.proofs.Common.{rules}
use Rattle.stream_readers.proofs.target_places.renote.Goals as goal

pub returns-in-Some : goal.returns-in-Some
returns-in-Some c = λ other. ((c.get_mut.follows.holds c.args.place).3 (search rules)).0 other
