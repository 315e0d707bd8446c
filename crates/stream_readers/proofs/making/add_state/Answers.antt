use Rattle.std.proofs.Common.{◌∙◌, sym}
use Rattle.stream_readers.proofs.MakeLemmas.{nothing_made}
use Rattle.stream_readers.proofs.making.add_state.Goals as goal

pub returns-then-not-used : goal.returns-then-not-used
returns-then-not-used c = nothing_made c.args.network.now c.args.number c.args.readers.now (sym c.used.ensures ∙ c.if-not-used.true) c.requires.below
