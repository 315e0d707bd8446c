use Rattle.std.proofs.Common.{arith}
use Rattle.session.proofs.FrontLemmas.{front_forgotten, front_past}
use Rattle.session.proofs.fronts.forget_front.Goals as goal

pub returns-then-stream-len : goal.returns-then-stream-len
returns-then-stream-len c = λ streams are. front_forgotten streams c.args.fronts.now are c.args.stream

-- a front that wasn't made isn't there
pub returns-else-stream-len : goal.returns-else-stream-len
returns-else-stream-len c = λ streams are. front_past streams c.args.fronts.now are c.args.stream (omega (arith, c.len.ensures, c.if-stream-len.false))
