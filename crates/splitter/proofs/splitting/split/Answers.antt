use Rattle.std.proofs.Common.{subst, sym}
use Rattle.expressions.specs.Views.{ex_of}
use Rattle.splitter.specs.Room.{HasRoom}
use Rattle.splitter.proofs.NumberingLemmas.{room_for}
use Rattle.splitter.proofs.splitting.split.Goals as goal

-- there is room for each hidden stream
pub open_lines-requires : goal.open_lines-requires
open_lines-requires c = subst (HasRoom (ex_of c.args.expr.now)) (sym c.same-ahead.ensures) (room_for (ex_of c.args.expr.now) c.args.namer.now c.requires.room)
