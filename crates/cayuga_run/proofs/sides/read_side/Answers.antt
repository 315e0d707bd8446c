use Rattle.std.proofs.Common.{◌+◌, ◌≤◌, length, length-take, arith}
use Rattle.cayuga_run.proofs.ReadingLemmas.{takes_more}
use Rattle.cayuga_run.proofs.sides.read_side.Goals as goal

-- what was read where there is no memory to keep it
pub returns-in_err-extend_from_slice-in-Ok-clause-taken : goal.returns-in_err-extend_from_slice-in-Ok-clause-taken
returns-in_err-extend_from_slice-in-Ok-clause-taken g c =
    let buffer = c.read.new.buf in
    let slice = length-take c.piece_size-want.result c.pieces.piece in
    let want = c.piece_size-want.ensures in
    let more = c.pieces-test.true in
    let room : length c.pieces.bytes.items + length buffer ≤ c.args.limit + 1 = omega (arith, slice, want, more) in
    takes_more c.pieces.bytes.items c.in-Ok.count buffer c.pieces.invariant.front c.in-Ok.ensures.took room
