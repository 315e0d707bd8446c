use Rattle.std.proofs.Common.{arith}
use Rattle.std.specs.Prelude.{string_bytes}
use Rattle.event_csv.proofs.QuoteFacts.{piece-read, some-ends}
use Rattle.event_csv.proofs.quotes.take_any_quoted.Goals as goal

pub returns-in-None : goal.returns-in-None
returns-in-None c =
    some-ends string_bytes c.args.text.now (string_bytes c.pieces.field) c.pieces.rest.now c.in_ok-piece.piece.now c.in_ok-piece.behind.now c.take_end.result
    c.pieces.invariant c.in_ok-piece.ensures c.in-None.ensures (rw c.in-Ok.ensures.bytes at c.take_end.ensures)

pub pieces-preserved : goal.pieces-preserved
pieces-preserved c =
    rw (c.in-Ok-push.ensures.bytes, c.in-Ok-push.ensures.ascii (omega arith), c.in-Ok.ensures.bytes) (
    piece-read c.args.text.now (string_bytes c.pieces.field) c.pieces.rest.now c.in_ok-piece.piece.now c.in_ok-piece.behind.now c.in-Some.more.now
    c.pieces.invariant c.in_ok-piece.ensures c.in-Some.ensures
    )
