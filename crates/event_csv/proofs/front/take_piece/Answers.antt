use Rattle.std.proofs.Common.{◌≡◌, ◌+◌, take}
use Rattle.std.specs.Prelude.{IsUtf8}
use Rattle.std.proofs.lemmas.List.{take_rest}
use Rattle.event_csv.proofs.QuoteFacts.{piece-at}
use Rattle.event_csv.proofs.front.take_piece.Goals as goal

pub returns : goal.returns
returns c =
    let i = c.in_ok-end.end in
    let s = c.args.text.now in
    let text : IsUtf8 (take i s) = c.in_ok-piece.ensures.1 in
    let piece : c.in_ok-piece.piece.now ≡ take i s = c.in_ok-piece.ensures.0 in
    rw (piece, take_rest s (i + 1)) (piece-at s i c.in_ok-end.is_ascii c.in_ok-end.ensures text)
