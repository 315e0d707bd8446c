use Rattle.std.proofs.lemmas.Str.{IsUtf8-from_ascii}
use Rattle.event_csv.proofs.front.text_of.Goals as goal
use Rattle.event_csv.proofs.front.text_of.Goals.{then-is_ascii-via-then-is_ascii, then-is_ascii-via-else-is_ascii+then-is_utf8}

pub from_utf8_unchecked-requires : goal.from_utf8_unchecked-requires
from_utf8_unchecked-requires c =
    elim c.then-is_ascii.branch [
      | then-is_ascii-via-then-is_ascii w ↦ IsUtf8-from_ascii c.args.bytes.now (c.requires w.if-is_ascii.true)
      | then-is_ascii-via-else-is_ascii+then-is_utf8 w ↦ w.is_utf8.ensures w.if-is_utf8.true
    ]
