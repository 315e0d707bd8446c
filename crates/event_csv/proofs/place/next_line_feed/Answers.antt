use Rattle.std.proofs.Common.{◌≡◌, ◌+◌, arith, drop, length, length-drop}
use Rattle.std.proofs.lemmas.List.{take_rest}
use Rattle.event_csv.specs.Place.{NoFeed}
use Rattle.event_csv.proofs.PlaceFacts.{feed-behind, none-behind}
use Rattle.event_csv.proofs.place.next_line_feed.Goals as goal

pub returns-in_err-at : goal.returns-in_err-at
returns-in_err-at c =
    let bytes = c.args.bytes.now in
    let from = c.args.from in
    let h = rw (take_rest bytes from) at c.in_err-at.ensures in
    let end : from + length (drop from bytes) ≡ length bytes = omega (arith, length-drop from bytes) in
    let none : NoFeed bytes from (length bytes) = rw end at (none-behind bytes from (length (drop from bytes)) h) in
    rw c.from_residual.ensures none

pub returns : goal.returns
returns c =
    let bytes = c.args.bytes.now in
    let from = c.args.from in
    let h = rw (take_rest bytes from) at c.in_ok-at.ensures in
    record {
      after = omega arith;
      within = omega (arith, length-drop from bytes, h.0.high);
      first = none-behind bytes from c.in_ok-at.at h.0.before;
      here = feed-behind bytes from c.in_ok-at.at h.1;
    }
