use Rattle.std.proofs.Common.{◌≡◌, ◌-◌, ◌≤◌, [], length}
use Rattle.event_csv.specs.Fed.{HandsOutLines, line_feeds_so_far}
use Rattle.event_csv.specs.Place.{BegunOrShort, IsPlace, fed_at}
use Rattle.event_csv.proofs.place.take_line.Given as goal

abbrev pub invariant-lines : goal.invariant-lines
invariant-lines l = record {
  place : IsPlace l.bytes l.place;
  forward : l.fn.place.start ≤ l.place.start;
  begun : BegunOrShort l.bytes l.place;
  given : HandsOutLines [] (fed_at l.bytes l.fn.place) (fed_at l.bytes l.place);
  feeds : line_feeds_so_far (fed_at l.bytes l.place) ≡ line_feeds_so_far (fed_at l.bytes l.fn.place);
}

abbrev pub decreases-lines : goal.decreases-lines
decreases-lines l = length l.bytes - l.place.start
