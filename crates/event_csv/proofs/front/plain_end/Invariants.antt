use Rattle.std.proofs.Common.{◌≡◌, take, true}
use Rattle.std.specs.List.{list_all}
use Rattle.std.specs.Str.{IsAscii}
use Rattle.event_csv.specs.Quick.{is_inner}
use Rattle.event_csv.proofs.front.plain_end.Given as goal

abbrev pub invariant-loop-place : goal.invariant-loop-place
invariant-loop-place l = record {
  inner : list_all is_inner (take l.place l.text) ≡ true;
  ascii : l.is_ascii ≡ true → IsAscii (take l.place l.text);
}
