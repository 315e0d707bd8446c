use Rattle.std.proofs.Common.{◌≡◌, ◌<◌, get_or, take, true}
use Rattle.std.specs.List.{list_all}
use Rattle.event_csv.specs.Quick.{is_inner}
use Rattle.event_csv.proofs.quick.behind_name.Given as goal

-- so far the text is the name, in which no byte ends a field, and no quote stands first
abbrev pub invariant-loop-place : goal.invariant-loop-place
invariant-loop-place l = record {
  same : take l.place l.text ≡ take l.place l.bytes;
  inner : list_all is_inner (take l.place l.text) ≡ true;
  first : 0 < l.place → get_or l.text 0 0 ≡ 34 → ⊥;
}
