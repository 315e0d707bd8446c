use Rattle.std.proofs.Common.{◌≡◌, ◌+◌, ◌++◌, drop, false}
use Rattle.std.specs.List.{list_any}
use Rattle.semantics.specs.Report.{is_special}
use Rattle.result_text.proofs.quick.put_text.Given as goal

abbrev pub invariant-loop-place : goal.invariant-loop-place
invariant-loop-place l = record {
  bytes : drop (l.start + l.place) l.room ≡ drop l.place l.text ++ drop l.end l.fn.room;
  plain : list_any is_special (drop l.place l.text) ≡ false;
}
