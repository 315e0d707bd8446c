use Rattle.std.proofs.Common.{◌∷◌, drop}
use Rattle.std.specs.List.{flat_map}
use Rattle.semantics.specs.Report.{value_text}
use Rattle.result_text.specs.Quick.{IsBefore}
use Rattle.result_text.proofs.quick.put_values.Given as goal

abbrev pub invariant-loop-place : goal.invariant-loop-place
invariant-loop-place l = IsBefore (flat_map (λ value. 44 ∷ value_text value) (drop l.place l.vals)) l.fn.room l.end l.room l.start
