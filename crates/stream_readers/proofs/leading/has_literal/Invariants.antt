use Rattle.std.proofs.Common.{◌≡◌, drop}
use Rattle.std.specs.List.{list_any}
use Rattle.scalar_expr.specs.Classes.{class_of}
use Rattle.stream_readers.specs.Leading.{asks_literal}
use Rattle.stream_readers.proofs.leading.has_literal.Given as goal

-- the parts so far ask for none
abbrev pub invariant-loop-place : goal.invariant-loop-place
invariant-loop-place l = list_any (λ part. asks_literal (class_of part)) (drop l.place l.choose) ≡ list_any (λ part. asks_literal (class_of part)) l.choose
