-- Laws over the canonical form.
use Rattle.std.specs.Prelude.{◌≡◌, Bool, List, Option}
use Rattle.std.specs.List.{list_any}
use Rattle.std.specs.Ordering.{eq_by_cmp}
use Rattle.event_types.specs.Tuple.{TupleView}
use Rattle.semantics.specs.Scalars.{Pr}
use Rattle.semantics.specs.Truth.{truth, all_true}
use Rattle.scalar_expr.specs.TermOrder.{pr_cmp}
use Rattle.scalar_expr.specs.Canonical.{canonical, distinct_parts}

-- whether a predicate is among the parts
abbrev pub is_part : List Pr → Pr → Bool
is_part parts p = list_any (eq_by_cmp pr_cmp p) parts

-- the canonical form is true where the predicate is
abbrev pub KeepsTruth : Type 0
KeepsTruth = (p : Pr) (event : TupleView) (binding : Option TupleView) → all_true (canonical p) event binding ≡ truth p event binding

-- the parts in their canonical form are true where all of them are
abbrev pub PartsKeepTruth : Type 0
PartsKeepTruth = (parts : List Pr) (event : TupleView) (binding : Option TupleView) → all_true (distinct_parts parts) event binding ≡ all_true parts event binding

-- the same parts, in whatever order and however often, have one canonical form
abbrev pub HasOneForm : Type 0
HasOneForm = (parts others : List Pr) → ((p : Pr) → is_part parts p ≡ is_part others p) → distinct_parts parts ≡ distinct_parts others
