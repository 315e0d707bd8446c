-- The types of predicates, and their first fault: from left to right.
use Rattle.std.specs.Prelude.{◌≢◌}
use Rattle.event_types.specs.declared.comparison.Cmp.{Cmp}
use Rattle.event_types.specs.declared.kind.Kind.{Kind}
use Rattle.semantics.specs.Scalars.{Sc, Pr}
use Rattle.semantics.specs.Scalars as term
use Rattle.cel_grammar.specs.Trees.{Scalar, Pred}
use Rattle.cel_grammar.specs.Trees as tree
use Rattle.cel_types.specs.declared.fault.TypeFault.{TypeFault}
use Rattle.cel_types.specs.declared.fault.TypeFault.TheVariants.{KindMismatch}
use Rattle.cel_types.specs.Scopes.{Scope}
use Rattle.cel_types.specs.Scalars.{IsOf, HasFault}

-- the predicate means a term: compared scalars are of one kind
pub data Means (scope : Scope) : Pred → Pr → Type 0 where
  true : Means scope tree.True term.True
  test : {x y : Scalar} {c : Cmp} {s t : Sc} {k : Kind} → IsOf scope x s k → IsOf scope y t k → Means scope (tree.Test x c y) (term.Test s c t)
  and : {p q : Pred} {u v : Pr} → Means scope p u → Means scope q v → Means scope (tree.And p q) (term.And u v)
  or : {p q : Pred} {u v : Pr} → Means scope p u → Means scope q v → Means scope (tree.Or p q) (term.Or u v)
  not : {p : Pred} {u : Pr} → Means scope p u → Means scope (tree.Not p) (term.Not u)

-- the first fault of a predicate: of a comparison the left scalar's, the right one's, then that their kinds differ
pub data Fails (scope : Scope) : Pred → TypeFault → Type 0 where
  test_left : {x y : Scalar} {c : Cmp} {f : TypeFault} → HasFault scope x f → Fails scope (tree.Test x c y) f
  test_right : {x y : Scalar} {c : Cmp} {s : Sc} {k : Kind} {f : TypeFault} → IsOf scope x s k → HasFault scope y f → Fails scope (tree.Test x c y) f
  test_kinds : {x y : Scalar} {c : Cmp} {s t : Sc} {k l : Kind} → IsOf scope x s k → IsOf scope y t l → k ≢ l → Fails scope (tree.Test x c y) (KindMismatch k l)
  and_left : {p q : Pred} {f : TypeFault} → Fails scope p f → Fails scope (tree.And p q) f
  and_right : {p q : Pred} {u : Pr} {f : TypeFault} → Means scope p u → Fails scope q f → Fails scope (tree.And p q) f
  or_left : {p q : Pred} {f : TypeFault} → Fails scope p f → Fails scope (tree.Or p q) f
  or_right : {p q : Pred} {u : Pr} {f : TypeFault} → Means scope p u → Fails scope q f → Fails scope (tree.Or p q) f
  denied : {p : Pred} {f : TypeFault} → Fails scope p f → Fails scope (tree.Not p) f
