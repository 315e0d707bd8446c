-- A predicate has at most one term, at most one fault, and not both.
use Rattle.std.proofs.Common.{◌≡◌, ◌∙◌, sym, refl}
use Rattle.semantics.specs.Scalars.{Pr}
use Rattle.semantics.specs.Scalars as term
use Rattle.cel_grammar.specs.Trees.{Pred}
use Rattle.cel_types.specs.declared.fault.TypeFault.{TypeFault}
use Rattle.cel_types.specs.declared.fault.TypeFault.TheVariants.{KindMismatch}
use Rattle.cel_types.specs.Scopes.{Scope}
use Rattle.cel_types.specs.Predicates.{Means, true, test, and, or, not, Fails, test_left, test_right, test_kinds, and_left, and_right, or_left, or_right, denied}
use Rattle.cel_types.proofs.ScalarLaws.{IsOf-one, IsOf-no_fault, HasFault-one}

module _ {scope : Scope} where
  -- by induction on the first derivation
  pub Means-one : {p : Pred} {u v : Pr} → Means scope p u → Means scope p v → u ≡ v
  Means-one true true = refl
  Means-one (test {c = c} i j) (test i' j') = let first = IsOf-one i i' in let second = IsOf-one j j' in λ n. term.Test (first.0 n) c (second.0 n)
  Means-one (and m n) (and m' n') = let first = Means-one m m' in let second = Means-one n n' in λ i. term.And (first i) (second i)
  Means-one (or m n) (or m' n') = let first = Means-one m m' in let second = Means-one n n' in λ i. term.Or (first i) (second i)
  Means-one (not m) (not m') = let one = Means-one m m' in λ i. term.Not (one i)

  -- by induction on the fault
  pub Means-no_fault : {p : Pred} {u : Pr} {f : TypeFault} → Means scope p u → Fails scope p f → ⊥
  Means-no_fault true h = elim h [ ]
  Means-no_fault (test i j) (test_left h) = IsOf-no_fault i h
  Means-no_fault (test i j) (test_right i' h) = IsOf-no_fault j h
  Means-no_fault (test i j) (test_kinds i' j' n) = let want = (IsOf-one i' i).1 in let got = (IsOf-one j' j).1 in n (want ∙ sym got)
  Means-no_fault (and m n) (and_left h) = Means-no_fault m h
  Means-no_fault (and m n) (and_right m' h) = Means-no_fault n h
  Means-no_fault (or m n) (or_left h) = Means-no_fault m h
  Means-no_fault (or m n) (or_right m' h) = Means-no_fault n h
  Means-no_fault (not m) (denied h) = Means-no_fault m h

  -- by induction on the first fault
  pub Fails-one : {p : Pred} {f g : TypeFault} → Fails scope p f → Fails scope p g → f ≡ g
  Fails-one (test_left h) (test_left h') = HasFault-one h h'
  Fails-one (test_left h) (test_right i h') = absurd (IsOf-no_fault i h)
  Fails-one (test_left h) (test_kinds i j n) = absurd (IsOf-no_fault i h)
  Fails-one (test_right i h) (test_left h') = absurd (IsOf-no_fault i h')
  Fails-one (test_right i h) (test_right i' h') = HasFault-one h h'
  Fails-one (test_right i h) (test_kinds i' j n) = absurd (IsOf-no_fault j h)
  Fails-one (test_kinds i j n) (test_left h) = absurd (IsOf-no_fault i h)
  Fails-one (test_kinds i j n) (test_right i' h) = absurd (IsOf-no_fault j h)
  Fails-one (test_kinds i j n) (test_kinds i' j' n') = let want = (IsOf-one i i').1 in let got = (IsOf-one j j').1 in λ m. KindMismatch (want m) (got m)
  Fails-one (and_left h) (and_left h') = Fails-one h h'
  Fails-one (and_left h) (and_right m h') = absurd (Means-no_fault m h)
  Fails-one (and_right m h) (and_left h') = absurd (Means-no_fault m h')
  Fails-one (and_right m h) (and_right m' h') = Fails-one h h'
  Fails-one (or_left h) (or_left h') = Fails-one h h'
  Fails-one (or_left h) (or_right m h') = absurd (Means-no_fault m h)
  Fails-one (or_right m h) (or_left h') = absurd (Means-no_fault m h')
  Fails-one (or_right m h) (or_right m' h') = Fails-one h h'
  Fails-one (denied h) (denied h') = Fails-one h h'
