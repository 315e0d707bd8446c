-- A scalar has at most one term and kind, at most one fault, and not both.
use Rattle.std.proofs.Common.{◌≡◌, ◌∙◌, sym, ap, refl}
use Rattle.std.specs.Prelude.{Some, None}
use Rattle.event_types.specs.declared.kind.Kind.{Kind}
use Rattle.event_types.specs.declared.kind.Kind.TheVariants as kind
use Rattle.semantics.specs.OpKinds.{op_kind}
use Rattle.semantics.specs.Scalars.{Sc}
use Rattle.semantics.specs.Scalars as term
use Rattle.cel_grammar.specs.Trees.{Op, Add, Sub, Mul, Min, Max, Scalar}
use Rattle.cel_types.specs.declared.fault.TypeFault.{TypeFault}
use Rattle.cel_types.specs.Scopes.{Scope, Typed}
use Rattle.cel_types.specs.Scalars.{op_of, kinds_fault, IsOf, number, decimal, quoted, attr, dur, two, HasFault, unknown, left, left_text, right, kinds}

-- what is found is found once
typed_once : {t u : Typed} → Some t ≡ Some u → (t.term ≡ u.term) × (t.kind ≡ u.kind)
typed_once {t} {u} e = let same : t ≡ u = cc in (ap (λ (v : Typed). v.term) same, ap (λ (v : Typed). v.kind) same)

-- operands of the same kinds give one kind
kind_once : (o : Op) {k l m k' l' m' : Kind} → k ≡ k' → l ≡ l' → op_kind (op_of o) k l ≡ Some m → op_kind (op_of o) k' l' ≡ Some m' → m ≡ m'
kind_once o {k} {l} {m} {k'} {l'} {m'} hk hl e e' = let both : Some m ≡ Some m' = sym e ∙ (λ n. op_kind (op_of o) (hk n) (hl n)) ∙ e' in cc

-- operands of the same kinds don't give both a kind and none
kind_or_none : (o : Op) {k l m k' l' : Kind} → k ≡ k' → l ≡ l' → op_kind (op_of o) k l ≡ Some m → op_kind (op_of o) k' l' ≡ None → ⊥
kind_or_none o {k} {l} {m} {k'} {l'} hk hl e none = let both : Some m ≡ None = sym e ∙ (λ n. op_kind (op_of o) (hk n) (hl n)) ∙ none in cc

-- no operation has a kind where its left operand is a text
no_text : (o : Op) (k l m : Kind) → k ≡ kind.Text → op_kind (op_of o) k l ≡ Some m → ⊥
no_text o k l m is e = behind o (sym (ap (λ j. op_kind (op_of o) j l) is) ∙ e)
  where
    behind : (o : Op) → op_kind (op_of o) kind.Text l ≡ Some m → ⊥
    behind Add e = cc
    behind Sub e = cc
    behind Mul e = cc
    behind Min e = cc
    behind Max e = cc

module _ {scope : Scope} where
  -- by induction on the first derivation
  pub IsOf-one : {x : Scalar} {s t : Sc} {k l : Kind} → IsOf scope x s k → IsOf scope x t l → (s ≡ t) × (k ≡ l)
  IsOf-one number number = (refl, refl)
  IsOf-one decimal decimal = (refl, refl)
  IsOf-one quoted quoted = (refl, refl)
  IsOf-one (attr e) (attr f) = typed_once (sym e ∙ f)
  IsOf-one dur dur = (refl, refl)
  IsOf-one (two {o = o} i j e) (two i' j' e') =
      let first = IsOf-one i i' in
      let second = IsOf-one j j' in
      ((λ n. term.Two (op_of o) (first.0 n) (second.0 n)), kind_once o first.1 second.1 e e')

  -- by induction on the fault
  pub IsOf-no_fault : {x : Scalar} {s : Sc} {k : Kind} {f : TypeFault} → IsOf scope x s k → HasFault scope x f → ⊥
  IsOf-no_fault number h = elim h [ ]
  IsOf-no_fault decimal h = elim h [ ]
  IsOf-no_fault quoted h = elim h [ ]
  IsOf-no_fault dur h = elim h [ ]
  IsOf-no_fault (attr e) (unknown none) = let both = sym e ∙ none in cc
  IsOf-no_fault (two i j e) (left h) = IsOf-no_fault i h
  IsOf-no_fault (two {o = o} {k = k} {l = l} {m = m} i j e) (left_text i') = no_text o k l m (IsOf-one i i').1 e
  IsOf-no_fault (two i j e) (right i' n h) = IsOf-no_fault j h
  IsOf-no_fault (two {o = o} i j e) (kinds i' n j' none) = kind_or_none o (IsOf-one i i').1 (IsOf-one j j').1 e none

  -- by induction on the first fault
  pub HasFault-one : {x : Scalar} {f g : TypeFault} → HasFault scope x f → HasFault scope x g → f ≡ g
  HasFault-one (unknown e) (unknown e') = refl
  HasFault-one (left h) (left h') = HasFault-one h h'
  HasFault-one (left h) (left_text i) = absurd (IsOf-no_fault i h)
  HasFault-one (left h) (right i n h') = absurd (IsOf-no_fault i h)
  HasFault-one (left h) (kinds i n j none) = absurd (IsOf-no_fault i h)
  HasFault-one (left_text i) (left h) = absurd (IsOf-no_fault i h)
  HasFault-one (left_text i) (left_text i') = refl
  HasFault-one (left_text i) (right i' n h) = absurd (n (IsOf-one i' i).1)
  HasFault-one (left_text i) (kinds i' n j none) = absurd (n (IsOf-one i' i).1)
  HasFault-one (right i n h) (left h') = absurd (IsOf-no_fault i h')
  HasFault-one (right i n h) (left_text i') = absurd (n (IsOf-one i i').1)
  HasFault-one (right i n h) (right i' n' h') = HasFault-one h h'
  HasFault-one (right i n h) (kinds i' n' j none) = absurd (IsOf-no_fault j h)
  HasFault-one (kinds i n j none) (left h) = absurd (IsOf-no_fault i h)
  HasFault-one (kinds i n j none) (left_text i') = absurd (n (IsOf-one i i').1)
  HasFault-one (kinds i n j none) (right i' n' h) = absurd (IsOf-no_fault j h)
  HasFault-one (kinds {o = o} i n j none) (kinds i' n' j' none') = let first = IsOf-one i i' in let second = IsOf-one j j' in λ m. kinds_fault o (first.1 m) (second.1 m)
