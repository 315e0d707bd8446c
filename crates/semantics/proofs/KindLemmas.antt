-- Values of given kinds, one by one.
use Rattle.std.proofs.Common.{◌≡◌, ap, refl, subst, ℕ, zero, suc, ◌<◌, length, List, [], ◌∷◌, ◌++◌, arith}
use Rattle.std.specs.Prelude.{Some, slice_get, slice_index_or}
use Rattle.event_types.specs.declared.kind.Kind.{Kind}
use Rattle.event_types.specs.declared.value.Value.{Value}
use Rattle.event_types.specs.declared.value.Value.TheVariants as value
use Rattle.semantics.specs.Kinds.{ValuesHaveKinds, ValueHasKind, TakesOver, value_kind}

-- a value is of its own kind
pub of_its_kind : (v : Value) (k : Kind) → value_kind v ≡ k → ValueHasKind k v
of_its_kind (value.Int number) k e = e
of_its_kind value.Over k e = subst TakesOver e tt
of_its_kind (value.Text text) k e = e
of_its_kind (value.Dec scale units) k e = e

-- at the place of a kind stands a value of this kind
pub kind_at_place : (ks : List Kind) (vs : List Value) (i : ℕ) (k : Kind) → ValuesHaveKinds ks vs → slice_get ks i ≡ Some k → (i < length vs) × ValueHasKind k (slice_index_or vs i value.Over)
kind_at_place [] [] i k h e = cc
kind_at_place [] (v ∷ vs) i k h e = absurd h
kind_at_place (first ∷ ks) [] i k h e = absurd h
kind_at_place (first ∷ ks) (v ∷ vs) zero k h e = let same : first ≡ k = cc in (omega arith, subst (λ j. ValueHasKind j v) same h.0)
kind_at_place (first ∷ ks) (v ∷ vs) (suc i) k h e = let more = kind_at_place ks vs i k h.1 e in (omega (arith, more.0), more.1)

-- there are as many values as kinds
pub kinds_length : (ks : List Kind) (vs : List Value) → ValuesHaveKinds ks vs → length vs ≡ length ks
kinds_length [] [] h = refl
kinds_length [] (v ∷ vs) h = absurd h
kinds_length (k ∷ ks) [] h = absurd h
kinds_length (k ∷ ks) (v ∷ vs) h = ap (λ (n : ℕ). suc n) (kinds_length ks vs h.1)

-- values behind values have the kinds behind the kinds
pub kinds_append : (ks ls : List Kind) (vs ws : List Value) → ValuesHaveKinds ks vs → ValuesHaveKinds ls ws → ValuesHaveKinds (ks ++ ls) (vs ++ ws)
kinds_append [] ls [] ws h g = g
kinds_append [] ls (v ∷ vs) ws h g = absurd h
kinds_append (k ∷ ks) ls [] ws h g = absurd h
kinds_append (k ∷ ks) ls (v ∷ vs) ws h g = (h.0, kinds_append ks ls vs ws h.1 g)
