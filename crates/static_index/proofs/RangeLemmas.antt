-- Buckets between two bounds.
use Rattle.std.proofs.Common.{◌≡◌, ◌∙◌, ap, refl, sym, subst, ℕ, ℤ, pos, ◌-ℤ◌, ◌≤ℤ◌, ◌<ℤ◌, Bool, true, false, not, ◌&&◌, ◌==◌, cond, inl, inr, eqb-true, List, [], ◌∷◌, length, Contains, arith}
use Rattle.std.specs.Prelude.{Option, Some, None}
use Rattle.std.specs.declared.cmp.Ordering.{Ordering}
use Rattle.std.specs.declared.cmp.Ordering.TheVariants.{Less, Equal, Greater}
use Rattle.std.specs.declared.ops.Bound.{Bound}
use Rattle.std.specs.declared.ops.Bound.TheVariants.{Included, Unbounded}
use Rattle.std.specs.Ordering.{MatchOrdering, int_cmp, nat_cmp, ordering_then, is_ge, is_le, is_lt}
use Rattle.std.specs.Cmp.{int_ranks, tied_itself}
use Rattle.std.specs.BTreeMap.{is_at}
use Rattle.std.specs.BTreeMap.Range.{range_contains, entries_between}
use Rattle.std.specs.List.{flat_map}
use Rattle.std.specs.Map.{lookup}
use Rattle.std.proofs.lemmas.Cmp.{nat_cmp_total}
use Rattle.std.proofs.lemmas.Int.{ints}
use Rattle.std.proofs.lemmas.List.Elements.{Contains-append_cases, Contains-append_left, Contains-append_right}
use Rattle.event_types.specs.declared.comparison.Cmp.{Cmp}
use Rattle.event_types.specs.declared.comparison.Cmp.TheVariants.{Ge, Le}
use Rattle.event_types.specs.declared.value.Value.{Value}
use Rattle.event_types.specs.declared.value.Value.TheVariants as value
use Rattle.semantics.specs.Truth.{is_met, order_of}
use Rattle.static_index.specs.Buckets.{IsAmongMet, ids_if_met, ids_in, ordered}
use Rattle.static_index.specs.Spans.{IsNear}
use Rattle.static_index.proofs.BucketLemmas.{int_exact, ordered_exact}
use Rattle.static_index.proofs.IdLemmas.{none_of_nil}

module _ {K : Type 0} (cmp : K → K → Ordering) (exact : (x y : K) → is_at (cmp x) y ≡ true → x ≡ y) (low high : Bound K) (taken : K × List ℕ → List ℕ) (lit : K) (n : ℕ) (keeps : (ids : List ℕ) → Contains ids n → Contains (taken (lit, ids)) n) where
  -- an id in the bucket of a key between the bounds is among theirs, where what is taken of a bucket of this key has it: by induction on the buckets
  pub taken_between : (es : List (K × List ℕ)) → range_contains cmp low high lit ≡ true → Contains (ids_in (lookup (is_at (cmp lit)) es)) n → Contains (flat_map taken (entries_between cmp low high es)) n
  taken_between [] within has = absurd (none_of_nil n has)
  taken_between (e ∷ es) within has = go (is_at (cmp lit) e.0) refl has (taken_between es within)
    where
      kept : (b : Bool) → Contains (flat_map taken (entries_between cmp low high es)) n → Contains (flat_map taken (cond b (e ∷ entries_between cmp low high es) (entries_between cmp low high es))) n
      kept true there = Contains-append_right (taken e) _ n there
      kept false there = there

      go : (b : Bool) → is_at (cmp lit) e.0 ≡ b → Contains (ids_in (cond b (Some e.1) (lookup (is_at (cmp lit)) es))) n
          → (Contains (ids_in (lookup (is_at (cmp lit)) es)) n → Contains (flat_map taken (entries_between cmp low high es)) n)
          → Contains (flat_map taken (cond (range_contains cmp low high e.0) (e ∷ entries_between cmp low high es) (entries_between cmp low high es))) n
      go true is there rest =
          let same = exact lit e.0 is in
          let here : range_contains cmp low high e.0 ≡ true = ap (range_contains cmp low high) (sym same) ∙ within in
          subst (λ (b : Bool). Contains (flat_map taken (cond b (e ∷ entries_between cmp low high es) (entries_between cmp low high es))) n) (sym here)
          (Contains-append_left (taken e) (flat_map taken (entries_between cmp low high es)) n (subst (λ (k : K). Contains (taken (k, e.1)) n) same (keeps e.1 there)))
      go false is there rest = kept (range_contains cmp low high e.0) (rest there)

-- where all of each bucket of numbers is taken
pub between : (low high : Bound ℤ) (lit : ℤ) (n : ℕ) (es : List (ℤ × List ℕ)) → range_contains int_cmp low high lit ≡ true → Contains (ids_in (lookup (is_at (int_cmp lit)) es)) n → Contains (flat_map (λ e. e.1) (entries_between int_cmp low high es)) n
between low high lit n es within has = taken_between int_cmp int_exact low high (λ e. e.1) lit n (λ ids there. there) es within has

-- an id that is taken is in the bucket of a number between the bounds, by induction on the buckets
pub of_between : (low high : Bound ℤ) (n : ℕ) (es : List (ℤ × List ℕ)) → Contains (flat_map (λ e. e.1) (entries_between int_cmp low high es)) n
    → (bucket : ℤ × List ℕ) × Contains es bucket × (range_contains int_cmp low high bucket.0 ≡ true) × Contains bucket.1 n
of_between low high n [] has = absurd (none_of_nil n has)
of_between low high n (e ∷ es) has = go (range_contains int_cmp low high e.0) refl has (of_between low high n es)
  where
    later : (bucket : ℤ × List ℕ) × Contains es bucket × (range_contains int_cmp low high bucket.0 ≡ true) × Contains bucket.1 n
        → (bucket : ℤ × List ℕ) × Contains (e ∷ es) bucket × (range_contains int_cmp low high bucket.0 ≡ true) × Contains bucket.1 n
    later one = (one.0, Contains-append_right (e ∷ []) es one.0 one.1, one.2, one.3)

    go : (b : Bool) → range_contains int_cmp low high e.0 ≡ b → Contains (flat_map (λ e. e.1) (cond b (e ∷ entries_between int_cmp low high es) (entries_between int_cmp low high es))) n
        → (Contains (flat_map (λ e. e.1) (entries_between int_cmp low high es)) n → (bucket : ℤ × List ℕ) × Contains es bucket × (range_contains int_cmp low high bucket.0 ≡ true) × Contains bucket.1 n)
        → (bucket : ℤ × List ℕ) × Contains (e ∷ es) bucket × (range_contains int_cmp low high bucket.0 ≡ true) × Contains bucket.1 n
    go true is has rest =
        elim (Contains-append_cases e.1 (flat_map (λ e. e.1) (entries_between int_cmp low high es)) n has) [
          | inl first ↦ (e, (0, omega arith, refl), is, first)
          | inr others ↦ later (rest others)
        ]
    go false is has rest = later (rest has)

module _ (low high : Bound Value) (c : Cmp) (value : Value) (n : ℕ) where
  -- where the buckets of the literals that are met are taken
  pub met_between : (lit : Value) (es : List (Value × List ℕ)) → range_contains ordered low high lit ≡ true → is_met c (order_of value lit) ≡ true → Contains (ids_in (lookup (is_at (ordered lit)) es)) n
      → Contains (flat_map (ids_if_met c value) (entries_between ordered low high es)) n
  met_between lit es within met has =
      taken_between ordered ordered_exact low high (ids_if_met c value) lit n (λ ids there. subst (λ (b : Bool). Contains (cond b ids []) n) (sym met) there) es within has

  -- an id that is taken is in the bucket of a literal that is met, by induction on the buckets
  pub of_met : (es : List (Value × List ℕ)) → Contains (flat_map (ids_if_met c value) (entries_between ordered low high es)) n → IsAmongMet c value es n
  of_met [] has = absurd (none_of_nil n has)
  of_met (e ∷ es) has = go (range_contains ordered low high e.0) has (of_met es)
    where
      later : IsAmongMet c value es n → IsAmongMet c value (e ∷ es) n
      later one = (one.0, Contains-append_right (e ∷ []) es one.0 one.1, one.2, one.3)

      here : (b : Bool) → is_met c (order_of value e.0) ≡ b → Contains (cond b e.1 []) n → IsAmongMet c value (e ∷ es) n
      here true met has = (e, (0, omega arith, refl), met, has)
      here false met has = absurd (none_of_nil n has)

      go : (b : Bool) → Contains (flat_map (ids_if_met c value) (cond b (e ∷ entries_between ordered low high es) (entries_between ordered low high es))) n
          → (Contains (flat_map (ids_if_met c value) (entries_between ordered low high es)) n → IsAmongMet c value es n) → IsAmongMet c value (e ∷ es) n
      go true has rest =
          elim (Contains-append_cases (ids_if_met c value e) (flat_map (ids_if_met c value) (entries_between ordered low high es)) n has) [
            | inl first ↦ here (is_met c (order_of value e.0)) refl first
            | inr others ↦ later (rest others)
          ]
      go false has rest = later (rest has)

both : (b c : Bool) → b ≡ true → c ≡ true → (b && c) ≡ true
both true true e f = refl
both true false e f = f
both false c e f = e

-- values that compare are ordered so
met_is_ordered : (v w : Value) (o : Ordering) → order_of v w ≡ Some o → ordered v w ≡ o
met_is_ordered (value.Int x) (value.Int y) o e = cc
met_is_ordered (value.Text x) (value.Text y) o e = cc
met_is_ordered (value.Dec s x) (value.Dec t y) o e = one_scale (s == t) refl e
  where
    one_scale : (b : Bool) → (s == t) ≡ b → cond b (Some (int_cmp x y)) None ≡ Some o → ordering_then (nat_cmp s t) (int_cmp x y) ≡ o
    one_scale true is e =
        let tie : nat_cmp s t ≡ Equal = ap (nat_cmp s) (sym (eqb-true s t is)) ∙ tied_itself nat_cmp_total s in
        let same : int_cmp x y ≡ o = cc in ap (λ p. ordering_then p (int_cmp x y)) tie ∙ same
    one_scale false is e = cc
met_is_ordered v w o e = cc

-- literals that a value reaches from above lie up to it
pub reached_from_above : (v lit : Value) → is_met Ge (order_of v lit) ≡ true → range_contains ordered Unbounded (Included v) lit ≡ true
reached_from_above v lit e = by (order_of v lit) refl e
  where
    at_least : (o : Ordering) → is_ge o ≡ true → not (is_lt o) ≡ true
    at_least Less e = absurd (cc)
    at_least Equal e = refl
    at_least Greater e = refl

    by : (o : Option Ordering) → order_of v lit ≡ o → is_met Ge o ≡ true → not (is_lt (ordered v lit)) ≡ true
    by None is e = absurd (cc)
    by (Some o) is e = ap (λ p. not (is_lt p)) (met_is_ordered v lit o is) ∙ at_least o e

-- literals that a value reaches from below lie from it on
pub reached_from_below : (v lit : Value) → is_met Le (order_of v lit) ≡ true → range_contains ordered (Included v) Unbounded lit ≡ true
reached_from_below v lit e = by (order_of v lit) refl e
  where
    by : (o : Option Ordering) → order_of v lit ≡ o → is_met Le o ≡ true → (is_le (ordered v lit) && true) ≡ true
    by None is e = absurd (cc)
    by (Some o) is e = both (is_le (ordered v lit)) true (ap is_le (met_is_ordered v lit o is) ∙ e) refl

-- the order of numbers, as the tests have it
le_tested : (x y : ℤ) → x ≤ℤ y → is_le (int_cmp x y) ≡ true
le_tested x y le = go (int_cmp x y) (int_ranks x y)
  where
    go : (o : Ordering) → MatchOrdering o (x <ℤ y) (x ≡ y) (y <ℤ x) → is_le o ≡ true
    go Less ranked = refl
    go Equal ranked = refl
    go Greater ranked = absurd (omega (arith, ints, le, ranked))

not_lt_tested : (x y : ℤ) → y ≤ℤ x → not (is_lt (int_cmp x y)) ≡ true
not_lt_tested x y le = go (int_cmp x y) (int_ranks x y)
  where
    go : (o : Ordering) → MatchOrdering o (x <ℤ y) (x ≡ y) (y <ℤ x) → not (is_lt o) ≡ true
    go Less ranked = absurd (omega (arith, ints, le, ranked))
    go Equal ranked = refl
    go Greater ranked = refl

-- low ends that a number is near lie between the end of the reach and the number
pub near_number : (first low : ℤ) (reach : ℕ) (x : ℤ) → first ≡ x -ℤ pos reach → IsNear low reach (value.Int x) → range_contains int_cmp (Included first) (Included x) low ≡ true
near_number first low reach x is near =
    let over = near.1 in
    both (is_le (int_cmp first low)) (not (is_lt (int_cmp x low))) (le_tested first low (omega (arith, ints, is, over))) (not_lt_tested x low near.0)

-- low ends that a number is near lie no higher than it
pub up_to_near : (low : ℤ) (reach : ℕ) (x : ℤ) → IsNear low reach (value.Int x) → range_contains int_cmp Unbounded (Included x) low ≡ true
up_to_near low reach x near = not_lt_tested x low near.0

-- no bucket is between bounds where there is none
pub none_between : {K : Type 0} (cmp : K → K → Ordering) (low high : Bound K) (taken : K × List ℕ → List ℕ) (es : List (K × List ℕ)) → length es ≡ 0 → flat_map taken (entries_between cmp low high es) ≡ []
none_between cmp low high taken [] none = refl
none_between cmp low high taken (e ∷ es) none = absurd (omega (arith, none))
