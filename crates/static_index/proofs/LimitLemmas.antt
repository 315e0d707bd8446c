-- Ids by a literal that bounds an attribute, of which those of numbers stand apart.
use Rattle.std.proofs.Common.{◌≡◌, ◌≢◌, inl, inr, ap, refl, sym, subst, ℕ, ℤ, Bool, true, false, not, ◌&&◌, List, ◌++◌, Contains}
use Rattle.std.specs.Prelude.{None}
use Rattle.std.specs.declared.cmp.Ordering.{Ordering}
use Rattle.std.specs.declared.cmp.Ordering.TheVariants.{Less, Equal, Greater}
use Rattle.std.specs.declared.ops.Bound.{Bound}
use Rattle.std.specs.declared.ops.Bound.TheVariants.{Included, Unbounded}
use Rattle.std.specs.Ordering.{int_cmp, is_ge, is_le, is_lt}
use Rattle.std.specs.BTreeMap.Range.{range_contains}
use Rattle.std.proofs.lemmas.List.Elements.{Contains-append_cases, Contains-append_right}
use Rattle.event_types.specs.declared.comparison.Cmp.{Cmp}
use Rattle.event_types.specs.declared.comparison.Cmp.TheVariants.{Ge, Le}
use Rattle.event_types.specs.declared.value.Value.{Value}
use Rattle.event_types.specs.declared.value.Value.TheVariants.{Int, Over, Text, Dec}
use Rattle.semantics.specs.Truth.{is_met, order_of}
use Rattle.static_index.specs.Buckets.{FindsMet, FindsOnlyMet, ids_between, numbered_ids, ordered_ids}
use Rattle.static_index.specs.Limits.{FindsOnlyReached, FindsReached, limit_ids}
use Rattle.static_index.specs.declared.limits.Limits.{Limits}
use Rattle.static_index.proofs.RangeLemmas.{between, of_between}

-- an id stays where both parts keep it
pub limit_kept : (old new : Limits) (n : ℕ) → ((k : ℤ) → Contains (numbered_ids old.numbers k) n → Contains (numbered_ids new.numbers k) n)
    → ((l : Value) → Contains (ordered_ids old.others l) n → Contains (ordered_ids new.others l) n) → (lit : Value) → Contains (limit_ids old lit) n → Contains (limit_ids new lit) n
limit_kept old new n numbers others (Int x) has = numbers x has
limit_kept old new n numbers others Over has = others Over has
limit_kept old new n numbers others (Text x) has = others (Text x) has
limit_kept old new n numbers others (Dec s x) has = others (Dec s x) has

-- the ids of a literal that is no number stand among the others
pub other_ids : (limits : Limits) (lit : Value) → ((x : ℤ) → lit ≢ Int x) → limit_ids limits lit ≡ ordered_ids limits.others lit
other_ids limits (Int x) apart = absurd (apart x refl)
other_ids limits Over apart = refl
other_ids limits (Text x) apart = refl
other_ids limits (Dec s x) apart = refl

-- no number meets a comparison with another value
no_order : (v : Value) (y : ℤ) → ((x : ℤ) → v ≢ Int x) → order_of v (Int y) ≡ None
no_order (Int x) y apart = absurd (apart x refl)
no_order Over y apart = refl
no_order (Text x) y apart = refl
no_order (Dec s x) y apart = refl

module _ (c : Cmp) (low high : Bound ℤ) (x : ℤ) (limits : Limits) (old new : List ℕ) (is : new ≡ old ++ ids_between low high limits.numbers) where
  -- what a number finds, where each number that it reaches lies between the bounds
  pub numbers_found : ((y : ℤ) → is_met c (order_of (Int x) (Int y)) ≡ true → range_contains int_cmp low high y ≡ true) → FindsReached c (Int x) limits new
  numbers_found within (Int y) n met has = subst (λ ids. Contains ids n) (sym is) (Contains-append_right old _ n (between low high y n limits.numbers.entries (within y met) has))
  numbers_found within Over n met has = absurd (cc)
  numbers_found within (Text y) n met has = absurd (cc)
  numbers_found within (Dec s y) n met has = absurd (cc)

  -- it finds no more, where it reaches each number between the bounds
  pub numbers_only : ((y : ℤ) → range_contains int_cmp low high y ≡ true → is_met c (order_of (Int x) (Int y)) ≡ true) → FindsOnlyReached c (Int x) limits old new
  numbers_only met = λ n has.
      elim (Contains-append_cases old (ids_between low high limits.numbers) n (subst (λ ids. Contains ids n) is has)) [
        | inl before ↦ inl before
        | inr among ↦ let one = of_between low high n limits.numbers.entries among in inr (inl (one.0, one.1, met one.0.0 one.2, one.3))
      ]

-- what another value finds
pub others_found : (c : Cmp) (v : Value) (limits : Limits) (new : List ℕ) → ((x : ℤ) → v ≢ Int x) → FindsMet c v limits.others new → FindsReached c v limits new
others_found c v limits new apart found (Int y) n met has = absurd (let none : is_met c (order_of v (Int y)) ≡ false = ap (is_met c) (no_order v y apart) in cc)
others_found c v limits new apart found Over n met has = found Over n met has
others_found c v limits new apart found (Text y) n met has = found (Text y) n met has
others_found c v limits new apart found (Dec s y) n met has = found (Dec s y) n met has

-- it finds no more
pub others_only : (c : Cmp) (v : Value) (limits : Limits) (old new : List ℕ) → FindsOnlyMet c v limits.others old new → FindsOnlyReached c v limits old new
others_only c v limits old new only = λ n has. elim (only n has) [ inl before ↦ inl before | inr among ↦ inr (inr among) ]

-- numbers up to another are reached from it, and numbers from it on
pub reached_below : (x y : ℤ) → range_contains int_cmp Unbounded (Included x) y ≡ true → is_met Ge (order_of (Int x) (Int y)) ≡ true
reached_below x y e = go (int_cmp x y) e
  where
    go : (o : Ordering) → not (is_lt o) ≡ true → is_ge o ≡ true
    go Less e = absurd (cc)
    go Equal e = refl
    go Greater e = refl

pub reached_above : (x y : ℤ) → range_contains int_cmp (Included x) Unbounded y ≡ true → is_met Le (order_of (Int x) (Int y)) ≡ true
reached_above x y e = go (is_le (int_cmp x y)) e
  where
    go : (b : Bool) → (b && true) ≡ true → b ≡ true
    go true e = refl
    go false e = e
