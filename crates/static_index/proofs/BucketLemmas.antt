-- Buckets of ids, one of which has changed.
use Rattle.std.proofs.Common.{◌≡◌, ◌∙◌, ap, refl, sym, subst, ℕ, ℤ, Bool, true, false, cond, List, Contains}
use Rattle.std.specs.Prelude.{Option}
use Rattle.std.specs.declared.cmp.Ordering.{Ordering}
use Rattle.std.specs.declared.cmp.Ordering.TheVariants.{Less, Equal, Greater}
use Rattle.std.specs.Ordering.{int_cmp, is_eq, nat_cmp}
use Rattle.std.specs.BTreeMap.{is_at}
use Rattle.std.proofs.lemmas.Map.Lookups.{exact_signed, exact_unsigned}
use Rattle.event_types.specs.declared.value.Value.{Value}
use Rattle.event_types.specs.OrderLaws.{tied_values, value_exact}
use Rattle.static_index.specs.Buckets.{equals, ordered}

-- literals that the program counts as one are one
pub equals_exact : (x y : Value) → equals x y ≡ true → x ≡ y
equals_exact x y e = tied_values x y e

-- where two count as equal, their order is `Equal`
pub tie : (o : Ordering) → is_eq o ≡ true → o ≡ Equal
tie Less e = absurd (cc)
tie Equal e = refl
tie Greater e = absurd (cc)

-- numbers that an ordered map counts as one key are one
pub nat_exact : (x y : ℕ) → is_at (nat_cmp x) y ≡ true → x ≡ y
nat_exact x y e = exact_unsigned x y (tie (nat_cmp x y) e)

-- numbers of either sign that an ordered map counts as one key are one
pub int_exact : (x y : ℤ) → is_at (int_cmp x) y ≡ true → x ≡ y
int_exact x y e = exact_signed x y (tie (int_cmp x y) e)

-- literals that an ordered map counts as one key are one
pub ordered_exact : (x y : Value) → is_at (ordered x) y ≡ true → x ≡ y
ordered_exact x y e = value_exact x y (tie (ordered x y) e)

module _ {K X : Type 0} (same : K → K → Bool) (exact : (x y : K) → same x y ≡ true → x ≡ y) (read : Option X → List ℕ) where
  -- an id stays where the entry that changes keeps it
  pub kept_by : (old new : K → Option X) (key : K) (w : Option X) → ((q : K) → new q ≡ cond (same key q) w (old q))
      → (n : ℕ) → (Contains (read (old key)) n → Contains (read w) n) → (q : K) → Contains (read (old q)) n → Contains (read (new q)) n
  kept_by old new key w step n keeps q has = go (same key q) refl
    where
      go : (b : Bool) → same key q ≡ b → Contains (read (new q)) n
      go true is =
          subst (λ (o : Option X). Contains (read o) n) (sym (step q ∙ ap (λ b. cond b w (old q)) is))
          (keeps (subst (λ (k : K). Contains (read (old k)) n) (sym (exact key q is)) has))
      go false is = subst (λ (o : Option X). Contains (read o) n) (sym (step q ∙ ap (λ b. cond b w (old q)) is)) has
