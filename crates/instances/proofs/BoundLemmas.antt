-- Bounds on DUR, over the parts of a condition and over the starts of bindings.
use Rattle.std.proofs.Common.{◌≡◌, ◌∙◌, sym, ap, refl, subst, ℕ, ℤ, zero, suc, pos, ◌+◌, ◌-◌, ◌^◌, ◌<◌, ◌≤◌, ◌⊎◌, inl, inr, ◌-ℤ◌, Bool, true, false, ◌&&◌, min, max, nat_le, nat_lt, take, List, [], ◌∷◌, arith}
use Rattle.std.specs.Prelude.{Some, int_le, int_lt, slice_get}
use Rattle.std.specs.Option.{option_map}
use Rattle.std.specs.List.{All, list_all}
use Rattle.std.proofs.lemmas.Bool.{cases_lt, lt-ltb}
use Rattle.std.proofs.lemmas.Bool.Decides.{nat_tests}
use Rattle.std.proofs.lemmas.Int.{ints}
use Rattle.std.proofs.lemmas.List.Elements.{All-same, All-weaker, filter_passes}
use Rattle.event_types.specs.Tuple.{TupleView}
use Rattle.semantics.specs.Scalars.{Pr}
use Rattle.semantics.proofs.ReportLemmas.{filter_all}
use Rattle.instances.specs.Alive.{is_alive, meets_bound}
use Rattle.scalar_expr.specs.Classes.{Class, Fixed, Key, Bound, Rest, class_of}
use Rattle.instances.specs.Bounds.{AreAliveUntil, alive_instances, started}
use Rattle.instances.specs.declared.instance.Instance.{Instance}

-- a bound reads the start alone
meets_started : (time : ℕ) (b : TupleView) (c : Class) → meets_bound time (started b.from) c ≡ meets_bound time b c
meets_started time b (Bound true most) = refl
meets_started time b (Bound false most) = refl
meets_started time b (Fixed place cmp v) = refl
meets_started time b (Key event binding) = refl
meets_started time b Rest = refl

-- whether an instance is alive depends on its start alone
pub started_is : (time : ℕ) (choose : List Pr) (b : TupleView) → is_alive time choose (started b.from) ≡ is_alive time choose b
started_is time [] b = refl
started_is time (p ∷ ps) b = λ i. meets_started time b (class_of p) i && started_is time ps b i

-- what starts later meets a bound longer
less_later : (time from later : ℕ) (most : ℤ) → from ≤ later → int_lt (pos time -ℤ pos from) most ≡ true → int_lt (pos time -ℤ pos later) most ≡ true
less_later time from later most le e = grind (arith, ints)

most_later : (time from later : ℕ) (most : ℤ) → from ≤ later → int_le (pos time -ℤ pos from) most ≡ true → int_le (pos time -ℤ pos later) most ≡ true
most_later time from later most le e = grind (arith, ints)

meets_later : (time from : ℕ) (b : TupleView) → from ≤ b.from → (c : Class) → meets_bound time (started from) c ≡ true → meets_bound time b c ≡ true
meets_later time from b le (Bound true most) e = less_later time from b.from most le e
meets_later time from b le (Bound false most) e = most_later time from b.from most le e
meets_later time from b le (Fixed place cmp v) e = refl
meets_later time from b le (Key event binding) e = refl
meets_later time from b le Rest e = refl

alive_later : (time from : ℕ) (b : TupleView) → from ≤ b.from → (choose : List Pr) → is_alive time choose (started from) ≡ true → is_alive time choose b ≡ true
alive_later time from b le [] e = refl
alive_later time from b le (p ∷ ps) e = go (alive_later time from b le ps) (meets_bound time (started from) (class_of p)) refl e
  where
    go : (is_alive time ps (started from) ≡ true → is_alive time ps b ≡ true) → (t : Bool) → meets_bound time (started from) (class_of p) ≡ t → (t && is_alive time ps (started from)) ≡ true → (meets_bound time b (class_of p) && is_alive time ps b) ≡ true
    go rest true is e = λ i. meets_later time from b le (class_of p) is i && rest e i
    go rest false is e = absurd (cc)

-- what meets a bound at a time met it before
less_before : (time next from : ℕ) (most : ℤ) → time ≤ next → int_lt (pos next -ℤ pos from) most ≡ true → int_lt (pos time -ℤ pos from) most ≡ true
less_before time next from most le e = grind (arith, ints)

most_before : (time next from : ℕ) (most : ℤ) → time ≤ next → int_le (pos next -ℤ pos from) most ≡ true → int_le (pos time -ℤ pos from) most ≡ true
most_before time next from most le e = grind (arith, ints)

meets_before : (time next : ℕ) (b : TupleView) → time ≤ next → (c : Class) → meets_bound next b c ≡ true → meets_bound time b c ≡ true
meets_before time next b le (Bound true most) e = less_before time next b.from most le e
meets_before time next b le (Bound false most) e = most_before time next b.from most le e
meets_before time next b le (Fixed place cmp v) e = refl
meets_before time next b le (Key event binding) e = refl
meets_before time next b le Rest e = refl

alive_before : (time next : ℕ) (b : TupleView) → time ≤ next → (choose : List Pr) → is_alive next choose b ≡ true → is_alive time choose b ≡ true
alive_before time next b le [] e = refl
alive_before time next b le (p ∷ ps) e = go (alive_before time next b le ps) (meets_bound next b (class_of p)) refl e
  where
    go : (is_alive next ps b ≡ true → is_alive time ps b ≡ true) → (t : Bool) → meets_bound next b (class_of p) ≡ t → (t && is_alive next ps b) ≡ true → (meets_bound time b (class_of p) && is_alive time ps b) ≡ true
    go rest true is e = λ i. meets_before time next b le (class_of p) is i && rest e i
    go rest false is e = absurd (cc)

-- where the oldest start can still meet each bound, so can all
pub all_alive : (time oldest : ℕ) (choose : List Pr) (instances : List Instance) → All (λ instance. oldest ≤ instance.tuple.from) instances → is_alive time choose (started oldest) ≡ true → alive_instances time choose instances ≡ instances
all_alive time oldest choose instances all e =
    filter_all (λ instance. is_alive time choose instance.tuple) instances
    (All-weaker (λ (instance : Instance). oldest ≤ instance.tuple.from) (λ instance. is_alive time choose instance.tuple ≡ true) (λ instance le. alive_later time oldest instance.tuple le choose e) instances all)

-- the parts of a condition, tested one after another
module _ (test : Class → Bool) where
  -- with one more part that passes, all pass so far as before
  pub one_more_holds : (parts : List Pr) (place : ℕ) (c : Class) → option_map class_of (slice_get parts place) ≡ Some c → test c ≡ true
      → list_all (λ p. test (class_of p)) (take place parts) ≡ true → list_all (λ p. test (class_of p)) (take (suc place) parts) ≡ true
  one_more_holds [] place c is holds before = absurd (cc)
  one_more_holds (p ∷ ps) zero c is holds before = let same : class_of p ≡ c = cc in λ i. (ap test same ∙ holds) i && true
  one_more_holds (p ∷ ps) (suc place) c is holds before = go (one_more_holds ps place c is holds) (test (class_of p)) refl before
    where
      go : (list_all (λ p. test (class_of p)) (take place ps) ≡ true → list_all (λ p. test (class_of p)) (take (suc place) ps) ≡ true) → (t : Bool) → test (class_of p) ≡ t → (t && list_all (λ p. test (class_of p)) (take place ps)) ≡ true → (test (class_of p) && list_all (λ p. test (class_of p)) (take (suc place) ps)) ≡ true
      go more true e rest = λ i. e i && more rest i
      go more false e rest = absurd (cc)

  -- one more part is tested beside those before it
  pub one_more_tested : (parts : List Pr) (place : ℕ) (c : Class) → option_map class_of (slice_get parts place) ≡ Some c
      → list_all (λ p. test (class_of p)) (take (suc place) parts) ≡ (list_all (λ p. test (class_of p)) (take place parts) && test c)
  one_more_tested [] place c is = absurd (cc)
  one_more_tested (p ∷ ps) zero c is = let same : class_of p ≡ c = cc in alone (test (class_of p)) ∙ ap test same
    where
      alone : (t : Bool) → (t && true) ≡ t
      alone true = refl
      alone false = refl
  one_more_tested (p ∷ ps) (suc place) c is =
      ap (λ t. test (class_of p) && t) (one_more_tested ps place c is) ∙ grouped (test (class_of p)) (list_all (λ p. test (class_of p)) (take place ps)) (test c)
    where
      grouped : (t u v : Bool) → (t && (u && v)) ≡ ((t && u) && v)
      grouped true u v = refl
      grouped false u v = refl

-- what is no less than either of two numbers is no less than the greater of them
pub both_at_most : (a b both from : ℕ) → both ≡ max a b → (nat_le a from && nat_le b from) ≡ nat_le both from
both_at_most a b both from e = grind (arith, nat_tests)

-- the lesser of two numbers is at most what each of them is at most
pub least_of_left : (least a b c : ℕ) → least ≡ min a b → a ≤ c → least ≤ c
least_of_left least a b c e h = omega arith

-- nor is it greater than the second
pub least_of_right : (least a b c : ℕ) → least ≡ min a b → b ≡ c → least ≤ c
least_of_right least a b c e h = omega arith

-- what is less than both of two numbers is less than the lesser of them
pub both_before : (a b both time : ℕ) → both ≡ min a b → (nat_lt time a && nat_lt time b) ≡ nat_lt time both
both_before a b both time e = grind (arith, nat_tests)

-- what a purge left is alive until the oldest start expires, and until the next time at least
pub alive_both : (deadline end next oldest : ℕ) (choose : List Pr) (instances : List Instance) → ((time : ℕ) → time < 2 ^ 128 - 1 → is_alive time choose (started oldest) ≡ nat_lt time end) → end < 2 ^ 128 → deadline ≡ max end (next + 1) → All (λ instance. oldest ≤ instance.tuple.from) instances → alive_instances next choose instances ≡ instances → AreAliveUntil deadline choose instances
alive_both deadline end next oldest choose instances told fits is all alive time before = go (cases_lt time end)
  where
    go : (time < end) ⊎ (end ≤ time) → alive_instances time choose instances ≡ instances
    go (inl early) = all_alive time oldest choose instances all (told time (omega (arith, early, fits)) ∙ lt-ltb time end early)
    go (inr late) =
        let le : time ≤ next = omega (arith, before, is, late) in
        filter_all (λ instance. is_alive time choose instance.tuple) instances
        (All-weaker (λ (instance : Instance). is_alive next choose instance.tuple ≡ true) (λ instance. is_alive time choose instance.tuple ≡ true) (λ instance e. alive_before time next instance.tuple le choose e) instances
        (All-same (λ (instance : Instance). is_alive next choose instance.tuple ≡ true) _ _ (sym alive) (filter_passes (λ (instance : Instance). is_alive next choose instance.tuple) instances)))

-- what a purge left has a deadline that the condition tells
pub left_until : (deadline next oldest : ℕ) (told choose : List Pr) (old new : List Instance) → told ≡ choose → new ≡ alive_instances next choose old → All (λ (instance : Instance). oldest ≤ instance.tuple.from) new
    → ((instances : List Instance) → All (λ (instance : Instance). oldest ≤ instance.tuple.from) instances → alive_instances next told instances ≡ instances → AreAliveUntil deadline told instances) → AreAliveUntil deadline choose new
left_until deadline next oldest told choose old new same is all until =
    subst (λ (ps : List Pr). AreAliveUntil deadline ps new) same (until new all (subst (λ (ps : List Pr). alive_instances next ps new ≡ new) (sym same) again))
  where
    again : alive_instances next choose new ≡ new
    again = ap (alive_instances next choose) is ∙ filter_all (λ (instance : Instance). is_alive next choose instance.tuple) (alive_instances next choose old) (filter_passes (λ (instance : Instance). is_alive next choose instance.tuple) old) ∙ sym is
