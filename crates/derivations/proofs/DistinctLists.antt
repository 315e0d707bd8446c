-- Lists in which no item stands twice.
use Rattle.std.proofs.Common.{◌≡◌, ◌≢◌, ◌∙◌, sym, subst, ◌⊎◌, inl, inr, Bool, true, false, cond, List, [], ◌∷◌, ◌++◌, map, arith}
use Rattle.std.specs.Prelude.{⊤, AllPairs, Contains}
use Rattle.std.specs.List.{filter, flat_map}
use Rattle.std.proofs.lemmas.List.{map-append}
use Rattle.std.proofs.lemmas.List.Elements.{All-contains_itself, Contains-append_cases}
use Rattle.std.proofs.lemmas.List.Kept.{AllPairs-cons}
use Rattle.derivations.proofs.ListLemmas.{first_in, in_filter, in_flat_map, in_map, later_in, map_in}

module _ {X : Type 0} where
  -- no item stands twice
  abbrev pub AreDistinct : List X → Type 0
  AreDistinct [] = ⊤
  AreDistinct (x ∷ xs) = (Contains xs x → ⊥) × AreDistinct xs

  -- then no two are the same
  pub pairs_differ : (xs : List X) → AreDistinct xs → AllPairs (λ x y. x ≢ y) xs
  pairs_differ [] apart = λ i j d lt within. absurd (omega (arith, lt, within))
  pairs_differ (x ∷ xs) apart =
      AllPairs-cons (λ x y. x ≢ y) x xs (λ k d lt same. apart.0 (subst (Contains xs) (sym same) (All-contains_itself xs k d lt))) (pairs_differ xs apart.1)

  -- items of two lists, of which none stands in both
  pub distinct_append : (xs ys : List X) → AreDistinct xs → AreDistinct ys → ((x : X) → Contains xs x → Contains ys x → ⊥) → AreDistinct (xs ++ ys)
  distinct_append [] ys apart others none = others
  distinct_append (x ∷ xs) ys apart others none =
      (λ has. step (Contains-append_cases xs ys x has), distinct_append xs ys apart.1 others (λ y one two. none y (later_in x xs y one) two))
    where
      step : Contains xs x ⊎ Contains ys x → ⊥
      step (inl one) = apart.0 one
      step (inr two) = none x (first_in x xs) two

-- images under a function that keeps items apart
pub distinct_map : {X Y : Type 0} (f : X → Y) → ((x y : X) → f x ≡ f y → x ≡ y) → (xs : List X) → AreDistinct xs → AreDistinct (map f xs)
distinct_map f apart [] all = tt
distinct_map f apart (x ∷ xs) all =
    (λ has. let found = in_map f xs (f x) has in all.0 (subst (Contains xs) (apart found.0 x found.2) found.1), distinct_map f apart xs all.1)

module _ {X K : Type 0} (key : X → K) where
  -- the keys of those that pass are among the keys
  keys_in_filter : (test : X → Bool) (xs : List X) (k : K) → Contains (map key (filter test xs)) k → Contains (map key xs) k
  keys_in_filter test xs k has =
      let found = in_map key (filter test xs) k has in
      subst (Contains (map key xs)) found.2 (map_in key xs found.0 (in_filter test xs found.0 found.1).0)

  -- so they are distinct where the keys are
  pub distinct_filter : (test : X → Bool) (xs : List X) → AreDistinct (map key xs) → AreDistinct (map key (filter test xs))
  distinct_filter test [] all = tt
  distinct_filter test (x ∷ xs) all = go (test x) (distinct_filter test xs all.1)
    where
      go : (b : Bool) → AreDistinct (map key (filter test xs)) → AreDistinct (map key (cond b (x ∷ filter test xs) (filter test xs)))
      go true rest = (λ has. all.0 (keys_in_filter test xs (key x) has), rest)
      go false rest = rest

-- what items give has distinct keys, where the items have, and where equal keys come of items with equal keys
pub distinct_flat_map : {X Y K L : Type 0} (key : X → K) (own : Y → L) (f : X → List Y)
    → ((x z : X) (y w : Y) → Contains (f x) y → Contains (f z) w → own y ≡ own w → key x ≡ key z) → ((x : X) → AreDistinct (map own (f x)))
    → (xs : List X) → AreDistinct (map key xs) → AreDistinct (map own (flat_map f xs))
distinct_flat_map key own f same each [] all = tt
distinct_flat_map {X} {Y} {K} {L} key own f same each (x ∷ xs) all =
    subst AreDistinct (sym (map-append own (f x) (flat_map f xs)))
    (distinct_append (map own (f x)) (map own (flat_map f xs)) (each x) (distinct_flat_map key own f same each xs all.1) none)
  where
    none : (l : L) → Contains (map own (f x)) l → Contains (map own (flat_map f xs)) l → ⊥
    none l one two =
        let here = in_map own (f x) l one in
        let there = in_map own (flat_map f xs) l two in
        let other = in_flat_map f xs there.0 there.1 in
        all.0 (subst (Contains (map key xs)) (sym (same x other.0 here.0 there.0 here.1 other.2 (here.2 ∙ sym there.2))) (map_in key xs other.0 other.1))
