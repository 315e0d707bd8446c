-- Ids in order, of which those are kept that pass a test.
use Rattle.std.proofs.Common.{◌≡◌, ◌∙◌, ap, refl, sym, subst, ℕ, zero, suc, ◌+◌, ◌<◌, ◌≤◌, ◌⊎◌, inl, inr, Bool, true, false, not, ◌&&◌, cond, eqb, filter, List, [], ◌∷◌, ◌++◌, take, drop, set, append_assoc, Contains, arith}
use Rattle.std.specs.Prelude.{Option, Some, None, slice_get}
use Rattle.std.specs.List.{AllByRecursion, dedup, dedup_from}
use Rattle.std.proofs.Math.Seq.{drop-cons}
use Rattle.std.proofs.lemmas.Bool.{eqb-true}
use Rattle.std.proofs.lemmas.List.{drop-set-lt, take_more_set}
use Rattle.std.proofs.lemmas.List.Kept.{Contains-dedup_nat}
use Rattle.std.proofs.lemmas.Option.{get_or_from_slice_get, slice_get_within}
use Rattle.static_index.specs.Narrowing.{is_other, passing}

-- the ids that pass behind the one before them, if there is one
abbrev pub passing_after : (ℕ → Bool) → Option ℕ → List ℕ → List ℕ
passing_after test last [] = []
passing_after test last (id ∷ ids) = cond (is_other last id && test id) (id ∷ passing_after test (Some id) ids) (passing_after test (Some id) ids)

-- one step of the loop
module _ (test : ℕ → Bool) where
  here : (ids : List ℕ) (place id : ℕ) → slice_get ids place ≡ Some id → drop place ids ≡ id ∷ drop (place + 1) ids
  here ids place id at =
      let next : suc place ≡ place + 1 = omega arith in
      drop-cons ids place id (slice_get_within ids place id at) ∙ (λ i. get_or_from_slice_get ids place id id at i ∷ drop (next i) ids)

  split : (last : Option ℕ) (ids : List ℕ) (place id : ℕ) (b : Bool) → slice_get ids place ≡ Some id → (is_other last id && test id) ≡ b
      → passing_after test last (drop place ids) ≡ cond b (id ∷ passing_after test (Some id) (drop (place + 1) ids)) (passing_after test (Some id) (drop (place + 1) ids))
  split last ids place id b at is =
      ap (passing_after test last) (here ids place id at) ∙ ap (λ (t : Bool). cond t (id ∷ passing_after test (Some id) (drop (place + 1) ids)) (passing_after test (Some id) (drop (place + 1) ids))) is

  -- where the id at a place does not pass, what passes from there on is what passes behind it
  pub passed : (last : Option ℕ) (front ids : List ℕ) (place id : ℕ) → slice_get ids place ≡ Some id → (is_other last id && test id) ≡ false
      → front ++ passing_after test (Some id) (drop (place + 1) ids) ≡ front ++ passing_after test last (drop place ids)
  passed last front ids place id at is = ap (λ (rest : List ℕ). front ++ rest) (sym (split last ids place id false at is))

  joined : (front : List ℕ) (id : ℕ) (rest : List ℕ) → (front ++ id ∷ []) ++ rest ≡ front ++ id ∷ rest
  joined front id rest = simp append_assoc

  -- where it passes and is written behind those that were kept, what passes from there on is it and what passes behind it
  pub taken : (last : Option ℕ) (ids : List ℕ) (kept place id : ℕ) → slice_get ids place ≡ Some id → (is_other last id && test id) ≡ true → kept ≤ place
      → take (kept + 1) (set ids kept id) ++ passing_after test (Some id) (drop (place + 1) (set ids kept id)) ≡ take kept ids ++ passing_after test last (drop place ids)
  taken last ids kept place id at is le =
      let within = slice_get_within ids place id at in
      let front = take_more_set ids kept id (omega arith) in
      let rest = drop-set-lt (place + 1) ids kept id (omega arith) in
      (λ i. front i ++ passing_after test (Some id) (rest i))
      ∙ joined (take kept ids) id (passing_after test (Some id) (drop (place + 1) ids))
      ∙ ap (λ (xs : List ℕ). take kept ids ++ xs) (sym (split last ids place id true at is))

  -- one id, and those that follow it, by induction on these
  after_one : (k : ℕ) (xs : List ℕ) → filter test (dedup_from eqb k xs) ≡ cond (test k) (k ∷ passing_after test (Some k) xs) (passing_after test (Some k) xs)
  after_one k [] = refl
  after_one k (x ∷ xs) = go (eqb x k) refl (after_one k xs) (after_one x xs)
    where
      later : Bool → List ℕ
      later b = cond (not b && test x) (x ∷ passing_after test (Some x) xs) (passing_after test (Some x) xs)

      go : (b : Bool) → eqb x k ≡ b → filter test (dedup_from eqb k xs) ≡ cond (test k) (k ∷ passing_after test (Some k) xs) (passing_after test (Some k) xs)
          → filter test (dedup_from eqb x xs) ≡ cond (test x) (x ∷ passing_after test (Some x) xs) (passing_after test (Some x) xs)
          → filter test (cond b (dedup_from eqb k xs) (k ∷ dedup_from eqb x xs)) ≡ cond (test k) (k ∷ later b) (later b)
      go true is same other = same ∙ ap (λ (y : ℕ). cond (test k) (k ∷ passing_after test (Some y) xs) (passing_after test (Some y) xs)) (sym (eqb-true x k is))
      go false is same other = ap (λ (ys : List ℕ). cond (test k) (k ∷ ys) ys) other

  -- the ids that pass, as the loop finds them
  pub after_none : (ids : List ℕ) → passing_after test None ids ≡ passing test ids
  after_none [] = refl
  after_none (id ∷ ids) = sym (after_one id ids)

-- an id is among others
abbrev pub In : ℕ → List ℕ → Type 0
In z [] = ⊥
In z (x ∷ xs) = (x ≡ z) ⊎ In z xs

-- an id that a list contains is among its ids
pub In_from_Contains : (xs : List ℕ) (z : ℕ) → Contains xs z → In z xs
In_from_Contains [] z (k, lt, is) = absurd (omega arith)
In_from_Contains (x ∷ xs) z (zero, lt, is) = inl is
In_from_Contains (x ∷ xs) z (suc k, lt, is) = inr (In_from_Contains xs z (k, omega arith, is))

Contains_from_In : (xs : List ℕ) (z : ℕ) → In z xs → Contains xs z
Contains_from_In [] z there = absurd there
Contains_from_In (x ∷ xs) z (inl same) = (0, omega arith, same)
Contains_from_In (x ∷ xs) z (inr later) = let h = Contains_from_In xs z later in (suc h.0, omega (arith, h.1), h.2)

-- each id is above the earlier ones
abbrev pub Rises : List ℕ → Type 0
Rises [] = Unit {0}
Rises (x ∷ xs) = AllByRecursion (λ y. x < y) xs × Rises xs

-- what holds of each id of a list holds of one that is among them
pub all_in : (P : ℕ → Type 0) (xs : List ℕ) → AllByRecursion P xs → (z : ℕ) → In z xs → P z
all_in P [] all z there = absurd there
all_in P (x ∷ xs) all z (inl same) = subst P same all.0
all_in P (x ∷ xs) all z (inr later) = all_in P xs all.1 z later

-- rising lists with the same ids are one, by induction on both
pub same_rising : (xs ys : List ℕ) → Rises xs → Rises ys → ((z : ℕ) → In z xs → In z ys) → ((z : ℕ) → In z ys → In z xs) → xs ≡ ys
same_rising [] [] up vp to back = refl
same_rising [] (y ∷ ys) up vp to back = absurd (back y (inl refl))
same_rising (x ∷ xs) [] up vp to back = absurd (to x (inl refl))
same_rising (x ∷ xs) (y ∷ ys) up vp to back =
    let first : x ≡ y = heads (to x (inl refl)) (back y (inl refl)) in
    let rest = same_rising xs ys up.1 vp.1
    (λ z there. behind ys (all_in (λ w. x < w) xs up.0 z there) first (to z (inr there)))
    (λ z there. behind xs (all_in (λ w. y < w) ys vp.0 z there) (sym first) (back z (inr there))) in
    λ i. first i ∷ rest i
  where
    heads : In x (y ∷ ys) → In y (x ∷ xs) → x ≡ y
    heads (inl same) there = sym same
    heads (inr later) (inl same) = same
    heads (inr later) (inr other) = absurd (let h = all_in (λ w. y < w) ys vp.0 x later in let k = all_in (λ w. x < w) xs up.0 y other in omega (arith, h, k))

    behind : (zs : List ℕ) {z a b : ℕ} → a < z → a ≡ b → (b ≡ z) ⊎ In z zs → In z zs
    behind zs lt same (inl here) = absurd (omega (arith, lt, same, here))
    behind zs lt same (inr later) = later

-- what passes is what was there and passes
module _ (test : ℕ → Bool) where
  filtered_in : (xs : List ℕ) (z : ℕ) → In z (filter test xs) → (test z ≡ true) × In z xs
  filtered_in [] z there = absurd there
  filtered_in (x ∷ xs) z there = go (test x) refl there (filtered_in xs z)
    where
      go : (b : Bool) → test x ≡ b → In z (cond b (x ∷ filter test xs) (filter test xs)) → (In z (filter test xs) → (test z ≡ true) × In z xs) → (test z ≡ true) × In z (x ∷ xs)
      go true is (inl same) rest = (subst (λ (w : ℕ). test w ≡ true) same is, inl same)
      go true is (inr later) rest = let r = rest later in (r.0, inr r.1)
      go false is later rest = let r = rest later in (r.0, inr r.1)

  in_filtered : (xs : List ℕ) (z : ℕ) → test z ≡ true → In z xs → In z (filter test xs)
  in_filtered [] z passes there = absurd there
  in_filtered (x ∷ xs) z passes there = go (test x) refl there (in_filtered xs z passes)
    where
      go : (b : Bool) → test x ≡ b → (x ≡ z) ⊎ In z xs → (In z xs → In z (filter test xs)) → In z (cond b (x ∷ filter test xs) (filter test xs))
      go true is (inl same) rest = inl same
      go true is (inr later) rest = inr (rest later)
      go false is (inl same) rest = absurd (let t : test x ≡ true = subst (λ (w : ℕ). test w ≡ true) (sym same) passes in cc)
      go false is (inr later) rest = rest later

  -- ids that pass and rise are those of a rising list, where these are the ones that pass, and all of them are there
  pub passing_is : (xs ys : List ℕ) → Rises (passing test xs) → Rises ys → ((z : ℕ) → In z ys → (test z ≡ true) × In z xs) → ((z : ℕ) → test z ≡ true → In z ys) → passing test xs ≡ ys
  passing_is xs ys up vp passes all =
      same_rising (passing test xs) ys up vp (λ z there. all z (filtered_in (dedup eqb xs) z there).0)
      (λ z there. let r = passes z there in in_filtered (dedup eqb xs) z r.0 (In_from_Contains (dedup eqb xs) z (Contains-dedup_nat xs z (Contains_from_In xs z r.1))))
