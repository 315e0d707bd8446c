-- What is joined of the items of a list that rises, and of some of them.
use Rattle.std.proofs.Common.{◌≡◌, ◌∙◌, sym, ap, refl, subst, inl, inr, ℕ, zero, suc, ◌<◌, ◌⊎◌, get_or, List, [], ◌∷◌, ◌++◌, arith}
use Rattle.std.specs.Prelude.{Contains}
use Rattle.std.specs.List.{All, AllPairs, flat_map}
use Rattle.std.proofs.lemmas.Bool.{cases_eq}
use Rattle.std.proofs.lemmas.List.{get_or_default}
use Rattle.std.proofs.lemmas.List.Elements.{All-contains, All-head, All-tail}

-- a number that is in a list is the first one or one behind it
pub first_or_behind : (x : ℕ) (xs : List ℕ) (n : ℕ) → Contains (x ∷ xs) n → (n ≡ x) ⊎ Contains xs n
first_or_behind x xs n (zero, less, is) = inl (sym is)
first_or_behind x xs n (suc k, less, is) = inr (k, omega (arith, less), is)

-- by numbers that rise along a list of all and along some of it, where those that are left out have nothing
module _ {X : Type 0} (has : ℕ → List X) (turn : ℕ → ℕ) where
  abbrev Rise : List ℕ → Type 0
  Rise = AllPairs (λ earlier later. turn earlier < turn later)

  -- those behind the first have greater ones
  behind : (x : ℕ) (xs : List ℕ) → Rise (x ∷ xs) → All (λ y. turn x < turn y) xs
  behind x xs rise k d lt = rise 0 (suc k) d (omega (arith, lt)) (omega (arith, lt))

  rest : (x : ℕ) (xs : List ℕ) → Rise (x ∷ xs) → Rise xs
  rest x xs rise i j d less lt = rise (suc i) (suc j) d (omega (arith, less)) (omega (arith, lt))

  -- the same is joined
  pub some_for_all : (all some : List ℕ) → Rise all → Rise some → All (Contains all) some → All (λ x. (has x ≡ []) ⊎ Contains some x) all → flat_map has some ≡ flat_map has all
  some_for_all [] [] rise rises among each = refl
  some_for_all [] (s ∷ some) rise rises among each = absurd (let none = All-head (Contains []) s some among in let less = none.1 in omega (arith, less))
  some_for_all (a ∷ all) [] rise rises among each =
      some_for_all all [] (rest a all rise) rises (λ k d lt. absurd (omega (arith, lt))) (All-tail (λ x. (has x ≡ []) ⊎ Contains [] x) a all each) ∙ ap (λ xs. xs ++ flat_map has all) (sym (none (All-head (λ x. (has x ≡ []) ⊎ Contains [] x) a all each)))
    where
      none : (has a ≡ []) ⊎ Contains [] a → has a ≡ []
      none (inl is) = is
      none (inr here) = absurd (let less = here.1 in omega (arith, less))
  some_for_all (a ∷ all) (s ∷ some) rise rises among each = go (cases_eq s a) (some_for_all all some (rest a all rise) (rest s some rises)) (some_for_all all (s ∷ some) (rest a all rise) rises)
    where
      later : (x : ℕ) → Contains all x → turn a < turn x
      later x here = All-contains (λ y. turn a < turn y) all x (behind a all rise) here

      after : (x : ℕ) → Contains some x → turn s < turn x
      after x here = All-contains (λ y. turn s < turn y) some x (behind s some rises) here

      go : (s ≡ a) ⊎ (s ≡ a → ⊥) → (All (Contains all) some → All (λ x. (has x ≡ []) ⊎ Contains some x) all → flat_map has some ≡ flat_map has all)
          → (All (Contains all) (s ∷ some) → All (λ x. (has x ≡ []) ⊎ Contains (s ∷ some) x) all → flat_map has (s ∷ some) ≡ flat_map has all) → flat_map has (s ∷ some) ≡ flat_map has (a ∷ all)
      go (inl same) both less_of = ap (λ x. has x ++ flat_map has some) same ∙ ap (λ xs. has a ++ xs) (both within left)
        where
          within : All (Contains all) some
          within k d lt = one (first_or_behind a all (get_or some k d) (among (suc k) d (omega (arith, lt))))
            where
              one : (get_or some k d ≡ a) ⊎ Contains all (get_or some k d) → Contains all (get_or some k d)
              one (inl is) = absurd (let less = subst (λ x. turn s < turn x) (is ∙ sym same) (behind s some rises k d lt) in omega (arith, less))
              one (inr here) = here

          left : All (λ x. (has x ≡ []) ⊎ Contains some x) all
          left k d lt = one (each (suc k) d (omega (arith, lt)))
            where
              by : (get_or all k d ≡ s) ⊎ Contains some (get_or all k d) → (has (get_or all k d) ≡ []) ⊎ Contains some (get_or all k d)
              by (inl is) = absurd (let less = subst (λ x. turn a < turn x) (is ∙ same) (behind a all rise k d lt) in omega (arith, less))
              by (inr here) = inr here

              one : (has (get_or all k d) ≡ []) ⊎ Contains (s ∷ some) (get_or all k d) → (has (get_or all k d) ≡ []) ⊎ Contains some (get_or all k d)
              one (inl none) = inl none
              one (inr here) = by (first_or_behind s some (get_or all k d) here)
      go (inr other) both less_of = less_of within (All-tail (λ x. (has x ≡ []) ⊎ Contains (s ∷ some) x) a all each) ∙ ap (λ xs. xs ++ flat_map has all) (sym (none (All-head (λ x. (has x ≡ []) ⊎ Contains (s ∷ some) x) a all each)))
        where
          above : turn a < turn s
          above = one (first_or_behind a all s (All-head (Contains (a ∷ all)) s some among))
            where
              one : (s ≡ a) ⊎ Contains all s → turn a < turn s
              one (inl same) = absurd (other same)
              one (inr here) = later s here

          within : All (Contains all) (s ∷ some)
          within k d lt = one (first_or_behind a all x (among k d lt))
            where
              x : ℕ
              x = get_or (s ∷ some) k d

              from : (x ≡ s) ⊎ Contains some x → x ≡ a → ⊥
              from (inl is) same = other (sym is ∙ same)
              from (inr here) same = (let less = subst (λ y. turn s < turn y) same (after x here) in omega (arith, less, above))

              one : (x ≡ a) ⊎ Contains all x → Contains all x
              one (inl same) = absurd (from (first_or_behind s some x (k, lt, get_or_default (s ∷ some) k x d lt)) same)
              one (inr here) = here

          none : (has a ≡ []) ⊎ Contains (s ∷ some) a → has a ≡ []
          none (inl is) = is
          none (inr here) = absurd (one (first_or_behind s some a here))
            where
              one : (a ≡ s) ⊎ Contains some a → ⊥
              one (inl same) = other (sym same)
              one (inr here) = (let less = after a here in omega (arith, less, above))
