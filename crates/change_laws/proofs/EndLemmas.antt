-- The numbers of the ends of a network are those of its endings.
use Rattle.std.proofs.Common.{◌≡◌, ◌∙◌, ◌⊎◌, inl, inr, sym, ap, refl, subst, ℕ, ◌≤◌, ◌==◌, ◌||◌, Bool, true, false, List, [], ◌∷◌, length, map, arith}
use Rattle.std.specs.Prelude.{Contains, count_by}
use Rattle.std.specs.List.{list_any, range_with_len}
use Rattle.std.proofs.lemmas.List.Sorted.{IsPermutation-sym}
use Rattle.automaton.specs.declared.network.End.{End}
use Rattle.automaton.specs.NetworkLines.{Ending, HasEndings, ending_at, endings_by}
use Rattle.automaton.specs.States.{Net, ends_at}
use Rattle.event_types.proofs.NumberLemmas.{is_same, same_number}
use Rattle.prefix_merge.specs.Merging.{HasEnd, IsMerged}
use Rattle.prefix_merge.proofs.AnyLemmas.{any_counted, none_any}
use Rattle.prefix_merge.proofs.ContainLemmas.{first_in, from_flat_map, from_map, in_cases, in_map, in_permuted, later_in, none_in}
use Rattle.prefix_merge.proofs.LawLemmas.{its_ending}

module _ {X : Type 0} (p : X → Bool) where
  -- where some item passes a test, one of the list does
  pub passing : (xs : List X) → list_any p xs ≡ true → (x : X) × Contains xs x × (p x ≡ true)
  passing [] some = absurd (let no : false ≡ true = some in cc)
  passing (x ∷ xs) some = go (passing xs) (p x) refl some
    where
      go : (list_any p xs ≡ true → (y : X) × Contains xs y × (p y ≡ true)) → (b : Bool) → p x ≡ b → (b || list_any p xs) ≡ true → (y : X) × Contains (x ∷ xs) y × (p y ≡ true)
      go rest true is some = (x, first_in x xs, is)
      go rest false is some = let found = rest some in (found.0, later_in x xs found.0 found.1, found.2)

  -- and the other way round
  pub passes : (xs : List X) (x : X) → Contains xs x → p x ≡ true → list_any p xs ≡ true
  passes [] x has is = absurd (none_in x has)
  passes (y ∷ xs) x has is = go (passes xs x) (in_cases y xs x has)
    where
      either : (a b : Bool) → b ≡ true → (a || b) ≡ true
      either true b e = refl
      either false b e = e

      go : (Contains xs x → p x ≡ true → list_any p xs ≡ true) → (x ≡ y) ⊎ Contains xs x → (p y || list_any p xs) ≡ true
      go rest (inl same) = ap (λ b. b || list_any p xs) (ap p (sym same) ∙ is)
      go rest (inr later) = either (p y) (list_any p xs) (rest later is)

-- the numbers of endings
abbrev pub numbers_of : List Ending → List ℕ
numbers_of endings = map (λ (ending : Ending). ending.number) endings

-- ends of which some has a number
numbered : (ends : List End) (number : ℕ) → 1 ≤ count_by (λ (end : End). end.number == number) ends → (end : End) × Contains ends end × (end.number ≡ number)
numbered ends number some = go (list_any (λ (end : End). end.number == number) ends) refl
  where
    go : (b : Bool) → list_any (λ (end : End). end.number == number) ends ≡ b → (end : End) × Contains ends end × (end.number ≡ number)
    go true is = let found = passing (λ (end : End). end.number == number) ends is in (found.0, found.1, same_number found.0.number number found.2)
    go false is = absurd (let none = none_any (λ (end : End). end.number == number) ends is in omega (arith, some, none))

module _ (net : Net) (endings : List Ending) (merged : IsMerged net) (had : HasEndings net endings) where
  -- the number of an end is that of an ending
  pub among_endings : (number : ℕ) → HasEnd net number → Contains (numbers_of endings) number
  among_endings number has =
      let end = numbered (ends_at net has.0) number has.1 in
      subst (Contains (numbers_of endings)) end.2
      (in_map (λ (ending : Ending). ending.number) endings (ending_at (had.places has.0) end.0) (its_ending net endings merged had has.0 end.0 end.1))

  -- and the number of an ending that of an end
  pub has_end : (number : ℕ) → Contains (numbers_of endings) number → HasEnd net number
  has_end number has =
      let ending = from_map (λ (ending : Ending). ending.number) endings number has in
      let standing = in_permuted endings (endings_by had.places net) ending.0 (IsPermutation-sym (endings_by had.places net) endings had.same) ending.1 in
      let state = from_flat_map (λ n. map (ending_at (had.places n)) (ends_at net n)) (range_with_len 0 (length net)) ending.0 standing in
      let end = from_map (ending_at (had.places state.0)) (ends_at net state.0) ending.0 state.2 in
      let same : end.0.number ≡ number = ap (λ (e : Ending). e.number) end.2 ∙ ending.2 in
      (state.0, any_counted (λ (e : End). e.number == number) (ends_at net state.0) (passes (λ (e : End). e.number == number) (ends_at net state.0) end.0 end.1 (is_same end.0.number number same)))
