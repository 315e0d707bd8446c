-- The definitions on small queries.
use Rattle.std.proofs.Common.{◌≡◌, ℕ, List, [], ◌∷◌, refl}
use Rattle.std.specs.Prelude.{Some, None}
use Rattle.resubscribe.specs.Cycle.{Walks, untaken_read}
use Rattle.resubscribe.specs.Order.{IsOrder, TakesQuery, first_ready, first_untaken}

-- the first query reads the third, the second reads the first, the third reads none
abbrev turned : List (List ℕ)
turned = (2 ∷ []) ∷ (0 ∷ []) ∷ [] ∷ []

third_is_ready : first_ready turned [] ≡ Some 2
third_is_ready = refl

then_the_first : first_ready turned (2 ∷ []) ≡ Some 0
then_the_first = refl

third_first_second : IsOrder turned (2 ∷ 0 ∷ 1 ∷ [])
third_first_second = record { taken = (refl, (refl, (refl, tt))); none_left = refl }

-- of two that are ready the first of the file is taken
file_order : IsOrder ([] ∷ [] ∷ []) (0 ∷ 1 ∷ [])
file_order = record { taken = (refl, (refl, tt)); none_left = refl }

-- the first reads the second and the third, the second none, the third and the fourth each other
abbrev circle : List (List ℕ)
circle = (1 ∷ 2 ∷ []) ∷ [] ∷ (3 ∷ []) ∷ (2 ∷ []) ∷ []

second_is_taken : TakesQuery circle [] (1 ∷ [])
second_is_taken = (refl, tt)

none_is_ready : first_ready circle (1 ∷ []) ≡ None
none_is_ready = refl

first_is_untaken : first_untaken circle (1 ∷ []) ≡ Some 0
first_is_untaken = refl

taken_read_is_passed_over : untaken_read circle (1 ∷ []) 0 ≡ Some 2
taken_read_is_passed_over = refl

walk : Walks circle (1 ∷ []) (0 ∷ 2 ∷ 3 ∷ 2 ∷ [])
walk = (refl, (refl, (refl, tt)))
