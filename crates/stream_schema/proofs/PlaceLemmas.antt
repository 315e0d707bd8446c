-- The first place at which a test passes: what stands there, and when there is none.
use Rattle.std.proofs.Common.{◌≡◌, ◌∙◌, ℕ, suc, ◌+◌, List, [], ◌∷◌, Bool, true, false, cond, refl, sym, ap, inl, inr, arith}
use Rattle.std.specs.Prelude.{Option, Some, None, position, slice_get, is_some, option_map, length, nat_lt}
use Rattle.std.specs.List.{list_any, position_or_len}
use Rattle.std.proofs.lemmas.Bool.{cases_Bool}
use Rattle.std.proofs.lemmas.Bool.Decides.{nat_tests}

-- a first place that is there, one further back
shifted : (i n : ℕ) → cond (nat_lt (1 + i) (suc n)) (Some (1 + i)) None ≡ option_map suc (cond (nat_lt i n) (Some i) None)
shifted i n = grind (arith, nat_tests)

-- the first place in a list, where the head passes and where it doesn't
pub position-here : {X : Type 0} (p : X → Bool) (x : X) (xs : List X) → p x ≡ true → position p (x ∷ xs) ≡ Some 0
position-here p x xs h = rw h (grind (arith, nat_tests))

-- where the first item fails the test, the place is one more than among the others
pub position-past : {X : Type 0} (p : X → Bool) (x : X) (xs : List X) → p x ≡ false → position p (x ∷ xs) ≡ option_map suc (position p xs)
position-past p x xs h = rw h (shifted (position_or_len p xs) (length xs))

-- a place that is one further back than another
place_before : (o : Option ℕ) (i : ℕ) → option_map suc o ≡ Some i → (j : ℕ) × (o ≡ Some j) × (suc j ≡ i)
place_before None i e = cc
place_before (Some j) i e = (j, refl, cc)

get-at : {X : Type 0} (xs : List X) (x : X) (i j : ℕ) → i ≡ j → slice_get xs i ≡ Some x → slice_get xs j ≡ Some x
get-at xs x i j e h = rw (← e) h

-- what stands at the first place passes, by induction on the list
pub position-found : {X : Type 0} (p : X → Bool) (xs : List X) (i : ℕ) → position p xs ≡ Some i → (x : X) × (slice_get xs i ≡ Some x) × (p x ≡ true)
position-found p [] i e = cc
position-found p (x ∷ xs) i e =
    elim (cases_Bool (p x)) [
      | inl here ↦ let first : 0 ≡ i = (let at = sym (position-here p x xs here) ∙ e in cc) in (x, get-at (x ∷ xs) x 0 i first refl, here)
      | inr past ↦
          let at = place_before (position p xs) i (sym (position-past p x xs past) ∙ e) in
          let rest = position-found p xs at.0 at.1 in
          (rest.0, get-at (x ∷ xs) rest.0 (suc at.0) i at.2 rest.1, rest.2)
    ]

kept : (o : Option ℕ) → is_some (option_map suc o) ≡ is_some o
kept None = refl
kept (Some i) = refl

-- there is a first place just where some item passes, by induction on the list
pub is_some-position : {X : Type 0} (p : X → Bool) (xs : List X) → is_some (position p xs) ≡ list_any p xs
is_some-position p [] = refl
is_some-position p (x ∷ xs) =
    elim (cases_Bool (p x)) [
      | inl here ↦ ap is_some (position-here p x xs here) ∙ rw here refl
      | inr past ↦ ap is_some (position-past p x xs past) ∙ kept (position p xs) ∙ is_some-position p xs ∙ rw past refl
    ]

-- an option that isn't there
pub missing : {X : Type 0} (o : Option X) → is_some o ≡ false → o ≡ None
missing None e = refl
missing (Some i) e = cc
