-- The lines that use a prefix have a least birth.
use Rattle.std.proofs.Common.{◌≡◌, ◌∙◌, ap, refl, subst, ℕ, zero, suc, ◌⊎◌, inl, inr, List, [], ◌∷◌, arith}
use Rattle.std.specs.Prelude.{Contains, Option, Some, None}
use Rattle.std.proofs.lemmas.Bool.{cases_lt}
use Rattle.automaton.specs.Prefixes.{Prefix, path}
use Rattle.epoch_laws.specs.Births.{IsLeastBirth, IsNoLater}
use Rattle.epoch_laws.specs.BornLines.{BornLine, IsReadAfter}
use Rattle.birth_laws.specs.LeastBirths.{EachPrefixHasALeastBirth}
use Rattle.birth_laws.proofs.BeginLemmas.{Begins, begins_or_not}

-- a birth is no later than itself
not_later_itself : (a : Option ℕ) → IsNoLater a a
not_later_itself None = tt
not_later_itself (Some a) = omega arith

not_later_then : (a b c : Option ℕ) → IsNoLater a b → IsNoLater b c → IsNoLater a c
not_later_then None b c first second = tt
not_later_then (Some a) None c first second = absurd first
not_later_then (Some a) (Some b) None first second = absurd second
not_later_then (Some a) (Some b) (Some c) first second = omega (arith, first, second)

-- of two births one is no later
one_not_later : (a b : Option ℕ) → IsNoLater a b ⊎ IsNoLater b a
one_not_later None b = inl tt
one_not_later (Some a) None = inr tt
one_not_later (Some a) (Some b) = elim (cases_lt a b) [ inl less ↦ inl (omega (arith, less)) | inr not_less ↦ inr (omega (arith, not_less)) ]

-- what stands in a list is its first item, or stands behind it
first_or_later : {X : Type 0} (x : X) (xs : List X) (y : X) → Contains (x ∷ xs) y → (x ≡ y) ⊎ Contains xs y
first_or_later x xs y (zero, within, is) = inl is
first_or_later x xs y (suc k, within, is) = inr (k, omega (arith, within), is)

module _ (prefix : Prefix) where
  -- there is a least birth
  abbrev HasLeast : List BornLine → Type 0
  HasLeast lines = (least : Option ℕ) × IsLeastBirth (IsReadAfter lines prefix) least × IsReadAfter lines prefix least

  -- a line more uses the prefix, or those behind it do
  first_uses : (born : BornLine) (lines : List BornLine) → Begins prefix (path born.line) → IsReadAfter (born ∷ lines) prefix born.birth
  first_uses born lines begins = (born, begins.0, (0, omega arith, refl), begins.1, refl)

  later_use : (born : BornLine) (lines : List BornLine) (birth : Option ℕ) → IsReadAfter lines prefix birth → IsReadAfter (born ∷ lines) prefix birth
  later_use born lines birth (line, more, (k, within, is), begins, same) = (line, more, (suc k, omega (arith, within), is), begins, same)

  use_cases : (born : BornLine) (lines : List BornLine) (birth : Option ℕ) → IsReadAfter (born ∷ lines) prefix birth → (Begins prefix (path born.line) × (born.birth ≡ birth)) ⊎ IsReadAfter lines prefix birth
  use_cases born lines birth (line, more, there, begins, same) = elim (first_or_later born lines line there) [
    | inl is ↦ inl ((more, ap (λ (b : BornLine). path b.line) is ∙ begins), ap (λ (b : BornLine). b.birth) is ∙ same)
    | inr later ↦ inr (line, more, later, begins, same)
  ]

  -- a line that doesn't use it changes nothing
  without_first : (born : BornLine) (lines : List BornLine) → (Begins prefix (path born.line) → ⊥) → HasLeast lines → HasLeast (born ∷ lines)
  without_first born lines never (least, is_least, used) = (least, record { no_later = no_later; is_one = λ birth uses. later_use born lines least used }, later_use born lines least used)
    where
      no_later : (birth : Option ℕ) → IsReadAfter (born ∷ lines) prefix birth → IsNoLater least birth
      no_later birth uses = elim (use_cases born lines birth uses) [
        | inl first ↦ absurd (never first.0)
        | inr later ↦ is_least.no_later birth later
      ]

  -- a line that uses it, and whose birth is no later than the others'
  with_first : (born : BornLine) (lines : List BornLine) → Begins prefix (path born.line) → ((birth : Option ℕ) → IsReadAfter lines prefix birth → IsNoLater born.birth birth) → HasLeast (born ∷ lines)
  with_first born lines begins none_earlier = (born.birth, record { no_later = no_later; is_one = λ birth uses. first_uses born lines begins }, first_uses born lines begins)
    where
      no_later : (birth : Option ℕ) → IsReadAfter (born ∷ lines) prefix birth → IsNoLater born.birth birth
      no_later birth uses = elim (use_cases born lines birth uses) [
        | inl first ↦ subst (IsNoLater born.birth) first.1 (not_later_itself born.birth)
        | inr later ↦ none_earlier birth later
      ]

  -- a line that uses it, and whose birth is no earlier than the least of the others
  with_later : (born : BornLine) (lines : List BornLine) (has : HasLeast lines) → IsNoLater has.0 born.birth → HasLeast (born ∷ lines)
  with_later born lines (least, is_least, used) later = (least, record { no_later = no_later; is_one = λ birth uses. later_use born lines least used }, later_use born lines least used)
    where
      no_later : (birth : Option ℕ) → IsReadAfter (born ∷ lines) prefix birth → IsNoLater least birth
      no_later birth uses = elim (use_cases born lines birth uses) [
        | inl first ↦ subst (IsNoLater least) first.1 later
        | inr behind ↦ is_least.no_later birth behind
      ]

  -- some line uses it, and there is a least birth; or none does; by induction on the lines
  least_or_none : (lines : List BornLine) → HasLeast lines ⊎ ((birth : Option ℕ) → IsReadAfter lines prefix birth → ⊥)
  least_or_none [] = inr (λ birth uses. let within = uses.2.1 in omega (arith, within))
  least_or_none (born ∷ lines) = by-cases (begins_or_not prefix (path born.line)) (least_or_none lines)
    where
      by-cases : Begins prefix (path born.line) ⊎ (Begins prefix (path born.line) → ⊥) → HasLeast lines ⊎ ((birth : Option ℕ) → IsReadAfter lines prefix birth → ⊥)
          → HasLeast (born ∷ lines) ⊎ ((birth : Option ℕ) → IsReadAfter (born ∷ lines) prefix birth → ⊥)
      by-cases (inl begins) (inl has) = elim (one_not_later born.birth has.0) [
        | inl earlier ↦ inl (with_first born lines begins (λ birth uses. not_later_then born.birth has.0 birth earlier (has.1.no_later birth uses)))
        | inr later ↦ inl (with_later born lines has later)
      ]
      by-cases (inl begins) (inr none) = inl (with_first born lines begins (λ birth uses. absurd (none birth uses)))
      by-cases (inr never) (inl has) = inl (without_first born lines never has)
      by-cases (inr never) (inr none) = inr (λ birth uses. elim (use_cases born lines birth uses) [ inl first ↦ never first.0 | inr later ↦ none birth later ])

-- each prefix has a least birth; where no line uses it, any is one
pub each_has_least : EachPrefixHasALeastBirth
each_has_least lines prefix = elim (least_or_none prefix lines) [
  | inl has ↦ (has.0, has.1)
  | inr none ↦ (None, record { no_later = λ birth uses. tt; is_one = λ birth uses. absurd (none birth uses) })
]
