-- Where two schemas differ, from a place of both on.
use Rattle.std.proofs.Common.{◌≡◌, ◌+◌, ◌<◌, ℕ, zero, suc, List, [], ◌∷◌, Bool, true, false, not, add-one, drop, length, refl, arith, if◌then◌else◌}
use Rattle.std.specs.Prelude.{Option, Some, slice_get}
use Rattle.stream_schema.specs.Schema.{Attr}
use Rattle.cel_types.specs.Unions.{difference_from, is_same}

-- at a place of both: their attributes are the same, and what follows decides, or they differ there
differs : (n : ℕ) (same other : Bool) (rest : Option ℕ) → same ≡ other → (if other then rest else Some n) ≡ (if not same then Some n else rest)
differs n true other rest e = rw (← e) refl
differs n false other rest e = rw (← e) refl

-- the same at the fronts of what is left, by induction on the place
pub difference-at : (n i : ℕ) (left right : List Attr) (a b : Attr) (same : Bool) → slice_get left i ≡ Some a → slice_get right i ≡ Some b → same ≡ is_same a b
    → difference_from n (drop i left) (drop i right) ≡ (if not same then Some n else difference_from (n + 1) (drop (i + 1) left) (drop (i + 1) right))
difference-at n i [] right a b same p q s = cc
difference-at n i (x ∷ left) [] a b same p q s = cc
difference-at n zero (x ∷ left) (y ∷ right) a b same p q s =
    let e : x ≡ a = cc in
    let f : y ≡ b = cc in
    rw (e, f) (differs n same (is_same a b) (difference_from (n + 1) left right) s)
difference-at n (suc i) (x ∷ left) (y ∷ right) a b same p q s = rw (add-one (suc i)) (rw (add-one i) at (difference-at n i left right a b same p q s))

-- at a place of the left one where the right one has ended, by induction on the place
pub difference-past : (n i : ℕ) (left right : List Attr) → i < length left → i ≡ length right → difference_from n (drop i left) (drop i right) ≡ Some n
difference-past n i [] right h e = absurd (omega arith)
difference-past n zero (x ∷ left) [] h e = refl
difference-past n zero (x ∷ left) (y ∷ right) h e = absurd (omega arith)
difference-past n (suc i) (x ∷ left) [] h e = absurd (omega arith)
difference-past n (suc i) (x ∷ left) (y ∷ right) h e = difference-past n i left right (omega arith) (omega arith)

-- at a place of the right one where the left one has ended, by induction on the left one
pub difference-short : (n i : ℕ) (left right : List Attr) → i ≡ length left → i < length right → difference_from n (drop i left) (drop i right) ≡ Some n
difference-short n zero [] [] e h = absurd (omega arith)
difference-short n zero [] (y ∷ right) e h = refl
difference-short n (suc i) [] right e h = absurd (omega arith)
difference-short n zero (x ∷ left) right e h = absurd (omega arith)
difference-short n (suc i) (x ∷ left) [] e h = absurd (omega arith)
difference-short n (suc i) (x ∷ left) (y ∷ right) e h = difference-short n i left right (omega arith) (omega arith)
