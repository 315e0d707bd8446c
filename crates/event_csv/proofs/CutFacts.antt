-- A text is cut at its first comma.
use Rattle.std.proofs.Common.{get_or, eqb-true, ◌≡◌, ℕ, suc, ◌+◌, ◌<◌, List, [], ◌∷◌, length, take, drop, Bool, true, false, refl, arith, cond}
use Rattle.std.specs.Prelude.{◌==◌, not}
use Rattle.std.specs.List.{position_or_len, onto_first}
use Rattle.std.proofs.lemmas.List.Splits.{slice_split_first}
use Rattle.std.proofs.lemmas.List.Sums.{passes_at_first}
use Rattle.event_csv.specs.Fields.{comma, parts_of}

-- a text with no comma is one part
pub parts-none : (xs : List ℕ) → position_or_len (λ b. b == comma) xs ≡ length xs → parts_of xs ≡ xs ∷ []
parts-none [] h = refl
parts-none (x ∷ xs) h = by (x == comma) h (λ k. parts-none xs k)
  where
    by : (d : Bool) → cond (not d) (1 + position_or_len (λ b. b == comma) xs) 0 ≡ suc (length xs)
        → (position_or_len (λ b. b == comma) xs ≡ length xs → parts_of xs ≡ xs ∷ [])
        → cond d ([] ∷ parts_of xs) (onto_first x (parts_of xs)) ≡ (x ∷ xs) ∷ []
    by true k more = absurd (omega arith)
    by false k more = rw (more (omega arith)) refl

-- the part before the first comma, and those after it
pub parts-first : (xs : List ℕ) (i : ℕ) → i ≡ position_or_len (λ b. b == comma) xs → i < length xs → parts_of xs ≡ take i xs ∷ parts_of (drop (i + 1) xs)
parts-first xs i e h = let lt : position_or_len (λ b. b == comma) xs < length xs = omega arith in rw e (slice_split_first (λ b. b == comma) xs 0 lt)

-- the byte at the first comma
pub comma-byte : (s bytes : List ℕ) (i : ℕ) → bytes ≡ s → i ≡ position_or_len (λ b. b == comma) bytes → i < length s → get_or s i 0 ≡ comma
comma-byte s bytes i e p h =
    let q : i ≡ position_or_len (λ b. b == comma) s = rw e at p in
    let lt : position_or_len (λ b. b == comma) s < length s = omega arith in
    rw q (eqb-true _ _ (passes_at_first (λ b. b == comma) s 0 lt))
