-- The first bytes of a text of which a front is made.
use Rattle.std.proofs.Common.{◌≡◌, ◌<◌, ℕ, List, [], ◌++◌, inl, inr, refl, arith, append-nil, length, take, drop, min}
use Rattle.std.proofs.lemmas.List.{take_all, take-append-le, drop-append-le, drop_all}
use Rattle.std.proofs.lemmas.Bool.{cases_lt}

-- the first bytes of what is made are those of the whole, where there are so many or all is made
pub front-made : (many : ℕ) (made left : List ℕ) → (length made < many → left ≡ []) → take (min (length made) many) made ≡ take many (made ++ left)
front-made many made left all =
    elim (cases_lt (length made) many) [
      | inl few ↦
          let size : min (length made) many ≡ length made = omega arith in
          rw (size, all few, append-nil made, take_all (length made) made (omega arith), take_all many made (omega arith)) refl
      | inr enough ↦
          let size : min (length made) many ≡ many = omega arith in
          rw (size, take-append-le many made left enough) refl
    ]

-- and what stands behind them is what is left of both
pub rest-made : (many : ℕ) (made left : List ℕ) → (length made < many → left ≡ []) → drop (min (length made) many) made ++ left ≡ drop many (made ++ left)
rest-made many made left all =
    elim (cases_lt (length made) many) [
      | inl few ↦
          let size : min (length made) many ≡ length made = omega arith in
          rw (size, all few, append-nil made, drop_all (length made) made (omega arith), drop_all many made (omega arith)) refl
      | inr enough ↦
          let size : min (length made) many ≡ many = omega arith in
          rw (size, drop-append-le many made left enough) refl
    ]
