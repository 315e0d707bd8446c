-- Numbers from one on.
use Rattle.std.proofs.Common.{◌≡◌, ◌∙◌, sym, ap, ℕ, zero, suc, ◌+◌, ◌-◌, ◌≤◌, List, [], ◌∷◌, ◌++◌, append_assoc, arith}
use Rattle.std.specs.List.{range_with_len}

one_more : (first many : ℕ) → range_with_len first (suc many) ≡ range_with_len first many ++ (first + many) ∷ []
one_more first zero = let e : first ≡ first + 0 = omega arith in ap (λ n. n ∷ []) e
one_more first (suc many) =
    let e : first + 1 + many ≡ first + suc many = omega arith in ap (λ ns. first ∷ ns) (one_more (first + 1) many ∙ ap (λ n. range_with_len (first + 1) many ++ n ∷ []) e)

-- the first numbers with the next one
pub range_next : (many : ℕ) → range_with_len 0 many ++ many ∷ [] ≡ range_with_len 0 (many + 1)
range_next many =
    let at : many ≡ 0 + many = omega arith in
    let longer : suc many ≡ many + 1 = omega arith in
    ap (λ n. range_with_len 0 many ++ n ∷ []) at ∙ sym (one_more 0 many) ∙ ap (range_with_len 0) longer

-- with the next number
pub range_more : (before now next : List ℕ) (first number : ℕ) → first ≤ number → now ≡ before ++ range_with_len first (number - first) → next ≡ now ++ number ∷ []
    → next ≡ before ++ range_with_len first (number + 1 - first)
range_more before now next first number up is added =
    let one : suc (number - first) ≡ number + 1 - first = omega arith in
    let at : first + (number - first) ≡ number = omega arith in
    let longer : range_with_len first (number - first) ++ number ∷ [] ≡ range_with_len first (number + 1 - first) =
    ap (λ n. range_with_len first (number - first) ++ n ∷ []) (sym at) ∙ sym (one_more first (number - first)) ∙ ap (range_with_len first) one in
    added ∙ ap (λ ns. ns ++ number ∷ []) is ∙ append_assoc before (range_with_len first (number - first)) (number ∷ []) ∙ ap (λ ns. before ++ ns) longer

-- up to the last, and another number
pub range_end : (before now next : List ℕ) (first number last other : ℕ) → number ≤ last → last ≤ number → now ≡ before ++ range_with_len first (number - first) → next ≡ now ++ other ∷ []
    → next ≡ before ++ (range_with_len first (last - first) ++ other ∷ [])
range_end before now next first number last other within past is added =
    let same : number - first ≡ last - first = omega arith in
    added ∙ ap (λ ns. ns ++ other ∷ []) (is ∙ ap (λ n. before ++ range_with_len first n) same) ∙ append_assoc before (range_with_len first (last - first)) (other ∷ [])
