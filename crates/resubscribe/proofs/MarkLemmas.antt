-- One more mark.
use Rattle.std.proofs.Common.{◌≡◌, ◌≢◌, ◌∙◌, ℕ, inl, inr, cond, ◌+◌, ◌<◌, List, [], ◌∷◌, ◌++◌, Bool, true, false, not, length, get_or, set, sym, ap, arith, length-set, get_or-set_other, get_or-set_same}
use Rattle.std.specs.Prelude.{count_by}
use Rattle.std.proofs.lemmas.Bool.{cases_eq}
use Rattle.std.proofs.lemmas.List.{length_push}
use Rattle.std.proofs.lemmas.List.Sums.{sum_by-set}
use Rattle.std.proofs.lemmas.List.Quantifiers.{all_pairs_push}
use Rattle.resubscribe.specs.Order.{is_among}
use Rattle.resubscribe.specs.Marks.{IsMarked}
use Rattle.resubscribe.proofs.AmongLemmas.{among-other, among-pushed, apart}

abbrev free : Bool → ℕ
free b = cond (not b) 1 0

-- a new mark leaves one place less without a mark
unmarked-set : (marks : List Bool) (n : ℕ) → n < length marks → get_or marks n false ≡ false → count_by not (set marks n true) + 1 ≡ count_by not marks
unmarked-set marks n within absent =
    let one : free (get_or marks n false) ≡ 1 = ap free absent in
    let e : count_by not (set marks n true) + free (get_or marks n false) ≡ count_by not marks + 0 = sum_by-set free marks n true false within in
    omega arith

-- a number with a mark that is put is marked
told-put : (marks : List Bool) (numbers : List ℕ) (n : ℕ) → n < length marks → IsMarked marks numbers → (q : ℕ) → q < length marks → get_or (set marks n true) q false ≡ is_among (numbers ++ n ∷ []) q
told-put marks numbers n within was q small =
    elim (cases_eq q n) [
      | inl same ↦ ap (λ k. get_or (set marks n true) k false) same ∙ get_or-set_same marks n true false within ∙ sym (among-pushed numbers n) ∙ ap (is_among (numbers ++ n ∷ [])) (sym same)
      | inr other ↦ get_or-set_other marks n q true false other ∙ was.told q small ∙ sym (among-other numbers n q other)
    ]

-- the marks after one more number
pub IsMarked-put : (marks : List Bool) (numbers : List ℕ) (n : ℕ) → n < length marks → is_among numbers n ≡ false → IsMarked marks numbers → IsMarked (set marks n true) (numbers ++ n ∷ [])
IsMarked-put marks numbers n within absent was = record {
  told = λ q small. told-put marks numbers n within was q (let e : length (set marks n true) ≡ length marks = length-set marks n true in omega arith);
  distinct = all_pairs_push (λ x y. x ≢ y) numbers n was.distinct (apart numbers n absent);
  counted = let e : length (set marks n true) ≡ length marks = length-set marks n true in
      let f : length (numbers ++ n ∷ []) ≡ length numbers + 1 = length_push numbers n in
      let g : count_by not (set marks n true) + 1 ≡ count_by not marks = unmarked-set marks n within (was.told n within ∙ absent) in
      let h : length numbers + count_by not marks ≡ length marks = was.counted in
      omega arith;
}
