-- One more query is taken.
use Rattle.std.proofs.Common.{◌≡◌, ◌≢◌, ◌∙◌, ℕ, ◌+◌, ◌<◌, ◌≤◌, List, [], ◌∷◌, ◌++◌, true, false, not, ◌&&◌, min, length, get_or, refl, sym, ap, inl, inr, arith, append_assoc, append-nil}
use Rattle.std.specs.Prelude.{◌==◌, Some}
use Rattle.std.specs.List.{list_all}
use Rattle.std.proofs.lemmas.Bool.{cases_Bool, cases_eq, or_parts}
use Rattle.resubscribe.specs.Order.{TakesQuery, first_ready, is_among, is_ready, is_untaken, reads_of}
use Rattle.resubscribe.specs.Readers.{AreBefore}
use Rattle.resubscribe.proofs.AmongLemmas.{among-other, among-pushed}
use Rattle.event_types.proofs.NumberLemmas.{self_equal}

-- one more query is taken after others
pub Takes-push : (reads : List (List ℕ)) (taken xs : List ℕ) (q : ℕ) → TakesQuery reads taken xs → first_ready reads (taken ++ xs) ≡ Some q → TakesQuery reads taken (xs ++ q ∷ [])
Takes-push reads taken [] q takes next = (ap (first_ready reads) (sym (append-nil taken)) ∙ next, tt)
Takes-push reads taken (x ∷ xs) q takes next = (takes.0, Takes-push reads (taken ++ x ∷ []) xs q takes.1 (ap (first_ready reads) (append_assoc taken (x ∷ []) xs) ∙ next))

-- numbers without the new one are all taken exactly where they were
all-other : (taken xs : List ℕ) (q : ℕ) → is_among xs q ≡ false → list_all (is_among (taken ++ q ∷ [])) xs ≡ list_all (is_among taken) xs
all-other taken [] q absent = refl
all-other taken (x ∷ xs) q absent =
    let parts : ((q == x) ≡ false) × (is_among xs q ≡ false) = or_parts (q == x) (is_among xs q) absent in
    let other : x ≢ q = λ same. let e : (q == x) ≡ true = ap (λ k. q == k) same ∙ self_equal q in cc in
    ap (λ b. b && list_all (is_among (taken ++ q ∷ [])) xs) (among-other taken q x other) ∙ ap (λ b. is_among taken x && b) (all-other taken xs q parts.1)

-- a query that doesn't read the new one is ready exactly where it was
ready-other : (reads : List (List ℕ)) (taken : List ℕ) (q k : ℕ) → k ≢ q → is_among (reads_of reads k) q ≡ false → is_ready reads (taken ++ q ∷ []) k ≡ is_ready reads taken k
ready-other reads taken q k other absent =
    ap (λ b. not b && list_all (is_among (taken ++ q ∷ [])) (reads_of reads k)) (among-other taken q k other) ∙ ap (λ b. is_untaken taken k && b) (all-other taken (reads_of reads k) q absent)

-- the new one isn't ready any more
ready-same : (reads : List (List ℕ)) (taken : List ℕ) (q : ℕ) → is_ready reads (taken ++ q ∷ []) q ≡ false
ready-same reads taken q = ap (λ b. not b && list_all (is_among (taken ++ q ∷ [])) (reads_of reads q)) (among-pushed taken q)

-- what stands before the first reader of the new one isn't ready
pub none_before-more : (firsts : List ℕ) (reads : List (List ℕ)) (taken : List ℕ) (q : ℕ) → AreBefore firsts reads (length reads) → q < length reads → ((k : ℕ) → k < q → is_ready reads taken k ≡ false)
    → (k : ℕ) → k < min (q + 1) (get_or firsts q 0) → is_ready reads (taken ++ q ∷ []) k ≡ false
none_before-more firsts reads taken q firsts_of small none k early = elim (cases_eq k q) [
  | inl same ↦ ap (is_ready reads (taken ++ q ∷ [])) same ∙ ready-same reads taken q
  | inr other ↦ elim (cases_Bool (is_among (reads_of reads k) q)) [
    | inl there ↦ let low : get_or firsts q 0 ≤ k = firsts_of.before k q (omega arith) small there in absurd (omega arith)
    | inr absent ↦ ready-other reads taken q k other absent ∙ none k (omega arith)
  ]
]

-- a query that is ready isn't taken
pub untaken-from_ready : (reads : List (List ℕ)) (taken : List ℕ) (q : ℕ) → is_ready reads taken q ≡ true → is_among taken q ≡ false
untaken-from_ready reads taken q e = elim (cases_Bool (is_among taken q)) [
  | inl there ↦ let e' : is_ready reads taken q ≡ false = ap (λ b. not b && list_all (is_among taken) (reads_of reads q)) there in absurd cc
  | inr absent ↦ absent
]
