-- Lists without an item, and without a part.
use Rattle.std.proofs.Common.{◌≡◌, ◌≢◌, ◌∙◌, ℕ, zero, suc, ◌+◌, ◌-◌, ◌<◌, ◌≤◌, List, [], ◌∷◌, ◌++◌, Bool, true, false, cond, length, take, drop, get_or, sym, ap, subst, inl, inr, arith, length-take-le}
use Rattle.std.specs.Prelude.{AllPairs, Contains, sum_by}
use Rattle.std.specs.List.{All, filter, flat_map, remove}
use Rattle.std.proofs.Math.Seq.{drop-append-add, drop-append_seam, drop-cons, take-append_seam}
use Rattle.std.proofs.lemmas.Bool.{cases_lt}
use Rattle.std.proofs.lemmas.List.{drop-drop, get_or-append_right, get_or-drop, get_or-take, get_or_append_left, length-append, length-drop, take-append-drop}
use Rattle.std.proofs.lemmas.List.Concat.{flat_map-cons}
use Rattle.std.proofs.lemmas.List.Edits.{get_or-remove_above, get_or-remove_below, length-remove}
use Rattle.std.proofs.lemmas.List.Elements.{All-append, All-drop, All-from_get_or, All-take, Contains-get_or}
use Rattle.std.proofs.lemmas.List.Sums.{sum_by-append, sum_by-take-drop}
use Rattle.std.proofs.lemmas.Grind.{flat_map-append}
use Rattle.semantics.proofs.ReportLemmas.{filter_all}
use Rattle.catalogue.specs.Leaving.{without_part}

-- what is so of all items is so of those that are left
pub All-without : {X : Type 0} (P : X → Type 0) (xs : List X) (first end : ℕ) → All P xs → All P (without_part xs first end)
All-without P xs first end all = All-append P (take first xs) (drop end xs) (All-take P first xs all) (All-drop P end xs all)

module _ {X : Type 0} (xs : List X) (first end : ℕ) (up : first ≤ end) (within : end ≤ length xs) where
  front_long : length (take first xs) ≡ first
  front_long = length-take-le first xs (omega (arith, up, within))

  -- how many are left
  pub length-without : length (without_part xs first end) + end ≡ length xs + first
  length-without = omega (arith, up, within, front_long, length-drop end xs, length-append (take first xs) (drop end xs))

  low : (k : ℕ) (d : X) → k < first → get_or (without_part xs first end) k d ≡ get_or xs k d
  low k d below = get_or_append_left (take first xs) (drop end xs) d k (omega (arith, below, front_long)) ∙ get_or-take first xs k d below

  high : (k : ℕ) (d : X) → first ≤ k → get_or (without_part xs first end) k d ≡ get_or xs (end + (k - first)) d
  high k d above = get_or-append_right (take first xs) (drop end xs) first k d front_long above ∙ get_or-drop end xs (k - first) d

  -- and what is so of each and each later one
  pub AllPairs-without : (R : X → X → Type 0) → AllPairs R xs → AllPairs R (without_part xs first end)
  AllPairs-without R all i j d before inside =
      let long = length-without in
      elim (cases_lt i first) [
        | inl i_low ↦ elim (cases_lt j first) [
          | inl j_low ↦ subst (λ (p : X × X). R p.0 p.1) (λ t. (sym (low i d i_low) t, sym (low j d j_low) t)) (all i j d before (omega (arith, j_low, up, within)))
          | inr j_high ↦ subst (λ (p : X × X). R p.0 p.1) (λ t. (sym (low i d i_low) t, sym (high j d j_high) t)) (all i (end + (j - first)) d (omega (arith, i_low, j_high, up)) (omega (arith, inside, long, j_high)))
        ]
        | inr i_high ↦
            subst (λ (p : X × X). R p.0 p.1) (λ t. (sym (high i d i_high) t, sym (high j d (omega (arith, i_high, before))) t))
            (all (end + (i - first)) (end + (j - first)) d (omega (arith, before, i_high)) (omega (arith, inside, long, i_high, before)))
      ]

  -- their sum is at most the whole one
  pub sum_by-without : (f : X → ℕ) → sum_by f (without_part xs first end) ≤ sum_by f xs
  sum_by-without f =
      let rest : drop end xs ≡ drop (end - first) (drop first xs) = ap (λ n. drop n xs) (let same : end ≡ first + (end - first) = omega (arith, up) in same) ∙ sym (drop-drop (end - first) first xs) in
      let later : sum_by f (drop end xs) ≡ sum_by f (drop (end - first) (drop first xs)) = ap (sum_by f) rest in
      omega (arith, sum_by-append f (take first xs) (drop end xs), sum_by-take-drop f xs first, sum_by-take-drop f (drop first xs) (end - first), later)

-- what alone fails a test is filtered away: by induction on its place
pub filter_removes : {X : Type 0} (p : X → Bool) (xs : List X) (k : ℕ) (d : X) → k < length xs → p (get_or xs k d) ≡ false → ((i : ℕ) → i < length xs → i ≢ k → p (get_or xs i d) ≡ true) → filter p xs ≡ remove xs k
filter_removes p [] k d within gone stay = absurd (omega (arith, within))
filter_removes p (x ∷ xs) zero d within gone stay =
    ap (λ b. cond b (x ∷ filter p xs) (filter p xs)) gone ∙ filter_all p xs (All-from_get_or (λ y. p y ≡ true) xs d (λ i inside. stay (suc i) (omega (arith, inside)) (λ same. absurd (omega (arith, same)))))
filter_removes p (x ∷ xs) (suc k) d within gone stay =
    ap (λ b. cond b (x ∷ filter p xs) (filter p xs)) (stay 0 (omega arith) (λ same. absurd (omega (arith, same))))
    ∙ ap (λ ys. x ∷ ys) (filter_removes p xs k d (omega (arith, within)) gone (λ i inside other. stay (suc i) (omega (arith, inside)) (λ same. other (omega (arith, same)))))

-- what the others give is what all give without what the one gives
pub flat_map-remove : {X Y : Type 0} (f : X → List Y) (xs : List X) (k : ℕ) (d : X) → k < length xs
    → flat_map f (remove xs k) ≡ without_part (flat_map f xs) (length (flat_map f (take k xs))) (length (flat_map f (take k xs)) + length (f (get_or xs k d)))
flat_map-remove {X = X} {Y = Y} f xs k d within =
    let front : List Y = flat_map f (take k xs) in
    let here : List Y = f (get_or xs k d) in
    let later : List Y = flat_map f (drop (suc k) xs) in
    let split : xs ≡ take k xs ++ get_or xs k d ∷ drop (suc k) xs = sym (take-append-drop k xs) ∙ ap (λ ys. take k xs ++ ys) (drop-cons xs k d within) in
    let whole : flat_map f xs ≡ front ++ (here ++ later) = ap (flat_map f) split ∙ flat_map-append f (take k xs) (get_or xs k d ∷ drop (suc k) xs) ∙ ap (λ ys. front ++ ys) (flat_map-cons f (get_or xs k d) (drop (suc k) xs)) in
    let start : take (length front) (flat_map f xs) ≡ front = ap (take (length front)) whole ∙ take-append_seam front (here ++ later) in
    let end : drop (length front + length here) (flat_map f xs) ≡ later =
    ap (drop (length front + length here)) whole ∙ drop-append-add front (here ++ later) (length here) ∙ drop-append_seam here later in
    flat_map-append f (take k xs) (drop (suc k) xs) ∙ (λ t. sym start t ++ sym end t)

-- what is so of each other item is so of those that are left
pub remove_from : {X : Type 0} (P : X → Type 0) (xs : List X) (k : ℕ) (d : X) → k < length xs → ((i : ℕ) → i < length xs → i ≢ k → P (get_or xs i d)) → All P (remove xs k)
remove_from P xs k d within each = All-from_get_or P (remove xs k) d (λ i inside. elim (cases_lt i k) [
  | inl before ↦ subst P (sym (get_or-remove_below xs k d i before within)) (each i (omega (arith, before, within)) (λ same. absurd (omega (arith, same, before))))
  | inr past ↦ (let long = length-remove xs k within in subst P (sym (get_or-remove_above xs k d i past within)) (each (i + 1) (omega (arith, inside, long)) (λ same. absurd (omega (arith, same, past)))))
])

-- each other item is left
pub remove_has : {X : Type 0} (xs : List X) (k : ℕ) (d : X) → k < length xs → (i : ℕ) → i < length xs → i ≢ k → Contains (remove xs k) (get_or xs i d)
remove_has xs k d within i inside other =
    let long = length-remove xs k within in
    elim (cases_lt i k) [
      | inl before ↦ subst (Contains (remove xs k)) (get_or-remove_below xs k d i before within) (Contains-get_or (remove xs k) i d (omega (arith, before, long, within)))
      | inr past ↦
          let above : k < i = elim (cases_lt k i) [ inl less ↦ less | inr equal ↦ absurd (other (omega (arith, past, equal))) ] in
          let back : i - 1 + 1 ≡ i = omega (arith, above) in
          subst (Contains (remove xs k)) (get_or-remove_above xs k d (i - 1) (omega (arith, above)) within ∙ ap (λ n. get_or xs n d) back) (Contains-get_or (remove xs k) (i - 1) d (omega (arith, inside, long, above)))
    ]
