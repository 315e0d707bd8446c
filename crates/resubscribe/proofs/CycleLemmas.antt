-- What follows of a cycle: it is the only one, there is no order, and its queries read one another in a circle.
use Rattle.std.proofs.Common.{◌≡◌, ◌≢◌, ◌∙◌, ℕ, zero, suc, ◌+◌, ◌<◌, ◌≤◌, List, [], ◌∷◌, ◌++◌, Bool, cond, length, get_or, refl, sym, ap, subst, inl, inr, arith, append_assoc, length-append}
use Rattle.std.specs.Prelude.{Some, None, slice_get, AllPairs, Contains}
use Rattle.std.specs.List.{find}
use Rattle.std.proofs.lemmas.Bool.{cases_Bool, cases_lt}
use Rattle.std.proofs.lemmas.List.{get_or_default, get_or_append_left, get_or_at, get_or_push, length_push, same_from_push, ext_get_or}
use Rattle.resubscribe.specs.Cycle.{IsCycle, Walks, untaken_read}
use Rattle.resubscribe.specs.Laws.{EachReadsNext, ReadsInCircle}
use Rattle.resubscribe.specs.Order.{IsOrder, first_untaken, is_untaken, reads_of}
use Rattle.resubscribe.proofs.WalkLemmas.{front-nonempty}
use Rattle.resubscribe.proofs.OrderLemmas.{none_ready-from_none_left, taken_same}

-- what is found is among the numbers
pub find-Contains : (p : ℕ → Bool) (xs : List ℕ) (q : ℕ) → find p xs ≡ Some q → Contains xs q
find-Contains p [] q e = cc
find-Contains p (x ∷ xs) q e = elim (cases_Bool (p x)) [
  | inl hit ↦ let here : Some x ≡ Some q = sym (ap (λ b. cond b (Some x) (find p xs)) hit) ∙ e in (0, omega arith, cc)
  | inr miss ↦ let later : Contains xs q = find-Contains p xs q (sym (ap (λ b. cond b (Some x) (find p xs)) miss) ∙ e) in (suc later.0, omega arith, later.2)
]

-- a walk from a later query on
Walks-drop : (reads : List (List ℕ)) (taken before : List ℕ) (q : ℕ) (xs : List ℕ) → Walks reads taken (before ++ q ∷ xs) → Walks reads taken (q ∷ xs)
Walks-drop reads taken [] q xs walks = walks
Walks-drop reads taken (x ∷ []) q xs walks = walks.1
Walks-drop reads taken (x ∷ y ∷ before) q xs walks = Walks-drop reads taken (y ∷ before) q xs walks.1

circle : (reads : List (List ℕ)) (taken : List ℕ) (q : ℕ) (xs : List ℕ) (first : ℕ) → Walks reads taken ((q ∷ xs) ++ first ∷ []) → EachReadsNext reads (q ∷ xs) first
circle reads taken q [] first walks = find-Contains (is_untaken taken) (reads_of reads q) first walks.0
circle reads taken q (x ∷ xs) first walks = (find-Contains (is_untaken taken) (reads_of reads q) x walks.0, circle reads taken x xs first walks.1)

-- each query of a cycle reads the next, and the last reads the first
pub ReadsInCircle-cycle : (reads : List (List ℕ)) (cycle : List ℕ) → IsCycle reads cycle → ReadsInCircle reads cycle
ReadsInCircle-cycle reads cycle is_cycle =
    let walks : Walks reads is_cycle.taken ((is_cycle.repeated ∷ is_cycle.between) ++ is_cycle.repeated ∷ []) =
    Walks-drop reads is_cycle.taken is_cycle.before is_cycle.repeated (is_cycle.between ++ is_cycle.repeated ∷ [])
    (subst (λ (zs : List ℕ). Walks reads is_cycle.taken zs) (append_assoc is_cycle.before (is_cycle.repeated ∷ is_cycle.between) (is_cycle.repeated ∷ [])) is_cycle.walks) in
    subst (λ (zs : List ℕ). ReadsInCircle reads zs) (sym is_cycle.is_rest) (omega arith, circle reads is_cycle.taken is_cycle.repeated is_cycle.between is_cycle.repeated walks)

-- two walks from one query agree as far as both go
walks_agree : (reads : List (List ℕ)) (taken xs ys : List ℕ) → Walks reads taken xs → Walks reads taken ys → slice_get xs 0 ≡ slice_get ys 0 → (k : ℕ) → k < length xs → k < length ys → get_or xs k 0 ≡ get_or ys k 0
walks_agree reads taken [] ys h g e k low high = absurd (omega arith)
walks_agree reads taken (x ∷ xs) [] h g e k low high = absurd (omega arith)
walks_agree reads taken (x ∷ xs) (y ∷ ys) h g e zero low high = cc
walks_agree reads taken (x ∷ []) (y ∷ ys) h g e (suc k) low high = absurd (omega arith)
walks_agree reads taken (x ∷ z ∷ xs) (y ∷ []) h g e (suc k) low high = absurd (omega arith)
walks_agree reads taken (x ∷ z ∷ xs) (y ∷ w ∷ ys) h g e (suc k) low high =
    let same : x ≡ y = cc in
    let next : Some z ≡ Some w = sym h.0 ∙ ap (untaken_read reads taken) same ∙ g.0 in
    walks_agree reads taken (z ∷ xs) (w ∷ ys) h.1 g.1 next k (omega arith) (omega arith)

-- a walk that comes to one of its queries again doesn't go on
not_shorter : (reads : List (List ℕ)) (taken xs ys : List ℕ) (q r : ℕ) → Walks reads taken (xs ++ q ∷ []) → Walks reads taken (ys ++ r ∷ []) → slice_get (xs ++ q ∷ []) 0 ≡ slice_get (ys ++ r ∷ []) 0
    → Contains xs q → AllPairs (λ x y. x ≢ y) ys → length xs < length ys → ⊥
not_shorter reads taken xs ys q r h g e (j, within, here) distinct less =
    let long_xs : length (xs ++ q ∷ []) ≡ length xs + 1 = length_push xs q in
    let long_ys : length (ys ++ r ∷ []) ≡ length ys + 1 = length_push ys r in
    let last : get_or (xs ++ q ∷ []) (length xs) 0 ≡ get_or (ys ++ r ∷ []) (length xs) 0 = walks_agree reads taken (xs ++ q ∷ []) (ys ++ r ∷ []) h g e (length xs) (omega arith) (omega arith) in
    let first : get_or (xs ++ q ∷ []) j 0 ≡ get_or (ys ++ r ∷ []) j 0 = walks_agree reads taken (xs ++ q ∷ []) (ys ++ r ∷ []) h g e j (omega arith) (omega arith) in
    let at_last : get_or ys (length xs) 0 ≡ q = sym (get_or_append_left ys (r ∷ []) 0 (length xs) less) ∙ sym last ∙ get_or_push xs q 0 (length xs) refl in
    let at_first : get_or ys j 0 ≡ q = sym (get_or_append_left ys (r ∷ []) 0 j (omega arith)) ∙ sym first ∙ get_or_append_left xs (q ∷ []) 0 j within ∙ get_or_default xs j 0 q within ∙ here in
    distinct j (length xs) 0 within less (at_first ∙ sym at_last)

-- two such walks are one
walks_same : (reads : List (List ℕ)) (taken xs ys : List ℕ) (q r : ℕ) → Walks reads taken (xs ++ q ∷ []) → Walks reads taken (ys ++ r ∷ []) → slice_get (xs ++ q ∷ []) 0 ≡ slice_get (ys ++ r ∷ []) 0
    → Contains xs q → Contains ys r → AllPairs (λ x y. x ≢ y) xs → AllPairs (λ x y. x ≢ y) ys → (xs ≡ ys) × (q ≡ r)
walks_same reads taken xs ys q r h g e has_q has_r distinct_xs distinct_ys =
    let long_xs : length (xs ++ q ∷ []) ≡ length xs + 1 = length_push xs q in
    let long_ys : length (ys ++ r ∷ []) ≡ length ys + 1 = length_push ys r in
    let le : length ys ≤ length xs = elim (cases_lt (length xs) (length ys)) [ inl less ↦ absurd (not_shorter reads taken xs ys q r h g e has_q distinct_ys less) | inr more ↦ more ] in
    let ge : length xs ≤ length ys = elim (cases_lt (length ys) (length xs)) [ inl less ↦ absurd (not_shorter reads taken ys xs r q g h (sym e) has_r distinct_xs less) | inr more ↦ more ] in
    let whole : xs ++ q ∷ [] ≡ ys ++ r ∷ [] = ext_get_or 0 (xs ++ q ∷ []) (ys ++ r ∷ []) (omega arith) (λ k within. walks_agree reads taken (xs ++ q ∷ []) (ys ++ r ∷ []) h g e k within (omega arith)) in
    same_from_push xs ys q r whole

-- distinct numbers are cut at a number in one way
cut_same : (before before' between between' : List ℕ) (q : ℕ) → before ++ q ∷ between ≡ before' ++ q ∷ between' → AllPairs (λ x y. x ≢ y) (before ++ q ∷ between) → between ≡ between'
cut_same [] [] between between' q e distinct = cc
cut_same [] (y ∷ before') between between' q e distinct =
    let tail : between ≡ before' ++ q ∷ between' = cc in
    let long : length between ≡ length before' + suc (length between') = ap length tail ∙ length-append before' (q ∷ between') in
    absurd (distinct 0 (suc (length before')) 0 (omega arith) (omega arith) (sym (ap (λ zs. get_or zs (length before') 0) tail ∙ get_or_at before' q between' 0 (length before') refl)))
cut_same (x ∷ before) [] between between' q e distinct =
    let same : x ≡ q = cc in
    let long : length (before ++ q ∷ between) ≡ length before + suc (length between) = length-append before (q ∷ between) in
    absurd (distinct 0 (suc (length before)) 0 (omega arith) (omega arith) (same ∙ sym (get_or_at before q between 0 (length before) refl)))
cut_same (x ∷ before) (y ∷ before') between between' q e distinct =
    let rest : before ++ q ∷ between ≡ before' ++ q ∷ between' = cc in
    let later : AllPairs (λ x y. x ≢ y) (before ++ q ∷ between) = λ i j d less within. distinct (suc i) (suc j) d (omega arith) (omega arith) in
    cut_same before before' between between' q rest later

-- the repeated query stands in its walk
repeated_there : (before between : List ℕ) (q : ℕ) → Contains (before ++ q ∷ between) q
repeated_there before between q =
    let long : length (before ++ q ∷ between) ≡ length before + suc (length between) = length-append before (q ∷ between) in
    (length before, omega arith, get_or_at before q between q (length before) refl)

-- the parts of two cycles of the same queries
cycles_same : (reads : List (List ℕ)) (cycle other : List ℕ) (h : IsCycle reads cycle) (k : IsCycle reads other) → h.taken ≡ k.taken → cycle ≡ other
cycles_same reads cycle other h k taken =
    let walks : Walks reads h.taken ((k.before ++ k.repeated ∷ k.between) ++ k.repeated ∷ []) = subst (λ (zs : List ℕ). Walks reads zs ((k.before ++ k.repeated ∷ k.between) ++ k.repeated ∷ [])) (sym taken) k.walks in
    let front : slice_get ((h.before ++ h.repeated ∷ h.between) ++ h.repeated ∷ []) 0 ≡ slice_get ((k.before ++ k.repeated ∷ k.between) ++ k.repeated ∷ []) 0 =
    front-nonempty h.before h.between h.repeated h.repeated ∙ sym h.begins ∙ ap (first_untaken reads) taken ∙ k.begins ∙ sym (front-nonempty k.before k.between k.repeated k.repeated) in
    let same : ((h.before ++ h.repeated ∷ h.between) ≡ (k.before ++ k.repeated ∷ k.between)) × (h.repeated ≡ k.repeated) =
    walks_same reads h.taken (h.before ++ h.repeated ∷ h.between) (k.before ++ k.repeated ∷ k.between) h.repeated k.repeated h.walks walks front
    (repeated_there h.before h.between h.repeated) (repeated_there k.before k.between k.repeated) h.all_new k.all_new in
    let between : h.between ≡ k.between = cut_same h.before k.before h.between k.between h.repeated (same.0 ∙ ap (λ q. k.before ++ q ∷ k.between) (sym same.1)) h.all_new in
    h.is_rest ∙ ap (λ zs. h.repeated ∷ zs) between ∙ ap (λ q. q ∷ k.between) same.1 ∙ sym k.is_rest

-- queries have one cycle
pub one_cycle : (reads : List (List ℕ)) (cycle other : List ℕ) → IsCycle reads cycle → IsCycle reads other → cycle ≡ other
one_cycle reads cycle other h k = cycles_same reads cycle other h k (taken_same reads [] h.taken k.taken h.takes h.none_ready k.takes k.none_ready)

begins_somewhere : (before between : List ℕ) (q : ℕ) → slice_get (before ++ q ∷ between) 0 ≡ None → ⊥
begins_somewhere [] between q e = cc
begins_somewhere (x ∷ before) between q e = cc

-- they don't have an order and a cycle
pub not_both : (reads : List (List ℕ)) (order cycle : List ℕ) → IsOrder reads order → ¬ IsCycle reads cycle
not_both reads order cycle h k =
    let taken : order ≡ k.taken = taken_same reads [] order k.taken h.taken (none_ready-from_none_left reads order h.none_left) k.takes k.none_ready in
    begins_somewhere k.before k.between k.repeated (sym k.begins ∙ ap (first_untaken reads) (sym taken) ∙ h.none_left)
