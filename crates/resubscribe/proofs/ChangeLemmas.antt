-- The order of queries, where one more is added, and where one that none reads leaves.
use Rattle.std.proofs.Common.{◌≡◌, ◌≢◌, ◌∙◌, ℕ, suc, ◌+◌, ◌<◌, ◌≤◌, List, [], ◌∷◌, ◌++◌, Bool, true, false, not, ◌&&◌, ◌||◌, cond, length, get_or, map, refl, sym, ap, subst, inl, inr, arith}
use Rattle.std.specs.Prelude.{◌==◌, Some, None, nat_lt, remove}
use Rattle.std.specs.List.{All, filter, list_all}
use Rattle.std.proofs.lemmas.Bool.{cases_Bool, cases_eq, cases_lt, or_parts}
use Rattle.std.proofs.lemmas.Bool.Decides.{nat_tests}
use Rattle.std.proofs.lemmas.List.{get_or_append_left, get_or-map, length-map, length_push}
use Rattle.std.proofs.lemmas.List.Edits.{get_or-remove_above, get_or-remove_below, length-remove}
use Rattle.event_types.proofs.NumberLemmas.{self_equal, is_other}
use Rattle.resubscribe.specs.Laws.{AddedComesLast, HasEachOnce, LeavingKeepsOrder, number_without, order_without, reads_without}
use Rattle.resubscribe.specs.Order.{IsOrder, TakesQuery, first_ready, is_among, is_ready, is_untaken, reads_of}
use Rattle.resubscribe.proofs.AmongLemmas.{among-from_Contains, among-kept, among-pushed, Contains-from_among}
use Rattle.resubscribe.proofs.FindLemmas.{find-none, find-some, found_below}
use Rattle.resubscribe.proofs.OrderLemmas.{HasEachOnce-order}
use Rattle.resubscribe.proofs.TakeLemmas.{Takes-push}

-- what was put last
last-there : (xs : List (List ℕ)) (x : List ℕ) → get_or (xs ++ x ∷ []) (length xs) [] ≡ x
last-there [] x = refl
last-there (y ∷ xs) x = last-there xs x

-- two tests that differ
true-or-false : (b : Bool) → b ≡ true → b ≡ false → ⊥
true-or-false true t f = cc
true-or-false false t f = cc

-- what isn't untaken was taken
taken-from : (b : Bool) → not b ≡ false → b ≡ true
taken-from true e = refl
taken-from false e = cc

-- a list whose items all pass
all-pass : (p : ℕ → Bool) (xs : List ℕ) → All (λ x. p x ≡ true) xs → list_all p xs ≡ true
all-pass p [] all = refl
all-pass p (x ∷ xs) all = ap (λ b. b && list_all p xs) (all 0 0 (omega arith)) ∙ all-pass p xs (λ k d less. all (suc k) d (omega (arith, less)))

module _ (reads : List (List ℕ)) (numbers : List ℕ) where
  abbrev more : List (List ℕ)
  more = reads ++ numbers ∷ []

  many : length more ≡ length reads + 1
  many = length_push reads numbers

  -- the others are ready as before
  ready-more : (taken : List ℕ) (k : ℕ) → k < length reads → is_ready more taken k ≡ is_ready reads taken k
  ready-more taken k less = ap (λ rs. is_untaken taken k && list_all (is_among taken) rs) (get_or_append_left reads (numbers ∷ []) [] k less)

  -- the first that was ready still is the first
  first-more : (taken : List ℕ) (q : ℕ) → first_ready reads taken ≡ Some q → first_ready more taken ≡ Some q
  first-more taken q e =
      let first = found_below (is_ready reads taken) (length reads) (Some q) e in
      let small : q < length reads = first.1 in
      let long = many in
      find-some (is_ready more taken) 0 (length more) q (omega arith) (omega (arith, small, long)) (ready-more taken q small ∙ first.2)
      (λ k low less. ready-more taken k (omega (arith, less, small)) ∙ first.3 k low less)

  -- the queries are taken as before, by induction on those that are left
  takes-more : (taken later : List ℕ) → TakesQuery reads taken later → TakesQuery more taken later
  takes-more taken [] takes = tt
  takes-more taken (q ∷ later) takes = (first-more taken q takes.0, takes-more (taken ++ q ∷ []) later takes.1)

  module _ (order : List ℕ) (is_order : IsOrder reads order) (small : All (λ number. number < length reads) numbers) where
    once : HasEachOnce reads order
    once = HasEachOnce-order reads order is_order

    -- each of the others is taken in the end
    taken-all : (k : ℕ) → k < length reads → is_among order k ≡ true
    taken-all k less = among-from_Contains order k ((once.all k).1 less)

    -- the new one isn't
    not-yet : is_among order (length reads) ≡ false
    not-yet = elim (cases_Bool (is_among order (length reads))) [
      | inl there ↦ let less = (once.all (length reads)).0 (Contains-from_among order (length reads) there) in absurd (omega (arith, less))
      | inr absent ↦ absent
    ]

    -- then it is the first that is ready
    new-ready : is_ready more order (length reads) ≡ true
    new-ready =
        ap (λ b. not b && list_all (is_among order) (reads_of more (length reads))) not-yet
        ∙ ap (list_all (is_among order)) (last-there reads numbers)
        ∙ all-pass (is_among order) numbers (λ k d less. taken-all (get_or numbers k d) (small k d less))

    first-new : first_ready more order ≡ Some (length reads)
    first-new =
        let long = many in
        find-some (is_ready more order) 0 (length more) (length reads) (omega arith) (omega (arith, long)) new-ready
        (λ k low less. ready-more order k less ∙ ap (λ b. not b && list_all (is_among order) (reads_of reads k)) (taken-all k less))

    pub added-last : IsOrder more (order ++ length reads ∷ [])
    added-last = record {
      taken = Takes-push more [] order (length reads) (takes-more [] order is_order.taken) first-new;
      none_left =
          find-none (is_untaken (order ++ length reads ∷ [])) 0 (length more)
          (λ k low high. ap not (elim (cases_lt k (length reads)) [
            | inl less ↦ among-kept order (length reads) k (taken-all k less)
            | inr past ↦ let long = many in let same : k ≡ length reads = omega (arith, past, high, long) in subst (λ n. is_among (order ++ length reads ∷ []) n ≡ true) (sym same) (among-pushed order (length reads))
          ]));
    }

-- the number that a query had before one left
abbrev number_before : ℕ → ℕ → ℕ
number_before gone query = cond (nat_lt query gone) query (query + 1)

back : (gone k : ℕ) → number_without gone (number_before gone k) ≡ k
back gone k = grind (arith, nat_tests)

before-other : (gone k : ℕ) → number_before gone k ≢ gone
before-other gone k = grind (arith, nat_tests)

before-below : (gone k : ℕ) → k < gone → number_before gone k ≡ k
before-below gone k less = grind (arith, nat_tests)

before-above : (gone k : ℕ) → gone ≤ k → number_before gone k ≡ k + 1
before-above gone k past = grind (arith, nat_tests)

before-less : (gone q k : ℕ) → q ≢ gone → k < number_without gone q → number_before gone k < q
before-less gone q k other less = grind (arith, nat_tests)

before-small : (gone k n : ℕ) → gone < n + 1 → k < n → number_before gone k < n + 1
before-small gone k n low less = grind (arith, nat_tests)

without-small : (gone q n : ℕ) → q ≢ gone → gone < n + 1 → q < n + 1 → number_without gone q < n
without-small gone q n other low less = grind (arith, nat_tests)

without-apart : (gone x y : ℕ) → x ≢ gone → y ≢ gone → number_without gone x ≡ number_without gone y → x ≡ y
without-apart gone x y not_x not_y same = grind (arith, nat_tests)

before-same : (gone q : ℕ) → q ≢ gone → number_before gone (number_without gone q) ≡ q
before-same gone q other = grind (arith, nat_tests)

-- two of the others are the same exactly where they were
same-test : (gone x y : ℕ) → x ≢ gone → y ≢ gone → (number_without gone x == number_without gone y) ≡ (x == y)
same-test gone x y not_x not_y = elim (cases_eq x y) [
  | inl same ↦ rw same (self_equal (number_without gone y) ∙ sym (self_equal y))
  | inr other ↦ is_other (number_without gone x) (number_without gone y) (λ same. other (without-apart gone x y not_x not_y same)) ∙ sym (is_other x y other)
]

module _ (gone : ℕ) where
  -- the one that left, in front
  head-gone : (q : ℕ) (queries : List ℕ) → q ≡ gone → order_without gone (q ∷ queries) ≡ order_without gone queries
  head-gone q queries same = ap (λ b. map (number_without gone) (cond (not b) (q ∷ filter (λ query. not (query == gone)) queries) (filter (λ query. not (query == gone)) queries))) (subst (λ n. (n == gone) ≡ true) (sym same) (self_equal gone))

  -- another one in front
  head-other : (q : ℕ) (queries : List ℕ) → q ≢ gone → order_without gone (q ∷ queries) ≡ number_without gone q ∷ order_without gone queries
  head-other q queries other = ap (λ b. map (number_without gone) (cond (not b) (q ∷ filter (λ query. not (query == gone)) queries) (filter (λ query. not (query == gone)) queries))) (is_other q gone other)

  -- the one that left, at the end
  push-gone : (queries : List ℕ) (q : ℕ) → q ≡ gone → order_without gone (queries ++ q ∷ []) ≡ order_without gone queries
  push-gone [] q same = head-gone q [] same
  push-gone (x ∷ queries) q same = elim (cases_eq x gone) [
    | inl left ↦ head-gone x (queries ++ q ∷ []) left ∙ push-gone queries q same ∙ sym (head-gone x queries left)
    | inr stays ↦ head-other x (queries ++ q ∷ []) stays ∙ ap (λ qs. number_without gone x ∷ qs) (push-gone queries q same) ∙ sym (head-other x queries stays)
  ]

  -- another one at the end
  push-other : (queries : List ℕ) (q : ℕ) → q ≢ gone → order_without gone (queries ++ q ∷ []) ≡ order_without gone queries ++ number_without gone q ∷ []
  push-other [] q other = head-other q [] other
  push-other (x ∷ queries) q other = elim (cases_eq x gone) [
    | inl left ↦ head-gone x (queries ++ q ∷ []) left ∙ push-other queries q other ∙ ap (λ qs. qs ++ number_without gone q ∷ []) (sym (head-gone x queries left))
    | inr stays ↦ head-other x (queries ++ q ∷ []) stays ∙ ap (λ qs. number_without gone x ∷ qs) (push-other queries q other) ∙ ap (λ qs. qs ++ number_without gone q ∷ []) (sym (head-other x queries stays))
  ]

  -- another one is among the queries exactly where it was
  among-without : (queries : List ℕ) (x : ℕ) → x ≢ gone → is_among (order_without gone queries) (number_without gone x) ≡ is_among queries x
  among-without [] x not_x = refl
  among-without (y ∷ queries) x not_x = elim (cases_eq y gone) [
    | inl left ↦
        ap (λ qs. is_among qs (number_without gone x)) (head-gone y queries left) ∙ among-without queries x not_x
        ∙ ap (λ b. b || is_among queries x) (sym (is_other x y (λ same. not_x (same ∙ left))))
    | inr stays ↦
        ap (λ qs. is_among qs (number_without gone x)) (head-other y queries stays)
        ∙ ap (λ b. b || is_among (order_without gone queries) (number_without gone x)) (same-test gone x y not_x stays)
        ∙ ap (λ b. (x == y) || b) (among-without queries x not_x)
  ]

  -- numbers without the one that left are all taken exactly where they were
  all-without : (taken numbers : List ℕ) → is_among numbers gone ≡ false → list_all (is_among (order_without gone taken)) (map (number_without gone) numbers) ≡ list_all (is_among taken) numbers
  all-without taken [] absent = refl
  all-without taken (x ∷ numbers) absent =
      let parts = or_parts (gone == x) (is_among numbers gone) absent in
      let other : x ≢ gone = (λ same. true-or-false (gone == x) (subst (λ n. (gone == n) ≡ true) (sym same) (self_equal gone)) parts.0) in
      ap (λ b. b && list_all (is_among (order_without gone taken)) (map (number_without gone) numbers)) (among-without taken x other)
      ∙ ap (λ b. is_among taken x && b) (all-without taken numbers parts.1)

  module _ (reads : List (List ℕ)) (low : gone < length reads) (unread : All (λ numbers. is_among numbers gone ≡ false) reads) where
    abbrev fewer : List (List ℕ)
    fewer = reads_without gone reads

    many-fewer : length fewer + 1 ≡ length reads
    many-fewer = ap (λ n. n + 1) (length-map (remove reads gone) (map (number_without gone))) ∙ length-remove reads gone low

    small-before : (k : ℕ) → k < length fewer → number_before gone k < length reads
    small-before k less = let n = many-fewer in subst (λ m. number_before gone k < m) n (before-small gone k (length fewer) (omega (arith, low, n)) less)

    -- what a query reads
    reads-before : (k : ℕ) → k < length fewer → reads_of fewer k ≡ map (number_without gone) (reads_of reads (number_before gone k))
    reads-before k less =
        let inside : k < length (remove reads gone) = subst (λ n. k < n) (length-map (remove reads gone) (map (number_without gone))) less in
        get_or-map (map (number_without gone)) (remove reads gone) k [] [] inside
        ∙ ap (map (number_without gone)) (elim (cases_lt k gone) [
          | inl below ↦ get_or-remove_below reads gone [] k below low ∙ ap (reads_of reads) (sym (before-below gone k below))
          | inr above ↦ get_or-remove_above reads gone [] k above low ∙ ap (reads_of reads) (sym (before-above gone k above))
        ])

    -- it is taken exactly where it was
    taken-before : (taken : List ℕ) (k : ℕ) → is_among (order_without gone taken) k ≡ is_among taken (number_before gone k)
    taken-before taken k =
        ap (is_among (order_without gone taken)) (sym (back gone k)) ∙ among-without taken (number_before gone k) (before-other gone k)

    -- and ready exactly where it was
    ready-before : (taken : List ℕ) (k : ℕ) → k < length fewer → is_ready fewer (order_without gone taken) k ≡ is_ready reads taken (number_before gone k)
    ready-before taken k less =
        ap (λ b. not b && list_all (is_among (order_without gone taken)) (reads_of fewer k)) (taken-before taken k)
        ∙ ap (λ rs. is_untaken taken (number_before gone k) && list_all (is_among (order_without gone taken)) rs) (reads-before k less)
        ∙ ap (λ b. is_untaken taken (number_before gone k) && b) (all-without taken (reads_of reads (number_before gone k)) (unread (number_before gone k) [] (small-before k less)))

    -- the first that is ready is the same
    first-before : (taken : List ℕ) (q : ℕ) → q ≢ gone → first_ready reads taken ≡ Some q → first_ready fewer (order_without gone taken) ≡ Some (number_without gone q)
    first-before taken q other e =
        let first = found_below (is_ready reads taken) (length reads) (Some q) e in
        let n = many-fewer in
        let small : q < length reads = first.1 in
        let within : number_without gone q < length fewer = without-small gone q (length fewer) other (omega (arith, low, n)) (omega (arith, small, n)) in
        find-some (is_ready fewer (order_without gone taken)) 0 (length fewer) (number_without gone q) (omega arith) (omega (arith, within))
        (ready-before taken (number_without gone q) within ∙ ap (is_ready reads taken) (before-same gone q other) ∙ first.2)
        (λ k above less. ready-before taken k (omega (arith, less, within)) ∙ first.3 (number_before gone k) (omega arith) (before-less gone q k other less))

    -- the others are taken as before, by induction on those that are left
    takes-before : (taken later : List ℕ) → TakesQuery reads taken later → TakesQuery fewer (order_without gone taken) (order_without gone later)
    takes-before taken [] takes = tt
    takes-before taken (q ∷ later) takes = elim (cases_eq q gone) [
      | inl same ↦
          subst (TakesQuery fewer (order_without gone taken)) (sym (head-gone q later same))
          (subst (λ qs. TakesQuery fewer qs (order_without gone later)) (push-gone taken q same) (takes-before (taken ++ q ∷ []) later takes.1))
      | inr other ↦
          subst (TakesQuery fewer (order_without gone taken)) (sym (head-other q later other))
          (first-before taken q other takes.0, subst (λ qs. TakesQuery fewer qs (order_without gone later)) (push-other taken q other) (takes-before (taken ++ q ∷ []) later takes.1))
    ]

    pub left-in_order : (order : List ℕ) → IsOrder reads order → IsOrder fewer (order_without gone order)
    left-in_order order is_order = record {
      taken = takes-before [] order is_order.taken;
      none_left =
          find-none (is_untaken (order_without gone order)) 0 (length fewer)
          (λ k above high.
          let less : k < length fewer = omega (arith, high) in
          ap not (taken-before order k) ∙ found_below (is_untaken order) (length reads) None is_order.none_left (number_before gone k) (omega arith) (small-before k less));
    }

-- a query that is added comes last
pub added_comes_last : AddedComesLast
added_comes_last reads order numbers small is_order = added-last reads numbers order is_order small

-- a query that none reads leaves the others in their order
pub leaving_keeps_order : LeavingKeepsOrder
leaving_keeps_order reads order gone low unread is_order = left-in_order gone reads low unread order is_order
