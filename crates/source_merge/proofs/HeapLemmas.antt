-- Held events in a heap, and in their order.
use Rattle.std.proofs.Common.{◌≡◌, ◌∙◌, sym, ap, refl, subst, ℕ, ◌+◌, ◌<◌, length, Bool, true, false, cond, List, [], ◌∷◌, Some, slice_get, get_or, arith}
use Rattle.std.specs.Prelude.{nat_eq, IsPermutation}
use Rattle.std.specs.declared.cmp.Ordering.{Ordering}
use Rattle.std.specs.declared.cmp.Ordering.TheVariants.{Less, Equal, Greater}
use Rattle.std.specs.BinaryHeap.{IsUpperBound}
use Rattle.std.specs.Cmp.{IsTotalOrder}
use Rattle.std.specs.List.{All, AllByRecursion, IsDistinct}
use Rattle.std.specs.Ordering.{is_gt, is_lt, nat_cmp, on, ordering_reverse, ordering_then, then_cmp}
use Rattle.std.proofs.lemmas.Bool.{cond-false, eq-eqb, eqb-false, eqb-true, ne_eqb}
use Rattle.std.proofs.lemmas.Cmp.{nat_cmp_total, on_total, then_total}
use Rattle.std.proofs.lemmas.List.Elements.{All-cons, All-head, All-nil, All-tail, All-weaker}
use Rattle.std.proofs.lemmas.List.Sorted.{All-permutation, IsPermutation-map, IsPermutation-sym}
use Rattle.std.proofs.lemmas.Map.Keys.{IsDistinct-IsPermutation, IsDistinct-cons, IsDistinct-head, IsDistinct-tail}
use Rattle.std.proofs.lemmas.Map.Lookups.{CmpEqualImpliesEq, exact_unsigned}
use Rattle.event_types.specs.Order.{put, sort_by, tuple_cmp}
use Rattle.event_types.specs.OrderLaws.{tuple_exact, tuple_total}
use Rattle.event_types.proofs.SortLemmas.{sort_permuted, sort_permutes}
use Rattle.event_csv.specs.declared.event.Seen.{Seen}
use Rattle.source_merge.specs.declared.held.Held.{Held}
use Rattle.source_merge.specs.declared.rank.Rank.{Rank}
use Rattle.source_merge.specs.Held.{held_cmp, listed, places_in, taken_of}
use Rattle.source_merge.specs.Ranks.{Taken, in_order, rank_cmp, rank_total, taken_cmp}
use Rattle.source_merge.proofs.RankLemmas.{one_place}

-- events of one rank by their streams and tuples, so that only equal ones tie
abbrev seen_cmp : Seen → Seen → Ordering
seen_cmp = then_cmp (on (λ s. s.stream) nat_cmp) (on (λ s. s.tuple) tuple_cmp)

abbrev exact_cmp : Taken → Taken → Ordering
exact_cmp = then_cmp taken_cmp (on (λ t. t.1) seen_cmp)

exact_total : IsTotalOrder exact_cmp
exact_total = then_total (on_total (λ t. t.0) rank_total) (on_total (λ t. t.1) (then_total (on_total (λ s. s.stream) nat_cmp_total) (on_total (λ s. s.tuple) tuple_total)))

taken_total : IsTotalOrder taken_cmp
taken_total = on_total (λ t. t.0) rank_total

-- both parts of a tie tie
both_tie : (a b : Ordering) → ordering_then a b ≡ Equal → (a ≡ Equal) × (b ≡ Equal)
both_tie Equal b e = (refl, e)
both_tie Less b e = absurd (apart e)
  where
    apart : Less ≡ Equal → ⊥
    apart h = cc
both_tie Greater b e = absurd (apart e)
  where
    apart : Greater ≡ Equal → ⊥
    apart h = cc

rank_exact : (x y : Rank) → rank_cmp x y ≡ Equal → x ≡ y
rank_exact x y tied =
    let times = both_tie (nat_cmp x.at y.at) (ordering_then (nat_cmp x.file y.file) (nat_cmp x.place y.place)) tied in
    let rest = both_tie (nat_cmp x.file y.file) (nat_cmp x.place y.place) times.1 in
    let at = exact_unsigned x.at y.at times.0 in
    let file = exact_unsigned x.file y.file rest.0 in
    let place = exact_unsigned x.place y.place rest.1 in
    λ i. record { at = at i; file = file i; place = place i }

seen_exact : (x y : Seen) → seen_cmp x y ≡ Equal → x ≡ y
seen_exact x y tied =
    let parts = both_tie (nat_cmp x.stream y.stream) (tuple_cmp x.tuple y.tuple) tied in
    let stream = exact_unsigned x.stream y.stream parts.0 in
    let tuple = tuple_exact x.tuple y.tuple parts.1 in
    λ i. record { stream = stream i; tuple = tuple i }

exact : CmpEqualImpliesEq exact_cmp
exact x y tied =
    let parts = both_tie (rank_cmp x.0 y.0) (seen_cmp x.1 y.1) tied in
    let rank = rank_exact x.0 y.0 parts.0 in
    let seen = seen_exact x.1 y.1 parts.1 in
    λ i. (rank i, seen i)

-- an event has another place than these
abbrev IsApart : Taken → List Taken → Type 0
IsApart t ts = All (λ u. nat_eq t.0.place u.0.place ≡ false) ts

-- among events of other places both orders put an event alike
put_alike : (t : Taken) (ts : List Taken) → IsApart t ts → put taken_cmp t ts ≡ put exact_cmp t ts
put_alike t [] apart = refl
put_alike t (u ∷ ts) apart = go (put_alike t ts (All-tail (λ u. nat_eq t.0.place u.0.place ≡ false) u ts apart)) (rank_cmp t.0 u.0) refl
  where
    go : put taken_cmp t ts ≡ put exact_cmp t ts → (o : Ordering) → rank_cmp t.0 u.0 ≡ o
        → cond (is_gt o) (u ∷ put taken_cmp t ts) (t ∷ u ∷ ts) ≡ cond (is_gt (ordering_then o (seen_cmp t.1 u.1))) (u ∷ put exact_cmp t ts) (t ∷ u ∷ ts)
    go rest Less e = refl
    go rest Greater e = ap (λ more. u ∷ more) rest
    go rest Equal e = absurd (eqb-false t.0.place u.0.place (All-head (λ u. nat_eq t.0.place u.0.place ≡ false) u ts apart) (one_place t.0 u.0 e))

apart_from : (t : Taken) (ts : List Taken) → AllByRecursion (λ place. nat_eq t.0.place place ≡ false) (places_in ts) → IsApart t ts
apart_from t [] apart = All-nil _
apart_from t (u ∷ ts) apart = All-cons (λ u. nat_eq t.0.place u.0.place ≡ false) u ts apart.0 (apart_from t ts apart.1)

sort_alike : (ts : List Taken) → IsDistinct nat_eq (places_in ts) → sort_by taken_cmp ts ≡ sort_by exact_cmp ts
sort_alike [] distinct = refl
sort_alike (t ∷ ts) distinct =
    ap (put taken_cmp t) (sort_alike ts (IsDistinct-tail nat_eq t.0.place (places_in ts) distinct))
    ∙ put_alike t (sort_by exact_cmp ts)
    (All-permutation (λ u. nat_eq t.0.place u.0.place ≡ false) ts (sort_by exact_cmp ts) (IsPermutation-sym _ _ (sort_permutes exact_cmp exact_total ts)) (apart_from t ts (IsDistinct-head nat_eq t.0.place (places_in ts) distinct)))

flips : (x y : ℕ) → nat_eq x y ≡ nat_eq y x
flips x y = go (nat_eq x y) refl
  where
    go : (b : Bool) → nat_eq x y ≡ b → nat_eq x y ≡ nat_eq y x
    go true e = e ∙ sym (eq-eqb y x (sym (eqb-true x y e)))
    go false e = e ∙ sym (ne_eqb y x (λ h. eqb-false x y e (sym h)))

-- places that differ stay so in another order
pub still_apart : (ts us : List Taken) → IsPermutation ts us → IsDistinct nat_eq (places_in ts) → IsDistinct nat_eq (places_in us)
still_apart ts us moved distinct = IsDistinct-IsPermutation nat_eq flips (places_in ts) (places_in us) (IsPermutation-map (λ t. t.0.place) ts us moved) distinct

-- events of different places have one order, in whatever order they come
in_one_order : (ts us : List Taken) → IsPermutation ts us → IsDistinct nat_eq (places_in ts) → in_order ts ≡ in_order us
in_one_order ts us moved distinct = sort_alike ts distinct ∙ sort_permuted exact_cmp exact_total exact ts us moved ∙ sym (sort_alike us (still_apart ts us moved distinct))

none_apart : IsDistinct nat_eq []
unfolding IsDistinct
none_apart = tt

-- where nothing is held, all places are below any count, and none is another's
pub nothing_before : (items : List Held) (count : ℕ) → items ≡ [] → All (λ t. t.0.place < count) (listed items)
nothing_before items count none = subst (λ (held : List Held). All (λ t. t.0.place < count) (listed held)) (sym none) (All-nil _)

pub nothing_apart : (items : List Held) → items ≡ [] → IsDistinct nat_eq (places_in (listed items))
nothing_apart items none = subst (λ (held : List Held). IsDistinct nat_eq (places_in (listed held))) (sym none) none_apart

-- the next event has another place than those before it
next_apart : (n : ℕ) (ts : List Taken) → All (λ t. t.0.place < n) ts → AllByRecursion (λ place. nat_eq n place ≡ false) (places_in ts)
next_apart n [] before = tt
next_apart n (t ∷ ts) before =
    (ne_eqb n t.0.place (λ h. let lt = All-head (λ t. t.0.place < n) t ts before in absurd (omega (arith, lt, h))), next_apart n ts (All-tail (λ t. t.0.place < n) t ts before))

pub apart_with_next : (held : Held) (items : List Held) → All (λ t. t.0.place < held.rank.place) (listed items) → IsDistinct nat_eq (places_in (listed items)) → IsDistinct nat_eq (places_in (listed (held ∷ items)))
apart_with_next held items before distinct = IsDistinct-cons nat_eq held.rank.place (places_in (listed items)) (next_apart held.rank.place (listed items) before) distinct

-- and so where it has come to the heap
pub places_pushed : (held : Held) (items new : List Held) → IsPermutation (held ∷ items) new → All (λ t. t.0.place < held.rank.place) (listed items) → IsDistinct nat_eq (places_in (listed items)) → IsDistinct nat_eq (places_in (listed new))
places_pushed held items new moved before distinct = still_apart (listed (held ∷ items)) (listed new) (IsPermutation-map taken_of (held ∷ items) new moved) (apart_with_next held items before distinct)

-- an event that comes to the heap is put in its place
pub pushed_is_put : (held : Held) (items new : List Held) → IsPermutation (held ∷ items) new → IsDistinct nat_eq (places_in (listed (held ∷ items))) → in_order (listed new) ≡ put taken_cmp (taken_of held) (in_order (listed items))
pushed_is_put held items new moved distinct = sym (in_one_order (listed (held ∷ items)) (listed new) (IsPermutation-map taken_of (held ∷ items) new moved) distinct)

lt_gt : (x y : Rank) → is_lt (rank_cmp y x) ≡ is_gt (rank_cmp x y)
lt_gt x y = ap is_lt (rank_total.antisymm y x) ∙ go (rank_cmp x y)
  where
    go : (o : Ordering) → is_lt (ordering_reverse o) ≡ is_gt o
    go Less = refl
    go Equal = refl
    go Greater = refl

-- none of these events stands before one
abbrev pub IsFirstOf : Held → List Held → Type 0
IsFirstOf held items = All (λ t. is_gt (taken_cmp (taken_of held) t) ≡ false) (listed items)

-- the greatest of a heap stands before all others
pub greatest_is_first : (held : Held) (items : List Held) → IsUpperBound held_cmp held items → IsFirstOf held items
greatest_is_first held [] bound = All-nil _
greatest_is_first held (other ∷ items) bound =
    All-cons (λ t. is_gt (taken_cmp (taken_of held) t) ≡ false) (taken_of other) (listed items) (sym (lt_gt held.rank other.rank) ∙ bound.0) (greatest_is_first held items bound.1)

put_first : (t : Taken) (ts : List Taken) → All (λ u. is_gt (taken_cmp t u) ≡ false) ts → put taken_cmp t ts ≡ t ∷ ts
put_first t [] first = refl
put_first t (u ∷ ts) first = cond-false (is_gt (taken_cmp t u)) (u ∷ put taken_cmp t ts) (t ∷ u ∷ ts) (All-head (λ u. is_gt (taken_cmp t u) ≡ false) u ts first)

-- the first event comes first in order
first_in_order : (held : Held) (items : List Held) → IsFirstOf held items → in_order (listed (held ∷ items)) ≡ taken_of held ∷ in_order (listed items)
first_in_order held items first =
    put_first (taken_of held) (in_order (listed items))
    (All-permutation (λ t. is_gt (taken_cmp (taken_of held) t) ≡ false) (listed items) (in_order (listed items)) (IsPermutation-sym _ _ (sort_permutes taken_cmp taken_total (listed items))) first)

-- the event that leaves the heap was the first in order
pub popped_is_first : (held : Held) (items rest : List Held) → IsPermutation items (held ∷ rest) → IsDistinct nat_eq (places_in (listed items)) → IsUpperBound held_cmp held rest → in_order (listed items) ≡ taken_of held ∷ in_order (listed rest)
popped_is_first held items rest moved distinct bound =
    in_one_order (listed items) (listed (held ∷ rest)) (IsPermutation-map taken_of items (held ∷ rest) moved) distinct ∙ first_in_order held rest (greatest_is_first held rest bound)

-- the event on top of the heap is the first in order
pub top_is_first : (held : Held) (items : List Held) → 0 < length items → held ≡ get_or items 0 held → IsUpperBound held_cmp held items → slice_get (in_order (listed items)) 0 ≡ Some (taken_of held)
top_is_first held [] some is bound = absurd (omega (arith, some))
top_is_first held (other ∷ items) some is bound =
    let first = subst (λ h. IsFirstOf h items) is (All-tail (λ t. is_gt (taken_cmp (taken_of held) t) ≡ false) (taken_of other) (listed items) (greatest_is_first held (other ∷ items) bound)) in
    ap (λ ts. slice_get ts 0) (first_in_order other items first) ∙ ap (λ h. Some (taken_of h)) (sym is)

-- places below the count stay below the next one
pub before_next : (held : Held) (items new : List Held) (count next : ℕ) → held.rank.place ≡ count → next ≡ count + 1 → IsPermutation (held ∷ items) new → All (λ t. t.0.place < count) (listed items) → All (λ t. t.0.place < next) (listed new)
before_next held items new count next is next_is moved before =
    All-permutation (λ t. t.0.place < next) (listed (held ∷ items)) (listed new) (IsPermutation-map taken_of (held ∷ items) new moved)
    (All-cons (λ t. t.0.place < next) (taken_of held) (listed items) (omega (arith, is, next_is)) (All-weaker (λ t. t.0.place < count) (λ t. t.0.place < next) (λ t lt. omega (arith, lt, next_is)) (listed items) before))

-- of the others too
pub before_left : (held : Held) (items rest : List Held) (count : ℕ) → IsPermutation items (held ∷ rest) → All (λ t. t.0.place < count) (listed items) → All (λ t. t.0.place < count) (listed rest)
before_left held items rest count moved before =
    All-tail (λ t. t.0.place < count) (taken_of held) (listed rest) (All-permutation (λ t. t.0.place < count) (listed items) (listed (held ∷ rest)) (IsPermutation-map taken_of items (held ∷ rest) moved) before)

pub apart_left : (held : Held) (items rest : List Held) → IsPermutation items (held ∷ rest) → IsDistinct nat_eq (places_in (listed items)) → IsDistinct nat_eq (places_in (listed rest))
apart_left held items rest moved distinct =
    IsDistinct-tail nat_eq held.rank.place (places_in (listed rest)) (still_apart (listed items) (listed (held ∷ rest)) (IsPermutation-map taken_of items (held ∷ rest) moved) distinct)
