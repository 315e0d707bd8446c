-- Queries have an order or a cycle: the queries are taken as long as one is ready, and then the walk goes on until a query comes again.
use Rattle.std.proofs.Common.{◌≡◌, ◌≢◌, ◌∙◌, ◌⊎◌, ℕ, zero, suc, ◌+◌, ◌<◌, ◌≤◌, List, [], ◌∷◌, ◌++◌, Bool, true, false, not, cond, length, get_or, drop, refl, sym, ap, inl, inr, arith}
use Rattle.std.specs.Prelude.{◌==◌, Option, Some, None, slice_get, AllPairs}
use Rattle.std.specs.List.{All, find, position_or_len}
use Rattle.std.proofs.lemmas.Bool.{cases_Bool}
use Rattle.std.proofs.lemmas.List.{length_push}
use Rattle.std.proofs.lemmas.List.Elements.{All-contains, All-nil, All-push}
use Rattle.std.proofs.lemmas.List.Quantifiers.{all_pairs_push}
use Rattle.std.proofs.lemmas.Map.Keys.{IsDistinct-from_apart}
use Rattle.std.proofs.lemmas.Map.Steps.{length-le_from_distinct_below}
use Rattle.resubscribe.specs.Cycle.{IsCycle, Walks, untaken_read}
use Rattle.resubscribe.specs.Laws.{SomeOutcome}
use Rattle.resubscribe.specs.Order.{IsOrder, TakesQuery, first_ready, first_untaken, is_among, is_untaken, reads_of}
use Rattle.resubscribe.proofs.AmongLemmas.{Contains-from_among, apart}
use Rattle.resubscribe.proofs.CycleLemmas.{find-Contains}
use Rattle.resubscribe.proofs.FindLemmas.{found_below}
use Rattle.resubscribe.proofs.OrderLemmas.{ready_parts}
use Rattle.resubscribe.proofs.TakeLemmas.{Takes-push}
use Rattle.resubscribe.proofs.WalkLemmas.{IsCycle-from_walk, Walks-push, front-push, some_untaken}
use Rattle.event_types.proofs.NumberLemmas.{is_other}

-- distinct numbers below a size are at most as many
few : (xs : List ℕ) (n : ℕ) → AllPairs (λ x y. x ≢ y) xs → All (λ x. x < n) xs → length xs ≤ n
few xs n distinct small =
    length-le_from_distinct_below xs n (IsDistinct-from_apart ◌==◌ xs (λ i j d before within. is_other (get_or xs i d) (get_or xs j d) (distinct i j d before within)))
    (λ q among. All-contains (λ x. x < n) xs q small (Contains-from_among xs q among))

-- what is taken until no query is ready
record Stuck (reads : List (List ℕ)) : Type 0 where
  pub taken : List ℕ
  pub takes : TakesQuery reads [] taken
  pub none_ready : first_ready reads taken ≡ None

-- by induction on how many queries may still be taken
take_on : (fuel : ℕ) (reads : List (List ℕ)) (taken : List ℕ) → length reads < length taken + fuel → TakesQuery reads [] taken → AllPairs (λ x y. x ≢ y) taken → All (λ q. q < length reads) taken → (next : Option ℕ) → first_ready reads taken ≡ next → Stuck reads
take_on fuel reads taken left takes distinct small None stuck = record { taken = taken; takes = takes; none_ready = stuck }
take_on zero reads taken left takes distinct small (Some q) ready = let most : length taken ≤ length reads = few taken (length reads) distinct small in absurd (omega arith)
take_on (suc fuel) reads taken left takes distinct small (Some q) ready =
    let parts = ready_parts reads taken q ready in
    let more : length (taken ++ q ∷ []) ≡ length taken + 1 = length_push taken q in
    take_on fuel reads (taken ++ q ∷ []) (omega arith) (Takes-push reads [] taken q takes ready) (all_pairs_push (λ x y. x ≢ y) taken q distinct (apart taken q parts.1)) (All-push (λ x. x < length reads) taken q small parts.0) (first_ready reads (taken ++ q ∷ [])) refl

-- where none is found, none passes
find_none : (p : ℕ → Bool) (xs : List ℕ) → find p xs ≡ None → (k : ℕ) → k < length xs → p (get_or xs k 0) ≡ false
find_none p [] none k within = absurd (omega arith)
find_none p (x ∷ xs) none k within = elim (cases_Bool (p x)) [
  | inl hit ↦ let e : Some x ≡ None = sym (ap (λ b. cond b (Some x) (find p xs)) hit) ∙ none in absurd cc
  | inr miss ↦ one_of miss (λ j inside. find_none p xs (sym (ap (λ b. cond b (Some x) (find p xs)) miss) ∙ none) j inside) k within
]
  where
    one_of : p x ≡ false → ((k : ℕ) → k < length xs → p (get_or xs k 0) ≡ false) → (k : ℕ) → k < suc (length xs) → p (get_or (x ∷ xs) k 0) ≡ false
    one_of miss later zero within = miss
    one_of miss later (suc k) within = later k (omega arith)

-- what is found passes
find_passes : (p : ℕ → Bool) (xs : List ℕ) (q : ℕ) → find p xs ≡ Some q → p q ≡ true
find_passes p [] q found = cc
find_passes p (x ∷ xs) q found = elim (cases_Bool (p x)) [
  | inl hit ↦ let e : Some x ≡ Some q = sym (ap (λ b. cond b (Some x) (find p xs)) hit) ∙ found in let same : x ≡ q = cc in ap p (sym same) ∙ hit
  | inr miss ↦ find_passes p xs q (sym (ap (λ b. cond b (Some x) (find p xs)) miss) ∙ found)
]

not_true : (b : Bool) → not b ≡ true → b ≡ false
not_true true e = cc
not_true false e = refl

none_apart : AllPairs (λ (x : ℕ) y. x ≢ y) []
none_apart i j d before within = absurd (omega arith)

module _ (reads : List (List ℕ)) (small : All (λ numbers. All (λ number. number < length reads) numbers) reads) (taken : List ℕ) (takes : TakesQuery reads [] taken) (stuck : first_ready reads taken ≡ None) (start : ℕ) (first : first_untaken reads taken ≡ Some start) where
  -- by induction on how far the walk may still go
  walk_on : (fuel : ℕ) (walk : List ℕ) (q : ℕ) (there : Bool) (next : Option ℕ) → length reads < length walk + fuel → Walks reads taken (walk ++ q ∷ []) → slice_get (walk ++ q ∷ []) 0 ≡ Some start → AllPairs (λ x y. x ≢ y) walk → All (λ x. x < length reads) walk
      → q < length reads → is_among taken q ≡ false → is_among walk q ≡ there → untaken_read reads taken q ≡ next → (cycle : List ℕ) × IsCycle reads cycle
  walk_on fuel walk q true next left walks begins distinct within here free among to = (drop (position_or_len (λ other. q == other) walk) walk, IsCycle-from_walk reads taken walk (drop (position_or_len (λ other. q == other) walk) walk) start q takes stuck first walks begins distinct among refl)
  walk_on zero walk q false next left walks begins distinct within here free among to = let most : length walk ≤ length reads = few walk (length reads) distinct within in absurd (omega arith)
  walk_on (suc fuel) walk q false None left walks begins distinct within here free among to = absurd (some_untaken reads taken (reads_of reads q) q stuck here free refl (find_none (is_untaken taken) (reads_of reads q) to))
  walk_on (suc fuel) walk q false (Some n) left walks begins distinct within here free among to =
      let more : length (walk ++ q ∷ []) ≡ length walk + 1 = length_push walk q in
      walk_on fuel (walk ++ q ∷ []) n (is_among (walk ++ q ∷ []) n) (untaken_read reads taken n) (omega arith) (Walks-push reads taken walk q n walks to) (front-push walk (n ∷ []) q ∙ begins)
      (all_pairs_push (λ x y. x ≢ y) walk q distinct (apart walk q among)) (All-push (λ x. x < length reads) walk q within here)
      (All-contains (λ x. x < length reads) (reads_of reads q) n (small q [] here) (find-Contains (is_untaken taken) (reads_of reads q) n to))
      (not_true (is_among taken n) (find_passes (is_untaken taken) (reads_of reads q) n to)) refl refl

  some_cycle : (cycle : List ℕ) × IsCycle reads cycle
  some_cycle =
      let begin = found_below (is_untaken taken) (length reads) (Some start) first in
      walk_on (length reads + 1) [] start (is_among [] start) (untaken_read reads taken start) (omega arith) tt refl none_apart (All-nil (λ x. x < length reads)) begin.1 (not_true (is_among taken start) begin.2) refl refl

outcome : (reads : List (List ℕ)) → All (λ numbers. All (λ number. number < length reads) numbers) reads → (done : Stuck reads) (left : Option ℕ) → first_untaken reads done.taken ≡ left → ((order : List ℕ) × IsOrder reads order) ⊎ ((cycle : List ℕ) × IsCycle reads cycle)
outcome reads small done None none = inl (done.taken, record { taken = done.takes; none_left = none })
outcome reads small done (Some start) first = inr (some_cycle reads small done.taken done.takes done.none_ready start first)

-- queries have an order or a cycle
pub some_outcome : SomeOutcome
some_outcome reads small =
    let done : Stuck reads = take_on (length reads + 1) reads [] (omega arith) tt none_apart (All-nil (λ q. q < length reads)) (first_ready reads []) refl in
    outcome reads small done (first_untaken reads done.taken) refl
