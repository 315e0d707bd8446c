-- The tests by which what was matched is taken out.
use Rattle.std.proofs.Common.{◌≡◌, ◌∙◌, sym, ap, refl, ℕ, zero, suc, ◌+◌, ◌<◌, ◌≤◌, length, get_or, take, List, [], ◌∷◌, ◌++◌, map, arith}
use Rattle.std.specs.Prelude.{Option, Some, option_to_list, slice_get, sum_by}
use Rattle.std.specs.List.{All}
use Rattle.std.proofs.lemmas.List.{length-take-le, take_more}
use Rattle.std.proofs.lemmas.List.Elements.{All-head, All-tail, All-weaker}
use Rattle.std.proofs.lemmas.List.Sums.{sum_by-append, sum_by-cons, sum_by_more}
use Rattle.event_types.specs.Tuple.{TupleView}
use Rattle.semantics.specs.Denotation.{Streams}
use Rattle.automaton.specs.States.{Net}
use Rattle.epoch_laws.specs.Closing.{Stores}
use Rattle.epoch_draft.specs.Candidates.{candidates_at}
use Rattle.epoch_draft.specs.Meeting.{IsPairOf, Lists, ListsAll, pair_of}
use Rattle.epoch_draft.specs.Takes.{tuple_of, take_work, takes_work}
use Rattle.epoch_draft.specs.declared.draft.Pair.{Pair}
use Rattle.epoch_draft.proofs.WorkLemmas.{states_less}

-- what stands in the first of two lists
pub slice_left : {X : Type 0} (xs ys : List X) (k : ℕ) → k < length xs → slice_get (xs ++ ys) k ≡ slice_get xs k
slice_left [] ys k lt = absurd (omega (arith, lt))
slice_left (x ∷ xs) ys zero lt = refl
slice_left (x ∷ xs) ys (suc k) lt = slice_left xs ys k (omega (arith, lt))

-- what stands behind a list
pub slice_seam : {X : Type 0} (xs : List X) (x : X) → slice_get (xs ++ x ∷ []) (length xs) ≡ Some x
slice_seam [] x = refl
slice_seam (y ∷ xs) x = slice_seam xs x

module _ (net : Net) (stores : Stores) where
  -- the tests of a tuple at a state
  abbrev pub at_state : TupleView → ℕ → ℕ
  at_state tuple number = length (candidates_at net stores tuple number)

  -- the tests of a pair
  abbrev pub pair_takes : Streams → Pair → ℕ
  pair_takes news p = sum_by (λ (tuple : TupleView). at_state tuple p.state) (tuple_of news p)

  -- pairs whose tuples are the same
  pub takes_agree : (news later : Streams) (pairs : List Pair) → All (λ p. tuple_of news p ≡ tuple_of later p) pairs → takes_work net news stores pairs ≡ takes_work net later stores pairs
  takes_agree news later [] all = refl
  takes_agree news later (p ∷ ps) all =
      let here : pair_takes news p ≡ pair_takes later p = ap (sum_by (λ (tuple : TupleView). at_state tuple p.state)) (All-head (λ p. tuple_of news p ≡ tuple_of later p) p ps all) in
      let rest = takes_agree news later ps (All-tail (λ p. tuple_of news p ≡ tuple_of later p) p ps all) in
      sum_by-cons (pair_takes news) p ps ∙ (λ i. here i + rest i) ∙ sym (sum_by-cons (pair_takes later) p ps)

  -- the states that a tuple finds
  pub takes_found : (news : Streams) (s place : ℕ) (tuple : TupleView) (found : List ℕ) → slice_get (news s) place ≡ Some tuple → takes_work net news stores (map (pair_of s place) found) ≡ sum_by (at_state tuple) found
  takes_found news s place tuple [] got = refl
  takes_found news s place tuple (n ∷ found) got =
      let here : pair_takes news (pair_of s place n) ≡ at_state tuple n = ap (λ (o : Option TupleView). sum_by (λ (t : TupleView). at_state t n) (option_to_list o)) got ∙ sum_by-cons (λ (t : TupleView). at_state t n) tuple [] ∙ plus_none (at_state tuple n) in
      let rest = takes_found news s place tuple found got in
      sum_by-cons (pair_takes news) (pair_of s place n) (map (pair_of s place) found) ∙ (λ i. here i + rest i) ∙ sym (sum_by-cons (at_state tuple) n found)
    where
      plus_none : (m : ℕ) → m + 0 ≡ m
      plus_none m = omega arith

  -- one tuple more is listed with the states that it finds
  pub takes_one : (s : ℕ) (rows : List TupleView) (i : ℕ) (d : TupleView) (added : List Pair) (old new : List Pair) → i < length rows → All (IsPairOf net s (take i rows)) added
      → takes_work net (λ _. take i rows) stores added ≤ sum_by (take_work net stores s) (take i rows) → (one : Lists net stores s i (get_or rows i d) old new)
      → takes_work net (λ _. take (i + 1) rows) stores (added ++ map (pair_of s i) one.found) ≤ sum_by (take_work net stores s) (take (i + 1) rows)
  takes_one s rows i d added old new lt sound was one =
      let tuple = get_or rows i d in
      let longer : take (i + 1) rows ≡ take i rows ++ tuple ∷ [] = take_more rows i d lt in
      let short : length (take i rows) ≡ i = length-take-le i rows (omega (arith, lt)) in
      let got : slice_get (take (i + 1) rows) i ≡ Some tuple = ap (λ (ts : List TupleView). slice_get ts i) longer ∙ ap (slice_get (take i rows ++ tuple ∷ [])) (sym short) ∙ slice_seam (take i rows) tuple in
      let parts = sum_by-append (pair_takes (λ _. take (i + 1) rows)) added (map (pair_of s i) one.found) in
      let first =
      takes_agree (λ _. take (i + 1) rows) (λ _. take i rows) added
      (All-weaker (IsPairOf net s (take i rows)) (λ p. tuple_of (λ _. take (i + 1) rows) p ≡ tuple_of (λ _. take i rows) p)
      (λ p h. ap option_to_list (ap (λ (ts : List TupleView). slice_get ts p.place) longer ∙ slice_left (take i rows) (tuple ∷ []) p.place h.below)) added sound) in
      let second = takes_found (λ _. take (i + 1) rows) s i tuple one.found got in
      let fewer = states_less (at_state tuple) net stores s tuple one.found one.finds in
      let all = sum_by_more (take_work net stores s) rows i d lt in omega (arith, parts, first, second, fewer, all, was)

  -- what is listed with the tuples of a stream takes no more than these
  pub takes_grow : (news : Streams) (s : ℕ) (tuples : List TupleView) (old new : List Pair) → news s ≡ tuples → ListsAll net stores s tuples old new
      → takes_work net news stores new ≤ takes_work net news stores old + sum_by (take_work net stores s) tuples
  takes_grow news s tuples old new is lists =
      let all = ap (takes_work net news stores) lists.are ∙ sum_by-append (pair_takes news) old lists.added in
      let same =
      takes_agree news (λ _. tuples) lists.added
      (All-weaker (IsPairOf net s tuples) (λ p. tuple_of news p ≡ tuple_of (λ _. tuples) p) (λ p h. ap (λ (ts : List TupleView). option_to_list (slice_get ts p.place)) (ap news h.stream_is ∙ is)) lists.added lists.sound) in
      let most = lists.takes in omega (arith, all, same, most)
