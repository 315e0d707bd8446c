-- What the moves of instances make.
use Rattle.std.proofs.Common.{◌≡◌, ◌∙◌, sym, ap, refl, ℕ, zero, suc, ◌+◌, ◌<◌, ◌≤◌, ◌==◌, Bool, true, false, cond, length, List, [], ◌∷◌, ◌++◌, map, arith}
use Rattle.std.specs.Prelude.{Option, Some, None, option_to_list, count_by}
use Rattle.std.specs.Option.{option_and_then, option_map, unwrap_or}
use Rattle.std.specs.List.{cons_option, filter, filter_map, flat_map, range_with_len}
use Rattle.std.specs.List.Sorted.{IsPermutation}
use Rattle.std.proofs.lemmas.Bool.Decides.{nat_tests}
use Rattle.std.proofs.lemmas.Grind.{flat_map-append}
use Rattle.std.proofs.lemmas.List.{append-nil}
use Rattle.std.proofs.lemmas.List.Folds.{flat_map-map}
use Rattle.std.proofs.lemmas.List.Sorted.{IsPermutation-trans}
use Rattle.event_types.proofs.NumberLemmas.{same_number}
use Rattle.instances.specs.declared.instance.Instance.{Instance}
use Rattle.scalar_expr.proofs.Bags.{flat_map_permuted, permuted_from, permuted_to}
use Rattle.automaton.specs.Networks.{IsNetwork}
use Rattle.automaton.specs.States.{Net, before_at, before_by, edges_at, ends_at, entrance_at, step_at, step_by, tells, wait_at, wait_by}
use Rattle.automaton.specs.declared.line.Hop.{Hop}
use Rattle.automaton.specs.declared.network.End.{End}
use Rattle.automaton.specs.declared.network.Entrance.{Entrance}
use Rattle.automaton.specs.declared.network.Entrance.TheVariants.{Root, Waiting}
use Rattle.automaton.specs.declared.wait.Turn.{Turn}
use Rattle.automaton.specs.declared.wait.Wait.{Wait}
use Rattle.automaton.proofs.CountLemmas.{count-cons}
use Rattle.stream_readers.specs.Ways.{Into, Out, Way, backs_by, backs_in, ways_at}
use Rattle.semantics.specs.Births.{is_after}
use Rattle.instances.specs.Births.{began_after}
use Rattle.epoch_laws.specs.Births.{passing_after}
use Rattle.epoch_laws.specs.Closing.{given_by_end}
use Rattle.epoch_laws.specs.Epochs.{again}
use Rattle.epoch_laws.specs.Instances.{bindings_of, instances_entering, pass_instance}
use Rattle.epoch_laws.proofs.Bags.{flat_map_alike, flat_map_parts}
use Rattle.epoch_laws.proofs.Lists.{every, flat_map-flat_map}
use Rattle.epoch_draft.specs.Moves.{Move, bound_by, bound_of, made_by, made_of, moves_from, moves_on, moves_over}
use Rattle.epoch_draft.proofs.Concats.{nothing_of, one_test, options_of, pairs_turned, tested_of}
use Rattle.semantics.proofs.ReportLemmas.{flat_map_same}

-- a number tests as equal to itself
pub is_itself : (n : ℕ) → (n == n) ≡ true
is_itself n = grind (arith, nat_tests)

module _ {Z : Type 0} (p : ℕ → Bool) (k : ℕ) (only : (n : ℕ) → p n ≡ true → n ≡ k) (f : ℕ → List Z) where
  past_none : (a m : ℕ) → k < a → flat_map (λ n. cond (p n) (f n) []) (range_with_len a m) ≡ []
  past_none a zero lt = refl
  past_none a (suc m) lt = go (p a) refl (past_none (a + 1) m (omega arith))
    where
      go : (b : Bool) → p a ≡ b → flat_map (λ n. cond (p n) (f n) []) (range_with_len (a + 1) m) ≡ [] → cond b (f a) [] ++ flat_map (λ n. cond (p n) (f n) []) (range_with_len (a + 1) m) ≡ []
      go true e rest = let same = only a e in absurd (omega arith)
      go false e rest = rest

  -- one number of a range is picked
  pub picked : p k ≡ true → (a m : ℕ) → a ≤ k → k < a + m → flat_map (λ n. cond (p n) (f n) []) (range_with_len a m) ≡ f k
  picked there a zero le lt = absurd (omega arith)
  picked there a (suc m) le lt = go (p a) refl (λ le lt. picked there (a + 1) m le lt)
    where
      other : p a ≡ false → a ≡ k → ⊥
      other e same = let back : p a ≡ true = ap p same ∙ there in cc

      go : (b : Bool) → p a ≡ b → (a + 1 ≤ k → k < (a + 1) + m → flat_map (λ n. cond (p n) (f n) []) (range_with_len (a + 1) m) ≡ f k) → cond b (f a) [] ++ flat_map (λ n. cond (p n) (f n) []) (range_with_len (a + 1) m) ≡ f k
      go true e rest = let same = only a e in ap (λ zs. f a ++ zs) (past_none (a + 1) m (omega arith)) ∙ append-nil (f a) ∙ ap f same
      go false e rest = let ne = other e in rest (omega (arith, ne)) (omega (arith, ne))

-- one number of a list is picked as often as it is counted
picked_none : {Z : Type 0} (k : ℕ) (f : ℕ → List Z) (xs : List ℕ) → count_by (λ x. x == k) xs ≡ 0 → flat_map (λ x. cond (x == k) (f x) []) xs ≡ []
picked_none k f [] h = refl
picked_none k f (x ∷ xs) h = go (x == k) (sym (count-cons (λ y. y == k) x xs) ∙ h) (picked_none k f xs)
  where
    go : (b : Bool) → cond b 1 0 + count_by (λ y. y == k) xs ≡ 0 → (count_by (λ y. y == k) xs ≡ 0 → flat_map (λ x. cond (x == k) (f x) []) xs ≡ []) → cond b (f x) [] ++ flat_map (λ x. cond (x == k) (f x) []) xs ≡ []
    go true h rest = absurd (omega arith)
    go false h rest = rest (omega arith)

picked_once : {Z : Type 0} (k : ℕ) (f : ℕ → List Z) (xs : List ℕ) → count_by (λ x. x == k) xs ≡ 1 → flat_map (λ x. cond (x == k) (f x) []) xs ≡ f k
picked_once k f [] h = absurd (cc)
picked_once k f (x ∷ xs) h = go (x == k) refl (sym (count-cons (λ y. y == k) x xs) ∙ h) (picked_once k f xs)
  where
    go : (b : Bool) → (x == k) ≡ b → cond b 1 0 + count_by (λ y. y == k) xs ≡ 1 → (count_by (λ y. y == k) xs ≡ 1 → flat_map (λ x. cond (x == k) (f x) []) xs ≡ f k) → cond b (f x) [] ++ flat_map (λ x. cond (x == k) (f x) []) xs ≡ f k
    go true e h rest = ap (λ zs. f x ++ zs) (picked_none k f xs (omega arith)) ∙ append-nil (f x) ∙ ap f (same_number x k e)
    go false e h rest = rest (omega arith)

picked_told : {Z : Type 0} (k : ℕ) (f : ℕ → List Z) (xs : List ℕ) (b : Bool) → count_by (λ x. x == k) xs ≡ cond b 1 0 → flat_map (λ x. cond (x == k) (f x) []) xs ≡ cond b (f k) []
picked_told k f xs true h = picked_once k f xs h
picked_told k f xs false h = picked_none k f xs h

-- what the moves of an instance on ways give
on_ways : {Z : Type 0} (f : Instance → Way → List Z) (ways : List Way) (x : Instance) → flat_map (λ (m : Move). f m.instance m.way) (moves_on ways x) ≡ flat_map (f x) ways
on_ways f ways x = flat_map-map (λ (m : Move). f m.instance m.way) (λ (way : Way). record { instance = x; way = way }) ways

-- what the moves of all instances that leave a state give
from_state : {Z : Type 0} (f : Instance → Way → List Z) (net : Net) (n : ℕ) (store : List Instance) → flat_map (λ (m : Move). f m.instance m.way) (moves_from net n store) ≡ flat_map (λ x. flat_map (f x) (ways_at net n)) store
from_state f net n store =
    flat_map-flat_map (λ (m : Move). f m.instance m.way) (moves_on (ways_at net n)) store
    ∙ flat_map_same (λ x. flat_map (λ (m : Move). f m.instance m.way) (moves_on (ways_at net n) x)) (λ x. flat_map (f x) (ways_at net n)) store
    (every (λ x. flat_map (λ (m : Move). f m.instance m.way) (moves_on (ways_at net n) x) ≡ flat_map (f x) (ways_at net n)) (on_ways f (ways_at net n)) store)

over_states : {Z : Type 0} (f : Instance → Way → List Z) (net : Net) (flow : ℕ → List Instance)
    → flat_map (λ (m : Move). f m.instance m.way) (moves_over net flow) ≡ flat_map (λ n. flat_map (λ x. flat_map (f x) (ways_at net n)) (flow n)) (range_with_len 0 (length net))
over_states f net flow =
    flat_map-flat_map (λ (m : Move). f m.instance m.way) (λ n. moves_from net n (flow n)) (range_with_len 0 (length net))
    ∙ flat_map_same (λ n. flat_map (λ (m : Move). f m.instance m.way) (moves_from net n (flow n))) (λ n. flat_map (λ x. flat_map (f x) (ways_at net n)) (flow n)) (range_with_len 0 (length net))
    (every (λ n. flat_map (λ (m : Move). f m.instance m.way) (moves_from net n (flow n)) ≡ flat_map (λ x. flat_map (f x) (ways_at net n)) (flow n)) (λ n. from_state f net n (flow n)) (range_with_len 0 (length net)))

-- for a stream the ways out alone count
backs_made : (s : ℕ) (x : Instance) (n : ℕ) (o : Option Wait) → flat_map (made_by s x) (backs_by n o) ≡ []
backs_made s x n None = refl
backs_made s x n (Some w) = go w.fold
  where
    go : (fold : Option Turn) → flat_map (made_by s x) (backs_in n fold) ≡ []
    go None = refl
    go (Some turn) = refl

made_ways : (net : Net) (s n : ℕ) (x : Instance) → flat_map (made_by s x) (ways_at net n) ≡ flat_map (λ e. passing_after e.step e.birth (x ∷ [])) (filter (λ e. e.out == s) (ends_at net n))
made_ways net s n x =
    flat_map-append (made_by s x) (map Into (edges_at net n)) (map Out (ends_at net n) ++ backs_by n (wait_at net n))
    ∙ ap (λ rows. rows ++ flat_map (made_by s x) (map Out (ends_at net n) ++ backs_by n (wait_at net n))) (flat_map-map (made_by s x) Into (edges_at net n) ∙ nothing_of (edges_at net n))
    ∙ flat_map-append (made_by s x) (map Out (ends_at net n)) (backs_by n (wait_at net n))
    ∙ ap (λ rows. flat_map (made_by s x) (map Out (ends_at net n)) ++ rows) (backs_made s x n (wait_at net n))
    ∙ append-nil (flat_map (made_by s x) (map Out (ends_at net n)))
    ∙ flat_map-map (made_by s x) Out (ends_at net n)
    ∙ tested_of (λ (e : End). e.out == s) (λ e. passing_after e.step e.birth (x ∷ [])) (ends_at net n)

-- what instances give by an end, one by one
passing_of : (e : End) (store : List Instance) → flat_map (λ x. passing_after e.step e.birth (x ∷ [])) store ≡ given_by_end store e
passing_of e [] = refl
passing_of e (x ∷ store) = go (pass_instance e.step x) (passing_of e store)
  where
    go : (o : Option Instance) → flat_map (λ x. passing_after e.step e.birth (x ∷ [])) store ≡ given_by_end store e
        → bindings_of (began_after e.birth (cons_option o [])) ++ flat_map (λ x. passing_after e.step e.birth (x ∷ [])) store ≡ bindings_of (began_after e.birth (cons_option o (filter_map (pass_instance e.step) store)))
    go None rest = rest
    go (Some y) rest = kept (is_after e.birth y.first)
      where
        kept : (b : Bool) → bindings_of (cond b (y ∷ []) []) ++ flat_map (λ x. passing_after e.step e.birth (x ∷ [])) store ≡ bindings_of (cond b (y ∷ began_after e.birth (filter_map (pass_instance e.step) store)) (began_after e.birth (filter_map (pass_instance e.step) store)))
        kept true = ap (λ rows. y.tuple ∷ rows) rest
        kept false = rest

made_state : (net : Net) (s n : ℕ) (store : List Instance) → IsPermutation (flat_map (λ x. flat_map (made_by s x) (ways_at net n)) store) (flat_map (given_by_end store) (filter (λ e. e.out == s) (ends_at net n)))
made_state net s n store =
    let ends = filter (λ (e : End). e.out == s) (ends_at net n) in
    permuted_from
    (flat_map_same (λ x. flat_map (made_by s x) (ways_at net n)) (λ x. flat_map (λ (e : End). passing_after e.step e.birth (x ∷ [])) ends) store
    (every (λ x. flat_map (made_by s x) (ways_at net n) ≡ flat_map (λ (e : End). passing_after e.step e.birth (x ∷ [])) ends) (made_ways net s n) store))
    (permuted_to (pairs_turned (λ x (e : End). passing_after e.step e.birth (x ∷ [])) store ends)
    (flat_map_same (λ (e : End). flat_map (λ x. passing_after e.step e.birth (x ∷ [])) store) (given_by_end store) ends
    (every (λ (e : End). flat_map (λ x. passing_after e.step e.birth (x ∷ [])) store ≡ given_by_end store e) (λ e. passing_of e store) ends)))

-- what all moves make for a stream is what its ends give
pub made_over : (net : Net) (flow : ℕ → List Instance) (s : ℕ) → IsPermutation (made_of s (moves_over net flow)) (flat_map (λ n. flat_map (given_by_end (flow n)) (filter (λ e. e.out == s) (ends_at net n))) (range_with_len 0 (length net)))
made_over net flow s =
    permuted_from (over_states (made_by s) net flow)
    (flat_map_alike (λ n. flat_map (λ x. flat_map (made_by s x) (ways_at net n)) (flow n)) (λ n. flat_map (given_by_end (flow n)) (filter (λ e. e.out == s) (ends_at net n))) (range_with_len 0 (length net))
    (every (λ n. IsPermutation (flat_map (λ x. flat_map (made_by s x) (ways_at net n)) (flow n)) (flat_map (given_by_end (flow n)) (filter (λ e. e.out == s) (ends_at net n))))
    (λ n. made_state net s n (flow n)) (range_with_len 0 (length net))))

-- what goes back to a state, if it waits so
abbrev backed : Option Wait → List Instance → List Instance
backed None store = []
backed (Some w) store = again w.fold store

abbrev nothing : List Instance
nothing = []

backs_bound : (net : Net) (w n : ℕ) (x : Instance) (o : Option Wait) → flat_map (bound_by net w x) (backs_by n o) ≡ cond (n == w) (backed o (x ∷ [])) []
backs_bound net w n x None = none (n == w)
  where
    none : (b : Bool) → nothing ≡ cond b nothing nothing
    none true = refl
    none false = refl
backs_bound net w n x (Some wait) = go wait.fold
  where
    none : (b : Bool) → nothing ≡ cond b nothing nothing
    none true = refl
    none false = refl

    go : (fold : Option Turn) → flat_map (bound_by net w x) (backs_in n fold) ≡ cond (n == w) (again fold (x ∷ [])) []
    go None = none (n == w)
    go (Some turn) = append-nil (cond (n == w) (x ∷ []) [])

backed_all : (o : Option Wait) (store : List Instance) → flat_map (λ x. backed o (x ∷ [])) store ≡ backed o store
backed_all None store = nothing_of store
backed_all (Some w) store = go w.fold
  where
    same : (store : List Instance) → flat_map (λ x. x ∷ []) store ≡ store
    same [] = refl
    same (x ∷ store) = ap (λ xs. x ∷ xs) (same store)

    go : (fold : Option Turn) → flat_map (λ x. again fold (x ∷ [])) store ≡ again fold store
    go None = nothing_of store
    go (Some turn) = same store

module _ (net : Net) (network : IsNetwork net) (w : ℕ) where
  -- for a waiting state the edge to it counts, and its own way back
  bound_ways : (n : ℕ) (x : Instance)
      → flat_map (bound_by net w x) (ways_at net n) ≡ cond (tells n (before_at net w)) (option_to_list (pass_instance (step_at net w) x)) [] ++ cond (n == w) (backed (wait_at net n) (x ∷ [])) []
  bound_ways n x =
      flat_map-append (bound_by net w x) (map Into (edges_at net n)) (map Out (ends_at net n) ++ backs_by n (wait_at net n))
      ∙ ap (λ rows. rows ++ flat_map (bound_by net w x) (map Out (ends_at net n) ++ backs_by n (wait_at net n)))
      (flat_map-map (bound_by net w x) Into (edges_at net n) ∙ picked_told w (λ k. option_to_list (pass_instance (step_at net k) x)) (edges_at net n) (tells n (before_at net w)) (network.edges n w))
      ∙ ap (λ rows. cond (tells n (before_at net w)) (option_to_list (pass_instance (step_at net w) x)) [] ++ rows)
      (flat_map-append (bound_by net w x) (map Out (ends_at net n)) (backs_by n (wait_at net n))
      ∙ ap (λ rows. rows ++ flat_map (bound_by net w x) (backs_by n (wait_at net n))) (flat_map-map (bound_by net w x) Out (ends_at net n) ∙ nothing_of (ends_at net n))
      ∙ backs_bound net w n x (wait_at net n))

  bound_state : (n : ℕ) (store : List Instance)
      → IsPermutation (flat_map (λ x. flat_map (bound_by net w x) (ways_at net n)) store) (cond (tells n (before_at net w)) (filter_map (pass_instance (step_at net w)) store) [] ++ cond (n == w) (backed (wait_at net n) store) [])
  bound_state n store =
      let edge = λ (x : Instance). cond (tells n (before_at net w)) (option_to_list (pass_instance (step_at net w) x)) [] in
      let back = λ (x : Instance). cond (n == w) (backed (wait_at net n) (x ∷ [])) [] in
      permuted_from
      (flat_map_same (λ x. flat_map (bound_by net w x) (ways_at net n)) (λ x. edge x ++ back x) store (every (λ x. flat_map (bound_by net w x) (ways_at net n) ≡ edge x ++ back x) (bound_ways n) store))
      (permuted_to (flat_map_parts edge back store)
      (ap (λ rows. rows ++ flat_map back store)
      (one_test (tells n (before_at net w)) (λ x. option_to_list (pass_instance (step_at net w) x)) store ∙ ap (λ rows. cond (tells n (before_at net w)) rows []) (options_of (pass_instance (step_at net w)) store))
      ∙ ap (λ rows. cond (tells n (before_at net w)) (filter_map (pass_instance (step_at net w)) store) [] ++ rows)
      (one_test (n == w) (λ x. backed (wait_at net n) (x ∷ [])) store ∙ ap (λ rows. cond (n == w) rows []) (backed_all (wait_at net n) store))))

  abbrev came : (ℕ → List Instance) → ℕ → List Instance
  came flow n = cond (tells n (before_at net w)) (filter_map (pass_instance (step_at net w)) (flow n)) []

  abbrev went : (ℕ → List Instance) → ℕ → List Instance
  went flow n = cond (n == w) (backed (wait_at net n) (flow n)) []

  -- what all moves make for a waiting state is what enters it, and what goes back to it
  pub bound_over : (flow : ℕ → List Instance) (before : ℕ) (hop : Hop) → entrance_at net w ≡ Some (Waiting before hop) → before < length net → w < length net
      → IsPermutation (bound_of net w (moves_over net flow)) (instances_entering hop (flow before) ++ again hop.wait.fold (flow w))
  bound_over flow before hop at lt_b lt_w =
      permuted_from (over_states (bound_by net w) net flow)
      (permuted_to
      (IsPermutation-trans _ _ _
      (flat_map_alike (λ n. flat_map (λ x. flat_map (bound_by net w x) (ways_at net n)) (flow n)) (λ n. came flow n ++ went flow n) (range_with_len 0 (length net))
      (every (λ n. IsPermutation (flat_map (λ x. flat_map (bound_by net w x) (ways_at net n)) (flow n)) (came flow n ++ went flow n)) (λ n. bound_state n (flow n)) (range_with_len 0 (length net))))
      (flat_map_parts (came flow) (went flow) (range_with_len 0 (length net))))
      (λ i. came_is i ++ went_is i))
    where
      told_by : before_at net w ≡ Some before
      told_by = ap (option_and_then before_by) at

      step_is : step_at net w ≡ hop.step
      step_is = ap (λ (o : Option Entrance). unwrap_or (option_map step_by o) []) at

      wait_is : wait_at net w ≡ Some hop.wait
      wait_is = ap (option_and_then wait_by) at

      came_is : flat_map (came flow) (range_with_len 0 (length net)) ≡ instances_entering hop (flow before)
      came_is =
          picked (λ n. tells n (before_at net w)) before (λ n e. sym (same_number before n (sym (ap (tells n) told_by) ∙ e))) (λ n. filter_map (pass_instance (step_at net w)) (flow n))
          (ap (tells before) told_by ∙ is_itself before) 0 (length net) (omega arith) (omega arith)
          ∙ ap (λ step. filter_map (pass_instance step) (flow before)) step_is

      went_is : flat_map (went flow) (range_with_len 0 (length net)) ≡ again hop.wait.fold (flow w)
      went_is =
          picked (λ n. n == w) w (λ n e. same_number n w e) (λ n. backed (wait_at net n) (flow n)) (is_itself w) 0 (length net) (omega arith) (omega arith)
          ∙ ap (λ (o : Option Wait). backed o (flow w)) wait_is

  before_none : wait_at net w ≡ None → before_at net w ≡ None
  before_none none = go (entrance_at net w) none
    where
      go : (o : Option Entrance) → option_and_then wait_by o ≡ None → option_and_then before_by o ≡ None
      go None e = refl
      go (Some (Root s)) e = refl
      go (Some (Waiting before hop)) e = absurd (cc)

  -- nothing comes to a state where none waits
  pub unbound_over : wait_at net w ≡ None → (flow : ℕ → List Instance) → bound_of net w (moves_over net flow) ≡ []
  unbound_over none flow =
      over_states (bound_by net w) net flow
      ∙ flat_map_same (λ n. flat_map (λ x. flat_map (bound_by net w x) (ways_at net n)) (flow n)) (λ n. []) (range_with_len 0 (length net))
      (every (λ n. flat_map (λ x. flat_map (bound_by net w x) (ways_at net n)) (flow n) ≡ []) at_state (range_with_len 0 (length net)))
      ∙ nothing_of (range_with_len 0 (length net))
    where
      back : (n : ℕ) (x : Instance) (b : Bool) → (n == w) ≡ b → cond b (backed (wait_at net n) (x ∷ [])) [] ≡ []
      back n x true e = ap (λ (o : Option Wait). backed o (x ∷ [])) (ap (wait_at net) (same_number n w e) ∙ none)
      back n x false e = refl

      one : (n : ℕ) (x : Instance) → flat_map (bound_by net w x) (ways_at net n) ≡ []
      one n x =
          bound_ways n x
          ∙ ap (λ (o : Option ℕ). cond (tells n o) (option_to_list (pass_instance (step_at net w) x)) [] ++ cond (n == w) (backed (wait_at net n) (x ∷ [])) []) (before_none none)
          ∙ back n x (n == w) refl

      at_state : (n : ℕ) → flat_map (λ x. flat_map (bound_by net w x) (ways_at net n)) (flow n) ≡ []
      at_state n =
          flat_map_same (λ x. flat_map (bound_by net w x) (ways_at net n)) (λ x. []) (flow n) (every (λ x. flat_map (bound_by net w x) (ways_at net n) ≡ []) (one n) (flow n)) ∙ nothing_of (flow n)

-- what leaves the states in two parts moves in two parts
pub moves_parts : (net : Net) (both one two : ℕ → List Instance) → ((n : ℕ) → IsPermutation (both n) (one n ++ two n)) → IsPermutation (moves_over net both) (moves_over net one ++ moves_over net two)
moves_parts net both one two parts =
    IsPermutation-trans _ _ _
    (flat_map_alike (λ n. moves_from net n (both n)) (λ n. moves_from net n (one n) ++ moves_from net n (two n)) (range_with_len 0 (length net))
    (every (λ n. IsPermutation (moves_from net n (both n)) (moves_from net n (one n) ++ moves_from net n (two n))) each (range_with_len 0 (length net))))
    (flat_map_parts (λ n. moves_from net n (one n)) (λ n. moves_from net n (two n)) (range_with_len 0 (length net)))
  where
    each : (n : ℕ) → IsPermutation (moves_from net n (both n)) (moves_from net n (one n) ++ moves_from net n (two n))
    each n = permuted_to (flat_map_permuted (moves_on (ways_at net n)) (both n) (one n ++ two n) (parts n)) (flat_map-append (moves_on (ways_at net n)) (one n) (two n))
