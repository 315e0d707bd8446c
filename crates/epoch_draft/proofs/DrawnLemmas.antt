-- What is made of an epoch once some of its tuples are met.
use Rattle.std.proofs.Common.{◌≡◌, ◌∙◌, sym, ap, refl, subst, inl, inr, ℕ, ◌<◌, ◌==◌, ◌⊎◌, Bool, true, false, cond, length, get_or, List, [], ◌∷◌, ◌++◌, append_assoc, arith}
use Rattle.std.specs.Prelude.{Contains, Option, Some, None, slice_get}
use Rattle.std.specs.Option.{option_and_then, option_map, unwrap_or}
use Rattle.std.specs.List.{All, filter, flat_map, range_with_len}
use Rattle.std.specs.List.Sorted.{IsPermutation}
use Rattle.std.proofs.lemmas.Bool.Decides.{nat_tests}
use Rattle.std.proofs.lemmas.Grind.{flat_map-append}
use Rattle.std.proofs.lemmas.List.{append-nil}
use Rattle.std.proofs.lemmas.List.Elements.{All-append, All-weaker, Contains-append_left, Contains-append_right}
use Rattle.std.proofs.lemmas.List.Sorted.{IsPermutation-append, IsPermutation-append_left, IsPermutation-append_right, IsPermutation-sym, IsPermutation-trans, length_permutation}
use Rattle.event_types.specs.Tuple.{TupleView}
use Rattle.event_types.proofs.NumberLemmas.{same_number}
use Rattle.instances.specs.declared.instance.Instance.{Instance}
use Rattle.semantics.specs.Denotation.{Streams}
use Rattle.semantics.specs.Programs.{with_stream}
use Rattle.semantics.specs.Scalars.{Pr}
use Rattle.scalar_expr.proofs.Bags.{flat_map_permuted, permuted_from, permuted_to}
use Rattle.automaton.specs.Networks.{IsNetwork}
use Rattle.automaton.specs.States.{Net, before_at, before_by, edges_at, ends_at, entrance_at, state_at, wait_at}
use Rattle.automaton.specs.declared.network.End.{End}
use Rattle.automaton.specs.declared.wait.Turn.{Turn}
use Rattle.automaton.specs.declared.line.Hop.{Hop}
use Rattle.automaton.specs.declared.network.Entrance.{Entrance}
use Rattle.automaton.specs.declared.network.Entrance.TheVariants.{Root, Waiting}
use Rattle.automaton.specs.declared.network.State.{State}
use Rattle.stream_readers.specs.Finding.{waits_on}
use Rattle.epoch_laws.specs.Closing.{Stores, leaving_state, leaving_by, given_by_end, given_by_ends, given_by_ends_at, stepped_by, stores_after}
use Rattle.epoch_laws.specs.Epochs.{again, unmatched_after, took}
use Rattle.epoch_laws.specs.Instances.{instances_entering}
use Rattle.epoch_laws.proofs.Bags.{no_length, permuted_is}
use Rattle.epoch_laws.proofs.Lists.{every}
use Rattle.epoch_draft.specs.Comes.{gets}
use Rattle.epoch_draft.specs.Drafts.{Adds, Grows}
use Rattle.epoch_draft.specs.Drawn.{Drawn, Paired}
use Rattle.epoch_draft.specs.Meeting.{IsPairOf, ListsAll, MatchesNone, moves_of, moves_of_all, pair_of}
use Rattle.epoch_draft.specs.Moves.{Move, bound_by, bound_of, made_by, made_of, moves_over}
use Rattle.epoch_draft.specs.declared.draft.Draft.{Draft}
use Rattle.epoch_draft.specs.declared.draft.Pair.{Pair}
use Rattle.epoch_draft.proofs.Comes.{tuple_comes, with_tuple}
use Rattle.epoch_draft.proofs.Concats.{nothing_of}
use Rattle.epoch_draft.proofs.EdgeLemmas.{before_edge}
use Rattle.epoch_draft.proofs.GoingLemmas.{state_below}
use Rattle.epoch_draft.proofs.Moves.{bound_over, is_itself, made_over, moves_parts, unbound_over}
use Rattle.semantics.proofs.ReportLemmas.{flat_map_same}

-- all moves of the tuples that are met so far
abbrev pub moves_seen : Net → Stores → Streams → List Move
moves_seen net stores seen = moves_over net (leaving_state net seen stores)

module _ (net : Net) (stores : Stores) (s : ℕ) where
  -- a stream to which no tuple is added leaves the streams as they are
  pub with_none : (seen : Streams) → with_stream seen s (seen s ++ []) ≡ seen
  with_none seen = λ i t. each t i
    where
      go : (t : ℕ) (b : Bool) → (t == s) ≡ b → cond b (seen s ++ []) (seen t) ≡ seen t
      go t true e = append-nil (seen s) ∙ ap seen (sym (same_number t s e))
      go t false e = refl

      each : (t : ℕ) → with_stream seen s (seen s ++ []) t ≡ seen t
      each t = go t (t == s) refl

  with_more : (seen : Streams) (r : TupleView) (rows : List TupleView) → with_stream (with_tuple seen s r) s (with_tuple seen s r s ++ rows) ≡ with_stream seen s (seen s ++ (r ∷ rows))
  with_more seen r rows = λ i t. each t i
    where
      own : with_tuple seen s r s ≡ seen s ++ r ∷ []
      own = ap (λ b. cond b (seen s ++ r ∷ []) (seen s)) (is_itself s)

      longer : with_tuple seen s r s ++ rows ≡ seen s ++ (r ∷ rows)
      longer = ap (λ xs. xs ++ rows) own ∙ append_assoc (seen s) (r ∷ []) rows

      go : (t : ℕ) (b : Bool) → cond b (with_tuple seen s r s ++ rows) (cond b (seen s ++ r ∷ []) (seen t)) ≡ cond b (seen s ++ (r ∷ rows)) (seen t)
      go t true = longer
      go t false = refl

      each : (t : ℕ) → with_stream (with_tuple seen s r) s (with_tuple seen s r s ++ rows) t ≡ with_stream seen s (seen s ++ (r ∷ rows)) t
      each t = go t (t == s)

  -- with more tuples of a stream, what comes of them moves besides
  pub stream_comes : (rows : List TupleView) (seen : Streams) → IsPermutation (moves_seen net stores (with_stream seen s (seen s ++ rows))) (moves_seen net stores seen ++ moves_of_all net stores s rows)
  stream_comes [] seen = permuted_is (ap (moves_seen net stores) (with_none seen) ∙ sym (append-nil (moves_seen net stores seen)))
  stream_comes (r ∷ rows) seen =
      let one = with_tuple seen s r in
      permuted_from (ap (moves_seen net stores) (sym (with_more seen r rows)))
      (permuted_to
      (IsPermutation-trans _ _ _ (stream_comes rows one)
      (IsPermutation-append_left (moves_of_all net stores s rows) (moves_seen net stores one) (moves_seen net stores seen ++ moves_of net stores s r)
      (moves_parts net (leaving_state net one stores) (leaving_state net seen stores) (gets net stores s r) (tuple_comes net stores seen s r))))
      (append_assoc (moves_seen net stores seen) (moves_of net stores s r) (moves_of_all net stores s rows)))

-- a state to which an edge leads has a state before it
before_state : (net : Net) → IsNetwork net → (n b : ℕ) → before_at net n ≡ Some b → (state : State) × (state_at net b ≡ Some state)
before_state net network n b h = go (state_at net b) refl
  where
    no_item : (x : ℕ) → Contains [] x → ⊥
    no_item x c = absurd (omega arith)

    there : Contains (edges_at net b) n
    there = before_edge net network b n h

    go : (o : Option State) → state_at net b ≡ o → (state : State) × (state_at net b ≡ Some state)
    go (Some state) e = (state, e)
    go None e =
        let none = subst (λ (ns : List ℕ). Contains ns n) (ap (λ (o : Option State). unwrap_or (option_map (λ (s : State). s.edges) o) []) e) there in
        absurd (no_item n none)

-- a number with an entry is below that of all places
pub entry_below : (net : Net) (n : ℕ) (entrance : Entrance) → entrance_at net n ≡ Some entrance → n < length net
entry_below net n entrance at = go (state_at net n) refl at
  where
    go : (o : Option State) → state_at net n ≡ o → option_map (λ (s : State). s.entrance) o ≡ Some entrance → n < length net
    go None e at = absurd (cc)
    go (Some state) e at = state_below net n state e

-- what comes to a waiting state
abbrev pub comes_to : Net → Stores → Streams → ℕ → ℕ → Hop → List Instance
comes_to net stores seen n before hop = instances_entering hop (leaving_state net seen stores before) ++ again hop.wait.fold (took hop.wait.choose hop.wait.fold (seen hop.wait.stream) (stores n))

bound_seen : (net : Net) → IsNetwork net → (stores : Stores) (seen : Streams) (n before : ℕ) (hop : Hop) → entrance_at net n ≡ Some (Waiting before hop) → IsPermutation (bound_of net n (moves_seen net stores seen)) (comes_to net stores seen n before hop)
bound_seen net network stores seen n before hop at =
    let found = before_state net network n before (ap (option_and_then before_by) at) in
    permuted_to
    (bound_over net network n (leaving_state net seen stores) before hop at (state_below net before found.0 found.1) (entry_below net n (Waiting before hop) at))
    (ap (λ (o : Option Entrance). instances_entering hop (leaving_state net seen stores before) ++ again hop.wait.fold (leaving_by o seen (stores n))) at)

-- more is met, for one stream
pub made_grows : (net : Net) (stores : Stores) (seen later : Streams) (moves : List Move) (s : ℕ) (old new : List TupleView) → IsPermutation (moves_seen net stores later) (moves_seen net stores seen ++ moves)
    → IsPermutation old (given_by_ends net seen stores s) → Adds (made_of s moves) old new → IsPermutation new (given_by_ends net later stores s)
made_grows net stores seen later moves s old new comes was adds =
    permuted_from adds.is
    (IsPermutation-trans _ _ _
    (IsPermutation-append old (made_of s before) adds.added (made_of s moves) (IsPermutation-trans _ _ _ was (IsPermutation-sym _ _ (made_over net (leaving_state net seen stores) s))) adds.same)
    (permuted_from (sym (flat_map-append (λ (m : Move). made_by s m.instance m.way) before moves))
    (IsPermutation-trans _ _ _ (IsPermutation-sym _ _ (flat_map_permuted (λ (m : Move). made_by s m.instance m.way) after (before ++ moves) comes)) (made_over net (leaving_state net later stores) s))))
  where
    before : List Move
    before = moves_seen net stores seen

    after : List Move
    after = moves_seen net stores later

-- and for one waiting state
pub bound_grows : (net : Net) → IsNetwork net → (stores : Stores) (seen later : Streams) (moves : List Move) (n b : ℕ) (hop : Hop) (at : entrance_at net n ≡ Some (Waiting b hop)) (old new : List Instance) → IsPermutation (moves_seen net stores later) (moves_seen net stores seen ++ moves)
    → IsPermutation old (comes_to net stores seen n b hop) → IsPermutation new (old ++ bound_of net n moves) → IsPermutation new (comes_to net stores later n b hop)
bound_grows net network stores seen later moves n b hop at old new comes was grows =
    IsPermutation-trans _ _ _ grows
    (IsPermutation-trans _ _ _
    (IsPermutation-append_left (bound_of net n moves) old (bound_of net n before) (IsPermutation-trans _ _ _ was (IsPermutation-sym _ _ (bound_seen net network stores seen n b hop at))))
    (permuted_from (sym (flat_map-append (λ (m : Move). bound_by net n m.instance m.way) before moves))
    (IsPermutation-trans _ _ _ (IsPermutation-sym _ _ (flat_map_permuted (λ (m : Move). bound_by net n m.instance m.way) after (before ++ moves) comes)) (bound_seen net network stores later n b hop at))))
  where
    before : List Move
    before = moves_seen net stores seen

    after : List Move
    after = moves_seen net stores later

-- nothing comes to a state where none waits
unbound_all : (net : Net) → IsNetwork net → (stores : Stores) (s : ℕ) (n : ℕ) → wait_at net n ≡ None → (rows : List TupleView) → bound_of net n (moves_of_all net stores s rows) ≡ []
unbound_all net network stores s n none [] = refl
unbound_all net network stores s n none (r ∷ rows) =
    flat_map-append (λ (m : Move). bound_by net n m.instance m.way) (moves_of net stores s r) (moves_of_all net stores s rows)
    ∙ ap (λ xs. xs ++ bound_of net n (moves_of_all net stores s rows)) (unbound_over net network n none (gets net stores s r)) ∙ unbound_all net network stores s n none rows

unbound_stays : (old new more : List Instance) → IsPermutation new (old ++ more) → old ≡ [] → more ≡ [] → new ≡ []
unbound_stays old new more h o r =
    let e = length_permutation new (old ++ more) h in
    let z : length (old ++ more) ≡ 0 = ap (λ (xs : List Instance). length (xs ++ more)) o ∙ ap length r in
    no_length new (omega (arith, e, z))

-- so it stays without beads when more is met
pub unbound_grows : (net : Net) → IsNetwork net → (stores : Stores) (s : ℕ) (rows : List TupleView) (n : ℕ) (old new : List Instance) → wait_at net n ≡ None → IsPermutation new (old ++ bound_of net n (moves_of_all net stores s rows)) → old ≡ [] → new ≡ []
unbound_grows net network stores s rows n old new none h o = unbound_stays old new (bound_of net n (moves_of_all net stores s rows)) h o (unbound_all net network stores s n none rows)

-- a draft that grows by the moves of one more stream has all that comes of that stream too
pub drawn_comes : (net : Net) (stores : Stores) (seen : Streams) (s : ℕ) (rows : List TupleView) (old new : Draft) → IsNetwork net → Drawn net stores seen old → Grows net (moves_of_all net stores s rows) old new
    → Drawn net stores (with_stream seen s (seen s ++ rows)) new
drawn_comes net stores seen s rows old new network drawn grows =
    let later = with_stream seen s (seen s ++ rows) in
    let moves = moves_of_all net stores s rows in
    let comes = stream_comes net stores s rows seen in record {
      made = λ t. made_grows net stores seen later moves t (get_or old.made t []) (get_or new.made t []) comes (drawn.made t) (grows.made t);
      bound = λ n b hop at. bound_grows net network stores seen later moves n b hop at (get_or old.beads n []) (get_or new.beads n []) comes (drawn.bound n b hop at) (grows.bound n);
      unbound = λ n none. unbound_grows net network stores s rows n (get_or old.beads n []) (get_or new.beads n []) none (grows.bound n) (drawn.unbound n none);
    }

-- the beads are what comes to the instances that are left
pub drawn_is_after : (net : Net) (stores : Stores) (news : Streams) (draft : Draft) → Drawn net stores news draft → (n before : ℕ) (hop : Hop) → entrance_at net n ≡ Some (Waiting before hop)
    → IsPermutation (unmatched_after hop.wait.choose (news hop.wait.stream) (stores n) ++ get_or draft.beads n []) (stores_after net news stores n)
drawn_is_after net stores news draft drawn n before hop at =
    permuted_to (IsPermutation-append_right (unmatched_after hop.wait.choose (news hop.wait.stream) (stores n)) (get_or draft.beads n []) _ (drawn.bound n before hop at))
    (sym (ap (λ (o : Option Entrance). stepped_by o news (leaving_state net news stores) (stores n)) at))

-- no tuples, and nothing leaves
took_none : (choose : List Pr) (fold : Option Turn) (store : List Instance) → took choose fold [] store ≡ []
took_none choose fold [] = refl
took_none choose None (i ∷ store) = took_none choose None store
took_none choose (Some turn) (i ∷ store) = took_none choose (Some turn) store

abbrev no_streams : Streams
no_streams = λ _. []

leaves_none : (net : Net) (stores : Stores) (n : ℕ) → leaving_state net no_streams stores n ≡ []
leaves_none net stores n = go (entrance_at net n)
  where
    go : (o : Option Entrance) → leaving_by o no_streams (stores n) ≡ []
    go None = refl
    go (Some (Root s)) = refl
    go (Some (Waiting before hop)) = took_none hop.wait.choose hop.wait.fold (stores n)

published_none : (net : Net) (stores : Stores) (s : ℕ) → given_by_ends net no_streams stores s ≡ []
published_none net stores s =
    let range = range_with_len 0 (length net) in
    flat_map_same (given_by_ends_at net no_streams stores s) (λ n. []) range (every (λ n. given_by_ends_at net no_streams stores s n ≡ []) each range) ∙ nothing_of range
  where
    each : (n : ℕ) → given_by_ends_at net no_streams stores s n ≡ []
    each n =
        let ends = filter (λ (e : End). e.out == s) (ends_at net n) in
        ap (λ (store : List Instance). flat_map (given_by_end store) ends) (leaves_none net stores n) ∙ nothing_of ends

again_none : (fold : Option Turn) → again {X = Instance} fold [] ≡ []
again_none None = refl
again_none (Some turn) = refl

-- a draft in which nothing is made fits no tuples
pub drawn_starts : (net : Net) (stores : Stores) (draft : Draft) → ((s : ℕ) → get_or draft.made s [] ≡ []) → ((n : ℕ) → get_or draft.beads n [] ≡ []) → Drawn net stores no_streams draft
drawn_starts net stores draft made beads = record {
  made = λ s. permuted_is (made s ∙ sym (published_none net stores s));
  bound = λ n before hop at.
      permuted_is (beads n
      ∙ sym (ap (λ (store : List Instance). instances_entering hop store ++ again hop.wait.fold (took hop.wait.choose hop.wait.fold [] (stores n))) (leaves_none net stores before)
      ∙ ap (again hop.wait.fold) (took_none hop.wait.choose hop.wait.fold (stores n)) ∙ again_none hop.wait.fold));
  unbound = λ n none. beads n;
}

same_test : (m n : ℕ) → m ≡ n → (m == n) ≡ true
same_test m n e = grind (arith, nat_tests)

-- pairs of one stream more
pub paired_comes : (net : Net) (stores : Stores) (seen : Streams) (s : ℕ) (rows : List TupleView) (old new : List Pair) → seen s ≡ [] → Paired net stores seen old → ListsAll net stores s rows old new → Paired net stores (with_stream seen s rows) new
paired_comes net stores seen s rows old new none was lists = record {
  sound =
      subst (All IsSound) (sym lists.are)
      (All-append IsSound old lists.added (All-weaker (λ p. Contains (waits_on net p.stream) p.state × (p.place < length (seen p.stream))) IsSound (λ p h. (h.0, kept p h.1 (p.stream == s) refl)) old was.sound)
      (All-weaker (IsPairOf net s rows) IsSound one lists.added lists.sound));
  listed = λ t k r e n c. at t k r n c (t == s) refl e;
}
  where
    IsSound : Pair → Type 0
    IsSound p = Contains (waits_on net p.stream) p.state × (p.place < length (with_stream seen s rows p.stream))

    kept : (p : Pair) → p.place < length (seen p.stream) → (b : Bool) → (p.stream == s) ≡ b → p.place < length (cond b rows (seen p.stream))
    kept p lt true e = let none' = ap length (ap seen (same_number p.stream s e) ∙ none) in absurd (omega arith)
    kept p lt false e = lt

    one : (p : Pair) → IsPairOf net s rows p → IsSound p
    one p h =
        (subst (λ t. Contains (waits_on net t) p.state) (sym h.stream_is) h.waits, subst (λ (b : Bool). p.place < length (cond b rows (seen p.stream))) (sym (same_test p.stream s h.stream_is)) h.below)

    old_pair : (t k : ℕ) (r : TupleView) (n : ℕ) → Contains old (pair_of t k n) ⊎ MatchesNone net stores r n → Contains new (pair_of t k n) ⊎ MatchesNone net stores r n
    old_pair t k r n (inl c) = inl (subst (λ ps. Contains ps (pair_of t k n)) (sym lists.are) (Contains-append_left old lists.added (pair_of t k n) c))
    old_pair t k r n (inr left) = inr left

    new_pair : (t k : ℕ) (r : TupleView) (n : ℕ) → t ≡ s → Contains lists.added (pair_of s k n) ⊎ MatchesNone net stores r n → Contains new (pair_of t k n) ⊎ MatchesNone net stores r n
    new_pair t k r n same (inl c) =
        inl (subst (λ ps. Contains ps (pair_of t k n)) (sym lists.are) (Contains-append_right old lists.added (pair_of t k n) (subst (λ u. Contains lists.added (pair_of u k n)) (sym same) c)))
    new_pair t k r n same (inr left) = inr left

    at : (t k : ℕ) (r : TupleView) (n : ℕ) → Contains (waits_on net t) n → (b : Bool) → (t == s) ≡ b → slice_get (cond b rows (seen t)) k ≡ Some r → Contains new (pair_of t k n) ⊎ MatchesNone net stores r n
    at t k r n c true e got = let same = same_number t s e in new_pair t k r n same (lists.listed k r got n (subst (λ u. Contains (waits_on net u) n) same c))
    at t k r n c false e got = old_pair t k r n (was.listed t k r got n c)
