-- The tests of the tuples of an epoch.
use Rattle.std.proofs.Common.{◌≡◌, sym, refl, subst, ℕ, ◌+◌, ◌≤◌, ◌==◌, Bool, true, false, cond, length, get_or, List, [], ◌∷◌}
use Rattle.std.specs.Prelude.{Option, Some, None, sum_by}
use Rattle.std.specs.List.{filter, range_with_len}
use Rattle.std.specs.List.Sorted.{IsPermutation}
use Rattle.std.proofs.lemmas.List.Sorted.{IsPermutation-map, IsPermutation-refl, sum_by-IsPermutation}
use Rattle.event_types.specs.Tuple.{TupleView}
use Rattle.semantics.specs.Denotation.{Streams, streams_of}
use Rattle.semantics.specs.Programs.{with_stream}
use Rattle.automaton.specs.States.{Net, ends_at, entrance_at}
use Rattle.automaton.specs.declared.network.End.{End}
use Rattle.automaton.specs.declared.network.Entrance.{Entrance}
use Rattle.automaton.specs.declared.network.Entrance.TheVariants.{Root, Waiting}
use Rattle.automaton.specs.declared.layout.Layout.{Layout}
use Rattle.instances.specs.declared.instance.Instance.{Instance}
use Rattle.epoch_laws.specs.Closing.{Stores, given_by_end, given_by_ends, given_by_ends_at, leaving_by, leaving_state}
use Rattle.semantics.specs.Births.{is_after}
use Rattle.epoch_laws.specs.Instances.{begins}
use Rattle.scalar_expr.proofs.Bags.{filter_permuted}
use Rattle.epoch_laws.proofs.Bags.{flat_map_alike}
use Rattle.epoch_laws.proofs.Lists.{every}
use Rattle.epoch_laws.proofs.Networks.{passing_permuted}
use Rattle.epoch_laws.proofs.Purges.{took_permuted}
use Rattle.epoch_draft.specs.Deriving.{AreOpened}
use Rattle.epoch_draft.specs.EpochWork.{derived_tests, heard_tests}
use Rattle.epoch_draft.proofs.SumLemmas.{once_sum}
use Rattle.epoch_draft.specs.Tests.{streams_work, tuple_work}

-- the same tuples of each stream, up to order
abbrev pub AreAlike : Streams → Streams → Type 0
AreAlike news later = (stream : ℕ) → IsPermutation (news stream) (later stream)

-- the streams with the same tuples of one more stream, up to order
pub with_alike : (news later : Streams) (s : ℕ) (rows more : List TupleView) → AreAlike news later → IsPermutation rows more → AreAlike (with_stream news s rows) (with_stream later s more)
with_alike news later s rows more alike same t = go (t == s)
  where
    go : (b : Bool) → IsPermutation (cond b rows (news t)) (cond b more (later t))
    go true = same
    go false = alike t

module _ (net : Net) (stores : Stores) (news later : Streams) (alike : AreAlike news later) where
  -- what leaves a state over the same tuples
  leaving_alike : (n : ℕ) → IsPermutation (leaving_state net news stores n) (leaving_state net later stores n)
  leaving_alike n = go (entrance_at net n)
    where
      go : (o : Option Entrance) → IsPermutation (leaving_by o news (stores n)) (leaving_by o later (stores n))
      go None = IsPermutation-refl []
      go (Some (Root t)) = IsPermutation-map begins (news t) (later t) (alike t)
      go (Some (Waiting before hop)) =
          let p = hop.wait.choose in
          let turn = hop.wait.fold in
          let s = hop.wait.stream in
          took_permuted p turn (news s) (later s) (alike s) (stores n)

  -- what the ends of a stream give over them
  pub given_alike : (s : ℕ) → IsPermutation (given_by_ends net news stores s) (given_by_ends net later stores s)
  given_alike s =
      flat_map_alike (given_by_ends_at net news stores s) (given_by_ends_at net later stores s) (range_with_len 0 (length net))
      (every (λ n. IsPermutation (given_by_ends_at net news stores s n) (given_by_ends_at net later stores s n)) at (range_with_len 0 (length net)))
    where
      at : (n : ℕ) → IsPermutation (given_by_ends_at net news stores s n) (given_by_ends_at net later stores s n)
      at n =
          let ends = filter (λ (e : End). e.out == s) (ends_at net n) in
          let was = leaving_state net news stores n in
          let is = leaving_state net later stores n in
          flat_map_alike (given_by_end was) (given_by_end is) ends
          (every (λ (e : End). IsPermutation (given_by_end was e) (given_by_end is e)) (λ e. passing_permuted e.step e.birth was is (filter_permuted (λ (i : Instance). is_after e.birth i.first) was is (leaving_alike n))) ends)

module _ (tests : ℕ → TupleView → ℕ) (net : Net) (stores : Stores) where
  -- the same tests over the same tuples, by induction on the order of work
  pub derived_alike : (order : List ℕ) (news later : Streams) → AreAlike news later → derived_tests tests net order stores news ≡ derived_tests tests net order stores later
  derived_alike [] news later alike = refl
  derived_alike (s ∷ order) news later alike =
      let given = given_alike net stores news later alike s in
      let one = sym (sum_by-IsPermutation (tests s) (given_by_ends net news stores s) (given_by_ends net later stores s) given) in
      let rest =
      derived_alike order (with_stream news s (given_by_ends net news stores s)) (with_stream later s (given_by_ends net later stores s))
      (with_alike news later s (given_by_ends net news stores s) (given_by_ends net later stores s) alike given) in
      λ i. one i + rest i

  -- where a stream has the tuples that its ends give, its tests are those, and the others are made over them
  pub derived_first : (s : ℕ) (order : List ℕ) (news : Streams) (rows : List TupleView) → IsPermutation rows (given_by_ends net news stores s)
      → derived_tests tests net (s ∷ order) stores news ≡ sum_by (tests s) rows + derived_tests tests net order stores (with_stream news s rows)
  derived_first s order news rows same =
      let one = sum_by-IsPermutation (tests s) rows (given_by_ends net news stores s) same in
      let rest =
      sym
      (derived_alike order (with_stream news s rows) (with_stream news s (given_by_ends net news stores s))
      (with_alike news news s rows (given_by_ends net news stores s) (λ t. IsPermutation-refl (news t)) same)) in
      λ i. one i + rest i

-- the tuples of touched streams take no more than those of all streams
pub heard_less : (tests : ℕ → TupleView → ℕ) (opened : List (List TupleView)) (touched : List ℕ) → AreOpened opened touched
    → sum_by (λ s. sum_by (tests s) (get_or opened s [])) touched ≤ heard_tests tests (length opened) (streams_of opened)
heard_less tests opened touched are = once_sum (length opened) touched (λ s. sum_by (tests s) (get_or opened s [])) are.below are.once

-- and so do the tests by which they are met
pub heard_within : (net : Net) (layout : Layout) (stores : Stores) (opened : List (List TupleView)) (touched : List ℕ) → AreOpened opened touched → length opened ≡ length layout.kinds
    → streams_work net stores opened touched ≤ heard_tests (tuple_work net stores) (length layout.kinds) (streams_of opened)
heard_within net layout stores opened touched are many =
    subst (λ (n : ℕ). streams_work net stores opened touched ≤ heard_tests (tuple_work net stores) n (streams_of opened)) many (heard_less (tuple_work net stores) opened touched are)
