-- Streams that have the same bags of tuples give the same bags.
use Rattle.std.proofs.Common.{sym, ap, ℕ, zero, suc, ◌==◌, Bool, true, false, cond, nat_lt, length, List, [], ◌∷◌}
use Rattle.std.specs.Prelude.{None, Some}
use Rattle.std.specs.List.{filter, flat_map}
use Rattle.std.specs.List.Sorted.{IsPermutation}
use Rattle.std.proofs.lemmas.List.Sorted.{IsPermutation-append, IsPermutation-cons, IsPermutation-map, IsPermutation-refl, IsPermutation-trans, length_permutation}
use Rattle.event_types.specs.Tuple.{TupleView}
use Rattle.semantics.specs.Births.{is_after, streams_after}
use Rattle.semantics.specs.Denotation.{Streams, denote, joined, matches, selected}
use Rattle.semantics.specs.Expressions.{Ex, Read, Filter, Select, Union, Next, Fold}
use Rattle.semantics.specs.Histories.{Event, heard_on}
use Rattle.semantics.specs.Nexts.{nexts}
use Rattle.semantics.specs.Programs.{Query, declared_streams, published, with_stream}
use Rattle.semantics.specs.Runs.{goers, rebound, runs, runs_within}
use Rattle.semantics.specs.Scalars.{Pr, Sc}
use Rattle.semantics.specs.Truth.{all_true}
use Rattle.scalar_expr.proofs.Bags.{filter_permuted, flat_map_permuted, permuted_to}
use Rattle.scalar_expr.proofs.NextsLemmas.{nexts_permuted}

module _ {X Y : Type 0} (f g : X → List Y) (same : (x : X) → IsPermutation (f x) (g x)) where
  -- items that give the same bags
  flat_map_bags : (xs : List X) → IsPermutation (flat_map f xs) (flat_map g xs)
  flat_map_bags [] = IsPermutation-refl []
  flat_map_bags (x ∷ xs) = IsPermutation-append (f x) (g x) (flat_map f xs) (flat_map g xs) (same x) (flat_map_bags xs)

  -- bags of such items
  both_bags : (xs ys : List X) → IsPermutation xs ys → IsPermutation (flat_map f xs) (flat_map g ys)
  both_bags xs ys h = IsPermutation-trans (flat_map f xs) (flat_map f ys) (flat_map g ys) (flat_map_permuted f xs ys h) (flat_map_bags ys)

-- the runs among a bag, by induction on their length
runs_permuted : (n : ℕ) (p q : List Pr) (m : List Sc) (rs ss : List TupleView) → IsPermutation rs ss → (b : TupleView) → IsPermutation (runs_within n p q m rs b) (runs_within n p q m ss b)
runs_permuted zero p q m rs ss h b = IsPermutation-refl []
runs_permuted (suc n) p q m rs ss h b =
    both_bags (λ r. rebound m b r ∷ runs_within n p q m rs (rebound m b r)) (λ r. rebound m b r ∷ runs_within n p q m ss (rebound m b r))
    (λ r. IsPermutation-cons (rebound m b r) (runs_within n p q m rs (rebound m b r)) (runs_within n p q m ss (rebound m b r)) (runs_permuted n p q m rs ss h (rebound m b r)))
    (goers p q rs b) (goers p q ss b) (filter_permuted (λ r. all_true q r (Some b)) (nexts p b rs) (nexts p b ss) (nexts_permuted p b rs ss h))

-- the same with fuel for each tuple
fold_permuted : (p q : List Pr) (m : List Sc) (rs ss : List TupleView) → IsPermutation rs ss → (b : TupleView) → IsPermutation (runs p q m rs b) (runs p q m ss b)
fold_permuted p q m rs ss h b = permuted_to (runs_permuted (length rs) p q m rs ss h b) (ap (λ n. runs_within n p q m ss b) (sym (length_permutation rs ss h)))

-- both have the same tuples on each stream, in any order
abbrev pub AreSameBags : Streams → Streams → Type 0
AreSameBags streams others = (stream : ℕ) → IsPermutation (streams stream) (others stream)

-- what an expression denotes over bags, by induction on it
denote_permuted : (streams others : Streams) → AreSameBags streams others → (e : Ex) → IsPermutation (denote e streams) (denote e others)
denote_permuted streams others same (Read stream) = same stream
denote_permuted streams others same (Filter p e) = filter_permuted (λ t. all_true p t None) (denote e streams) (denote e others) (denote_permuted streams others same e)
denote_permuted streams others same (Select m e) = IsPermutation-map (selected m.parts) (denote e streams) (denote e others) (denote_permuted streams others same e)
denote_permuted streams others same (Union e f) =
    IsPermutation-append (denote e streams) (denote e others) (denote f streams) (denote f others) (denote_permuted streams others same e) (denote_permuted streams others same f)
denote_permuted streams others same (Next p e f) =
    both_bags (matches p (denote f streams)) (matches p (denote f others))
    (λ b. IsPermutation-map (joined b) (nexts p b (denote f streams)) (nexts p b (denote f others)) (nexts_permuted p b (denote f streams) (denote f others) (denote_permuted streams others same f)))
    (denote e streams) (denote e others) (denote_permuted streams others same e)
denote_permuted streams others same (Fold p q m e f) =
    both_bags (runs p q m.parts (denote f streams)) (runs p q m.parts (denote f others)) (fold_permuted p q m.parts (denote f streams) (denote f others) (denote_permuted streams others same f))
    (denote e streams) (denote e others) (denote_permuted streams others same e)

-- a stream that is put at a number
with_permuted : (streams others : Streams) → AreSameBags streams others → (number : ℕ) (xs ys : List TupleView) → IsPermutation xs ys → AreSameBags (with_stream streams number xs) (with_stream others number ys)
with_permuted streams others same number xs ys h stream = go (stream == number)
  where
    go : (b : Bool) → IsPermutation (cond b xs (streams stream)) (cond b ys (others stream))
    go true = h
    go false = same stream

-- the streams once each query has published, by induction on the queries
pub published_permuted : (streams others : Streams) → AreSameBags streams others → (order : List Query) → AreSameBags (published streams order) (published others order)
published_permuted streams others same [] = same
published_permuted streams others same (query ∷ order) =
    let cut = streams_after query.birth streams in
    let others_cut = streams_after query.birth others in
    let alike = λ (stream : ℕ). filter_permuted (λ (tuple : TupleView). is_after query.birth tuple.at) (streams stream) (others stream) (same stream) in
    published_permuted (with_stream streams query.stream (denote query.expr cut)) (with_stream others query.stream (denote query.expr others_cut))
    (with_permuted streams others same query.stream (denote query.expr cut) (denote query.expr others_cut) (denote_permuted cut others_cut alike query.expr)) order

-- what was heard on the streams of a bag of events
pub heard_permuted : (declared : ℕ) (history others : List Event) → IsPermutation history others → AreSameBags (declared_streams declared history) (declared_streams declared others)
heard_permuted declared history others h stream = go (nat_lt stream declared)
  where
    on : Event → Bool
    on event = event.stream == stream

    go : (b : Bool) → IsPermutation (cond b (heard_on history stream) []) (cond b (heard_on others stream) [])
    go true = IsPermutation-map (λ (event : Event). event.tuple) (filter on history) (filter on others) (filter_permuted on history others h)
    go false = IsPermutation-refl []
