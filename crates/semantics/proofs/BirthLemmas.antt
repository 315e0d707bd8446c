-- What is denoted over streams that are cut at a birth.
use Rattle.std.proofs.Common.{◌≡◌, refl, ℕ, zero, suc, true, length, List, ◌∷◌}
use Rattle.std.specs.Prelude.{None, Option, Some}
use Rattle.std.specs.List.{All, filter}
use Rattle.std.proofs.lemmas.List.Elements.{All-append, All-cons, All-filter, All-map, All-nil, All-weaker, filter_passes}
use Rattle.event_types.specs.Tuple.{TupleView}
use Rattle.semantics.specs.Births.{after, is_after, streams_after}
use Rattle.semantics.specs.Denotation.{Streams, denote, joined, matches, selected}
use Rattle.semantics.specs.Expressions.{Ex, Read, Filter, Select, Union, Next, Fold}
use Rattle.semantics.specs.Nexts.{is_earliest, is_eligible, nexts}
use Rattle.semantics.specs.Runs.{goers, rebound, runs, runs_within}
use Rattle.semantics.specs.Scalars.{Pr, Sc}
use Rattle.semantics.specs.Truth.{all_true}
use Rattle.semantics.proofs.ListLemmas.{All-flat_map, every}
use Rattle.semantics.proofs.ReportLemmas.{filter_all}

-- without a birth nothing is cut
pub after-none : (tuples : List TupleView) → after None tuples ≡ tuples
after-none tuples = filter_all (λ tuple. is_after None tuple.at) tuples (every (λ tuple. is_after None tuple.at ≡ true) (λ tuple. refl) tuples)

pub streams_after-none : (streams : Streams) → streams_after None streams ≡ streams
streams_after-none streams = λ i stream. after-none (streams stream) i

-- what is cut at a birth is detected after it
pub after_is_late : (birth : Option ℕ) (tuples : List TupleView) → All (λ tuple. is_after birth tuple.at ≡ true) (after birth tuples)
after_is_late birth tuples = filter_passes (λ tuple. is_after birth tuple.at) tuples

module _ (IsSo : ℕ → Type 0) where
  -- a fact of the detection time of a tuple
  abbrev pub IsSoThen : TupleView → Type 0
  IsSoThen tuple = IsSo tuple.at

  -- what is so of the detection times of tuples is so of those of a binding's nexts
  nexts_then : (p : List Pr) (b : TupleView) (rs : List TupleView) → All IsSoThen rs → All IsSoThen (nexts p b rs)
  nexts_then p b rs all =
      let eligible = filter (is_eligible p b) rs in All-filter (is_earliest eligible) IsSoThen eligible (All-filter (is_eligible p b) IsSoThen rs all)

  -- so it is of those of a binding joined with its nexts
  pub matches_then : (p : List Pr) (rs : List TupleView) → All IsSoThen rs → (b : TupleView) → All IsSoThen (matches p rs b)
  matches_then p rs all b = All-map IsSoThen (joined b) (nexts p b rs) (nexts_then p b rs all)

  -- and of those of the runs from it
  within_then : (p q : List Pr) (m : List Sc) (rs : List TupleView) → All IsSoThen rs → (most : ℕ) (b : TupleView) → All IsSoThen (runs_within most p q m rs b)
  within_then p q m rs all zero b = All-nil IsSoThen
  within_then p q m rs all (suc most) b =
      All-flat_map IsSoThen (λ r. rebound m b r ∷ runs_within most p q m rs (rebound m b r)) (goers p q rs b)
      (All-weaker IsSoThen (λ r. All IsSoThen (rebound m b r ∷ runs_within most p q m rs (rebound m b r)))
      (λ r so. All-cons IsSoThen (rebound m b r) (runs_within most p q m rs (rebound m b r)) so (within_then p q m rs all most (rebound m b r))) (goers p q rs b)
      (All-filter (λ r. all_true q r (Some b)) IsSoThen (nexts p b rs) (nexts_then p b rs all)))

  pub runs_then : (p q : List Pr) (m : List Sc) (rs : List TupleView) → All IsSoThen rs → (b : TupleView) → All IsSoThen (runs p q m rs b)
  runs_then p q m rs all b = within_then p q m rs all (length rs) b

  -- what is so of the detection times of all tuples of the streams is so of those that an expression denotes: by induction on it
  pub denote_then : (streams : Streams) → ((stream : ℕ) → All IsSoThen (streams stream)) → (e : Ex) → All IsSoThen (denote e streams)
  denote_then streams all (Read stream) = all stream
  denote_then streams all (Filter p e) = All-filter (λ tuple. all_true p tuple None) IsSoThen (denote e streams) (denote_then streams all e)
  denote_then streams all (Select m e) = All-map IsSoThen (selected m.parts) (denote e streams) (denote_then streams all e)
  denote_then streams all (Union e f) = All-append IsSoThen (denote e streams) (denote f streams) (denote_then streams all e) (denote_then streams all f)
  denote_then streams all (Next p e f) =
      let right = denote f streams in
      All-flat_map IsSoThen (matches p right) (denote e streams) (every (λ l. All IsSoThen (matches p right l)) (matches_then p right (denote_then streams all f)) (denote e streams))
  denote_then streams all (Fold p q m e f) =
      let right = denote f streams in
      All-flat_map IsSoThen (runs p q m.parts right) (denote e streams)
      (every (λ b. All IsSoThen (runs p q m.parts right b)) (runs_then p q m.parts right (denote_then streams all f)) (denote e streams))

-- so an expression denotes only what is detected after the birth at which its streams are cut
pub denoted_after : (birth : Option ℕ) (streams : Streams) (e : Ex) → All (λ tuple. is_after birth tuple.at ≡ true) (denote e (streams_after birth streams))
denoted_after birth streams e = denote_then (λ time. is_after birth time ≡ true) (streams_after birth streams) (λ stream. after_is_late birth (streams stream)) e
