-- The tuples of what is derived are those that are denoted, in their order.
use Rattle.std.proofs.Common.{◌≡◌, ◌∙◌, sym, ap, refl, ℕ, zero, suc, nat_lt, Bool, true, false, length, List, [], ◌∷◌, ◌++◌, map}
use Rattle.std.specs.Prelude.{None, Some}
use Rattle.std.specs.List.{filter, flat_map}
use Rattle.std.proofs.lemmas.List.{length-map, map-append}
use Rattle.std.proofs.lemmas.List.Folds.{flat_map-map}
use Rattle.std.proofs.lemmas.Simd.{map-map}
use Rattle.event_types.specs.Tuple.{TupleView}
use Rattle.semantics.specs.Scalars.{Pr, Sc}
use Rattle.semantics.specs.Truth.{all_true}
use Rattle.semantics.specs.Nexts.{earliest, is_earliest, is_eligible, nexts}
use Rattle.semantics.specs.Runs.{goers, rebound, runs, runs_within}
use Rattle.semantics.specs.Denotation.{denote, joined, matches, selected}
use Rattle.semantics.specs.Expressions.{Ex, Read, Filter, Select, Union, Next, Fold}
use Rattle.semantics.proofs.ListLemmas.{filter-map}
use Rattle.derivations.specs.Derivation.{Derivation}
use Rattle.derivations.specs.Derivation as the
use Rattle.derivations.specs.DerivedTuples.{DerivedStreams, DerivedTuple, Run, as_read, begun_by, derived, derived_eligible, derived_fold, derived_goers, derived_join, derived_matches, derived_nexts, derived_runs, derived_runs_within, derived_selected, going_on, tuples_in}
use Rattle.derivations.proofs.ListLemmas.{map-flat_map, map_same}

-- the tuple alone
abbrev pub tuple_of : DerivedTuple → TupleView
tuple_of x = x.tuple

-- the tuples of runs
abbrev pub run_tuple : Run → TupleView
run_tuple run = run.tuple

-- the tuples of those whose tuple passes are the tuples that pass
pub tuples_filtered : (test : TupleView → Bool) (found : List DerivedTuple) → tuples_in (filter (λ x. test x.tuple) found) ≡ filter test (tuples_in found)
tuples_filtered test found = sym (filter-map test tuple_of found)

-- how a derivation goes on changes no tuple
pub tuples_going_on : (way : Derivation → Derivation) (found : List DerivedTuple) → tuples_in (map (going_on way) found) ≡ tuples_in found
tuples_going_on way found = map-map tuple_of (going_on way) found

-- nor does how it is read
pub tuples_as_read : (b : Bool) (found : List DerivedTuple) → tuples_in (map (as_read b) found) ≡ tuples_in found
tuples_as_read b found = map-map tuple_of (as_read b) found ∙ map_same (λ x. tuple_of (as_read b x)) tuple_of (same b) found
  where
    same : (b : Bool) (x : DerivedTuple) → tuple_of (as_read b x) ≡ tuple_of x
    same true x = refl
    same false x = refl

-- the tuples of the nexts
pub tuples_nexts : (p : List Pr) (b : TupleView) (found : List DerivedTuple) → tuples_in (derived_nexts p b found) ≡ nexts p b (tuples_in found)
tuples_nexts p b found =
    let eligible = derived_eligible p b found in
    tuples_filtered (is_earliest (tuples_in eligible)) eligible ∙ ap earliest (tuples_filtered (is_eligible p b) found)

-- those of the goers
pub tuples_goers : (p q : List Pr) (found : List DerivedTuple) (b : TupleView) → tuples_in (derived_goers p q found b) ≡ goers p q (tuples_in found) b
tuples_goers p q found b =
    tuples_filtered (λ event. all_true q event (Some b)) (derived_nexts p b found) ∙ ap (filter (λ event. all_true q event (Some b))) (tuples_nexts p b found)

-- those of the matches
pub tuples_matches : (p : List Pr) (found : List DerivedTuple) (left : DerivedTuple) → tuples_in (derived_matches p found left) ≡ matches p (tuples_in found) left.tuple
tuples_matches p found left =
    map-map tuple_of (derived_join left) (derived_nexts p left.tuple found) ∙ sym (map-map (joined left.tuple) tuple_of (derived_nexts p left.tuple found))
    ∙ ap (map (joined left.tuple)) (tuples_nexts p left.tuple found)

-- those of one branch of the runs
abbrev branch : ℕ → List Pr → List Pr → List Sc → List DerivedTuple → TupleView → DerivedTuple → List Run
branch most p q m found b x = record { tuple = rebound m b x.tuple; events = x.by ∷ [] } ∷ map (begun_by x.by) (derived_runs_within most p q m found (rebound m b x.tuple))

abbrev branched : ℕ → List Pr → List Pr → List Sc → List TupleView → TupleView → TupleView → List TupleView
branched most p q m tuples b event = rebound m b event ∷ runs_within most p q m tuples (rebound m b event)

-- those of the runs: by induction on how many events they may have
pub tuples_within : (most : ℕ) (p q : List Pr) (m : List Sc) (found : List DerivedTuple) (b : TupleView) → map run_tuple (derived_runs_within most p q m found b) ≡ runs_within most p q m (tuples_in found) b
tuples_within zero p q m found b = refl
tuples_within (suc most) p q m found b =
    map-flat_map run_tuple (branch most p q m found b) (derived_goers p q found b)
    ∙ (λ i. flat_map (λ (x : DerivedTuple). rebound m b x.tuple ∷ (map-map run_tuple (begun_by x.by) (derived_runs_within most p q m found (rebound m b x.tuple)) ∙ tuples_within most p q m found (rebound m b x.tuple)) i) (derived_goers p q found b))
    ∙ sym (flat_map-map (branched most p q m (tuples_in found) b) tuple_of (derived_goers p q found b))
    ∙ ap (flat_map (branched most p q m (tuples_in found) b)) (tuples_goers p q found b)

pub tuples_runs : (p q : List Pr) (m : List Sc) (found : List DerivedTuple) (binding : DerivedTuple) → tuples_in (derived_runs p q m found binding) ≡ runs p q m (tuples_in found) binding.tuple
tuples_runs p q m found binding =
    map-map tuple_of (derived_fold binding.by) (derived_runs_within (length found) p q m found binding.tuple) ∙ tuples_within (length found) p q m found binding.tuple
    ∙ ap (λ n. runs_within n p q m (tuples_in found) binding.tuple) (sym (length-map found tuple_of))

-- so the tuples of what is derived are what is denoted over the tuples of the streams: by induction on the expression
pub tuples_derived : (declared : ℕ) (streams : DerivedStreams) (e : Ex) → tuples_in (derived declared e streams) ≡ denote e (λ stream. tuples_in (streams stream))
tuples_derived declared streams (Read stream) = tuples_as_read (nat_lt stream declared) (streams stream)
tuples_derived declared streams (Filter p e) =
    tuples_filtered (λ tuple. all_true p tuple None) (derived declared e streams) ∙ ap (filter (λ (tuple : TupleView). all_true p tuple None)) (tuples_derived declared streams e)
tuples_derived declared streams (Select m e) =
    let found = derived declared e streams in
    map-map tuple_of (derived_selected m.parts) found ∙ sym (map-map (selected m.parts) tuple_of found) ∙ ap (map (selected m.parts)) (tuples_derived declared streams e)
tuples_derived declared streams (Union e f) =
    let left = derived declared e streams in
    let right = derived declared f streams in
    map-append tuple_of (map (going_on the.Left) left) (map (going_on the.Right) right)
    ∙ (λ i. tuples_going_on the.Left left i ++ tuples_going_on the.Right right i)
    ∙ (λ i. tuples_derived declared streams e i ++ tuples_derived declared streams f i)
tuples_derived declared streams (Next p e f) =
    let left = derived declared e streams in
    let right = derived declared f streams in
    map-flat_map tuple_of (derived_matches p right) left
    ∙ (λ i. flat_map (λ x. tuples_matches p right x i) left)
    ∙ sym (flat_map-map (matches p (tuples_in right)) tuple_of left)
    ∙ (λ i. flat_map (matches p (tuples_derived declared streams f i)) (tuples_derived declared streams e i))
tuples_derived declared streams (Fold p q m e f) =
    let left = derived declared e streams in
    let right = derived declared f streams in
    map-flat_map tuple_of (derived_runs p q m.parts right) left
    ∙ (λ i. flat_map (λ x. tuples_runs p q m.parts right x i) left)
    ∙ sym (flat_map-map (runs p q m.parts (tuples_in right)) tuple_of left)
    ∙ (λ i. flat_map (runs p q m.parts (tuples_derived declared streams f i)) (tuples_derived declared streams e i))
