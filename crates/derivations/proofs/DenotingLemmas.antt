-- What suits an expression fits what it gives.
use Rattle.std.proofs.Common.{◌≡◌, ◌∙◌, ap, refl, sym, subst, ℕ, true, [], ◌∷◌, ◌++◌, get_or, length, List, map}
use Rattle.std.specs.Prelude.{nat_lt, OnOk, Result, Some, slice_get}
use Rattle.std.specs.List.{All}
use Rattle.std.proofs.lemmas.List.{length-map}
use Rattle.std.proofs.lemmas.Option.{get_or_from_slice_get}
use Rattle.event_types.specs.Tuple.{TupleView}
use Rattle.semantics.specs.Denotation.{denote}
use Rattle.semantics.specs.Expressions.{Ex, Read}
use Rattle.semantics.specs.Scalars.{Pr, Sc}
use Rattle.scalar_expr.specs.Fits.{AllFit}
use Rattle.algebra.specs.Suits.{FitsPairs, SuitsRuns}
use Rattle.derivations.specs.DerivedTuples.{DerivedStreams, DerivedTuple, as_read, derived, tuples_in}
use Rattle.derivations.specs.Fitting.{FitsWith}
use Rattle.derivations.specs.Tables.{streams_of}
use Rattle.derivations.proofs.FittingLemmas.{all_tuples_of}
use Rattle.derivations.proofs.TupleLemmas.{tuples_derived}

-- a fact of what is denoted is one of what is found
pub found_fit : (P : TupleView → Type 0) (declared : ℕ) (streams : DerivedStreams) (e : Ex) (found : List DerivedTuple) → found ≡ derived declared e streams → All P (denote e (λ stream. tuples_in (streams stream))) → All (λ x. P x.tuple) found
found_fit P declared streams e found same all = all_tuples_of P found (denote e (λ stream. tuples_in (streams stream))) (ap tuples_in same ∙ tuples_derived declared streams e) all

-- the condition of NEXT fits what is found with each binding
pub next_fits : (p : List Pr) (declared : ℕ) (streams : DerivedStreams) (e f : Ex) (bindings found : List DerivedTuple) → bindings ≡ derived declared e streams → found ≡ derived declared f streams
    → All (FitsPairs p (denote f (λ stream. tuples_in (streams stream)))) (denote e (λ stream. tuples_in (streams stream))) → All (λ (x : DerivedTuple). FitsWith p found x.tuple) bindings
next_fits p declared streams e f bindings found left right all = λ k d lt.
    found_fit (λ (r : TupleView). AllFit p r (Some (get_or bindings k d).tuple)) declared streams f found right
    (found_fit (FitsPairs p (denote f (λ stream. tuples_in (streams stream)))) declared streams e bindings left all k d lt)

-- what suits the runs of FOLD suits those over what is found
pub fold_fits : (p q : List Pr) (m : List Sc) (declared : ℕ) (streams : DerivedStreams) (e f : Ex) (bindings found : List DerivedTuple) → bindings ≡ derived declared e streams → found ≡ derived declared f streams
    → All (SuitsRuns (length (denote f (λ stream. tuples_in (streams stream)))) p q m (denote f (λ stream. tuples_in (streams stream)))) (denote e (λ stream. tuples_in (streams stream)))
    → All (λ (x : DerivedTuple). SuitsRuns (length found) p q m (tuples_in found) x.tuple) bindings
fold_fits p q m declared streams e f bindings found left right all =
    let tuples = denote f (λ stream. tuples_in (streams stream)) in
    let same : tuples_in found ≡ tuples = ap tuples_in right ∙ tuples_derived declared streams f in
    subst (λ (n : ℕ). All (λ (x : DerivedTuple). SuitsRuns n p q m (tuples_in found) x.tuple) bindings) (length-map found (λ (x : DerivedTuple). x.tuple))
    (subst (λ (ts : List TupleView). All (λ (x : DerivedTuple). SuitsRuns (length ts) p q m ts x.tuple) bindings) (sym same)
    (found_fit (SuitsRuns (length tuples) p q m tuples) declared streams e bindings left all))

-- what is read of a stream of the table is what is derived
pub read_derived : {T E : Type 0} (declared stream : ℕ) (table : List (List DerivedTuple)) (items : List DerivedTuple) (e : Ex) (out next : List DerivedTuple) (result : Result T E)
    → slice_get table stream ≡ Some items → e ≡ Read stream → OnOk result (next ≡ out ++ map (as_read (nat_lt stream declared)) items) → OnOk result (next ≡ out ++ derived declared e (streams_of table))
read_derived {T} {E} declared stream table items e out next result there is ok =
    subst (λ (found : List DerivedTuple). OnOk result (next ≡ out ++ found))
    (ap (map (as_read (nat_lt stream declared))) (sym (get_or_from_slice_get table stream items [] there)) ∙ ap (λ (x : Ex). derived declared x (streams_of table)) (sym is)) ok

-- the tuples of a declared stream of the table are what is derived
pub declared_derived : (declared stream : ℕ) (table : List (List DerivedTuple)) (items : List DerivedTuple) (e : Ex) → slice_get table stream ≡ Some items → e ≡ Read stream → nat_lt stream declared ≡ true → items ≡ derived declared e (streams_of table)
declared_derived declared stream table items e there is under =
    sym (map_id items) ∙ (λ j. map (as_read (sym under j)) items) ∙ ap (map (as_read (nat_lt stream declared))) (sym (get_or_from_slice_get table stream items [] there))
    ∙ ap (λ (x : Ex). derived declared x (streams_of table)) (sym is)
  where
    map_id : (xs : List DerivedTuple) → map (as_read true) xs ≡ xs
    map_id [] = refl
    map_id (x ∷ xs) = ap (λ ys. x ∷ ys) (map_id xs)
