-- What fits tuples fits them with their derivations.
use Rattle.std.proofs.Common.{◌≡◌, sym, subst, get_or, List}
use Rattle.std.specs.List.{All}
use Rattle.std.proofs.lemmas.List.Elements.{All-contains, All-contains_itself}
use Rattle.event_types.specs.Tuple.{TupleView}
use Rattle.derivations.specs.DerivedTuples.{DerivedTuple, tuples_in}
use Rattle.derivations.proofs.ListLemmas.{map_in}

-- a fact of all tuples is one of each tuple with its derivation
pub all_tuples : (P : TupleView → Type 0) (found : List DerivedTuple) → All P (tuples_in found) → All (λ x. P x.tuple) found
all_tuples P found all = λ k d lt. All-contains P (tuples_in found) (get_or found k d).tuple all (map_in (λ (x : DerivedTuple). x.tuple) found (get_or found k d) (All-contains_itself found k d lt))

-- the same of a list that has these tuples
pub all_tuples_of : (P : TupleView → Type 0) (found : List DerivedTuple) (tuples : List TupleView) → tuples_in found ≡ tuples → All P tuples → All (λ x. P x.tuple) found
all_tuples_of P found tuples same all = all_tuples P found (subst (All P) (sym same) all)
