-- One more tuple of a right side, and those that start by a time.
use Rattle.std.proofs.Common.{◌≡◌, sym, ap, subst, ℕ, ◌<◌, ◌≤◌, ◌+◌, ◌-◌, get_or, length, take, List, [], ◌∷◌, ◌++◌, arith}
use Rattle.std.specs.Prelude.{Some, slice_get}
use Rattle.std.specs.List.{All}
use Rattle.std.proofs.lemmas.List.{get_or-take, length-take-le}
use Rattle.std.proofs.lemmas.List.Sorted.{IsNonDecreasingBy-push}
use Rattle.std.proofs.lemmas.Option.{get_or_from_slice_get}
use Rattle.derivations.specs.DerivedTuples.{DerivedTuple}
use Rattle.derivations.specs.Rising.{AreSoundTuples, Rises}

-- detections don't fall with a tuple more that isn't detected before the last one
pub rises_push : (found : List DerivedTuple) (last x : DerivedTuple) → slice_get found (length found - 1) ≡ Some last → last.tuple.at ≤ x.tuple.at → Rises found → Rises (found ++ x ∷ [])
rises_push found last x is le rises =
    IsNonDecreasingBy-push (λ (y : DerivedTuple). y.tuple.at) found x rises
    (λ d some. subst (λ (y : DerivedTuple). y.tuple.at ≤ x.tuple.at) (sym (get_or_from_slice_get found (length found - 1) last d is)) le)

-- where one is detected by a time, all up to it start by then
pub early_up_to : (found : List DerivedTuple) (middle time : ℕ) (x : DerivedTuple) → Rises found → AreSoundTuples found → slice_get found middle ≡ Some x → middle < length found → x.tuple.at ≤ time
    → All (λ (y : DerivedTuple). y.tuple.from ≤ time) (take (middle + 1) found)
early_up_to found middle time x rises sound is within by k d lt =
    let long = length-take-le (middle + 1) found (omega (arith, within)) in
    let before : k ≤ middle = omega (arith, lt, long) in
    let there : k < length found = omega (arith, before, within) in
    let last : (get_or found k d).tuple.at ≤ (get_or found middle d).tuple.at = rises k middle d before within in
    let own : (get_or found k d).tuple.from ≤ (get_or found k d).tuple.at = sound k d there in
    let time_is : (get_or found middle d).tuple.at ≡ x.tuple.at = ap (λ (y : DerivedTuple). y.tuple.at) (get_or_from_slice_get found middle x d is) in
    subst (λ (y : DerivedTuple). y.tuple.from ≤ time) (sym (get_or-take (middle + 1) found k d (omega (arith, before)))) (omega (arith, last, own, time_is, by))
