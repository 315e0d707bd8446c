use Rattle.std.proofs.Common.{◌≡◌, ◌<◌, ℕ, List, get_or, length, arith}
use Rattle.std.proofs.lemmas.Option.{get_or_from_slice_get}
use Rattle.work_order.proofs.NumbersLemmas.{HasFirstPlaces-set, number_small}
use Rattle.work_order.proofs.placing.places_in.Goals as goal

-- there is a place for each number
pub get_mut-requires : goal.get_mut-requires
get_mut-requires c =
    let numbers : List ℕ = c.args.numbers.now in
    let place : ℕ = c.loop-place.place in
    let read : get_or numbers place 0 ≡ c.get.result.now = get_or_from_slice_get numbers place c.get.result.now 0 c.get.ensures in
    let small = number_small numbers c.requires place (omega (arith, c.loop-place-test.true, c.len-place-end.ensures)) in
    omega (arith, small, read, c.loop-place.invariant.long)

-- one number more has its own
pub loop-place-preserved : goal.loop-place-preserved
loop-place-preserved c =
    let numbers : List ℕ = c.args.numbers.now in
    let place : ℕ = c.loop-place.place in
    let read : get_or numbers place 0 ≡ c.get.result.now = get_or_from_slice_get numbers place c.get.result.now 0 c.get.ensures in
    let inside : place < length numbers = omega (arith, c.loop-place-test.true, c.len-place-end.ensures) in
    let small = number_small numbers c.requires place inside in
    HasFirstPlaces-set numbers c.loop-place.places place c.get.result.now c.requires.distinct inside read (omega (arith, small, read)) c.loop-place.invariant
