use Rattle.work_order.specs.Places.{HasFirstPlaces}
use Rattle.work_order.proofs.placing.places_in.Given as goal

-- the numbers so far have their places
abbrev pub invariant-loop-place : goal.invariant-loop-place
invariant-loop-place l = HasFirstPlaces l.numbers l.places l.place
