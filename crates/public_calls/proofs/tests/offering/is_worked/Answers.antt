use Rattle.std.proofs.Common.{◌≡◌, ◌∙◌, ◌==◌, ◌<◌, ◌+◌, ℕ, Bool, true, false, List, Some, ◌||◌, length, get_or, take, sym, ap, arith, rules}
use Rattle.std.specs.List.{slice_get}
use Rattle.std.proofs.lemmas.List.Folds.{list_any_at, list_any_more}
use Rattle.std.proofs.lemmas.Option.{get_or_from_slice_get}
use Rattle.automaton.specs.Work.{is_in}
use Rattle.public_calls.proofs.tests.offering.is_worked.Goals as goal

module _ (order : List ℕ) (stream place found : ℕ) (inside : place < length order) (at : slice_get order place ≡ Some found) where
  abbrev is_it : ℕ → Bool
  is_it number = stream == number

  here : is_it (get_or order place 0) ≡ is_it found
  here = ap is_it (get_or_from_slice_get order place found 0 at)

  there : is_it found ≡ true → is_in order stream ≡ true
  there same = list_any_at is_it order place 0 inside (here ∙ same)

  none_more : is_in (take place order) stream ≡ false → is_it found ≡ false → is_in (take (place + 1) order) stream ≡ false
  none_more none other = list_any_more is_it order place 0 inside ∙ ap (λ before. before || is_it (get_or order place 0)) none ∙ here ∙ other

pub returns-then-stream-get : goal.returns-then-stream-get
returns-then-stream-get c =
    sym (there c.args.order.now c.args.stream c.loop-place.place c.get.result.now (omega (arith, c.loop-place-test.true, c.len-place-end.ensures)) c.get.ensures (search rules))

pub loop-place-preserved : goal.loop-place-preserved
loop-place-preserved c =
    none_more c.args.order.now c.args.stream c.loop-place.place c.get.result.now (omega (arith, c.loop-place-test.true, c.len-place-end.ensures)) c.get.ensures c.loop-place.invariant (search rules)
