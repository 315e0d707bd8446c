-- Tails of result lines, and where they stand.
use Rattle.std.proofs.Common.{◌≡◌, ◌∙◌, ◌+◌, ◌-◌, ℕ, List, [], ◌∷◌, ◌++◌, Option, Some, None, take, drop, length, refl, sym, ap, subst, arith}
use Rattle.std.specs.Prelude.{IfSome, option_map, slice_get}
use Rattle.std.proofs.lemmas.List.{drop-append-le, length-append, length-drop, take-append-le, take_all}
use Rattle.event_types.specs.Tuple.{TupleView}
use Rattle.result_text.specs.Tails.{AreIn, IsTailOf, StandsIn, tail_text}
use Rattle.result_text.specs.declared.lately.Lately.{Lately}
use Rattle.result_text.specs.declared.lately.Shown.{Shown}

-- what stands behind the front of a list, by induction on the front
drop-front : (front back : List ℕ) → drop (length front) (front ++ back) ≡ back
drop-front [] back = refl
drop-front (byte ∷ front) back = drop-front front back

-- a tail stays where it is when more are written
tail_stays : (tails more : List ℕ) (begin end : ℕ) (tuples : List TupleView) (place : ℕ) → IsTailOf tails begin end tuples place → IsTailOf (tails ++ more) begin end tuples place
tail_stays tails more begin end tuples place at = record {
  in_order = at.in_order;
  within = omega (arith, at.within, length-append tails more);
  tail = at.tail ∙ ap Some (sym
      (ap (take (end - begin)) (drop-append-le begin tails more (omega (arith, at.in_order, at.within)))
      ∙ take-append-le (end - begin) (drop begin tails) more (omega (arith, at.in_order, at.within, length-drop begin tails))));
}

one_stays : (tails more : List ℕ) (tuples : List TupleView) (shown : Option Shown) → IfSome shown (StandsIn tails tuples) → IfSome shown (StandsIn (tails ++ more) tuples)
one_stays tails more tuples None none = none
one_stays tails more tuples (Some shown) at = tail_stays tails more shown.begin shown.end tuples shown.place at

-- so do both
pub both_stay : (tails more new : List ℕ) (tuples : List TupleView) (lately : Lately) → new ≡ tails ++ more → AreIn tails tuples lately → AreIn new tuples lately
both_stay tails more new tuples lately e are = subst (λ (t : List ℕ). AreIn t tuples lately) (sym e) record {
  last = one_stays tails more tuples lately.last are.last;
  before = one_stays tails more tuples lately.before are.before;
}

-- the tail that was written last stands at the end
pub tail_at_end : (tails new : List ℕ) (tuples : List TupleView) (place : ℕ) (tuple : TupleView) → slice_get tuples place ≡ Some tuple → new ≡ tails ++ tail_text tuple → IsTailOf new (length tails) (length new) tuples place
tail_at_end tails new tuples place tuple is e = subst (λ (t : List ℕ). IsTailOf t (length tails) (length t) tuples place) (sym e) at_end
  where
    all : List ℕ
    all = tails ++ tail_text tuple

    many : length all ≡ length tails + length (tail_text tuple)
    many = length-append tails (tail_text tuple)

    at_end : IsTailOf all (length tails) (length all) tuples place
    at_end = record {
      in_order = omega (arith, many);
      within = omega arith;
      tail = ap (option_map tail_text) is
          ∙ ap Some (sym (ap (take (length all - length tails)) (drop-front tails (tail_text tuple)) ∙ take_all (length all - length tails) (tail_text tuple) (omega (arith, many))));
    }
