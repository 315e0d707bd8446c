-- Laws over fixed parts: what an index lets go can't hold.
use Rattle.std.specs.Prelude.{◌≡◌, true, List, Option}
use Rattle.event_types.specs.Tuple.{TupleView}
use Rattle.semantics.specs.Scalars.{Pr}
use Rattle.semantics.specs.Truth.{all_true}
use Rattle.static_index.specs.FixedParts.{all_hold, first_holds, fixed_parts}
use Rattle.static_index.specs.declared.fixed_part.FixedPart.{FixedPart}

-- where a condition holds over an event and a binding, its fixed parts hold for the event
abbrev pub HoldingIsMatched : Type 0
HoldingIsMatched = (condition : List Pr) (event : TupleView) (binding : Option TupleView) → all_true condition event binding ≡ true → all_hold event (fixed_parts condition) ≡ true

-- where all fixed parts hold, the first one does
abbrev pub MatchedIsLookedUp : Type 0
MatchedIsLookedUp = (event : TupleView) (parts : List FixedPart) → all_hold event parts ≡ true → first_holds event parts ≡ true
