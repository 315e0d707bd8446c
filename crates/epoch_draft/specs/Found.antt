-- What is left of a step for a tuple by whose fixed parts it was found. No public clause cites this module.
use Rattle.std.specs.Prelude.{◌≡◌, ◌≤◌, true, IsTrue, List}
use Rattle.event_types.specs.Tuple.{TupleView}
use Rattle.scalar_expr.specs.Classes.{are_fixed}
use Rattle.automaton.specs.Steps.{pass}
use Rattle.automaton.specs.declared.step.Stage.{Stage}
use Rattle.automaton.specs.declared.step.Stage.TheVariants.{Keep, Make}
use Rattle.static_index.specs.FixedParts.{all_hold}
use Rattle.stream_readers.specs.Ways.{first_parts}
use Rattle.epoch_draft.specs.Suits.{StepSuits}
use Rattle.epoch_draft.specs.Work.{keeps}

-- a stage is a condition of fixed parts alone
abbrev pub IsFixedStage : Stage → Type 0
IsFixedStage (Keep condition) = IsTrue (are_fixed condition)
IsFixedStage (Make m) = ⊥

-- a tuple for which the fixed parts at the head of the step all hold is after what is left what it is after the step; what is left suits what the step suits, and has no more conditions
pub record IsLeftOf (step left : List Stage) : Type 0 where
  pub passes : (tuple : TupleView) → all_hold tuple (first_parts step) ≡ true → pass left tuple ≡ pass step tuple
  pub suits : (tuple : TupleView) → StepSuits step tuple → StepSuits left tuple
  pub fewer : keeps left ≤ keeps step
