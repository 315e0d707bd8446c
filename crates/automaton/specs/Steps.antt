-- What a step does with a tuple.
use Rattle.std.specs.Prelude.{if◌then◌else◌, List, [], ◌∷◌, Option, Some, None}
use Rattle.std.specs.Option.{option_and_then}
use Rattle.event_types.specs.Tuple.{TupleView}
use Rattle.semantics.specs.Truth.{all_true}
use Rattle.semantics.specs.Denotation.{selected}
use Rattle.automaton.specs.declared.step.Stage.{Stage}
use Rattle.automaton.specs.declared.step.Stage.TheVariants.{Keep, Make}

-- the tuple after a stage: itself where its condition holds, or with the projection's values, its times unchanged
abbrev pub passed : Stage → TupleView → Option TupleView
passed (Keep condition) tuple = if all_true condition tuple None then Some tuple else None
passed (Make m) tuple = Some (selected m.parts tuple)

-- the tuple after the step's stages, or nothing where one of them doesn't let it pass
abbrev pub pass : List Stage → TupleView → Option TupleView
pass [] tuple = Some tuple
pass (stage ∷ step) tuple = option_and_then (pass step) (passed stage tuple)
