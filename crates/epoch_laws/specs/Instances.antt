-- Instances: a tuple, and the detection time of the tuple of the root stream with which it began.
use Rattle.std.specs.Prelude.{ℕ, List, map, Option}
use Rattle.std.specs.List.{filter_map}
use Rattle.std.specs.Option.{option_map}
use Rattle.event_types.specs.Tuple.{TupleView}
use Rattle.instances.specs.declared.instance.Instance.{Instance}
use Rattle.automaton.specs.Steps.{pass}
use Rattle.automaton.specs.declared.line.Hop.{Hop}
use Rattle.automaton.specs.declared.step.Stage.{Stage}

-- the instance of a tuple that began at a time
abbrev pub began : ℕ → TupleView → Instance
began first tuple = record { tuple = tuple; first = first }

-- a tuple of a root's stream begins at its own detection
abbrev pub begins : TupleView → Instance
begins tuple = began tuple.at tuple

-- the bindings that instances hold
abbrev pub bindings_of : List Instance → List TupleView
bindings_of instances = map (λ instance. instance.tuple) instances

-- the instance after the step's stages, which began when it did, or nothing where one of them doesn't let it pass
abbrev pub pass_instance : List Stage → Instance → Option Instance
pass_instance step instance = option_map (began instance.first) (pass step instance.tuple)

-- the instances that enter a hop's wait, of those that come to its step
abbrev pub instances_entering : Hop → List Instance → List Instance
instances_entering hop instances = filter_map (pass_instance hop.step) instances
