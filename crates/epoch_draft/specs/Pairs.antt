-- What leaves a wait for one tuple of an epoch and one binding.
use Rattle.std.specs.Prelude.{if◌then◌else◌, List, [], ◌∷◌, map, Option, Some, None}
use Rattle.std.specs.List.{flat_map}
use Rattle.event_types.specs.Tuple.{TupleView}
use Rattle.instances.specs.declared.instance.Instance.{Instance}
use Rattle.semantics.specs.Denotation.{joined}
use Rattle.semantics.specs.Nexts.{is_eligible}
use Rattle.semantics.specs.Runs.{rebound}
use Rattle.semantics.specs.Truth.{all_true}
use Rattle.automaton.specs.declared.wait.Turn.{Turn}
use Rattle.automaton.specs.declared.wait.Wait.{Wait}
use Rattle.epoch_laws.specs.Instances.{began}

-- what an eligible tuple makes of a binding: both joined, and in a FOLD the new binding where it goes on
abbrev pub followed : Option Turn → TupleView → TupleView → List TupleView
followed None binding tuple = joined binding tuple ∷ []
followed (Some turn) binding tuple = if all_true turn.on tuple (Some binding) then rebound turn.set.parts binding tuple ∷ [] else []

-- what a tuple makes of a binding, which is nothing where it isn't eligible
abbrev pub paired : Wait → TupleView → TupleView → List TupleView
paired wait binding tuple = if is_eligible wait.choose binding tuple then followed wait.fold binding tuple else []

-- what a tuple makes of an instance, which began when it did
abbrev pub paired_with : Wait → TupleView → Instance → List Instance
paired_with wait tuple instance = map (began instance.first) (paired wait instance.tuple tuple)

-- what a tuple makes of all instances
abbrev pub met : Wait → List Instance → TupleView → List Instance
met wait store tuple = flat_map (paired_with wait tuple) store
