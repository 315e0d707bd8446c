-- Lines that fit the kinds of their streams.
use Rattle.std.specs.Prelude.{◌≡◌, List, [], ◌∷◌, ◌++◌, Option, Some, None, slice_get}
use Rattle.event_types.specs.declared.kind.Kind.{Kind}
use Rattle.semantics.specs.Typing.{AreOfKinds, AreTyped}
use Rattle.automaton.specs.declared.step.Stage.{Stage}
use Rattle.automaton.specs.declared.step.Stage.TheVariants.{Keep, Make}
use Rattle.automaton.specs.declared.wait.Turn.{Turn}
use Rattle.automaton.specs.declared.wait.Wait.{Wait}
use Rattle.automaton.specs.declared.line.Hop.{Hop}
use Rattle.automaton.specs.declared.line.Line.{Line}

-- the stage is typed over tuples of these kinds, and gives tuples of those
abbrev pub StageGives : Stage → List Kind → List Kind → Type 0
StageGives (Keep condition) kinds out = AreTyped condition kinds None × (kinds ≡ out)
StageGives (Make m) kinds out = AreOfKinds m.parts kinds None out

-- the same of the stages of a step, one after another
abbrev pub StepGives : List Stage → List Kind → List Kind → Type 0
StepGives [] kinds out = kinds ≡ out
StepGives (stage ∷ step) kinds out = (mid : List Kind) × StageGives stage kinds mid × StepGives step mid out

-- what leaves the wait has the kinds of the binding followed by those of the event, and in a FOLD those of the binding, over which the rebind edge is typed
abbrev pub TurnGives : Option Turn → List Kind → List Kind → List Kind → Type 0
TurnGives None binding event out = binding ++ event ≡ out
TurnGives (Some turn) binding event out = AreTyped turn.on event (Some binding) × AreOfKinds turn.set.parts event (Some binding) binding × (binding ≡ out)

-- the wait is typed over bindings and events of these kinds, and gives tuples of those
abbrev pub WaitGives : Wait → List Kind → List Kind → List Kind → Type 0
WaitGives wait binding event out = AreTyped wait.choose event (Some binding) × TurnGives wait.fold binding event out

-- over streams of these kinds the hop is typed for tuples of the first kinds, and gives tuples of the second
abbrev pub HopGives : List (List Kind) → Hop → List Kind → List Kind → Type 0
HopGives streams hop kinds out =
    (binding : List Kind) × (event : List Kind)
    × StepGives hop.step kinds binding × (slice_get streams hop.wait.stream ≡ Some event) × WaitGives hop.wait binding event out

-- the same of hops, one after another, and the step behind them
abbrev pub RestGives : List (List Kind) → List Hop → List Stage → List Kind → List Kind → Type 0
RestGives streams [] last kinds out = StepGives last kinds out
RestGives streams (hop ∷ hops) last kinds out = (mid : List Kind) × HopGives streams hop kinds mid × RestGives streams hops last mid out

-- from the kinds of its root on the line is typed, and what leaves its last step has these kinds
abbrev pub LineGives : List (List Kind) → Line → List Kind → Type 0
LineGives streams line out = (root : List Kind) × (slice_get streams line.root ≡ Some root) × RestGives streams line.hops line.last root out

-- a line fits the kinds of the streams: it is typed, and gives the kinds of its out stream
abbrev pub LineFits : List (List Kind) → Line → Type 0
LineFits streams line = (out : List Kind) × LineGives streams line out × (slice_get streams line.out ≡ Some out)
