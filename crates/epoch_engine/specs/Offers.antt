-- When an engine takes a tuple.
use Rattle.std.specs.Prelude.{◌≡◌, ⊤, ℕ, ◌<◌, ◌≤◌, false, List, [], ◌∷◌, ◌++◌, Option, Some, None, Result, Ok, Err, slice_get, slice_index_or, slice_set}
use Rattle.event_types.specs.declared.kind.Kind.{Kind}
use Rattle.event_types.specs.Tuple.{TupleView}
use Rattle.semantics.specs.Kinds.{HasKinds}
use Rattle.automaton.specs.Work.{is_in}
use Rattle.automaton.specs.declared.layout.Layout.{Layout}
use Rattle.epoch_engine.specs.EngineView.{EngineView}
use Rattle.epoch_engine.specs.declared.fault.OfferFault.{OfferFault}
use Rattle.epoch_engine.specs.declared.fault.OfferFault.TheVariants as fault

-- the stream isn't derived, and the tuple has its kinds
pub record IsHeard (layout : Layout) (stream : ℕ) (tuple : TupleView) : Type 0 where
  pub kinds : List Kind
  pub known : slice_get layout.kinds stream ≡ Some kinds
  pub declared : is_in layout.order stream ≡ false
  pub of_kinds : HasKinds kinds tuple

-- the detection time isn't above an open epoch
abbrev pub IsNotAhead : Option ℕ → ℕ → Type 0
IsNotAhead None at = ⊤
IsNotAhead (Some time) at = at ≤ time

-- the detection time is below the open epoch, or none is open and it isn't above the last closed one; the second number is the time that it met
abbrev pub IsLate : Option ℕ → Option ℕ → ℕ → ℕ → Type 0
IsLate (Some time) closed_time at seen = (at < time) × (time ≡ seen)
IsLate None (Some last) at seen = (at ≤ last) × (last ≡ seen)
IsLate None None at seen = ⊥

-- the answer is what the detection time asks for
abbrev pub IsAnswer : EngineView → TupleView → Result (Unit {0}) OfferFault → Type 0
IsAnswer engine tuple (Ok done) = (seen : ℕ) → IsLate engine.time engine.closed_time tuple.at seen → ⊥
IsAnswer engine tuple (Err (fault.OutOfOrder at seen back)) = IsLate engine.time engine.closed_time tuple.at seen × (at ≡ tuple.at) × (back ≡ tuple)
IsAnswer engine tuple (Err (fault.Memory back)) = ((seen : ℕ) → IsLate engine.time engine.closed_time tuple.at seen → ⊥) × (back ≡ tuple)

-- the engine with the tuple behind the open ones of its stream, in the epoch of its detection time
abbrev pub with_tuple : EngineView → ℕ → TupleView → EngineView
with_tuple engine stream tuple = record engine { opened = slice_set engine.opened stream (slice_index_or engine.opened stream [] ++ tuple ∷ []); time = Some tuple.at }
