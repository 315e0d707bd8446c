-- A catalogue and an engine through offers, closings, and queries that come and go.
use Rattle.std.specs.Prelude.{◌<◌, ℕ, List, [], ◌∷◌, ◌++◌}
use Rattle.std.specs.List.{All}
use Rattle.birth_laws.specs.BornChains.{born_lines}
use Rattle.catalogue.specs.declared.adding.Added.{Added}
use Rattle.catalogue.specs.declared.dropping.Dropped.{Dropped}
use Rattle.catalogue.specs.Adding.{AddedQuery}
use Rattle.catalogue.specs.Catalogued.{Catalogued, program_in}
use Rattle.catalogue.specs.Standing.{StandsInOrder}
use Rattle.cel_types.specs.SourceLaws.{kinds_in}
use Rattle.change_laws.specs.AtOne.{AreAtOne}
use Rattle.change_laws.specs.Calls.{ComesToBoth, LeavesBoth}
use Rattle.epoch_engine.specs.Closes.{Closes, KeepsPlan}
use Rattle.epoch_engine.specs.EngineStandsFor.{EngineStandsFor}
use Rattle.epoch_engine.specs.EngineView.{EngineView}
use Rattle.epoch_engine.specs.Offers.{IsHeard, IsLate, IsNotAhead, with_tuple}
use Rattle.epoch_engine.specs.Trims.{Trims}
use Rattle.event_types.specs.Tuple.{IsSound, TupleView}
use Rattle.semantics.specs.Histories.{Event}
use Rattle.semantics.specs.TypedPrograms.{HaveTheirKinds}

-- a catalogue, an engine beside it, and the events that the engine was offered
pub record Monitor : Type 0 where
  pub catalogue : Catalogued
  pub engine : EngineView
  pub events : List Event

-- each event is on a stream that the catalogue declares, and has the kinds of its stream
pub record AreOfDeclared (c : Catalogued) (events : List Event) : Type 0 where
  pub declared : All (λ event. event.stream < c.declared) events
  pub kinds : HaveTheirKinds (kinds_in c.streams) events

-- the engine is at one with the catalogue, and stands for its program and the events
pub record StandsForProgram (monitor : Monitor) : Type 0 where
  pub in_order : StandsInOrder monitor.catalogue
  pub at_one : AreAtOne monitor.catalogue monitor.engine
  pub engine : EngineStandsFor monitor.engine (born_lines (program_in monitor.catalogue)) monitor.events
  pub events : AreOfDeclared monitor.catalogue monitor.events

-- one thing happens: an event of a declared stream is offered, an epoch is closed, the stores are purged, a query comes, or one leaves
pub data Happens : Monitor → Monitor → Type 0 where
  offer : {c : Catalogued} {engine : EngineView} {events : List Event} (stream : ℕ) (tuple : TupleView)
      → stream < c.declared → IsSound tuple → IsHeard engine.layout stream tuple → IsNotAhead engine.time tuple.at → ((seen : ℕ) → IsLate engine.time engine.closed_time tuple.at seen → ⊥)
      → Happens (record { catalogue = c; engine = engine; events = events }) (record { catalogue = c; engine = with_tuple engine stream tuple; events = events ++ record { stream = stream; tuple = tuple } ∷ [] })
  close : {c : Catalogued} {before after : EngineView} {events : List Event} (batch : List (ℕ × List TupleView))
      → Closes before after batch → KeepsPlan before after → Happens (record { catalogue = c; engine = before; events = events }) (record { catalogue = c; engine = after; events = events })
  trim : {c : Catalogued} {before after : EngineView} {events : List Event} → Trims before after → Happens (record { catalogue = c; engine = before; events = events }) (record { catalogue = c; engine = after; events = events })
  come : {old new : Catalogued} {before after : EngineView} {events : List Event} (added : AddedQuery) (told : Added)
      → StandsInOrder new → ComesToBoth added told old new before after → Happens (record { catalogue = old; engine = before; events = events }) (record { catalogue = new; engine = after; events = events })
  leave : {old new : Catalogued} {before after : EngineView} {events : List Event} (number : ℕ) (dropped : Dropped)
      → StandsInOrder new → LeavesBoth number dropped old new before after → Happens (record { catalogue = old; engine = before; events = events }) (record { catalogue = new; engine = after; events = events })

-- such things happen one after another
pub data Course : Monitor → Monitor → Type 0 where
  none : {monitor : Monitor} → Course monitor monitor
  then : {first last next : Monitor} → Course first last → Happens last next → Course first next
