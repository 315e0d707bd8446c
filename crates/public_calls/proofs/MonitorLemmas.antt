-- A catalogue and its engine stand for each other, whatever happens.
use Rattle.std.proofs.Common.{◌≡◌, ◌<◌, sym, subst, ℕ, List, [], None, Option, Ok, Err}
use Rattle.std.specs.Prelude.{IfOk, OnErr, Result}
use Rattle.std.proofs.lemmas.List.Elements.{All-nil}
use Rattle.event_types.specs.declared.memory.Memory.{Memory}
use Rattle.event_types.specs.Tuple.{IsSound, TupleView}
use Rattle.semantics.specs.Histories.{Event}
use Rattle.automaton.specs.Layouts.{grown, shrunk}
use Rattle.automaton.specs.NetworkLines.{HasEndings}
use Rattle.automaton.specs.Plain.{numbered}
use Rattle.automaton.specs.States.{Net}
use Rattle.splitter.specs.Chains.{lines_of}
use Rattle.catalogue.specs.declared.adding.Added.{Added}
use Rattle.catalogue.specs.declared.dropping.Dropped.{Dropped}
use Rattle.catalogue.specs.Catalogued.{Catalogued, program_in}
use Rattle.catalogue.specs.Coming.{HasCome, IsAdded, IsLatest, IsTold, coming}
use Rattle.catalogue.specs.Leaving.{Leaves}
use Rattle.catalogue.specs.Loaded.{IsUnchanged}
use Rattle.catalogue.specs.Standing.{StandsInOrder}
use Rattle.change_laws.specs.Calls.{MayBeAdded, MayBeRemoved}
use Rattle.change_laws.specs.Courses.{Happens, Monitor, StandsForProgram}
use Rattle.change_laws.specs.Courses as course
use Rattle.change_laws.proofs.ComeLemmas.{told_may_be_added}
use Rattle.change_laws.proofs.CourseLemmas.{courses_stand}
use Rattle.change_laws.proofs.LeaveLemmas.{dropped_may_be_removed}
use Rattle.change_laws.proofs.StartLemmas.{last_closed_is_latest, new_are_at_one}
use Rattle.epoch_engine.specs.Adding.{Adds, Drops}
use Rattle.epoch_engine.specs.Closes.{Closes, KeepsPlan}
use Rattle.epoch_engine.specs.EngineView.{EngineView}
use Rattle.epoch_engine.specs.Offers.{IsHeard, IsLate, IsNotAhead, with_tuple}
use Rattle.epoch_engine.specs.Starts.{IsNew}
use Rattle.epoch_engine.specs.Trims.{Trims}

-- some events were offered, for which the engine stands with the queries
abbrev pub Stands : Catalogued → EngineView → Type 0
Stands c engine = (events : List Event) × StandsForProgram (record { catalogue = c; engine = engine; events = events })

-- a new engine stands for the queries that were loaded
pub starts : (c : Catalogued) (net : Net) (engine : EngineView) → StandsInOrder c → IsUnchanged c → HasEndings net (numbered 0 (lines_of (program_in c))) → IsNew net c.layout engine → Stands c engine
starts c net engine standing unchanged ends new = (
  [],
  record {
    in_order = standing;
    at_one = new_are_at_one.at_one c net engine standing unchanged ends new;
    engine = new_are_at_one.stands c net engine standing unchanged ends new;
    events = record { declared = All-nil _; kinds = All-nil _ };
  },
)

module _ (c : Catalogued) (before : EngineView) (stands : Stands c before) where
  goes_on : (next : Monitor) → Happens (record { catalogue = c; engine = before; events = stands.0 }) next → StandsForProgram next
  goes_on next happens = courses_stand _ next stands.1 (course.then course.none happens)

  -- so it does once an event was offered
  pub offered : (stream : ℕ) (tuple : TupleView) → stream < c.declared → IsSound tuple → IsHeard before.layout stream tuple → IsNotAhead before.time tuple.at → ((seen : ℕ) → IsLate before.time before.closed_time tuple.at seen → ⊥) → Stands c (with_tuple before stream tuple)
  offered stream tuple declared sound heard ahead late = (_, goes_on _ (course.offer stream tuple declared sound heard ahead late))

  -- once an epoch was closed
  pub closed : (after : EngineView) (batch : List (ℕ × List TupleView)) → Closes before after batch → KeepsPlan before after → Stands c after
  closed after batch closes plan = (_, goes_on _ (course.close batch closes plan))

  -- once the stores were purged
  pub trimmed : (after : EngineView) → Trims before after → Stands c after
  trimmed after trims = (_, goes_on _ (course.trim trims))

  -- whatever the closing answered
  pub closing : (after : EngineView) (result : Result (List (ℕ × List TupleView)) Memory) → IfOk result (λ batch. Closes before after batch) → OnErr result (after ≡ before) → KeepsPlan before after → Stands c after
  closing after (Ok batch) closes kept plan = closed after batch closes plan
  closing after (Err fault) closes kept plan = subst (Stands c) (sym kept) stands

  -- a query may come born at the last closed time
  pub latest : (since : Option ℕ) → since ≡ before.closed_time → IsLatest since c
  latest since is = subst (λ time. IsLatest time c) (sym is) (last_closed_is_latest c before stands.0 stands.1.engine)

  module _ (shut : before.time ≡ None) (new : Catalogued) (standing : StandsInOrder new) where
    -- once a query came
    module _ (text : List ℕ) (since : Option ℕ) (told : Added) (is : since ≡ before.closed_time) (added : IsAdded text since c new told) where
      pub may_be_added : MayBeAdded told.lines told.ends told.growth before
      may_be_added = told_may_be_added added.query since told c new before stands.1.in_order standing stands.1.at_one added.come added.is_told

      pub came : (after : EngineView) → Adds told.lines told.ends since (grown before.layout told.growth) before after → Stands new after
      came after adds = (
        _,
        goes_on _ (course.come added.query told standing (record {
          closed = shut;
          come = subst (λ birth. HasCome c added.query birth new) is added.come;
          is_told = subst (λ birth. IsTold c (coming c added.query birth) new told) is added.is_told;
          adds = subst (λ birth. Adds told.lines told.ends birth (grown before.layout told.growth) before after) is adds;
        })),
      )

    -- and once one left
    module _ (name : List ℕ) (dropped : Dropped) (leaves : Leaves name dropped c new) where
      pub may_be_removed : MayBeRemoved dropped.ends dropped.part before
      may_be_removed = dropped_may_be_removed leaves.number dropped c new before stands.1.in_order standing stands.1.at_one leaves.named.within leaves.left

      pub left : (after : EngineView) → Drops dropped.ends (shrunk before.layout dropped.part) before after → Stands new after
      left after drops = (_, goes_on _ (course.leave leaves.number dropped standing (record { closed = shut; within = leaves.named.within; unread = leaves.unread; left = leaves.left; drops = drops })))
