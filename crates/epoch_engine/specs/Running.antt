-- What holds of the parts of an engine. No public clause cites this module.
use Rattle.std.specs.Prelude.{◌≡◌, ℕ, ◌⊎◌, Box, IfSome, IsTrue, List, [], Contains, length, Option, slice_index_or}
use Rattle.std.specs.List.{All}
use Rattle.std.specs.declared.alloc.Global.{Global}
use Rattle.event_types.specs.Tuple.{TupleView}
use Rattle.binding_index.specs.declared.store.Store.{Store}
use Rattle.automaton.specs.NetworkLines.{NetworkFits}
use Rattle.automaton.specs.Work.{is_in}
use Rattle.epoch_draft.specs.Agenda.{AreTurns}
use Rattle.epoch_draft.specs.Deriving.{CanDraw}
use Rattle.epoch_draft.specs.Drafts.{DraftFits}
use Rattle.epoch_draft.specs.Drawings.{IsStill}
use Rattle.epoch_draft.specs.Led.{AreLed}
use Rattle.epoch_draft.specs.Marks.{AreMarks}
use Rattle.epoch_draft.specs.Watching.{Watches}
use Rattle.epoch_draft.specs.declared.drawing.Drawing.{Drawing}
use Rattle.epoch_draft.specs.declared.marks.Marks.{Marks}
use Rattle.epoch_engine.specs.Prints.{ArePrints}
use Rattle.epoch_engine.specs.declared.epoch.Epoch.{Epoch}
use Rattle.epoch_engine.specs.declared.holdings.Holdings.{Holdings}
use Rattle.epoch_engine.specs.declared.plan.Plan.{Plan}
use Rattle.epoch_engine.specs.declared.room.Room.{Room}

-- all printed streams are derived, the streams of the order of work have their turns in it, and the printed ones those in which they are printed
pub record IsPlan (plan : Plan) : Type 0 where
  pub printed : All (λ stream. IsTrue (is_in plan.layout.order stream)) plan.layout.outs
  pub turns : AreTurns plan.merged plan.layout.order (length plan.layout.kinds) plan.turns
  pub prints : ArePrints plan.layout.outs (length plan.layout.kinds) plan.prints

-- at least those streams that have tuples are marked, maybe some more
pub record AreTouched (tuples : List (List TupleView)) (touched : Marks) : Type 0 where
  pub are : AreMarks touched
  pub below : length touched.flags ≡ length tuples
  pub all : (stream : ℕ) → (slice_index_or tuples stream [] ≡ []) ⊎ Contains touched.numbers stream

-- the plan, the stores and the open epoch of an engine fit one another, so that the epoch may be drawn
pub record IsRunning (plan : Plan) (stores : List (Option Store)) (epoch : Epoch) : Type 0 where
  pub plan_is : IsPlan plan
  pub can_draw : CanDraw plan.merged plan.layout stores epoch.tuples
  pub touched : AreTouched epoch.tuples epoch.touched

-- a drawing is still, and has room for the streams and the states of a plan
abbrev pub IsStillFor : Plan → Drawing → Type 0
IsStillFor plan drawing = IsStill (length plan.layout.kinds) (length plan.merged) drawing

-- the draft of a drawing has room for them
abbrev pub FitsPlan : Plan → Drawing → Type 0
FitsPlan plan drawing = DraftFits (length plan.layout.kinds) (length plan.merged) drawing.draft

-- the parts of an engine: the layout fits the network, they fit one another, keys lead to the states where they are ready, no instance expires before its state's deadline, and in a room that is kept nothing is drawn
pub record IsEngine (plan : Plan) (holdings : Holdings) (epoch : Epoch) (kept : Option (Box Room Global)) : Type 0 where
  pub fits : NetworkFits plan.merged plan.layout
  pub running : IsRunning plan holdings.stores epoch
  pub led : AreLed plan.merged holdings.keys holdings.stores
  pub watches : Watches holdings.deadlines holdings.stores
  pub still : IfSome kept (λ room. IsStillFor plan room.value.drawing)
