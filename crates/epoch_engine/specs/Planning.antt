-- Plans that are changed in place. No public clause cites this module.
use Rattle.std.specs.Prelude.{◌≡◌, ◌≤◌, ◌<◌, ℕ, false, true, ◌⊎◌, List, Contains, Some, length, slice_index_or, take}
use Rattle.automaton.specs.declared.layout.Layout.{Layout}
use Rattle.epoch_draft.specs.Agenda.{read_at}
use Rattle.epoch_draft.specs.Filling.{IsLengthened}
use Rattle.epoch_engine.specs.declared.plan.Plan.{Plan}

-- there is room for so many streams at least
pub record HasRoom (streams : ℕ) (plan : Plan) : Type 0 where
  pub turns : streams ≤ length plan.turns.turns.given
  pub read : streams ≤ length plan.turns.read
  pub prints : streams ≤ length plan.prints.turns.given

-- there is room for more streams, maybe, which have no turns and of which no state is told to read one; each other one is as it was
pub record GrowsRoom (old new : Plan) : Type 0 where
  pub turns : IsLengthened 0 old.turns.turns.given new.turns.turns.given
  pub last : new.turns.turns.last ≡ old.turns.turns.last
  pub read : IsLengthened false old.turns.read new.turns.read
  pub prints : IsLengthened 0 old.prints.turns.given new.prints.turns.given
  pub last_printed : new.prints.turns.last ≡ old.prints.turns.last
  pub once : new.prints.are_once ≡ old.prints.are_once

-- each stream with kinds that a state reads is told as read, or the state is one of these
abbrev pub AreReadBut : Plan → List ℕ → Type 0
AreReadBut plan states = (state stream : ℕ) → read_at plan.merged state ≡ Some stream → stream < length plan.layout.kinds → (slice_index_or plan.turns.read stream false ≡ true) ⊎ Contains states state

-- a layout begins with the lists of another one
pub record BeginsWith (old new : Layout) : Type 0 where
  pub order : take (length old.order) new.order ≡ old.order
  pub outs : take (length old.outs) new.outs ≡ old.outs
  pub kinds : take (length old.kinds) new.kinds ≡ old.kinds
