-- Instances that go into a state.
use Rattle.std.specs.Prelude.{◌≡◌, ℕ, List, [], ◌∷◌, length}
use Rattle.instances.specs.declared.instance.Instance.{Instance}
use Rattle.automaton.specs.States.{Net, step_at}
use Rattle.automaton.specs.Steps.{pass}
use Rattle.automaton.specs.declared.step.Stage.{Stage}
use Rattle.stream_readers.specs.Ways.{Into}
use Rattle.epoch_draft.specs.Drafts.{Grows}
use Rattle.epoch_draft.specs.Moves.{moves_on}
use Rattle.epoch_draft.specs.declared.draft.Draft.{Draft}

-- in each network in which the step into a state does with an instance what these stages do, the draft has besides what comes of it there
abbrev pub GoesInto : ℕ → List Stage → Instance → Draft → Draft → Type 0
GoesInto state step instance old new = (net : Net) → length old.beads ≡ length net → pass step instance.tuple ≡ pass (step_at net state) instance.tuple → Grows net (moves_on (Into state ∷ []) instance) old new
