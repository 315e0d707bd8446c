-- What holds of a drawing between two closings.
use Rattle.std.specs.Prelude.{◌≡◌, ℕ, [], slice_index_or}
use Rattle.epoch_draft.specs.Drafts.{DraftFits}
use Rattle.epoch_draft.specs.declared.drawing.Drawing.{Drawing}

-- a drawing has room for so many streams and states, and nothing is drawn, due, paired or to come
pub record IsStill (streams states : ℕ) (drawing : Drawing) : Type 0 where
  pub fits : DraftFits streams states drawing.draft
  pub none_made : (stream : ℕ) → slice_index_or drawing.draft.made stream [] ≡ []
  pub no_beads : (state : ℕ) → slice_index_or drawing.draft.beads state [] ≡ []
  pub no_pairs : drawing.pairs ≡ []
  pub none_due : drawing.draft.due.numbers ≡ []
  pub none_planned : drawing.agenda.entries ≡ []
