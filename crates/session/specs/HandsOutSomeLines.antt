-- The lines of a feed that are worked on. No public clause cites this module.
use Rattle.std.specs.Prelude.{◌≡◌, ◌<◌, Bool, true, false, List, [], length}
use Rattle.semantics.specs.Histories.{Event}
use Rattle.cay_host.specs.Told.{Told}
use Rattle.catalogue.specs.Catalogued.{Catalogued}
use Rattle.event_csv.specs.Fed.{Fed, HandsOutLines, IsPart, line_feeds_so_far, unread_lines}
use Rattle.event_csv.specs.Lines.{Line}
use Rattle.session.specs.declared.work.Work.{Work}
use Rattle.session.specs.Standing.{StandsFor}
use Rattle.session.specs.Owes.{GoesOn, stage_at}

-- some lines were taken from a feed and are gone, whatever bytes come, and as many line feeds came as before
pub record HandsOutSomeLines (old new : Fed) : Type 0 where
  pub lines : List Line
  pub gives : HandsOutLines lines old new
  pub feeds : line_feeds_so_far new ≡ line_feeds_so_far old

-- the work on the next line: it is done, or no line was there
abbrev pub Progresses : Catalogued → Catalogued → Fed → Fed → Work → Work → Told → Told → Bool → Type 0
Progresses c d old new work worked before after true =
    ((history : List Event) → StandsFor c history work.engine → GoesOn (unread_lines old false) (unread_lines new false) (stage_at c work history) d worked before after)
    × (length (unread_lines new false) < length (unread_lines old false))
Progresses c d old new work worked before after false =
    IsPart new × (unread_lines old false ≡ []) × (d ≡ c) × (worked ≡ work) × (after ≡ before)
