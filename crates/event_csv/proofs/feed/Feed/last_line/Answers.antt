use Rattle.std.proofs.Common.{◌∙◌, false, ap, subst}
use Rattle.event_csv.specs.Fed.{Fed, LeavesLast, unread_lines}
use Rattle.event_csv.specs.Place.{fed_at}
use Rattle.event_csv.proofs.LastFacts.{LeavesLast-before, none-taken}
use Rattle.event_csv.proofs.feed.Feed.last_line.Goals as goal

pub returns-in-NotYet : goal.returns-in-NotYet
returns-in-NotYet c =
    let bytes = c.as_slice-bytes.result.now in
    let held = rw (← c.as_slice-bytes.ensures.value) at c.self.view_is in
    let Last : Fed → Type 0 = λ fed. LeavesLast fed c.last_of.result in
    subst Last held (LeavesLast-before (fed_at bytes c.self.inside.place) (fed_at bytes c.take_line.new.place) c.last_of.result c.in-NotYet.ensures.taken.0 c.last_of.ensures)

pub returns-in_default : goal.returns-in_default
returns-in_default c =
    let bytes = c.as_slice-bytes.result.now in
    let held = rw (← c.as_slice-bytes.ensures.value) at c.self.view_is in
    absurd (none-taken (fed_at bytes c.self.inside.place) (fed_at bytes c.take_line.new.place) c.take_line.result
    (ap (λ (fed : Fed). unread_lines fed false) held ∙ c.requires) c.take_line.ensures.taken c.in_default.not-NotYet)
