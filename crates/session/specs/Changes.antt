-- What a change of the queries leaves. No public clause cites this module.
use Rattle.std.specs.Prelude.{◌≡◌, List, None}
use Rattle.semantics.specs.Histories.{Event}
use Rattle.catalogue.specs.Catalogued.{Catalogued}
use Rattle.courses.specs.Course.{CourseEntry, after_entry}
use Rattle.courses.specs.QuerySet.{set_in}
use Rattle.session.specs.declared.work.Work.{Work}
use Rattle.session.specs.Standing.{StandsFor, moment_at}

-- the queries are those after an entry, no epoch is open, the last closed time and the rows are the same, and the engine stands for the same events
pub record HasChanged (entry : CourseEntry) (c d : Catalogued) (old new : Work) : Type 0 where
  pub set : set_in d ≡ (after_entry (moment_at c old.engine) entry).set
  pub none_open : new.engine.time ≡ None
  pub same_closed : new.engine.closed_time ≡ old.engine.closed_time
  pub rows : new.rows ≡ old.rows
  pub stands : (history : List Event) → StandsFor c history old.engine → StandsFor d history new.engine
