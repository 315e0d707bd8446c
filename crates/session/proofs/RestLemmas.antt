-- What was heard once an event text has ended.
use Rattle.std.proofs.Common.{◌≡◌, ◌∙◌, sym, ap, subst, true, List, [], ◌∷◌, ◌++◌, Ok, append-nil}
use Rattle.cay_host.specs.Told.{Told}
use Rattle.semantics.specs.Histories.{Event}
use Rattle.epoch_engine.specs.EngineView as engine
use Rattle.event_csv.specs.Lines.{Line}
use Rattle.catalogue.specs.Catalogued.{Catalogued}
use Rattle.catalogue.specs.Standing.{StandsInOrder}
use Rattle.change_laws.specs.AtOne.{AreAtOne}
use Rattle.courses.specs.ControlLines.{entry_of}
use Rattle.courses.specs.Course.{CourseEntry, Moment, after, events_at, events_in}
use Rattle.courses.specs.Heard.{heard_from}
use Rattle.courses.specs.QuerySet.{set_in}
use Rattle.session.specs.ForEachHistory.{HearsAll, HearsToEnd}
use Rattle.session.specs.Standing.{HasShut, IsThrough, StandsFor, moment_at}
use Rattle.session.specs.Owes.{AdvancesPast, GoesOn, stage_at}
use Rattle.session.specs.declared.work.Work.{Work}
use Rattle.session.proofs.PlanLemmas.{at_one_still}

-- no epoch is open once the last one was closed
pub through_closed : (c : Catalogued) (old new : engine.EngineView) → StandsInOrder c → AreAtOne c old → HasShut c old new → IsThrough c new
through_closed c old new standing at_one closed = record { in_order = standing; at_one = at_one_still c old new closed.plan at_one; none_open = closed.none_open }

-- the engine stands for the same events once the last epoch was closed
pub closed_stands_for : (c : Catalogued) (old new : engine.EngineView) (history : List Event) → HasShut c old new → StandsFor c history old → StandsFor c history new
closed_stands_for c old new history closed stands = record { declared = stands.declared; engine = closed.stands history stands }

module _ (c d : Catalogued) (history : List Event) (lines : List Line) (old : Work) (now : engine.EngineView) where
  -- no line was left
  pub none_left : lines ≡ [] → set_in d ≡ set_in c → StandsFor d history now → HearsToEnd lines (moment_at c old.engine) history d now
  none_left none same stands =
      let m = moment_at c old.engine in
      record {
        stands = subst (λ h. StandsFor d h now) (sym (append-nil history) ∙ ap (λ ls. history ++ events_in (heard_from m ls)) (sym none)) stands;
        set = ap (λ ls. (after m (heard_from m ls)).set) none ∙ sym same;
      }

  -- one line was left, and its entry was taken
  pub one_left : (line : Line) (entry : CourseEntry) (mid : Work) (a b : Told) → lines ≡ line ∷ [] → entry_of (set_in c) line.bytes ≡ Ok entry → AdvancesPast c d entry history old mid a b
      → StandsFor d (history ++ events_at entry) now → HearsToEnd lines (moment_at c old.engine) history d now
  one_left line entry mid a b one says takes stands =
      let m = moment_at c old.engine in
      let past = takes.advances true line [] says in
      record {
        stands = subst (λ h. StandsFor d h now) (sym (append-nil (history ++ events_at entry)) ∙ sym past.hears ∙ ap (λ ls. history ++ events_in (heard_from m ls)) (sym one)) stands;
        set = ap (λ ls. (after m (heard_from m ls)).set) one ∙ ap (λ (n : Moment). n.set) past.moment;
      }

-- where the work has gone on to the end of the lines, all of them were heard
pub hears_all : (c d : Catalogued) (lines : List Line) (history : List Event) (old new : Work) (a b : Told) → GoesOn lines [] (stage_at c old history) d new a b → HearsAll lines (moment_at c old.engine) history d new.engine
hears_all c d lines history old new a b p = record { stands = subst (λ h. StandsFor d h new.engine) (sym (p.advances.hears ∙ append-nil p.heard)) p.stands; moment = p.advances.moment }
