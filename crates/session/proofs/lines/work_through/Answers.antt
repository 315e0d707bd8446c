use Rattle.std.proofs.Common.{◌∙◌, false, refl}
use Rattle.std.proofs.lemmas.Result.{err_from_is_err_and}
use Rattle.cay_host.proofs.OutputLemmas.{SameButOutput-trans}
use Rattle.event_csv.specs.Fed.{unread_lines}
use Rattle.session.specs.Owes.{stage_at}
use Rattle.session.proofs.LinesLemmas.{Gone-trans}
use Rattle.session.proofs.OwesLemmas.{advances_stops, goes_further}
use Rattle.session.proofs.TestsLemmas.{moved_rises, moves_further}
use Rattle.session.proofs.lines.work_through.Goals as goal

-- one more line is done
pub lines-preserved : goal.lines-preserved
lines-preserved g c = record {
  goes_on = λ history stands. goes_further (c.lines.invariant.goes_on history stands) (rw c.if-not-branch.false at c.in_ok-work_on_line.ensures.progress).0;
  tests = λ history stands. moves_further (c.lines.invariant.tests history stands) ((rw c.if-not-branch.false at c.in_ok-work_on_line.ensures.moved) refl);
  at_work = c.in_ok-work_on_line.ensures.at_work;
  gone = Gone-trans c.lines.invariant.gone c.work_on_line.ensures.gone;
  quiet = c.in_ok-work_on_line.ensures.quiet ∙ c.lines.invariant.quiet;
  last = λ before. c.in_ok-work_on_line.ensures.last (c.lines.invariant.last before);
  same = SameButOutput-trans c.lines.invariant.same c.work_on_line.ensures.same;
}

-- no more line has its end
pub returns-then-not-branch-clause-gone : goal.returns-then-not-branch-clause-gone
returns-then-not-branch-clause-gone g c = Gone-trans c.lines.invariant.gone c.work_on_line.ensures.gone

-- the work stopped at a line
pub returns-in_err-work_on_line-clause-stops : goal.returns-in_err-work_on_line-clause-stops
returns-in_err-work_on_line-clause-stops g c =
    let told = g.H.Host.told in
    let p = err_from_is_err_and c.from_residual.result c.from_residual.ensures.1 in
    rw (p.1, p.2) (λ history stands. let gone = c.lines.invariant.goes_on history stands in
    advances_stops false (unread_lines c.args.feed.now false) (unread_lines c.lines.feed false) (stage_at c.args.catalogue.now c.args.work.now history) (stage_at c.lines.catalogue c.lines.work gone.heard)
    (told c.args.host.now) (told c.lines.host) (told c.work_on_line.new.host) _
    c.lines.invariant.same.later gone.advances (c.in_err-work_on_line.ensures.stops gone.heard gone.stands))

-- no more was tested than the lines ask for
pub returns-then-not-branch-clause-tests : goal.returns-then-not-branch-clause-tests
returns-then-not-branch-clause-tests g c =
    moved_rises c.args.catalogue.now c.lines.catalogue c.args.feed.now c.lines.feed c.args.work.now.engine c.lines.work.engine c.args.steps.now c.lines.steps c.work_on_line.new.steps c.lines.invariant.tests c.work_on_line.ensures.tests

pub returns-in_err-work_on_line-clause-tests : goal.returns-in_err-work_on_line-clause-tests
returns-in_err-work_on_line-clause-tests g c =
    moved_rises c.args.catalogue.now c.lines.catalogue c.args.feed.now c.lines.feed c.args.work.now.engine c.lines.work.engine c.args.steps.now c.lines.steps c.work_on_line.new.steps c.lines.invariant.tests c.work_on_line.ensures.tests
