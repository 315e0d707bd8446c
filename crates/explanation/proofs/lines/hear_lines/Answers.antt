use Rattle.std.proofs.Common.{[], ◌++◌, false, refl}
use Rattle.std.proofs.lemmas.Result.{err_from_is_err_and}
use Rattle.explanation.proofs.LinesLemmas.{fails_same, hears_none, hears_on, refused_then}
use Rattle.explanation.proofs.lines.hear_lines.Goals as goal

-- no line was heard yet
pub lines-init : goal.lines-init
lines-init c = ([], hears_none c.args.streams.now c.args.feed.now c.args.feed.now c.args.history.now (λ more ended. refl) refl)

-- one more line was
pub lines-preserved : goal.lines-preserved
lines-preserved c =
    let next = rw c.if-not-branch.false at c.in_ok-hear_next.ensures.heard in
    (_, hears_on c.args.streams.now c.lines.invariant.1 next.0.1)

pub lines-smaller : goal.lines-smaller
lines-smaller c = (rw c.if-not-branch.false at c.in_ok-hear_next.ensures.heard).1

-- no more line has its end
pub returns-then-not-branch-clause-heard : goal.returns-then-not-branch-clause-heard
returns-then-not-branch-clause-heard c =
    let next = rw c.if-not-branch.true at c.in_ok-hear_next.ensures.heard in
    ((_, hears_on c.args.streams.now c.lines.invariant.1 next.0), next.1)

-- a line is refused
pub returns-in_err-hear_next-clause-stops : goal.returns-in_err-hear_next-clause-stops
returns-in_err-hear_next-clause-stops c =
    let p = err_from_is_err_and c.from_residual.result c.from_residual.ensures.1 in
    rw (p.1, p.2) (fails_same _ _ _ (refused_then c.args.streams.now false c.lines.invariant.1) c.in_err-hear_next.ensures.stops)
