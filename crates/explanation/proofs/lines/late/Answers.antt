use Rattle.std.proofs.Common.{◌≡◌, ◌∙◌, ◌-◌, ap, length, slice_get, subst, sym, List, Some, arith}
use Rattle.derivations.specs.declared.history.Heard.{Heard}
use Rattle.explanation.specs.Hearing.{last_at}
use Rattle.explanation.proofs.HeardLemmas.{is_disorder, last_is}
use Rattle.explanation.proofs.lines.late.Goals as goal

-- the event is before the last one
pub returns-then-at-last-clause-late : goal.returns-then-at-last-clause-late
returns-then-at-last-clause-late c =
    let history = c.args.history.now in
    let there = subst (λ (lines : List Heard). slice_get lines (length lines - 1) ≡ Some c.in-Some.heard.now) c.as_slice.ensures.value (sym c.in-Some.ensures.value) in
    let last : last_at history ≡ Some c.at-last.result = last_is history c.in-Some.heard.now there ∙ ap Some (sym c.at-last.ensures.value) in
    λ number. is_disorder number (last_at history) c.at-last.result c.args.at last c.if-at-last.true

-- or it isn't
pub returns-else-at-last-clause-timely : goal.returns-else-at-last-clause-timely
returns-else-at-last-clause-timely c =
    let history = c.args.history.now in
    let there = subst (λ (lines : List Heard). slice_get lines (length lines - 1) ≡ Some c.in-Some.heard.now) c.as_slice.ensures.value (sym c.in-Some.ensures.value) in
    let last : last_at history ≡ Some c.at-last.result = last_is history c.in-Some.heard.now there ∙ ap Some (sym c.at-last.ensures.value) in
    let up = c.if-at-last.false in
    λ other e. (let both = sym last ∙ e in let same : c.at-last.result ≡ other = cc in omega (arith, up, same))
