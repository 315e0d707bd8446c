use Rattle.std.proofs.Common.{rules, arith, refl, ap, ◌∙◌, length}
use Rattle.cay_host.proofs.OutputLemmas.{Wrote-nil, Wrote-next, SameButOutput-refl, SameButOutput-trans}
use Rattle.cay_host.proofs.writing.write_whole.Goals as goal

pub loop-at-init : goal.loop-at-init
loop-at-init g c = record {
  within = omega arith;
  wrote = Wrote-nil _;
  same = SameButOutput-refl _;
  quiet = refl;
  none_failed = λ none. none;
  untouched = λ _. refl;
}

pub loop-at-preserved : goal.loop-at-preserved
loop-at-preserved g c =
    let i = c.loop-at.invariant in
    let e = c.in_ok-at.ensures in
    record {
      within = search rules;
      wrote = Wrote-next _ _ _ i.wrote e.wrote.wrote;
      same = SameButOutput-trans i.same e.same;
      quiet = e.quiet ∙ i.quiet;
      none_failed = λ _. e.none_failed;
      untouched = λ none. absurd (omega (arith, ap length none));
    }
