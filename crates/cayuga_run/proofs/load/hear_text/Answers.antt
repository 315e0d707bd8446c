use Rattle.std.proofs.Common.{◌≤◌, ◌^◌, ◌-◌, ℕ, List, length, subst, sym, arith}
use Rattle.cay_host.specs.TallyHost.{tally_told}
use Rattle.catalogue.specs.Holding.{judged_in}
use Rattle.courses.specs.QuerySet.{set_of}
use Rattle.load_texts.specs.EventText.{event_text}
use Rattle.load_texts.proofs.LengthLemmas.{event_text-short}
use Rattle.cayuga_run.specs.LoadHearing.{HearsText}
use Rattle.cayuga_run.specs.Tests.{TestsOfText}
use Rattle.cayuga_run.proofs.load.hear_text.Goals as goal

-- the text is short
pub hear_pieces-requires-clause-short : goal.hear_pieces-requires-clause-short
hear_pieces-requires-clause-short g c =
    let long = event_text-short c.args.seed c.args.events c.requires.few in
    let few = c.requires.few in
    let short : length (event_text c.args.seed c.args.events) ≤ 2 ^ 64 - 1 = omega (arith, long, few) in
    subst (λ (text : List ℕ). length text ≤ 2 ^ 64 - 1) (sym c.of-text.ensures) short

pub returns-clause-hears : goal.returns-clause-hears
returns-clause-hears g c =
    subst (λ (text : List ℕ). HearsText (set_of (judged_in c.args.session.now.catalogue)) text c.hear_pieces.new.session (tally_told c.args.tally.now) (tally_told c.hear_pieces.new.tally) c.hear_pieces.result) c.of-text.ensures c.hear_pieces.ensures.hears

pub returns-clause-tests : goal.returns-clause-tests
returns-clause-tests g c =
    subst (λ (text : List ℕ). TestsOfText (set_of (judged_in c.args.session.now.catalogue)) text c.args.steps.now c.hear_pieces.new.steps) c.of-text.ensures c.hear_pieces.ensures.tests
