use Rattle.std.proofs.Common.{subst, sym, true, List, ℕ}
use Rattle.std.proofs.lemmas.Result.{IfErr-weaker, on_ok_weaker}
use Rattle.explanation.specs.Hearing.{FailsBy, refused_left}
use Rattle.explanation.specs.HearingView.{HasHeard, HearsAll, HearingView, StopsAtEnd}
use Rattle.explanation.proofs.HearingLemmas.{ends, stops_last}
use Rattle.explanation.proofs.KindLemmas.{text_kinds}
use Rattle.explanation.proofs.hearing.Hearing.finish.Goals as goal

-- the text was heard
pub returns-clause-heard : goal.returns-clause-heard
returns-clause-heard c =
    on_ok_weaker c.hear_rest.result
    (λ rest. subst (λ (view : HearingView). (bytes : List ℕ) → HasHeard c.args.streams.now bytes view → HearsAll c.args.streams.now bytes c.hear_rest.new.history) c.self.view_is
    (λ bytes heard. ends c.args.streams.now bytes _ heard c.hear_rest.new.history rest)) c.hear_rest.ensures.heard

-- or its last line is refused
pub returns-clause-stops : goal.returns-clause-stops
returns-clause-stops c =
    IfErr-weaker c.hear_rest.result (FailsBy (refused_left c.args.streams.now c.self.inside.feed true c.self.inside.history)) (StopsAtEnd c.args.streams.now c.args.self.now)
    (λ why fails. subst (λ (view : HearingView). StopsAtEnd c.args.streams.now view why) c.self.view_is (λ bytes heard. stops_last c.args.streams.now bytes _ heard why fails)) c.hear_rest.ensures.stops

-- its events have the kinds of their streams
pub returns-clause-kinds : goal.returns-clause-kinds
returns-clause-kinds c =
    let before = subst (HasHeard c.args.streams.now c.requires.0) (sym c.self.view_is) c.requires.1 in
    on_ok_weaker c.hear_rest.result (λ rest. text_kinds c.args.streams.now c.requires.0 c.hear_rest.new.history (ends c.args.streams.now c.requires.0 _ before c.hear_rest.new.history rest).events) c.hear_rest.ensures.heard
