use Rattle.std.proofs.Common.{◌≡◌, ◌∙◌, ◌+◌, ◌++◌, false, length, refl, sym, subst, ℕ, List, Result, Ok, Err}
use Rattle.std.specs.Result.{OnOk, is_err}
use Rattle.std.proofs.lemmas.Result.{err_from_is_err_and}
use Rattle.explanation.specs.declared.fault.HearFault.TheVariants as fault
use Rattle.explanation.specs.HearingView.{HasHeard, HearingView, StopsAtPiece}
use Rattle.explanation.proofs.HearingLemmas.{all_within, heard_more, stops_at, too_much}
use Rattle.explanation.proofs.hearing.Hearing.feed.Goals as goal

-- what holds of a value, where there is one
of_ok : {T E P : Type 0} (r : Result T E) → is_err r ≡ false → OnOk r P → P
of_ok (Ok x) e p = p
of_ok (Err x) e p = cc

-- a line is refused, or there is no memory
pub returns-in_err-hear_lines-clause-stops : goal.returns-in_err-hear_lines-clause-stops
returns-in_err-hear_lines-clause-stops c =
    let p = err_from_is_err_and c.from_residual.result c.from_residual.ensures.1 in
    let why = c.in_err-hear_lines.field-0.0 in
    let pushed = of_ok c.push.result (sym c.is_err.ensures.value ∙ c.if-is_err.false) c.push.ensures.ok in
    rw (p.1, p.2) (subst (λ (view : HearingView). StopsAtPiece c.args.streams.now c.args.piece.now view why) c.self.view_is
    (λ bytes heard. stops_at c.args.streams.now bytes _ heard c.args.piece.now c.front_of-within.result.now c.front_of-within.ensures why (rw pushed at c.in_err-hear_lines.ensures.stops)))

-- more bytes came
pub returns-then-within-piece-clause-stops : goal.returns-then-within-piece-clause-stops
returns-then-within-piece-clause-stops c =
    let pushed = of_ok c.push.result (sym c.is_err.ensures.value ∙ c.if-is_err.false) c.push.ensures.ok in
    subst (λ (view : HearingView). StopsAtPiece c.args.streams.now c.args.piece.now view (fault.TooMuch c.self.inside.limit)) c.self.view_is
    (λ bytes heard. too_much c.args.streams.now bytes _ heard c.args.piece.now c.front_of-within.result.now c.front_of-within.ensures c.hear_lines.new.feed c.hear_lines.new.history
    (rw pushed at c.in_ok-hear_lines.ensures.heard) c.if-within-piece.true)

-- the piece was heard
pub returns-clause-heard : goal.returns-clause-heard
returns-clause-heard c =
    let pushed = of_ok c.push.result (sym c.is_err.ensures.value ∙ c.if-is_err.false) c.push.ensures.ok in
    let within = c.front_of-within.result.now in
    let new : HearingView = record { feed = c.hear_lines.new.feed; history = c.hear_lines.new.history; limit = c.self.inside.limit; fed = c.self.inside.fed + length within } in
    let whole : within ≡ c.args.piece.now = all_within c.self.inside.limit c.self.inside.fed c.args.piece.now within c.front_of-within.ensures c.if-within-piece.false in
    λ bytes heard. subst (λ (piece : List ℕ). HasHeard c.args.streams.now (bytes ++ piece) new) whole
    (heard_more c.args.streams.now bytes _ (subst (HasHeard c.args.streams.now bytes) (sym c.self.view_is) heard) c.args.piece.now within c.front_of-within.ensures c.hear_lines.new.feed c.hear_lines.new.history
    (rw pushed at c.in_ok-hear_lines.ensures.heard))
