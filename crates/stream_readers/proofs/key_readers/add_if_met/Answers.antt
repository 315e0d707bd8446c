use Rattle.std.proofs.Common.{◌∙◌, sym, ap, ◌++◌, ◌∷◌, [], cond}
use Rattle.std.proofs.lemmas.List.{append-nil}
use Rattle.std.proofs.lemmas.Result.{on_ok_weaker}
use Rattle.stream_readers.proofs.key_readers.add_if_met.Goals as goal

pub returns-then-is_met : goal.returns-then-is_met
returns-then-is_met c =
    let holds = sym c.is_met.ensures ∙ c.if-is_met.true in on_ok_weaker c.add.result (λ added. added ∙ ap (λ b. c.args.waits.now ++ cond b (c.args.state ∷ []) []) (sym holds)) c.add.ensures.ok

pub returns-else-is_met : goal.returns-else-is_met
returns-else-is_met c =
    let fails = sym c.is_met.ensures ∙ c.if-is_met.false in sym (append-nil c.args.waits.now) ∙ ap (λ b. c.args.waits.now ++ cond b (c.args.state ∷ []) []) (sym fails)
