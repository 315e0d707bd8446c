use Rattle.std.proofs.Common.{◌∙◌, sym, ap, ◌++◌, ◌∷◌, [], ◌+◌, ◌-◌, ◌/◌, ◌%◌, append_assoc}
use Rattle.semantics.specs.Report.{with_point}
use Rattle.result_text.proofs.FieldLemmas.{last_digit}
use Rattle.result_text.proofs.decimals.+append_point.Goals as goal

-- the last digit is put behind those before it
pub returns-in_ok-push-2 : goal.returns-in_ok-push-2
returns-in_ok-push-2 t c =
    let text = c.args.text.now.items in
    let digit = 48 + c.args.number % 10 in
    let front = with_point (c.args.places - 1) (c.args.number / 10) in
    c.in_ok-push-2.ensures.items ∙ ap (λ bytes. bytes ++ digit ∷ []) c.in_ok-append_point.ensures ∙ append_assoc text front (digit ∷ [])
    ∙ ap (λ bytes. text ++ bytes) (sym (last_digit c.args.places c.args.number c.if-places-eq0.false))
