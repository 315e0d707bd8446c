use Rattle.std.proofs.Common.{◌≡◌, ◌∙◌, ◌+◌, arith, sym, length}
use Rattle.std.specs.Prelude.{◌==◌, not}
use Rattle.std.specs.List.{position_or_len}
use Rattle.std.proofs.lemmas.List.{take_rest}
use Rattle.std.proofs.lemmas.List.Sums.{prefix_len-le-length}
use Rattle.event_csv.proofs.DecimalFacts.{around-point, none-before, times-none, times-some, units-whole}
use Rattle.event_csv.proofs.decimals.unsigned.Goals as goal

pub pointed-requires-clause-first : goal.pointed-requires-clause-first
pointed-requires-clause-first c = none-before c.args.field.now c.place_of-end.result c.place_of-end.ensures c.if-end-field.true

pub returns-then-end-field : goal.returns-then-end-field
returns-then-end-field c = rw (take_rest c.args.field.now (c.place_of-end.result + 1), around-point c.args.field.now c.place_of-end.result c.place_of-end.ensures c.if-end-field.true) at c.pointed.ensures

pub returns-in_err-up_to : goal.returns-in_err-up_to
returns-in_err-up_to c =
    let s = c.args.field.now in
    let none : position_or_len (λ b. b == 46) s ≡ length s = omega (arith, c.place_of-end.ensures, c.if-end-field.false, prefix_len-le-length (λ b. not (b == 46)) s) in
    c.from_residual.ensures ∙ sym (units-whole c.args.most c.args.places s none ∙ times-none c.args.most _ _ (sym c.in_err-up_to.ensures))

pub returns : goal.returns
returns c =
    let s = c.args.field.now in
    let none : position_or_len (λ b. b == 46) s ≡ length s = omega (arith, c.place_of-end.ensures, c.if-end-field.false, prefix_len-le-length (λ b. not (b == 46)) s) in
    times-some c.args.most _ _ _ _ (sym c.up_to.ensures ∙ c.in_ok-up_to.was) c.with_zeros.ensures ∙ sym (units-whole c.args.most c.args.places s none)
