use Rattle.std.proofs.Common.{◌∙◌, ap, arith, sym, Some}
use Rattle.event_csv.proofs.DecimalFacts.{sum-none, sum-none_behind, sum-past, sum-past_first, sum-some, units-parts, units-too_many}
use Rattle.event_csv.proofs.decimals.pointed.Goals as goal

pub returns-then-behind-places : goal.returns-then-behind-places
returns-then-behind-places c = sym (units-too_many c.args.most c.args.places c.args.front.now c.args.behind.now c.requires.first c.if-behind-places.true)

pub returns-in_err-up_to : goal.returns-in_err-up_to
returns-in_err-up_to c =
    let read = units-parts c.args.most c.args.places c.args.front.now c.args.behind.now c.requires.first c.if-behind-places.false in
    c.from_residual.ensures ∙ sym (read ∙ sum-none c.args.most _ _ _ _ (sym c.in_err-up_to.ensures))

pub returns-in_err-whole : goal.returns-in_err-whole
returns-in_err-whole c =
    let read = units-parts c.args.most c.args.places c.args.front.now c.args.behind.now c.requires.first c.if-behind-places.false in
    let first = sym c.up_to.ensures ∙ c.in_ok-up_to.was in
    c.from_residual-in_err-whole.ensures ∙ sym (read ∙ sum-past_first c.args.most _ _ _ _ _ first c.in_err-whole.ensures)

pub returns-in_err-up_to-2 : goal.returns-in_err-up_to-2
returns-in_err-up_to-2 c =
    let read = units-parts c.args.most c.args.places c.args.front.now c.args.behind.now c.requires.first c.if-behind-places.false in
    c.from_residual-in_err-up_to-2.ensures ∙ sym (read ∙ sum-none_behind c.args.most _ _ _ _ (sym c.in_err-up_to-2.ensures))

pub returns-in_err-part : goal.returns-in_err-part
returns-in_err-part c =
    let read = units-parts c.args.most c.args.places c.args.front.now c.args.behind.now c.requires.first c.if-behind-places.false in
    let first = sym c.up_to.ensures ∙ c.in_ok-up_to.was in
    let second = sym c.up_to-2.ensures ∙ c.in_ok-up_to-2.was in
    c.from_residual-in_err-part.ensures ∙ sym (read ∙ sum-past c.args.most _ _ _ _ _ _ first second (omega (arith, c.in_err-part.ensures)))

pub returns-then-most-whole : goal.returns-then-most-whole
returns-then-most-whole c =
    let read = units-parts c.args.most c.args.places c.args.front.now c.args.behind.now c.requires.first c.if-behind-places.false in
    let first = sym c.up_to.ensures ∙ c.in_ok-up_to.was in
    let second = sym c.up_to-2.ensures ∙ c.in_ok-up_to-2.was in
    sym (read ∙ sum-past c.args.most _ _ _ _ _ _ first second (omega (arith, c.in_ok-whole.ensures, c.in_ok-part.ensures, c.if-most-whole.true)))

pub returns-else-most-whole : goal.returns-else-most-whole
returns-else-most-whole c =
    let read = units-parts c.args.most c.args.places c.args.front.now c.args.behind.now c.requires.first c.if-behind-places.false in
    let first = sym c.up_to.ensures ∙ c.in_ok-up_to.was in
    let second = sym c.up_to-2.ensures ∙ c.in_ok-up_to-2.was in
    sym (
    read ∙ sum-some c.args.most _ _ _ _ _ _ first second (omega (arith, c.in_ok-whole.ensures, c.in_ok-part.ensures, c.if-most-whole.false))
    ∙ ap Some (omega (arith, c.in_ok-whole.ensures, c.in_ok-part.ensures))
    )
