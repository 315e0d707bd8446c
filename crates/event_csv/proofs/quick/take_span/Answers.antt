use Rattle.std.proofs.Common.{Bor, List, ℕ, Option, Some, option_map, refl, subst, ◌≡◌}
use Rattle.std.proofs.lemmas.List.{take_rest}
use Rattle.event_csv.specs.Quick.{NumberFirst}
use Rattle.event_csv.proofs.QuickFacts.{span-long, span-short}
use Rattle.event_csv.proofs.quick.take_span.Goals as goal

pub returns-then-text-eq44 : goal.returns-then-text-eq44
returns-then-text-eq44 c =
    let s = c.args.text.now in
    span-short s c.in_ok-at.at _ c.if-text-gt0.true c.if-text-eq44.true (rw (take_rest s 1) at c.in_ok-at.ensures)

pub returns : goal.returns
returns c =
    let s = c.args.text.now in
    let from = c.in_ok-from.from in
    let rest : option_map (λ (t : Bor (List ℕ)). t.now) c.in_ok-from.rest ≡ Some c.in_ok-rest.field-0.now = rw c.in_ok-rest.was refl in
    let start : NumberFirst s from (Some c.in_ok-rest.field-0.now) = subst (λ (left : Option (List ℕ)). NumberFirst s from left) rest c.in_ok-from.ensures in
    span-long s c.in_ok-rest.field-0.now from c.in_ok-at-2.at _ start c.in_ok-at-2.ensures c.if-at-from.false
