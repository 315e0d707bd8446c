use Rattle.std.proofs.Common.{◌≡◌, ◌∙◌, ap, sym, subst, true, ℕ, Contains}
use Rattle.std.proofs.lemmas.List.Elements.{All-weaker}
use Rattle.std.proofs.lemmas.List.Sorted.{Contains-permutation}
use Rattle.static_index.specs.Conditions.{Ascends}
use Rattle.static_index.specs.Filing.{IsFiled}
use Rattle.static_index.specs.Table.{asked_ids, holds_as}
use Rattle.static_index.specs.declared.entry.Entry.{Entry}
use Rattle.static_index.proofs.FindLemmas.{found_ascends, found_is}
use Rattle.static_index.proofs.index.StaticIndex.find.Goals as goal

pub returns-clause-value : goal.returns-clause-value
returns-clause-value c =
    let entries = c.self.inside.entries in
    let event = c.args.event.now in
    let found = All-weaker (λ (e : ℕ × Entry). IsFiled c.self.inside.filing e.0 e.1) (λ e. holds_as c.args.asked event e.1.parts ≡ true → Contains c.sort.new.self e.0)
    (λ e filed holds. Contains-permutation c.collect.new.found c.sort.new.self e.0 c.sort.ensures.permutation (c.in_ok-collect.ensures e.0 e.1 filed holds)) entries c.self.invariant.filed in
    c.narrow.ensures ∙ found_is c.args.asked event entries c.sort.new.self c.self.invariant.ordered c.sort.ensures.sorted found ∙ ap (asked_ids c.args.asked event) c.self.view_is

pub returns-clause-ascends : goal.returns-clause-ascends
returns-clause-ascends c =
    subst Ascends (sym (returns-clause-value c)) (subst (λ conditions. Ascends (asked_ids c.args.asked c.args.event.now conditions)) c.self.view_is (found_ascends c.args.asked c.args.event.now c.self.inside.entries c.self.invariant.ordered))
