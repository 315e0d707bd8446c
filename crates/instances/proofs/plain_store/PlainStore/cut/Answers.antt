use Rattle.std.proofs.Common.{◌∙◌, ◌≤◌, Some, ap, sym}
use Rattle.std.proofs.lemmas.List.Elements.{All-filter, All-same}
use Rattle.semantics.specs.Births.{is_after}
use Rattle.instances.specs.Births.{began_after}
use Rattle.instances.proofs.BirthLemmas.{began_unborn}
use Rattle.instances.proofs.plain_store.PlainStore.cut.Goals as goal

pub invariant_of-self : goal.invariant_of-self
invariant_of-self c =
    All-same (λ instance. c.self.inside.oldest ≤ instance.tuple.from) _ _ c.keep_after.ensures
    (All-filter (λ instance. is_after (Some c.in-Some.since) instance.first) (λ instance. c.self.inside.oldest ≤ instance.tuple.from) _ c.self.invariant)

pub returns-in_default-clause-began : goal.returns-in_default-clause-began
returns-in_default-clause-began c = sym (began_unborn c.args.self.now.instances) ∙ ap (λ birth. began_after birth c.args.self.now.instances) (sym c.in_default.is)
