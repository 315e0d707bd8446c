use Rattle.std.proofs.Common.{◌≡◌, subst}
use Rattle.std.specs.Prelude.{Some, slice_get}
use Rattle.std.proofs.lemmas.Option.{get_or_from_slice_get}
use Rattle.std.proofs.lemmas.Result.{on_ok_weaker}
use Rattle.event_types.specs.declared.value.Value.TheVariants.{Over}
use Rattle.static_index.specs.Headings.{IsMetBy}
use Rattle.static_index.proofs.column.Column.collect.Goals as goal

pub returns-then-attr-len-clause-found : goal.returns-then-attr-len-clause-found
returns-then-attr-len-clause-found c =
    on_ok_weaker c.collect_at.result
    (λ gives. λ label n met has. gives label n (subst (λ v. IsMetBy v label) (get_or_from_slice_get c.args.event.now.vals c.args.attr c.get.result.now Over (subst (λ vals. slice_get vals c.args.attr ≡ Some c.get.result.now) c.vals-then-attr-len.ensures c.get.ensures)) met) has)
    c.collect_at.ensures.found
