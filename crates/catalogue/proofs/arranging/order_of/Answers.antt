use Rattle.std.proofs.Common.{◌<◌, ℕ, length, subst, sym, rules}
use Rattle.std.specs.List.{All}
use Rattle.resubscribe.specs.declared.fault.OrderFault.TheVariants as fault
use Rattle.resubscribe.specs.Outcome.{IsRefusal}
use Rattle.catalogue.proofs.SmallLemmas.{cycle_small}
use Rattle.catalogue.proofs.arranging.order_of.Goals as goal

-- the numbers of a cycle are those of queries
pub names_of-requires-clause-within : goal.names_of-requires-clause-within
names_of-requires-clause-within c =
    let refusal : IsRefusal c.args.reads.now (fault.Cycle c.in-Err-Cycle.cycle) = search rules in
    subst (λ (n : ℕ). All (λ x. x < n) c.as_slice.result.now) c.requires.as_many
    (subst (All (λ x. x < length c.args.reads.now)) (sym c.as_slice.ensures) (cycle_small c.args.reads.now (length c.args.reads.now) c.in-Err-Cycle.cycle c.requires.small refusal.1))
