use Rattle.std.proofs.Common.{◌∙◌, ◌≢◌, ap, subst, sym, ℕ, Some, []}
use Rattle.std.specs.Option.{IfNone, option_copied, unwrap_or}
use Rattle.automaton.specs.States.{Net, entrance_at}
use Rattle.automaton.specs.declared.network.Entrance.TheVariants.{Waiting}
use Rattle.prefix_merge.proofs.BucketLemmas.{none_entered}
use Rattle.prefix_merge.proofs.ContainLemmas.{none_in}
use Rattle.prefix_merge.proofs.indexed.Indexed.next.Goals as goal

-- there is no such bucket
pub returns-in_err-states-clause-absent : goal.returns-in_err-states-clause-absent
returns-in_err-states-clause-absent c =
    let empty = ap (λ o. unwrap_or o []) (sym c.get.ensures.value ∙ ap option_copied (c.in_err-states.was {u = tt})) in
    subst (λ (net : Net). IfNone c.from_residual.result ((next : ℕ) → entrance_at net next ≢ Some (Waiting c.args.before c.args.hop.now))) c.self.view_is
    (none_entered c.self.inside.buckets c.self.inside.network c.args.before c.entrance_hash-hash.result c.args.hop.now [] c.from_residual.result c.self.invariant.0 c.entrance_hash-hash.ensures empty
    (rw c.from_residual.ensures (λ next has. absurd (none_in next has))))

-- none of its states is entered so
pub returns-clause-absent : goal.returns-clause-absent
returns-clause-absent c =
    let states = ap (λ o. unwrap_or o []) (sym c.get.ensures.value ∙ ap option_copied (c.in_ok-states.was {u = tt})) ∙ sym c.as_slice.ensures in
    subst (λ (net : Net). IfNone c.first_entered.result ((next : ℕ) → entrance_at net next ≢ Some (Waiting c.args.before c.args.hop.now))) c.self.view_is
    (none_entered c.self.inside.buckets c.self.inside.network c.args.before c.entrance_hash-hash.result c.args.hop.now c.as_slice.result.now c.first_entered.result c.self.invariant.0 c.entrance_hash-hash.ensures states c.first_entered.ensures.absent)
