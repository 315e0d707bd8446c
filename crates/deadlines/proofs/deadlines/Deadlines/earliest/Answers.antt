use Rattle.std.proofs.Common.{◌≡◌, ◌⊎◌, ◌-◌, ◌^◌, ◌≤◌, ℕ, List, subst, arith}
use Rattle.std.specs.List.{Contains}
use Rattle.deadlines.proofs.TournamentLemmas.{all_of, root_found, root_least}
use Rattle.deadlines.proofs.deadlines.Deadlines.earliest.Goals as goal

-- it is no later than any deadline
pub returns-clause-all : goal.returns-clause-all
returns-clause-all c =
    all_of (λ (deadline : ℕ). c.index.result.now ≤ deadline) c.args.self.now c.self.inside.nodes.items c.self.inside.places c.self.view_is c.self.invariant.1
    (λ leaf early. root_least c.self.inside.nodes.items c.index.result.now leaf c.self.invariant.0 c.index.ensures (omega (arith, c.self.invariant.1, early)))

-- and one of them, or there is none
pub returns-clause-found : goal.returns-clause-found
returns-clause-found c =
    subst (λ (deadlines : List ℕ). (c.index.result.now ≡ 2 ^ 128 - 1) ⊎ Contains deadlines c.index.result.now) c.self.view_is
    (root_found c.self.inside.nodes.items c.self.inside.places c.index.result.now c.self.invariant.0 c.index.ensures c.self.invariant.1 c.self.invariant.2)
