use Rattle.std.proofs.Common.{ℕ, ◌<◌, arith}
use Rattle.deadlines.proofs.TournamentLemmas.{all_of, root_least}
use Rattle.deadlines.proofs.deadlines.Deadlines.first_until.Goals as goal

pub returns-then-time-index-clause-absent : goal.returns-then-time-index-clause-absent
returns-then-time-index-clause-absent c =
    all_of (λ (deadline : ℕ). c.args.time < deadline) c.args.self.now c.self.inside.nodes.items c.self.inside.places c.self.view_is c.self.invariant.1 (λ leaf early. let least = root_least c.self.inside.nodes.items c.index.result.now leaf c.self.invariant.0 c.index.ensures (omega (arith, c.self.invariant.1, early)) in omega (arith, least, c.if-time-index.true))

pub returns-else-place-self-clause-absent : goal.returns-else-place-self-clause-absent
returns-else-place-self-clause-absent c =
    all_of (λ (deadline : ℕ). c.args.time < deadline) c.args.self.now c.self.inside.nodes.items c.self.inside.places c.self.view_is c.self.invariant.1 (λ leaf early. rw c.deref.ensures.value at (c.first_leaf-place.ensures.before leaf (omega (arith, c.if-place-self.false, early))))
