use Rattle.std.proofs.Common.{List, drop, subst, sym}
use Rattle.automaton.specs.declared.line.Hop.{Hop}
use Rattle.automaton.specs.declared.network.End.{End}
use Rattle.automaton.specs.States.{Net}
use Rattle.automaton.proofs.SlotLemmas.{at_used}
use Rattle.prefix_merge.specs.Coming.{ListsCome}
use Rattle.prefix_merge.specs.Growth.{Grows}
use Rattle.prefix_merge.specs.Insertion.{Inserts}
use Rattle.prefix_merge.specs.Merging.{HasEnd}
use Rattle.prefix_merge.proofs.InsertionLemmas.{grown_from, line_inserted, line_kept}
use Rattle.prefix_merge.proofs.merged.Merged.add_from.Goals as goal

-- no end has the number
pub grow-requires-clause-end : goal.grow-requires-clause-end
grow-requires-clause-end c = subst (λ (net : Net). HasEnd net c.args.end.number → ⊥) (sym c.self.view_is) c.requires.end

-- the state is there
pub grow-requires-clause-tip : goal.grow-requires-clause-tip
grow-requires-clause-tip c = at_used c.self.inside.network c.reach-reached.result.state _ c.reach-reached.ensures.reached.here

-- the line has come
pub invariant_of-self-2 : goal.invariant_of-self-2
invariant_of-self-2 c =
    let old = c.self.inside.network in
    let keeps = c.self.invariant in
    let line = c.args.line.now in
    let number = c.args.end.number in
    let birth = c.args.end.birth in
    let fresh = subst (λ (net : Net). HasEnd net number → ⊥) (sym c.self.view_is) c.requires.end in
    let grows = subst (λ (end : End). Grows c.reach-reached.result.state (drop c.reach-reached.result.place line.hops) end old c.grow.new.network) c.requires.is
    (subst (λ (hops : List Hop). Grows c.reach-reached.result.state hops c.args.end old c.grow.new.network) c.hops_from-hops.ensures c.in_ok-grow.ensures.grown) in
    let grown = grown_from old c.grow.new.network line c.reach-reached.result.state c.reach-reached.result.place number birth keeps.network keeps.merged keeps.last c.reach-reached.ensures.reached grows in
    line_kept c.self.inside.roots old old c.grow.new.network line number birth grown fresh keeps.roots keeps.numbers

pub returns-clause-inserted : goal.returns-clause-inserted
returns-clause-inserted c =
    let old = c.self.inside.network in
    let keeps = c.self.invariant in
    let line = c.args.line.now in
    let number = c.args.end.number in
    let birth = c.args.end.birth in
    let fresh = subst (λ (net : Net). HasEnd net number → ⊥) (sym c.self.view_is) c.requires.end in
    let grows = subst (λ (end : End). Grows c.reach-reached.result.state (drop c.reach-reached.result.place line.hops) end old c.grow.new.network) c.requires.is
    (subst (λ (hops : List Hop). Grows c.reach-reached.result.state hops c.args.end old c.grow.new.network) c.hops_from-hops.ensures c.in_ok-grow.ensures.grown) in
    let grown = grown_from old c.grow.new.network line c.reach-reached.result.state c.reach-reached.result.place number birth keeps.network keeps.merged keeps.last c.reach-reached.ensures.reached grows in
    subst (λ (net : Net). Inserts line number birth net c.grow.new.network) c.self.view_is (line_inserted old old c.grow.new.network line number birth grown fresh)

-- its states are listed
pub returns-clause-came : goal.returns-clause-came
returns-clause-came c = subst (λ (net : Net). ListsCome net c.grow.new.network c.args.came.now c.grow.new.came) c.self.view_is c.in_ok-grow.ensures.came
