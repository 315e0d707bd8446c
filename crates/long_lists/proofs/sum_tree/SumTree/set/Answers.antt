use Rattle.std.proofs.Common.{◌∙◌, ◌<◌, ◌^◌, ℕ, List, length, set, take, sym, ap, subst, arith}
use Rattle.std.proofs.lemmas.List.{with_items_is}
use Rattle.std.specs.List.{sum}
use Rattle.long_lists.specs.SumTree.{HasLeaves, leaves_of}
use Rattle.long_lists.proofs.SumTreeLemmas.{count_is, has_set, sum_set, view_set}
use Rattle.long_lists.proofs.sum_tree.SumTree.set.Goals as goal

pub set_leaf-requires-clause-fits : goal.set_leaf-requires-clause-fits
set_leaf-requires-clause-fits c =
    let nodes = c.self.inside.nodes.items in
    let count = c.self.inside.count in
    let early : c.args.block < count = subst (λ n. c.args.block < n) (sym (ap length c.self.view_is) ∙ count_is nodes count c.self.invariant) c.requires.within in
    let same = ap (λ (nodes : List ℕ). sum (set (leaves_of nodes) c.args.block c.args.number)) c.deref_mut.ensures.value in
    let first = sum_set nodes count c.self.invariant c.args.block c.args.number early in
    let view = ap (λ (numbers : List ℕ). sum (set numbers c.args.block c.args.number)) c.self.view_is in
    omega (arith, same, first, view, c.requires.fits)

pub invariant_of-self : goal.invariant_of-self
invariant_of-self c =
    let nodes = c.self.inside.nodes.items in
    let count = c.self.inside.count in
    let early : c.args.block < count = subst (λ n. c.args.block < n) (sym (ap length c.self.view_is) ∙ count_is nodes count c.self.invariant) c.requires.within in
    subst (λ nodes. HasLeaves nodes count) (sym (with_items_is c.self.inside.nodes c.set_leaf.new.nodes (c.set_leaf.auto.nodes ∙ c.deref_mut.ensures.len)))
    (has_set nodes count c.self.invariant c.args.block c.args.number early c.set_leaf.new.nodes
    (subst (λ (numbers : List ℕ). sum (set numbers c.args.block c.args.number) < 2 ^ 64) (sym c.self.view_is) c.requires.fits) c.set_leaf.ensures.tree
    (c.set_leaf.ensures.leaves ∙ ap (λ (nodes : List ℕ). set (leaves_of nodes) c.args.block c.args.number) c.deref_mut.ensures.value))

pub returns : goal.returns
returns c =
    let nodes = c.self.inside.nodes.items in
    let count = c.self.inside.count in
    let early : c.args.block < count = subst (λ n. c.args.block < n) (sym (ap length c.self.view_is) ∙ count_is nodes count c.self.invariant) c.requires.within in
    ap (λ (nodes : List ℕ). take count (leaves_of nodes)) (with_items_is c.self.inside.nodes c.set_leaf.new.nodes (c.set_leaf.auto.nodes ∙ c.deref_mut.ensures.len))
    ∙ view_set nodes count c.self.invariant c.args.block c.args.number early c.set_leaf.new.nodes
    (c.set_leaf.ensures.leaves ∙ ap (λ (nodes : List ℕ). set (leaves_of nodes) c.args.block c.args.number) c.deref_mut.ensures.value)
    ∙ ap (λ (numbers : List ℕ). set numbers c.args.block c.args.number) c.self.view_is
