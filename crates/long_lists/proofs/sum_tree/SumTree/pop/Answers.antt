use Rattle.std.proofs.Common.{◌≡◌, ◌∙◌, ◌-◌, ℕ, List, length, set, take, sym, ap, subst, arith}
use Rattle.std.proofs.lemmas.List.{with_items_is}
use Rattle.std.specs.List.{sum}
use Rattle.long_lists.specs.SumTree.{HasLeaves, leaves_of}
use Rattle.long_lists.proofs.SumTreeLemmas.{count_is, has_less, pop_fits, view_less}
use Rattle.long_lists.proofs.sum_tree.SumTree.pop.Goals as goal

pub set_leaf-requires-clause-fits : goal.set_leaf-requires-clause-fits
set_leaf-requires-clause-fits c =
    let nodes = c.self.inside.nodes.items in
    let count = c.self.inside.count in
    let many : length c.args.self.now ≡ count = sym (ap length c.self.view_is) ∙ count_is nodes count c.self.invariant in
    let same = ap (λ (nodes : List ℕ). sum (set (leaves_of nodes) (count - 1) 0)) c.deref_mut.ensures.value in
    let fits = pop_fits nodes count c.self.invariant (count - 1) (omega (arith, many, c.requires)) in
    omega (arith, same, fits)

pub invariant_of-self : goal.invariant_of-self
invariant_of-self c =
    let nodes = c.self.inside.nodes.items in
    let count = c.self.inside.count in
    let many : length c.args.self.now ≡ count = sym (ap length c.self.view_is) ∙ count_is nodes count c.self.invariant in
    subst (λ nodes. HasLeaves nodes (count - 1)) (sym (with_items_is c.self.inside.nodes c.set_leaf.new.nodes (c.set_leaf.auto.nodes ∙ c.deref_mut.ensures.len)))
    (has_less nodes count c.self.invariant (count - 1) (omega (arith, many, c.requires)) c.set_leaf.new.nodes c.set_leaf.ensures.tree
    (c.set_leaf.ensures.leaves ∙ ap (λ (nodes : List ℕ). set (leaves_of nodes) (count - 1) 0) c.deref_mut.ensures.value))

pub returns : goal.returns
returns c =
    let nodes = c.self.inside.nodes.items in
    let count = c.self.inside.count in
    let many : length c.args.self.now ≡ count = sym (ap length c.self.view_is) ∙ count_is nodes count c.self.invariant in
    let fewer : count - 1 ≡ length c.args.self.now - 1 = ap (λ n. n - 1) (sym many) in
    ap (λ (nodes : List ℕ). take (count - 1) (leaves_of nodes)) (with_items_is c.self.inside.nodes c.set_leaf.new.nodes (c.set_leaf.auto.nodes ∙ c.deref_mut.ensures.len))
    ∙ view_less nodes count c.self.invariant (count - 1) (omega (arith, many, c.requires)) c.set_leaf.new.nodes
    (c.set_leaf.ensures.leaves ∙ ap (λ (nodes : List ℕ). set (leaves_of nodes) (count - 1) 0) c.deref_mut.ensures.value)
    ∙ ap (take (count - 1)) c.self.view_is ∙ ap (λ n. take n c.args.self.now) fewer
