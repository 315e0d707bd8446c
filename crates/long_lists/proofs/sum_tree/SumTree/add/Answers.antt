use Rattle.std.proofs.Common.{◌∙◌, ◌+◌, ◌<◌, ◌^◌, ℕ, List, set, sym, ap, subst, arith}
use Rattle.std.proofs.lemmas.List.{with_items_is}
use Rattle.std.specs.List.{sum}
use Rattle.long_lists.specs.SumTree.{HasLeaves, leaves_of}
use Rattle.long_lists.proofs.SumTreeLemmas.{add_fits, has_more}
use Rattle.long_lists.proofs.sum_tree.SumTree.add.Goals as goal

pub set_leaf-requires-clause-fits : goal.set_leaf-requires-clause-fits
set_leaf-requires-clause-fits c =
    let room = c.in_ok-make_room.ensures.ok in
    let nodes = c.make_room.new.nodes.items in
    let count = c.self.inside.count in
    let same = ap (λ (nodes : List ℕ). sum (set (leaves_of nodes) count c.args.number)) c.deref_mut.ensures.value in
    let fits = add_fits nodes count room.has c.args.number room.left (subst (λ (numbers : List ℕ). sum numbers + c.args.number < 2 ^ 64) (sym (room.same ∙ c.self.view_is)) c.requires) in
    omega (arith, same, fits)

pub invariant_of-self-2 : goal.invariant_of-self-2
invariant_of-self-2 c =
    let room = c.in_ok-make_room.ensures.ok in
    let nodes = c.make_room.new.nodes.items in
    let count = c.self.inside.count in
    subst (λ nodes. HasLeaves nodes (count + 1)) (sym (with_items_is c.make_room.new.nodes c.set_leaf.new.nodes (c.set_leaf.auto.nodes ∙ c.deref_mut.ensures.len)))
    (has_more nodes count room.has c.args.number room.left c.set_leaf.new.nodes
    (subst (λ (numbers : List ℕ). sum numbers + c.args.number < 2 ^ 64) (sym (room.same ∙ c.self.view_is)) c.requires) c.set_leaf.ensures.tree
    (c.set_leaf.ensures.leaves ∙ ap (λ (nodes : List ℕ). set (leaves_of nodes) count c.args.number) c.deref_mut.ensures.value))
