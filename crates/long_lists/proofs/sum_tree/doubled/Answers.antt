use Rattle.std.proofs.Common.{◌≡◌, ◌+◌, ◌/◌, ◌∙◌, refl, ℕ, List, get_or, length, replicate, set, sym, ap, subst, arith, rules}
use Rattle.std.proofs.lemmas.List.{with_items_is}
use Rattle.std.specs.List.{sum}
use Rattle.long_lists.specs.SumTree.{leaves_of}
use Rattle.long_lists.proofs.SumTreeLemmas.{IsCopied, copy_begins, copy_fits, copy_next}
use Rattle.long_lists.proofs.sum_tree.doubled.Goals as goal

pub loop-leaf-init : goal.loop-leaf-init
loop-leaf-init c =
    let zeros : c.in_ok-grown.grown.items ≡ replicate c.in-Some.count 0 = search rules in
    subst (λ nodes. IsCopied c.args.nodes.now c.in-Some.count 0 nodes) (sym zeros) (copy_begins c.args.nodes.now c.in-Some.count c.requires (omega (arith, c.max.ensures, c.in-Some.ensures)))

pub set_leaf-requires-clause-fits : goal.set_leaf-requires-clause-fits
set_leaf-requires-clause-fits c =
    let fits = copy_fits c.args.nodes.now c.in-Some.count c.loop-leaf.leaf _ c.loop-leaf.grown.items c.requires (omega (arith, c.max.ensures, c.in-Some.ensures)) c.loop-leaf-test.true c.loop-leaf.invariant refl in
    let same = ap (λ (nodes : List ℕ). sum (set (leaves_of nodes) c.loop-leaf.leaf (get_or c.args.nodes.now (length c.args.nodes.now / 2 + c.loop-leaf.leaf) 0))) c.deref_mut.ensures.value in
    omega (arith, fits, same, c.type_inv.nodes 1)

pub loop-leaf-preserved : goal.loop-leaf-preserved
loop-leaf-preserved c =
    let long : length c.set_leaf.new.nodes ≡ length c.loop-leaf.grown.items = c.set_leaf.auto.nodes ∙ ap length c.deref_mut.ensures.value in
    subst (λ nodes. IsCopied c.args.nodes.now c.in-Some.count (c.loop-leaf.leaf + 1) nodes) (sym (with_items_is c.loop-leaf.grown c.set_leaf.new.nodes (c.set_leaf.auto.nodes ∙ c.deref_mut.ensures.len)))
    (copy_next c.args.nodes.now c.in-Some.count c.loop-leaf.leaf _ c.loop-leaf.grown.items c.requires (omega (arith, c.max.ensures, c.in-Some.ensures)) c.loop-leaf-test.true c.loop-leaf.invariant refl
    c.set_leaf.new.nodes long c.set_leaf.ensures.tree (c.set_leaf.ensures.leaves ∙ ap (λ (nodes : List ℕ). set (leaves_of nodes) c.loop-leaf.leaf (get_or c.args.nodes.now (length c.args.nodes.now / 2 + c.loop-leaf.leaf) 0)) c.deref_mut.ensures.value))
