use Rattle.std.proofs.Common.{◌<◌, List, ℕ, sym, subst}
use Rattle.std.specs.List.{sum}
use Rattle.long_lists.specs.SumTree.{IsUnitAt, leaves_of}
use Rattle.long_lists.proofs.SumTreeLemmas.{found_first}
use Rattle.long_lists.proofs.sum_tree.SumTree.find.Goals as goal

pub returns : goal.returns
returns c =
    let unit = c.args.unit in
    let block = c.find_leaf.result.block in
    let offset = c.find_leaf.result.offset in
    subst (λ (numbers : List ℕ). IsUnitAt numbers unit block offset) c.self.view_is
    (found_first c.self.inside.nodes.items c.self.inside.count unit block offset (subst (λ (numbers : List ℕ). unit < sum numbers) (sym c.self.view_is) c.requires)
    (subst (λ (nodes : List ℕ). IsUnitAt (leaves_of nodes) unit block offset) c.deref.ensures.value c.find_leaf.ensures))
