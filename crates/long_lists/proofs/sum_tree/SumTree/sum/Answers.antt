use Rattle.std.proofs.Common.{◌∙◌, ◌<◌, length, ap, rules}
use Rattle.std.proofs.lemmas.Grind.{get_or_default_zero}
use Rattle.std.specs.List.{sum}
use Rattle.long_lists.proofs.SumTreeLemmas.{root_sum, root_within}
use Rattle.long_lists.proofs.sum_tree.SumTree.sum.Goals as goal

pub returns-else-is_empty : goal.returns-else-is_empty
returns-else-is_empty c =
    let nodes = c.self.inside.nodes.items in
    let some : 0 < length nodes = search rules in
    c.index.ensures ∙ get_or_default_zero nodes 1 c.index.result.now (root_within nodes c.self.invariant.tree some) ∙ root_sum nodes c.self.invariant.tree some ∙ c.self.invariant.others ∙ ap sum c.self.view_is
