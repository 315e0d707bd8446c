use Rattle.std.proofs.Common.{◌∙◌, ◌<◌, length, sym, ap, subst}
use Rattle.std.specs.List.{remove, slice_get}
use Rattle.long_lists.specs.Blocks.{joined}
use Rattle.long_lists.proofs.BlocksLemmas.{joined_remove, joined_value}
use Rattle.long_lists.proofs.long_list.LongList.remove.Goals as goal

pub returns-clause-value : goal.returns-clause-value
returns-clause-value g c =
    ap (λ items. slice_get items c.args.place) (sym c.self.view_is)
    ∙ joined_value c.self.inside.held c.args.place c.spot-spot.result.block c.spot-spot.result.offset c.take_out.result (subst (λ items. c.args.place < length items) (sym c.self.view_is) c.requires) c.spot-spot.ensures c.take_out.ensures.value

pub returns-clause-others : goal.returns-clause-others
returns-clause-others g c =
    ap joined c.take_out.ensures.others ∙ joined_remove c.self.inside.held c.args.place c.spot-spot.result.block c.spot-spot.result.offset c.spot-spot.ensures ∙ ap (λ items. remove items c.args.place) c.self.view_is
