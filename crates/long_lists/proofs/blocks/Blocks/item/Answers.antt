use Rattle.long_lists.proofs.BlocksLemmas.{joined_read}
use Rattle.long_lists.proofs.blocks.Blocks.item.Goals as goal

pub returns : goal.returns
returns g c = joined_read c.args.self.now c.args.place c.spot-spot.result.block c.spot-spot.result.offset c.block.result.now c.get.result.now c.requires c.spot-spot.ensures c.block.ensures c.get.ensures
