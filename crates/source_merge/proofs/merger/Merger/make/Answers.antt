use Rattle.std.proofs.Common.{◌∙◌, ap}
use Rattle.std.specs.BinaryHeap.{heap_items}
use Rattle.source_merge.specs.Sources.{turn_in, watermark}
use Rattle.source_merge.proofs.HeapLemmas.{nothing_apart, nothing_before}
use Rattle.source_merge.proofs.merger.Merger.make.Goals as goal

pub invariant_of-result : goal.invariant_of-result
invariant_of-result c =
    let items = heap_items c.new.result in
    record {
      turn_is = c.turn_and_mark-turn.ensures.turn ∙ ap turn_in c.as_slice.ensures;
      mark_is = c.turn_and_mark-turn.ensures.mark ∙ ap (watermark c.args.slack) c.as_slice.ensures;
      heap = c.new.ensures.heap_order;
      before = nothing_before items 0 c.new.ensures.items;
      apart = nothing_apart items c.new.ensures.items;
    }
