use Rattle.std.proofs.Common.{◌∙◌, sym, ap, ◌++◌}
use Rattle.binding_index.proofs.MapLemmas.{flat_more}
use Rattle.binding_index.proofs.buckets.copy_all.Goals as goal

pub loop-place-preserved : goal.loop-place-preserved
loop-place-preserved c =
    c.in_ok-add_copies.ensures ∙ ap (λ is. is ++ c.index.result.now) c.loop-place.invariant ∙ sym (flat_more c.args.buckets.now.entries c.loop-place.place c.index.result.now c.index.ensures)
