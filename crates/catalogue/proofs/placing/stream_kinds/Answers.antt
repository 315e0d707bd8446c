use Rattle.std.proofs.Common.{◌≡◌, ◌∙◌, [], ◌∷◌, ◌++◌, take, add-one, sym, ap}
use Rattle.stream_schema.specs.Schema.{kinds_of}
use Rattle.stream_schema.specs.Streams.{schemas_of}
use Rattle.catalogue.specs.Chained.{kinds_of_each}
use Rattle.catalogue.proofs.ChainedLemmas.{taken_more}
use Rattle.catalogue.proofs.placing.stream_kinds.Goals as goal

-- one stream more
pub loop-stream-preserved : goal.loop-stream-preserved
loop-stream-preserved c =
    let added : c.add.new.self ≡ c.loop-stream.lists ++ c.in_ok-kinds.kinds ∷ [] = c.in_ok-add.ensures.ok in
    let own : c.in_ok-kinds.kinds ≡ kinds_of c.schema.result.now = c.in_ok-kinds.ensures in
    added ∙ (λ i. c.loop-stream.invariant i ++ own i ∷ []) ∙ sym (taken_more (schemas_of c.args.streams.now) c.loop-stream.stream c.schema.result.now c.schema.ensures)
    ∙ ap (λ n. take n (kinds_of_each c.args.streams.now)) (sym (add-one c.loop-stream.stream))
