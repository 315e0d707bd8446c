use Rattle.derivations.specs.HeardLines.{events_of}
use Rattle.derivations.proofs.PublishLemmas.{streams_more}
use Rattle.derivations.proofs.publishing.heard_streams.Goals as goal

-- one more stream has its events
pub loop-stream-preserved : goal.loop-stream-preserved
loop-stream-preserved c =
    streams_more c.args.declared (events_of c.args.history.now) c.loop-stream.stream c.loop-stream.streams c.add.new.self c.in_ok-found.found c.loop-stream.invariant c.in_ok-found.ensures c.in_ok-add.ensures.ok
