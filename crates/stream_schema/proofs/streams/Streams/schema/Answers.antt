use Rattle.stream_schema.proofs.TableLemmas.{schema-at, length-streams_from}
use Rattle.stream_schema.proofs.streams.Streams.schema.Goals as goal

pub get-requires : goal.get-requires
get-requires c = rw (← length-streams_from 0 c.self.inside.streams, c.self.view_is) c.requires

pub returns : goal.returns
returns c = rw (← c.self.view_is) (schema-at 0 c.self.inside.streams c.args.stream c.get.result.now c.get.ensures)
