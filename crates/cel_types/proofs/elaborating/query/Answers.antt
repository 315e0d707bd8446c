use Rattle.cel_grammar.specs.Views.{source_of}
use Rattle.cel_types.proofs.ReadLemmas.{reads-streams}
use Rattle.cel_types.proofs.elaborating.query.Goals as goal

pub source-requires : goal.source-requires
source-requires c = reads-streams c.args.streams.now (source_of c.args.raw.now) c.requires
