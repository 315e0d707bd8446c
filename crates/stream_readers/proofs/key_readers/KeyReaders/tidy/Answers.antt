use Rattle.std.proofs.Common.{subst}
use Rattle.stream_readers.specs.KeyTables.{AreTidied, KeyTable}
use Rattle.stream_readers.proofs.KeyTableLemmas.{tidied_swept}
use Rattle.stream_readers.proofs.key_readers.KeyReaders.tidy.Goals as goal

-- all was swept
pub returns-then-self : goal.returns-then-self
returns-then-self c = subst (λ (table : KeyTable). AreTidied c.args.stores.now table c.sweep_all-left.new.streams) c.self.view_is (tidied_swept c.args.stores.now c.self.inside.streams c.sweep_all-left.new.streams c.sweep_all-left.ensures)
