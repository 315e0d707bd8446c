use Rattle.cay_host.proofs.FilesLemmas.{took_at}
use Rattle.cay_host.proofs.files.read_at.Goals as goal

pub returns-clause-took : goal.returns-clause-took
returns-clause-took c = rw (← c.bytes_of-bytes.ensures) (took_at _ c.args.buf.now _ _ _ _ _ c.if-bytes-place.false c.requires.piece c.requires.room c.min.ensures c.min-n.ensures c.copy_from_slice.ensures.after)
