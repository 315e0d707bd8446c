use Rattle.std.proofs.Common.{◌∙◌}
use Rattle.cay_host.proofs.FilesLemmas.{bytes_at-get, bytes_at-past}
use Rattle.cay_host.proofs.files.bytes_of.Goals as goal

pub returns-then-index-files : goal.returns-then-index-files
returns-then-index-files c = c.as_slice.ensures.value ∙ bytes_at-get _ _ _ c.if-index-files.true

pub returns-else-index-files : goal.returns-else-index-files
returns-else-index-files c = bytes_at-past _ _ c.if-index-files.false
