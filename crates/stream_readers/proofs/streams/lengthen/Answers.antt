use Rattle.std.proofs.Common.{◌∙◌, ap, refl, [], List, length, arith, ◌∷◌, ◌++◌}
use Rattle.std.proofs.lemmas.List.{length-append}
use Rattle.stream_readers.specs.Readers.{no_reader, reader_at}
use Rattle.stream_readers.specs.declared.reader.Reader.{Reader}
use Rattle.stream_readers.proofs.KeyTableLemmas.{default_more}
use Rattle.stream_readers.proofs.streams.lengthen.Goals as goal

pub loop-alloc-init : goal.loop-alloc-init
loop-alloc-init c = λ number. refl

pub loop-alloc-smaller : goal.loop-alloc-smaller
loop-alloc-smaller c = let more = ap length c.in_ok-add.ensures.ok ∙ length-append c.loop-alloc.readers (c.new.result ∷ []) in omega (arith, more)

-- one more, that reads nothing
pub loop-alloc-preserved : goal.loop-alloc-preserved
loop-alloc-preserved c = λ number.
    ap (λ (rs : List Reader). reader_at rs number) (c.in_ok-add.ensures.ok ∙ ap (λ (r : Reader). c.loop-alloc.readers ++ r ∷ []) c.new.ensures)
    ∙ default_more no_reader c.loop-alloc.readers number ∙ c.loop-alloc.invariant number

pub returns-in_err-add-clause-same : goal.returns-in_err-add-clause-same
returns-in_err-add-clause-same c = λ number. ap (λ (rs : List Reader). reader_at rs number) c.in_err-add.ensures.kept ∙ c.loop-alloc.invariant number
