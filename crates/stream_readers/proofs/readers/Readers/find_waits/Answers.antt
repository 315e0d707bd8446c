use Rattle.std.proofs.Common.{◌∙◌, ap, sym, subst, ◌≤◌, List, []}
use Rattle.std.proofs.lemmas.Result.{on_ok_weaker}
use Rattle.stream_readers.specs.Finding.{FindsPlain}
use Rattle.stream_readers.specs.Readers.{no_reader, reader_at}
use Rattle.stream_readers.specs.declared.reader.Reader.{Reader}
use Rattle.stream_readers.proofs.FindLemmas.{finds_plain}
use Rattle.stream_readers.proofs.KeyTableLemmas.{default_past}
use Rattle.stream_readers.proofs.SlotLemmas.{at_got}
use Rattle.stream_readers.proofs.readers.Readers.find_waits.Goals as goal

pub returns-then-stream-len-clause-waits : goal.returns-then-stream-len-clause-waits
returns-then-stream-len-clause-waits c =
    let s = c.args.stream in
    let t = c.args.tuple.now in
    let here = ap (λ (rs : List Reader). reader_at rs s) (sym c.self.view_is) ∙ at_got c.self.inside.streams s no_reader c.get.result.now c.get.ensures in
    on_ok_weaker c.matching.result
    (λ found net readers. subst (FindsPlain net s t) (sym found) (finds_plain net s t c.get.result.now.waits (ap (λ (r : Reader). r.waits) (sym here) ∙ (readers s).waits))) c.matching.ensures.value

pub returns-else-stream-len-clause-waits : goal.returns-else-stream-len-clause-waits
returns-else-stream-len-clause-waits c =
    let s = c.args.stream in
    let t = c.args.tuple.now in
    let here = ap (λ (rs : List Reader). reader_at rs s) (sym c.self.view_is) ∙ default_past no_reader c.self.inside.streams s (subst (λ n. n ≤ s) c.len.ensures c.if-stream-len.false) in
    λ net readers. subst (FindsPlain net s t) (sym c.clear.ensures) (finds_plain net s t [] (ap (λ (r : Reader). r.waits) (sym here) ∙ (readers s).waits))
