use Rattle.std.proofs.Common.{◌∙◌, ap, sym, subst, ◌≤◌, List, []}
use Rattle.std.proofs.lemmas.Result.{on_ok_weaker}
use Rattle.scalar_expr.proofs.Bags.{permuted_from}
use Rattle.stream_readers.specs.Finding.{FindsWays}
use Rattle.stream_readers.specs.Readers.{no_reader, reader_at}
use Rattle.stream_readers.specs.declared.reader.Reader.{Reader}
use Rattle.stream_readers.proofs.FindLemmas.{finds_ways}
use Rattle.stream_readers.proofs.KeyTableLemmas.{default_past}
use Rattle.stream_readers.proofs.SlotLemmas.{at_got}
use Rattle.stream_readers.proofs.readers.Readers.find_targets.Goals as goal

pub returns-then-stream-len : goal.returns-then-stream-len
returns-then-stream-len c =
    let s = c.args.stream in
    let t = c.args.tuple.now in
    let here = ap (λ (rs : List Reader). reader_at rs s) (sym c.self.view_is) ∙ at_got c.self.inside.streams s no_reader c.get.result.now c.get.ensures in
    on_ok_weaker c.find.result
    (λ found net network readers. subst (FindsWays net s t) (sym found) (finds_ways net s t c.get.result.now.targets network (permuted_from (ap (λ (r : Reader). r.targets) (sym here)) (readers s).targets))) c.find.ensures

pub returns-else-stream-len : goal.returns-else-stream-len
returns-else-stream-len c =
    let s = c.args.stream in
    let t = c.args.tuple.now in
    let here = ap (λ (rs : List Reader). reader_at rs s) (sym c.self.view_is) ∙ default_past no_reader c.self.inside.streams s (subst (λ n. n ≤ s) c.len.ensures c.if-stream-len.false) in
    λ net network readers. subst (FindsWays net s t) (sym c.clear.ensures) (finds_ways net s t [] network (permuted_from (ap (λ (r : Reader). r.targets) (sym here)) (readers s).targets))
