use Rattle.std.proofs.Common.{◌≡◌, ◌∙◌, ◌+◌, ◌-◌, ℕ, length, sym, ap, arith}
use Rattle.std.specs.List.{range_with_len}
use Rattle.std.proofs.lemmas.List.{length_push}
use Rattle.std.proofs.lemmas.List.FromFn.{length-range_with_len}
use Rattle.expressions.specs.Views.{ex_of}
use Rattle.splitter.specs.Laws.{split_order}
use Rattle.splitter.specs.Splitting.{parts_of}
use Rattle.splitter.proofs.NumberingLemmas.{parts_up}
use Rattle.catalogue.proofs.CountedLemmas.{split_count}
use Rattle.catalogue.proofs.sharing.share_one.Goals as goal

pub overflow_sub-result : goal.overflow_sub-result
overflow_sub-result c = omega (arith, c.behind_hidden-end.ensures, parts_up (ex_of c.args.expr.now) c.args.published.now.hidden)

pub overflow_add-result : goal.overflow_add-result
overflow_add-result c = omega (arith, c.behind_hidden-end.type_inv, c.requires.ahead)

-- it has as many lines and streams
pub returns : goal.returns
returns c =
    let e = ex_of c.args.expr.now in
    let published = c.args.published.now in
    let many : ℕ = (parts_of e published.hidden).next - published.hidden in
    let streams : length (split_order e published.stream published.hidden) ≡ many + 1 = length_push (range_with_len published.hidden many) published.stream ∙ ap (λ n. n + 1) (length-range_with_len published.hidden many) in
    λ i. record {
      lines = (c.count.ensures ∙ sym (split_count e published.stream published.hidden)) i;
      streams = (ap (λ n. n - published.hidden + 1) c.behind_hidden-end.ensures ∙ sym streams) i;
    }
