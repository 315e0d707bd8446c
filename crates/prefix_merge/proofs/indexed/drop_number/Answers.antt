use Rattle.std.proofs.Common.{◌∙◌, ap, get_or, nat_eq, sym}
use Rattle.std.proofs.lemmas.List.Sums.{count_by_more_no}
use Rattle.std.proofs.lemmas.Option.{get_or_from_slice_get, slice_get_within}
use Rattle.event_types.proofs.NumberLemmas.{is_other}
use Rattle.prefix_merge.proofs.BucketLemmas.{copies, one_less, one_less_if}
use Rattle.prefix_merge.proofs.indexed.drop_number.Goals as goal

-- the number stood here
pub returns-then-get-number : goal.returns-then-get-number
returns-then-get-number c n =
    let numbers = c.loop-place.numbers in
    let inside = slice_get_within numbers c.loop-place.place c.get.result.now c.get.ensures in
    let here = get_or_from_slice_get numbers c.loop-place.place c.get.result.now n c.get.ensures ∙ c.if-get-number.true in
    ap (copies n) c.remove.ensures.others ∙ one_less numbers c.loop-place.place c.args.number n inside here
    ∙ ap (λ ns. one_less_if (copies n ns) (nat_eq c.args.number n)) c.loop-place.invariant.all

-- another number stands here
pub loop-place-preserved : goal.loop-place-preserved
loop-place-preserved c =
    let numbers = c.loop-place.numbers in
    let inside = slice_get_within numbers c.loop-place.place c.get.result.now c.get.ensures in
    let here = get_or_from_slice_get numbers c.loop-place.place c.get.result.now 0 c.get.ensures in
    record {
      all = c.loop-place.invariant.all;
      none = count_by_more_no (λ m. nat_eq m c.args.number) numbers c.loop-place.place 0 inside (is_other (get_or numbers c.loop-place.place 0) c.args.number (λ same. c.if-get-number.false (sym here ∙ same))) ∙ c.loop-place.invariant.none;
    }
