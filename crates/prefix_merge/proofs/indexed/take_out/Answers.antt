use Rattle.std.proofs.Common.{◌∙◌, ap, nat_eq, refl, subst, Some, []}
use Rattle.std.specs.HashMap.{get}
use Rattle.std.specs.Option.{IsSome, unwrap_or}
use Rattle.prefix_merge.proofs.BucketLemmas.{bucket_changed, copies, none_from, one_less_if}
use Rattle.prefix_merge.proofs.indexed.take_out.Goals as goal

-- the bucket has other numbers
pub returns-else-len-eq0 : goal.returns-else-len-eq0
returns-else-len-eq0 c =
    let was = c.in-Some.ensures.value in
    let step = (c.get_mut.follows.holds c.drop_number.new.numbers).3 (subst IsSome was refl) in
    bucket_changed one_less_if none_from (get nat_eq c.args.buckets.now) (get nat_eq (c.get_mut.follows.lender c.drop_number.new.numbers)) c.args.hash c.args.state (Some c.drop_number.new.numbers) step.0
    (λ n. c.drop_number.ensures n ∙ ap (λ o. one_less_if (copies n (unwrap_or o [])) (nat_eq c.args.state n)) was)
