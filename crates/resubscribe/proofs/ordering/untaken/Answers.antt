use Rattle.std.proofs.Common.{length, sym, arith, rules}
use Rattle.resubscribe.specs.Order.{is_untaken}
use Rattle.resubscribe.proofs.FindLemmas.{find-none, find-some}
use Rattle.resubscribe.proofs.ordering.untaken.Goals as goal

-- the query is the first that isn't taken
pub returns-then-not-has : goal.returns-then-not-has
returns-then-not-has c =
    sym (find-some (is_untaken c.args.taken.now.numbers) 0 (length c.args.reads.now) c.loop-query.query (omega arith) (omega arith) (search rules) (λ k low high. c.loop-query.invariant k high))

-- all are taken
pub returns : goal.returns
returns c = sym (find-none (is_untaken c.args.taken.now.numbers) 0 (length c.args.reads.now) (λ k low high. c.loop-query.invariant k (omega arith)))
