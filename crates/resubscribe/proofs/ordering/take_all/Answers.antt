use Rattle.std.proofs.Common.{◌≡◌, ◌<◌, ◌++◌, ◌∷◌, [], ◌∙◌, ℕ, length, false, sym, ap, arith, subst, get_or}
use Rattle.std.proofs.lemmas.List.{get_or_default}
use Rattle.resubscribe.specs.Marks.{Few}
use Rattle.resubscribe.specs.Order.{TakesQuery, is_ready}
use Rattle.resubscribe.proofs.FindLemmas.{find-none, find-some, none_below}
use Rattle.resubscribe.proofs.TakeLemmas.{Takes-push, none_before-more}
use Rattle.resubscribe.proofs.ordering.take_all.Goals as goal

-- one more query is taken, the first that is ready
pub loop-query-preserved : goal.loop-query-preserved
loop-query-preserved c =
    let put : c.put.new.self ≡ record { numbers = c.loop-query.taken.numbers ++ c.in-Some.query ∷ []; size = c.loop-query.taken.size } = c.in_ok-put.ensures.ok in
    let small : c.in-Some.query < length c.args.reads.now = c.in-Some.ensures.1 in
    let long : length c.in_ok-firsts.firsts.items ≡ length c.args.reads.now = c.in_ok-firsts.ensures.long in
    let entry : get_or c.in_ok-firsts.firsts.items c.in-Some.query c.index.result.now ≡ get_or c.in_ok-firsts.firsts.items c.in-Some.query 0 =
    get_or_default c.in_ok-firsts.firsts.items c.in-Some.query c.index.result.now 0 (omega arith) in
    let none : (k : ℕ) → k < c.in-Some.query → is_ready c.args.reads.now c.loop-query.taken.numbers k ≡ false =
    none_below (is_ready c.args.reads.now c.loop-query.taken.numbers) c.loop-query.from c.in-Some.query c.loop-query.invariant.none_before c.in-Some.ensures.3 in
    record {
      size = ap (λ (s : Few). s.size) put ∙ c.loop-query.invariant.size;
      takes = subst (λ (s : Few). TakesQuery c.args.reads.now [] s.numbers) (sym put)
          (Takes-push c.args.reads.now [] c.loop-query.taken.numbers c.in-Some.query c.loop-query.invariant.takes
          (find-some (is_ready c.args.reads.now c.loop-query.taken.numbers) 0 (length c.args.reads.now) c.in-Some.query (omega arith) (omega arith) c.in-Some.ensures.2 (λ k low high. none k high)));
      none_before = subst (λ (s : Few). (k : ℕ) → k < c.min-from.result → is_ready c.args.reads.now s.numbers k ≡ false) (sym put)
          (λ k early. none_before-more c.in_ok-firsts.firsts.items c.args.reads.now c.loop-query.taken.numbers c.in-Some.query c.in_ok-firsts.ensures small none k (omega arith));
    }

-- none is ready before the place, nor from there on
pub returns-clause-none_ready : goal.returns-clause-none_ready
returns-clause-none_ready c =
    find-none (is_ready c.args.reads.now c.loop-query.taken.numbers) 0 (length c.args.reads.now)
    (λ k low high. none_below (is_ready c.args.reads.now c.loop-query.taken.numbers) c.loop-query.from (length c.args.reads.now) c.loop-query.invariant.none_before c.in_default.ensures k (omega arith))
