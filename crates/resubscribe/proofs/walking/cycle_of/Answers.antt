use Rattle.std.proofs.Common.{◌≡◌, ◌++◌, ◌∷◌, [], ◌∙◌, length, sym, ap, subst, rules, drop}
use Rattle.std.specs.Prelude.{◌==◌, Some, slice_get}
use Rattle.std.specs.List.{position_or_len}
use Rattle.std.proofs.lemmas.Bool.{not-true}
use Rattle.std.proofs.lemmas.Result.{IfOk-weaker}
use Rattle.resubscribe.specs.Cycle.{IsCycle, Walks}
use Rattle.resubscribe.specs.Marks.{Few}
use Rattle.resubscribe.specs.Order.{is_among, is_untaken}
use Rattle.resubscribe.proofs.FindLemmas.{found_below}
use Rattle.resubscribe.proofs.WalkLemmas.{IsCycle-from_walk, Walks-push, front-push}
use Rattle.resubscribe.proofs.walking.cycle_of.Goals as goal

-- the walk begins at the first untaken query
pub loop-walk-init : goal.loop-walk-init
loop-walk-init c =
    let first = found_below (is_untaken c.args.taken.now.numbers) (length c.args.reads.now) (Some c.args.start) c.requires.begins in
    let none : c.in_ok-walk.walk ≡ record { numbers = []; size = c.len.result } = c.in_ok-walk.ensures in
    record {
      size = ap (λ (s : Few). s.size) none ∙ c.len.ensures;
      small = first.1;
      untaken = not-true (is_among c.args.taken.now.numbers c.args.start) first.2;
      walks = subst (λ (s : Few). Walks c.args.reads.now c.args.taken.now.numbers (s.numbers ++ c.args.start ∷ [])) (sym none) tt;
      begins = ap (λ (s : Few). slice_get (s.numbers ++ c.args.start ∷ []) 0) none;
    }

-- it goes on to the leftmost untaken read
pub loop-walk-preserved : goal.loop-walk-preserved
loop-walk-preserved c =
    let put : c.put.new.self ≡ record { numbers = c.loop-walk.walk.numbers ++ c.loop-walk.query ∷ []; size = c.loop-walk.walk.size } = c.in_ok-put.ensures.ok in
    record {
      size = ap (λ (s : Few). s.size) put ∙ c.loop-walk.invariant.size;
      small = c.next_of-query.ensures.small;
      untaken = c.next_of-query.ensures.untaken;
      walks = subst (λ (s : Few). Walks c.args.reads.now c.args.taken.now.numbers (s.numbers ++ c.next_of-query.result ∷ [])) (sym put)
          (Walks-push c.args.reads.now c.args.taken.now.numbers c.loop-walk.walk.numbers c.loop-walk.query c.next_of-query.result c.loop-walk.invariant.walks c.next_of-query.ensures.next);
      begins = ap (λ (s : Few). slice_get (s.numbers ++ c.next_of-query.result ∷ []) 0) put ∙ front-push c.loop-walk.walk.numbers (c.next_of-query.result ∷ []) c.loop-walk.query ∙ c.loop-walk.invariant.begins;
    }

-- what stands in the walk from the first place of the query on is the cycle
pub returns : goal.returns
returns c =
    let same : c.as_slice.result.now ≡ c.loop-walk.walk.numbers = c.as_slice.ensures ∙ c.numbers.ensures.value in
    IfOk-weaker c.rest_from.result (λ rest. rest ≡ drop (position_or_len (λ other. c.loop-walk.query == other) c.as_slice.result.now) c.as_slice.result.now) (IsCycle c.args.reads.now)
    (λ rest is_rest. IsCycle-from_walk c.args.reads.now c.args.taken.now.numbers c.loop-walk.walk.numbers rest c.args.start c.loop-walk.query c.requires.takes c.requires.none_ready c.requires.begins
    c.loop-walk.invariant.walks c.loop-walk.invariant.begins c.numbers.ensures.distinct (search rules) (is_rest ∙ ap (λ xs. drop (position_or_len (λ other. c.loop-walk.query == other) xs) xs) same))
    c.rest_from.ensures
