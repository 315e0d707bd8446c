use Rattle.std.proofs.Common.{ℕ, rules}
use Rattle.std.specs.Prelude.{slice_get}
use Rattle.std.specs.Cmp.Lexicographic.{options_total}
use Rattle.std.specs.Ordering.{is_lt}
use Rattle.std.proofs.lemmas.Fn.{always_returns_same}
use Rattle.std.proofs.lemmas.List.Sorted.{ranks_by}
use Rattle.event_types.specs.OrderLaws.{tuple_total}
use Rattle.epoch_draft.specs.Made.{place_cmp}
use Rattle.epoch_draft.proofs.MadeLemmas.{placed_sorted}
use Rattle.epoch_draft.proofs.placing.sort_places.Goals as goal

pub returns-clause-sorted : goal.returns-clause-sorted
returns-clause-sorted c =
    let tuples = c.args.tuples.now in
    let is_before = λ (one other : ℕ). is_lt (place_cmp tuples one other) in
    let rises = c.sort_unstable_by.ensures.sorted is_before (ranks_by (options_total tuple_total) (slice_get tuples)) (always_returns_same _ _ _ (λ a r q k. search rules)) in
    placed_sorted tuples c.args.places.now.items c.sort_unstable_by.new.self.items c.requires c.sort_unstable_by.ensures.permutation rises
