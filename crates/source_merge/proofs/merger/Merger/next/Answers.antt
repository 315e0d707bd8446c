use Rattle.std.proofs.Common.{◌≡◌, ◌∙◌, ap, sym, subst, length, None, Some}
use Rattle.std.specs.BinaryHeap.{heap_items}
use Rattle.std.specs.Option.{option_map}
use Rattle.std.proofs.lemmas.Bool.{ltb-true}
use Rattle.source_merge.specs.Held.{listed, taken_of}
use Rattle.source_merge.specs.Merging.{Merging, after_given, next_given}
use Rattle.source_merge.specs.Ranks.{in_order}
use Rattle.source_merge.specs.Sources.{is_below}
use Rattle.source_merge.proofs.HeapLemmas.{apart_left, before_left, popped_is_first, top_is_first}
use Rattle.source_merge.proofs.MergerLemmas.{first_leaves, first_stays}
use Rattle.source_merge.proofs.merger.Merger.next.Goals as goal

pub returns-then-not-is_below-clause-given : goal.returns-then-not-is_below-clause-given
returns-then-not-is_below-clause-given c =
    let items = heap_items c.self.inside.held in
    let m : Merging = record { slack = c.self.inside.slack; sources = c.self.inside.sources; held = in_order (listed items); count = c.self.inside.taken } in
    let top = c.in_ok-first.first.now in
    let first = top_is_first top items (ltb-true 0 (length items) (sym c.in_ok-first.ensures.item.0)) c.in_ok-first.ensures.lookup (c.in_ok-first.ensures.greatest c.self.invariant.heap) in
    let told = ap (λ mark. is_below mark top.rank.at) (sym c.self.invariant.mark_is) ∙ sym c.is_below.ensures in
    let stays = first_stays m (taken_of top) first (told ∙ c.if-not-is_below.true) in
    subst (λ (n : Merging). None ≡ option_map (λ taken. taken.1) (next_given n)) c.self.view_is (sym (ap (option_map (λ taken. taken.1)) stays.0))

pub returns-then-not-is_below-clause-others : goal.returns-then-not-is_below-clause-others
returns-then-not-is_below-clause-others c =
    let items = heap_items c.self.inside.held in
    let m : Merging = record { slack = c.self.inside.slack; sources = c.self.inside.sources; held = in_order (listed items); count = c.self.inside.taken } in
    let top = c.in_ok-first.first.now in
    let first = top_is_first top items (ltb-true 0 (length items) (sym c.in_ok-first.ensures.item.0)) c.in_ok-first.ensures.lookup (c.in_ok-first.ensures.greatest c.self.invariant.heap) in
    let told = ap (λ mark. is_below mark top.rank.at) (sym c.self.invariant.mark_is) ∙ sym c.is_below.ensures in
    let stays = first_stays m (taken_of top) first (told ∙ c.if-not-is_below.true) in
    subst (λ (n : Merging). n ≡ after_given n) c.self.view_is stays.1

pub invariant_of-self-2 : goal.invariant_of-self-2
invariant_of-self-2 c =
    let items = heap_items c.self.inside.held in
    let rest = heap_items c.pop.new.self in
    let given = c.in_ok-given.given in
    record {
      turn_is = c.self.invariant.turn_is;
      mark_is = c.self.invariant.mark_is;
      heap = (c.in_ok-given.ensures.heap_order c.self.invariant.heap).0;
      before = before_left given items rest c.self.inside.taken c.in_ok-given.ensures.permutation c.self.invariant.before;
      apart = apart_left given items rest c.in_ok-given.ensures.permutation c.self.invariant.apart;
    }

pub returns-clause-given : goal.returns-clause-given
returns-clause-given c =
    let items = heap_items c.self.inside.held in
    let m : Merging = record { slack = c.self.inside.slack; sources = c.self.inside.sources; held = in_order (listed items); count = c.self.inside.taken } in
    let top = c.in_ok-first.first.now in
    let first = top_is_first top items (ltb-true 0 (length items) (sym c.in_ok-first.ensures.item.0)) c.in_ok-first.ensures.lookup (c.in_ok-first.ensures.greatest c.self.invariant.heap) in
    let told = ap (λ mark. is_below mark top.rank.at) (sym c.self.invariant.mark_is) ∙ sym c.is_below.ensures in
    let rest = heap_items c.pop.new.self in
    let given = c.in_ok-given.given in
    let split = popped_is_first given items rest c.in_ok-given.ensures.permutation c.self.invariant.apart (c.in_ok-given.ensures.below_top c.self.invariant.heap) in
    let leaves = first_leaves m (taken_of top) (taken_of given) (in_order (listed rest)) first split (told ∙ c.if-not-is_below.false) in
    subst (λ (n : Merging). Some given.seen ≡ option_map (λ taken. taken.1) (next_given n)) c.self.view_is (sym (ap (option_map (λ taken. taken.1)) leaves.0))

pub returns-clause-others : goal.returns-clause-others
returns-clause-others c =
    let items = heap_items c.self.inside.held in
    let m : Merging = record { slack = c.self.inside.slack; sources = c.self.inside.sources; held = in_order (listed items); count = c.self.inside.taken } in
    let top = c.in_ok-first.first.now in
    let first = top_is_first top items (ltb-true 0 (length items) (sym c.in_ok-first.ensures.item.0)) c.in_ok-first.ensures.lookup (c.in_ok-first.ensures.greatest c.self.invariant.heap) in
    let told = ap (λ mark. is_below mark top.rank.at) (sym c.self.invariant.mark_is) ∙ sym c.is_below.ensures in
    let rest = heap_items c.pop.new.self in
    let given = c.in_ok-given.given in
    let split = popped_is_first given items rest c.in_ok-given.ensures.permutation c.self.invariant.apart (c.in_ok-given.ensures.below_top c.self.invariant.heap) in
    let leaves = first_leaves m (taken_of top) (taken_of given) (in_order (listed rest)) first split (told ∙ c.if-not-is_below.false) in
    subst (λ (n : Merging). record { slack = c.self.inside.slack; sources = c.self.inside.sources; held = in_order (listed rest); count = c.self.inside.taken } ≡ after_given n) c.self.view_is leaves.1
