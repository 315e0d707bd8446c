use Rattle.std.proofs.Common.{◌∙◌, ap, refl}
use Rattle.std.specs.BinaryHeap.{heap_items}
use Rattle.source_merge.specs.declared.held.Held.{Held}
use Rattle.source_merge.specs.Held.{listed}
use Rattle.source_merge.specs.Merging.{Merging, with_event}
use Rattle.source_merge.specs.Ranks.{in_order}
use Rattle.source_merge.specs.Sources.{turn_in, watermark}
use Rattle.source_merge.proofs.HeapLemmas.{apart_with_next, before_next, places_pushed, pushed_is_put}
use Rattle.source_merge.proofs.MergerLemmas.{taking_is, turn_within}
use Rattle.source_merge.proofs.merger.Merger.take.Goals as goal

pub get_mut-requires : goal.get_mut-requires
get_mut-requires c = turn_within c.self.inside.sources c.self.inside.turn c.unwrap-file.result c.self.invariant.turn_is c.unwrap-file.ensures

pub invariant_of-self-in-Ok : goal.invariant_of-self-in-Ok
invariant_of-self-in-Ok c =
    let held : Held = record { rank = record { at = c.at-at.result; file = c.unwrap-file.result.0; place = c.self.inside.taken }; seen = c.args.seen } in
    let items = heap_items c.self.inside.held in
    let new = heap_items c.push.new.self in
    record {
      turn_is = c.turn_and_mark-turn.ensures.turn ∙ ap turn_in c.as_slice.ensures;
      mark_is = c.turn_and_mark-turn.ensures.mark ∙ ap (watermark c.self.inside.slack) c.as_slice.ensures;
      heap = c.in-Ok.ensures.heap_order c.self.invariant.heap;
      before = before_next held items new c.self.inside.taken c.in-Some.taken refl c.in-Some.ensures.1 c.in-Ok.ensures.permutation c.self.invariant.before;
      apart = places_pushed held items new c.in-Ok.ensures.permutation c.self.invariant.before c.self.invariant.apart;
    }

pub returns-in-Ok-clause-ok : goal.returns-in-Ok-clause-ok
returns-in-Ok-clause-ok c =
    let held : Held = record { rank = record { at = c.at-at.result; file = c.unwrap-file.result.0; place = c.self.inside.taken }; seen = c.args.seen } in
    let items = heap_items c.self.inside.held in
    let new = heap_items c.push.new.self in
    let m : Merging = record { slack = c.self.inside.slack; sources = c.self.inside.sources; held = in_order (listed items); count = c.self.inside.taken } in
    let put = pushed_is_put held items new c.in-Ok.ensures.permutation (apart_with_next held items c.self.invariant.before c.self.invariant.apart) in
    let made =
    taking_is m c.args.seen c.unwrap-file.result c.self.inside.turn c.at-at.result c.later.result c.in-Some.taken (in_order (listed new)) c.self.invariant.turn_is c.unwrap-file.ensures c.at-at.ensures.value c.later.ensures put
    c.in-Some.ensures.1 in
    made ∙ ap (λ (n : Merging). with_event n c.args.seen) c.self.view_is
