use Rattle.std.proofs.Common.{◌≡◌, ◌∙◌, sym, ap, subst, length, filter, not, arith}
use Rattle.std.specs.Prelude.{IsTrue, Option, Some}
use Rattle.std.specs.List.{All}
use Rattle.std.proofs.lemmas.List.Elements.{All-filter, All-same}
use Rattle.std.proofs.lemmas.Option.{slice_get_within}
use Rattle.event_types.specs.Order.{sort_by, value_cmp}
use Rattle.instances.specs.Keys.{Key, candidates_of, key_matches}
use Rattle.instances.specs.declared.instance.Instance.{Instance}
use Rattle.semantics.specs.Nexts.{is_eligible}
use Rattle.semantics.specs.Values.{value_at}
use Rattle.scalar_expr.specs.Fits.{AllFit}
use Rattle.binding_index.specs.Buckets.{IsKeyed, instances_in_order, instances_at}
use Rattle.binding_index.specs.Keyed.{Keyed}
use Rattle.binding_index.specs.KeyParts.{key_of_part}
use Rattle.binding_index.proofs.BucketLemmas.{same_keys}
use Rattle.binding_index.proofs.NotedLemmas.{noted_written}
use Rattle.binding_index.proofs.StoreLemmas.{arranged, taken_starts, value_is, value_there}
use Rattle.binding_index.proofs.TakeLemmas.{candidates_match, found_are, found_go, none_go}
use Rattle.binding_index.proofs.WriteLemmas.{all_at, keys_written, length_written}
use Rattle.binding_index.proofs.keyed_store.KeyedStoreWaiting.take.Goals as goal

pub index_mut-requires : goal.index_mut-requires
index_mut-requires g c = slice_get_within c.self.inside.buckets.entries c.in-Some.place (c.get-key.result.now, instances_at c.self.inside.buckets.entries c.get-key.result.now) c.in-Some.ensures.found.at

pub take-requires-clause-fits : goal.take-requires-clause-fits
take-requires-clause-fits g c =
    let key = key_of_part c.self.inside.key in
    let bs = c.self.inside.buckets.entries in
    let are : c.index_mut.result.now ≡ candidates_of (Some key) c.args.event.now (instances_in_order bs) =
    found_are key c.args.event.now bs c.self.invariant.keyed c.self.invariant.distinct c.get-key.result.now (value_is c.args.event.now c.vals.result.now c.self.inside.key.event c.get-key.result.now c.vals.ensures c.get-key.ensures) c.in-Some.place c.in-Some.ensures.found
    c.index_mut.result.now c.index_mut.ensures.value in
    All-same (λ instance. AllFit c.args.choose.now c.args.event.now (Some instance.tuple)) c.index_mut.result.now (candidates_of (Some key) c.args.event.now (instances_in_order bs)) are
    (subst (λ (s : Keyed). All (λ (instance : Instance). AllFit c.args.choose.now c.args.event.now (Some instance.tuple)) (candidates_of (Some s.key) c.args.event.now s.instances)) (sym c.self.view_is) c.requires.condition_fits)

pub take-requires-clause-found : goal.take-requires-clause-found
take-requires-clause-found g c =
    let key = key_of_part c.self.inside.key in
    let bs = c.self.inside.buckets.entries in
    let holds = λ (k : Option Key) (instance : Instance). IsTrue (key_matches k c.args.event.now instance.tuple) in
    let are : c.index_mut.result.now ≡ candidates_of (Some key) c.args.event.now (instances_in_order bs) =
    found_are key c.args.event.now bs c.self.invariant.keyed c.self.invariant.distinct c.get-key.result.now (value_is c.args.event.now c.vals.result.now c.self.inside.key.event c.get-key.result.now c.vals.ensures c.get-key.ensures) c.in-Some.place c.in-Some.ensures.found
    c.index_mut.result.now c.index_mut.ensures.value in
    subst (λ (k : Option Key). All (holds k) c.index_mut.result.now) (sym (c.key_places-places.ensures ∙ ap (λ (s : Keyed). Some s.key) (sym c.self.view_is)))
    (All-same (holds (Some key)) c.index_mut.result.now (candidates_of (Some key) c.args.event.now (instances_in_order bs)) are (candidates_match (Some key) c.args.event.now (instances_in_order bs)))

pub arrange_or_note-self-inside-requires-clause-within : goal.arrange_or_note-self-inside-requires-clause-within
arrange_or_note-self-inside-requires-clause-within g c = let long = length_written c.self.inside.buckets.entries c.in-Some.place c.take.new.self in omega (arith, long, c.self.invariant.within)

pub arrange_or_note-self-inside-requires-clause-there : goal.arrange_or_note-self-inside-requires-clause-there
arrange_or_note-self-inside-requires-clause-there g c =
    let long = length_written c.self.inside.buckets.entries c.in-Some.place c.take.new.self in
    let at = slice_get_within c.self.inside.buckets.entries c.in-Some.place (c.get-key.result.now, instances_at c.self.inside.buckets.entries c.get-key.result.now) c.in-Some.ensures.found.at in
    omega (arith, long, at)

pub arrange_or_note-self-inside-requires-clause-others : goal.arrange_or_note-self-inside-requires-clause-others
arrange_or_note-self-inside-requires-clause-others g c = noted_written c.self.inside.emptied c.self.inside.filled c.self.inside.buckets.entries c.in-Some.place c.take.new.self c.self.invariant.split

pub arrange_or_note-self-inside-requires-clause-room : goal.arrange_or_note-self-inside-requires-clause-room
arrange_or_note-self-inside-requires-clause-room g c = let long = length_written c.self.inside.buckets.entries c.in-Some.place c.take.new.self in omega (arith, long, c.self.invariant.room)

pub arrange_or_note-self-inside-requires-clause-starts : goal.arrange_or_note-self-inside-requires-clause-starts
arrange_or_note-self-inside-requires-clause-starts g c =
    let bs = c.self.inside.buckets.entries in
    let key = c.get-key.result.now in
    let had = instances_at bs key in
    let is = value_there bs c.in-Some.place key had c.index_mut.result.now c.in-Some.ensures.found.at c.index_mut.ensures.value in
    taken_starts (λ (n : Instance). not (is_eligible c.args.choose.now n.tuple c.args.event.now)) c.self.inside.starts bs c.in-Some.place key had c.take.new.self c.in-Some.ensures.found.at
    (c.take.ensures.others ∙ ap (filter (λ (n : Instance). not (is_eligible c.args.choose.now n.tuple c.args.event.now))) is) c.self.invariant.start

pub invariant_of-self : goal.invariant_of-self
invariant_of-self g c =
    let bs = c.self.inside.buckets.entries in
    let key = c.get-key.result.now in
    let had = instances_at bs key in
    let is = value_there bs c.in-Some.place key had c.index_mut.result.now c.in-Some.ensures.found.at c.index_mut.ensures.value in
    let left : c.take.new.self ≡ filter (λ (n : Instance). not (is_eligible c.args.choose.now n.tuple c.args.event.now)) had = c.take.ensures.others ∙ ap (filter (λ (n : Instance). not (is_eligible c.args.choose.now n.tuple c.args.event.now))) is in
    arranged c.self.inside.key.binding c.arrange_or_note-self-inside.new.emptied c.arrange_or_note-self-inside.result c.arrange_or_note-self-inside.new.starts bs c.in-Some.place key had c.take.new.self c.arrange_or_note-self-inside.new.buckets.entries c.self.invariant.distinct c.self.invariant.keyed
    c.in-Some.ensures.found.at
    (All-same (λ (n : Instance). value_at n.tuple c.self.inside.key.binding ≡ key) _ _ left (All-filter (λ (n : Instance). not (is_eligible c.args.choose.now n.tuple c.args.event.now)) (λ (n : Instance). value_at n.tuple c.self.inside.key.binding ≡ key) had (all_at (IsKeyed c.self.inside.key.binding) bs c.in-Some.place (key, had) c.in-Some.ensures.found.at c.self.invariant.keyed)))
    c.arrange_or_note-self-inside.ensures.same c.arrange_or_note-self-inside.ensures.starts c.arrange_or_note-self-inside.ensures.room c.arrange_or_note-self-inside.ensures.within c.arrange_or_note-self-inside.ensures.split

pub returns-in-Some-clause-others : goal.returns-in-Some-clause-others
returns-in-Some-clause-others g c =
    rw (← c.self.view_is) (found_go (key_of_part c.self.inside.key) c.args.event.now c.self.inside.buckets.entries c.self.invariant.keyed c.self.invariant.distinct c.get-key.result.now
    (value_is c.args.event.now c.vals.result.now c.self.inside.key.event c.get-key.result.now c.vals.ensures c.get-key.ensures) c.in-Some.place c.in-Some.ensures.found c.index_mut.result.now c.index_mut.ensures.value c.args.choose.now c.take.new.self
    c.arrange_or_note-self-inside.new.buckets.entries c.take.ensures.others c.arrange_or_note-self-inside.ensures.same)

-- each candidate is tested once
pub returns-in-Some-clause-ticks : goal.returns-in-Some-clause-ticks
returns-in-Some-clause-ticks g c =
    let key = key_of_part c.self.inside.key in
    let bs = c.self.inside.buckets.entries in
    let are : length c.index_mut.result.now ≡ length (candidates_of (Some key) c.args.event.now (instances_in_order bs)) =
    ap length (found_are key c.args.event.now bs c.self.invariant.keyed c.self.invariant.distinct c.get-key.result.now (value_is c.args.event.now c.vals.result.now c.self.inside.key.event c.get-key.result.now c.vals.ensures c.get-key.ensures) c.in-Some.place c.in-Some.ensures.found
    c.index_mut.result.now c.index_mut.ensures.value) in
    rw (← c.self.view_is) (omega (arith, are, c.take.ensures.ticks))

pub returns-in-Some-clause-same_ready : goal.returns-in-Some-clause-same_ready
returns-in-Some-clause-same_ready g c =
    rw (← c.self.view_is) (same_keys _ c.arrange_or_note-self-inside.new.buckets.entries c.arrange_or_note-self-inside.ensures.same ∙ ap (sort_by value_cmp) (keys_written c.self.inside.buckets.entries c.in-Some.place c.take.new.self))

pub returns-in_default-clause-others : goal.returns-in_default-clause-others
returns-in_default-clause-others g c =
    rw (← c.self.view_is) (none_go (key_of_part c.self.inside.key) c.args.event.now c.self.inside.buckets.entries c.self.invariant.keyed c.self.invariant.distinct c.get-key.result.now
    (value_is c.args.event.now c.vals.result.now c.self.inside.key.event c.get-key.result.now c.vals.ensures c.get-key.ensures) c.args.choose.now c.in_default.ensures.absent)
