use Rattle.std.proofs.Common.{◌≡◌, ◌∙◌, sym, ap, refl, subst, ℕ, get_or, length, min, Contains, List, [], ◌∷◌, ◌++◌, arith}
use Rattle.std.proofs.lemmas.List.{length-set}
use Rattle.std.proofs.lemmas.Option.{slice_get_within}
use Rattle.event_types.specs.Order.{sort_by, value_cmp}
use Rattle.indexmap.specs.IndexMap.{set_value_at}
use Rattle.instances.specs.declared.instance.Instance.{Instance}
use Rattle.semantics.specs.Values.{value_at}
use Rattle.binding_index.specs.Keyed.{Keyed}
use Rattle.binding_index.specs.Buckets.{AreStarts, instances_at, keys_in_order}
use Rattle.binding_index.proofs.BucketLemmas.{same_keys}
use Rattle.binding_index.proofs.MapLemmas.{items_stand}
use Rattle.binding_index.proofs.NotedLemmas.{noted_written}
use Rattle.binding_index.proofs.StoreLemmas.{linked, linked_in_order, linked_starts, not_missing, the_bead, value_is, value_there}
use Rattle.binding_index.proofs.WriteLemmas.{keys_written, length_written}
use Rattle.binding_index.proofs.keyed_store.KeyedStoreWaiting.link.Goals as goal

pub index_mut-requires : goal.index_mut-requires
index_mut-requires c = slice_get_within c.self.inside.buckets.entries c.in-Some-place_near.place (c.get-key.result.now, instances_at c.self.inside.buckets.entries c.get-key.result.now) (items_stand c.self.inside.buckets.entries c.get-key.result.now c.in-Some-place_near.place c.in-Some-place_near.ensures.found)

pub arrange_or_note-self-inside-requires-clause-within : goal.arrange_or_note-self-inside-requires-clause-within
arrange_or_note-self-inside-requires-clause-within c = let long = length_written c.self.inside.buckets.entries c.in-Some-place_near.place c.put.new.self in omega (arith, long, c.self.invariant.within)

pub arrange_or_note-self-inside-requires-clause-there : goal.arrange_or_note-self-inside-requires-clause-there
arrange_or_note-self-inside-requires-clause-there c =
    let long = length_written c.self.inside.buckets.entries c.in-Some-place_near.place c.put.new.self in
    let at = slice_get_within c.self.inside.buckets.entries c.in-Some-place_near.place (c.get-key.result.now, instances_at c.self.inside.buckets.entries c.get-key.result.now) (items_stand c.self.inside.buckets.entries c.get-key.result.now c.in-Some-place_near.place c.in-Some-place_near.ensures.found) in
    omega (arith, long, at)

pub arrange_or_note-self-inside-requires-clause-others : goal.arrange_or_note-self-inside-requires-clause-others
arrange_or_note-self-inside-requires-clause-others c = noted_written c.self.inside.emptied c.self.inside.filled c.self.inside.buckets.entries c.in-Some-place_near.place c.put.new.self c.self.invariant.split

pub arrange_or_note-self-inside-requires-clause-room : goal.arrange_or_note-self-inside-requires-clause-room
arrange_or_note-self-inside-requires-clause-room c =
    let long = length_written c.self.inside.buckets.entries c.in-Some-place_near.place c.put.new.self in
    let written = ap length c.lower.ensures in
    let same = length-set c.self.inside.starts c.in-Some-place_near.place (min (get_or c.self.inside.starts c.in-Some-place_near.place 0) c.from-from.result) in
    omega (arith, long, written, same, c.self.invariant.room)

pub arrange_or_note-self-inside-requires-clause-starts : goal.arrange_or_note-self-inside-requires-clause-starts
arrange_or_note-self-inside-requires-clause-starts c =
    let bs = c.self.inside.buckets.entries in
    let key = c.get-key.result.now in
    let had = instances_at bs key in
    let at = items_stand bs key c.in-Some-place_near.place c.in-Some-place_near.ensures.found in
    let bead : c.in-Some.instance.now ≡ c.args.bead = the_bead c.new-chain.result c.link.new.self c.look.result c.args.bead c.in-Some.instance.now c.new-chain.ensures c.link.ensures c.look.ensures c.in-Some.ensures.first in
    let is = value_there bs c.in-Some-place_near.place key had c.index_mut.result.now at c.index_mut.ensures.value in
    let front : c.link.new.self ≡ c.args.bead ∷ [] = c.link.ensures ∙ ap (λ (xs : List Instance). xs ++ c.args.bead ∷ []) c.new-chain.ensures in
    let now : c.put.new.self ≡ c.args.bead ∷ had = c.put.ensures ∙ (λ i. front i ++ is i) in
    subst (λ (times : List ℕ). AreStarts times (set_value_at bs c.in-Some-place_near.place c.put.new.self)) (sym c.lower.ensures)
    (linked_starts c.self.inside.starts (min (get_or c.self.inside.starts c.in-Some-place_near.place 0) c.from-from.result) c.from-from.result bs c.in-Some-place_near.place key had c.put.new.self c.args.bead at now c.self.invariant.room c.self.invariant.start
    refl (c.from-from.ensures.value ∙ ap (λ (n : Instance). n.tuple.from) bead))

pub invariant_of-self : goal.invariant_of-self
invariant_of-self c =
    let bs = c.self.inside.buckets.entries in
    let key = c.get-key.result.now in
    let had = instances_at bs key in
    let bead : c.in-Some.instance.now ≡ c.args.bead = the_bead c.new-chain.result c.link.new.self c.look.result c.args.bead c.in-Some.instance.now c.new-chain.ensures c.link.ensures c.look.ensures c.in-Some.ensures.first in
    let is = value_there bs c.in-Some-place_near.place key had c.index_mut.result.now (items_stand c.self.inside.buckets.entries c.get-key.result.now c.in-Some-place_near.place c.in-Some-place_near.ensures.found) c.index_mut.ensures.value in
    let front : c.link.new.self ≡ c.args.bead ∷ [] = c.link.ensures ∙ ap (λ (xs : List Instance). xs ++ c.args.bead ∷ []) c.new-chain.ensures in
    let now : c.put.new.self ≡ c.args.bead ∷ had = c.put.ensures ∙ (λ i. front i ++ is i) in
    linked c.self.inside.key.binding c.self.inside.emptied c.arrange_or_note-self-inside.new.emptied c.self.inside.filled c.arrange_or_note-self-inside.result c.arrange_or_note-self-inside.new.starts c.self.inside.starts bs c.in-Some-place_near.place key had c.put.new.self c.args.bead c.arrange_or_note-self-inside.new.buckets.entries c.self.invariant
    (items_stand c.self.inside.buckets.entries c.get-key.result.now c.in-Some-place_near.place c.in-Some-place_near.ensures.found) now
    (ap (λ (n : Instance). value_at n.tuple c.self.inside.key.binding) (sym bead) ∙ value_is c.in-Some.instance.now.tuple c.vals.result.now c.self.inside.key.binding key c.vals.ensures c.get-key.ensures)
    c.arrange_or_note-self-inside.ensures.same c.arrange_or_note-self-inside.ensures.starts c.arrange_or_note-self-inside.ensures.room c.arrange_or_note-self-inside.ensures.within c.arrange_or_note-self-inside.ensures.split

pub returns-in-Some-place_near-clause-linked : goal.returns-in-Some-place_near-clause-linked
returns-in-Some-place_near-clause-linked c =
    let bs = c.self.inside.buckets.entries in
    let key = c.get-key.result.now in
    let had = instances_at bs key in
    let is = value_there bs c.in-Some-place_near.place key had c.index_mut.result.now (items_stand c.self.inside.buckets.entries c.get-key.result.now c.in-Some-place_near.place c.in-Some-place_near.ensures.found) c.index_mut.ensures.value in
    let front : c.link.new.self ≡ c.args.bead ∷ [] = c.link.ensures ∙ ap (λ (xs : List Instance). xs ++ c.args.bead ∷ []) c.new-chain.ensures in
    let now : c.put.new.self ≡ c.args.bead ∷ had = c.put.ensures ∙ (λ i. front i ++ is i) in
    rw (← c.self.view_is) (linked_in_order bs c.in-Some-place_near.place key had c.put.new.self c.args.bead c.arrange_or_note-self-inside.new.buckets.entries c.self.invariant.distinct (items_stand c.self.inside.buckets.entries c.get-key.result.now c.in-Some-place_near.place c.in-Some-place_near.ensures.found) now c.arrange_or_note-self-inside.ensures.same)

pub returns-in-Some-place_near-clause-same_ready : goal.returns-in-Some-place_near-clause-same_ready
returns-in-Some-place_near-clause-same_ready c =
    rw (← c.self.view_is) (same_keys _ c.arrange_or_note-self-inside.new.buckets.entries c.arrange_or_note-self-inside.ensures.same ∙ ap (sort_by value_cmp) (keys_written c.self.inside.buckets.entries c.in-Some-place_near.place c.put.new.self))

-- a key that is ready has a bucket
pub returns-in-Some-clause-linked : goal.returns-in-Some-clause-linked
returns-in-Some-clause-linked c =
    let bead : c.in-Some.instance.now ≡ c.args.bead = the_bead c.new-chain.result c.link.new.self c.look.result c.args.bead c.in-Some.instance.now c.new-chain.ensures c.link.ensures c.look.ensures c.in-Some.ensures.first in
    let key : value_at c.args.bead.tuple c.self.inside.key.binding ≡ c.get-key.result.now =
    ap (λ (n : Instance). value_at n.tuple c.self.inside.key.binding) (sym bead) ∙ value_is c.in-Some.instance.now.tuple c.vals.result.now c.self.inside.key.binding c.get-key.result.now c.vals.ensures c.get-key.ensures in
    let ready = subst (λ (s : Keyed). Contains s.ready (value_at c.args.bead.tuple s.key.binding)) (sym c.self.view_is) c.requires.is_ready in
    absurd (not_missing c.self.inside.buckets.entries c.get-key.result.now (subst (Contains (keys_in_order c.self.inside.buckets.entries)) key ready) c.in_default-place_near.ensures.absent)
