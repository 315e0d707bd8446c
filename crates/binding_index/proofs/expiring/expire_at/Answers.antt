use Rattle.std.proofs.Common.{◌∙◌, ◌+◌, ◌<◌, ℕ, List, ap, sym, subst, filter, length, not, arith}
use Rattle.std.proofs.lemmas.Bool.{le-leb}
use Rattle.std.proofs.lemmas.List.{length-set}
use Rattle.std.proofs.lemmas.List.Sorted.{length_permutation}
use Rattle.scalar_expr.proofs.Bags.{filter_permuted}
use Rattle.instances.specs.Alive.{is_alive}
use Rattle.instances.specs.Bounds.{started}
use Rattle.binding_index.specs.Buckets.{AreStarts}
use Rattle.binding_index.proofs.ExpiryLemmas.{purged_there, starts_purged}
use Rattle.binding_index.proofs.StartLemmas.{fewer_pass, starts_behind}
use Rattle.binding_index.proofs.WriteLemmas.{length_written, split_written}
use Rattle.binding_index.proofs.expiring.expire_at.Goals as goal

-- the bucket there has no instances, whatever time its place gets
pub returns-then-place-filled-clause-starts : goal.returns-then-place-filled-clause-starts
returns-then-place-filled-clause-starts c =
    subst (λ (times : List ℕ). AreStarts times c.args.buckets.now.entries) (sym c.set.ensures) (starts_behind c.args.filled c.args.place 340282366920938463463374607431768211455 c.args.starts.now c.args.buckets.now.entries c.if-place-filled.true c.requires.split c.requires.starts)

-- and that time never passes
pub returns-then-place-filled-clause-fewer : goal.returns-then-place-filled-clause-fewer
returns-then-place-filled-clause-fewer c =
    let test = λ (start : ℕ). not (is_alive (c.args.now + 1) c.args.condition.now (started start)) in
    subst (λ (times : List ℕ). length (filter test times) < length (filter test c.args.starts.now)) (sym c.set.ensures)
    (fewer_pass test c.args.starts.now c.args.place 340282366920938463463374607431768211455 c.requires.there (ap not c.requires.passed)
    (ap not (c.earliest_alive-earliest.ensures 340282366920938463463374607431768211455 ∙ le-leb c.earliest_alive-earliest.result 340282366920938463463374607431768211455 (omega (arith, c.earliest_alive-earliest.type_inv)))))

pub arrange-requires-clause-within : goal.arrange-requires-clause-within
arrange-requires-clause-within c = let long = length_written c.args.buckets.now.entries c.args.place c.keep_alive-oldest.new.self in omega (arith, long, c.requires.within)

pub arrange-requires-clause-room : goal.arrange-requires-clause-room
arrange-requires-clause-room c =
    let long = length_written c.args.buckets.now.entries c.args.place c.keep_alive-oldest.new.self in
    let same = ap length c.set-2.ensures in
    let kept = length-set c.args.starts.now c.args.place c.max.result in
    omega (arith, long, same, kept, c.requires.room)

pub arrange-requires-clause-others : goal.arrange-requires-clause-others
arrange-requires-clause-others c = split_written c.args.filled c.args.buckets.now.entries c.args.place c.keep_alive-oldest.new.self c.requires.split

pub arrange-requires-clause-starts : goal.arrange-requires-clause-starts
arrange-requires-clause-starts c =
    starts_purged (c.args.now + 1) c.earliest_alive-earliest.result c.keep_alive-oldest.result c.max.result c.args.place c.args.condition.now c.args.starts.now c.set-2.new.self c.args.buckets.now.entries c.index_mut.result.now c.keep_alive-oldest.new.self c.earliest_alive-earliest.ensures
    c.index_mut.ensures.value c.requires.starts c.requires.room c.keep_alive-oldest.ensures.alive c.keep_alive-oldest.ensures.oldest c.max.ensures c.set-2.ensures

pub returns-clause-alive : goal.returns-clause-alive
returns-clause-alive c =
    purged_there (λ instance. is_alive (c.args.now + 1) c.args.condition.now instance.tuple) c.args.place c.args.buckets.now.entries c.arrange.new.buckets.entries c.index_mut.result.now c.keep_alive-oldest.new.self c.requires.distinct c.index_mut.ensures.value c.keep_alive-oldest.ensures.alive
    c.arrange.ensures.same

-- the place's time has passed no more
pub returns-clause-fewer : goal.returns-clause-fewer
returns-clause-fewer c =
    let test = λ (start : ℕ). not (is_alive (c.args.now + 1) c.args.condition.now (started start)) in
    let moved = length_permutation (filter test c.set-2.new.self) (filter test c.arrange.new.starts) (filter_permuted test c.set-2.new.self c.arrange.new.starts c.arrange.ensures.same_starts) in
    let written = ap (λ (times : List ℕ). length (filter test times)) c.set-2.ensures in
    let fewer =
    fewer_pass test c.args.starts.now c.args.place c.max.result c.requires.there (ap not c.requires.passed)
    (ap not (c.earliest_alive-earliest.ensures c.max.result ∙ le-leb c.earliest_alive-earliest.result c.max.result (omega (arith, c.max.ensures)))) in
    omega (arith, moved, written, fewer)
