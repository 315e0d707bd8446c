use Rattle.std.proofs.Common.{sym, subst, ℕ, [], List, get_or, arith}
use Rattle.std.specs.Prelude.{Option}
use Rattle.std.proofs.lemmas.Option.{get_or_from_slice_get}
use Rattle.binding_index.specs.Leads.{Entries}
use Rattle.binding_index.specs.declared.store.Store.{Store}
use Rattle.stream_readers.specs.Sweeping.{IsSwept}
use Rattle.stream_readers.proofs.KeyTableLemmas.{changed_all, changed_more, changed_none, swept_none}
use Rattle.stream_readers.proofs.sweeping.sweep_all.Goals as goal

abbrev AreSwept : List (Option Store) → List Entries → List Entries → Type 0
AreSwept stores old new = (attribute : ℕ) → IsSwept stores (get_or old attribute []) (get_or new attribute [])

pub loop-stream-init : goal.loop-stream-init
loop-stream-init c = changed_none (AreSwept c.args.stores.now) [] c.args.streams.now

pub get_mut-requires : goal.get_mut-requires
get_mut-requires c = let same = c.loop-stream.invariant.as_many in omega (arith, same, c.loop-stream-test.true, c.len-stream-end.ensures)

-- one stream's more are swept
pub loop-stream-preserved : goal.loop-stream-preserved
loop-stream-preserved c =
    let stores = c.args.stores.now in
    let here = sym (get_or_from_slice_get c.loop-stream.streams c.loop-stream.stream c.get_mut.result.now [] c.get_mut.ensures.value) in
    changed_more (AreSwept stores) [] c.loop-stream.stream c.args.streams.now c.loop-stream.streams c.sweep-more.new.directories (omega (arith, c.loop-stream-test.true, c.len-stream-end.ensures)) c.loop-stream.invariant
    (subst (λ (ds : List Entries). AreSwept stores ds c.sweep-more.new.directories) here c.sweep-more.ensures)

pub returns : goal.returns
returns c = changed_all (AreSwept c.args.stores.now) [] c.loop-stream.stream c.args.streams.now c.loop-stream.streams (omega (arith, c.loop-stream-test.false, c.len-stream-end.ensures)) (λ attribute. swept_none c.args.stores.now) c.loop-stream.invariant
