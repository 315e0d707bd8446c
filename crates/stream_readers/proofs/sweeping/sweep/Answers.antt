use Rattle.std.proofs.Common.{sym, subst, [], arith}
use Rattle.std.proofs.lemmas.Option.{get_or_from_slice_get}
use Rattle.binding_index.specs.Leads.{Entries}
use Rattle.stream_readers.specs.Sweeping.{IsSwept}
use Rattle.stream_readers.proofs.KeyTableLemmas.{changed_all, changed_more, changed_none, swept_none}
use Rattle.stream_readers.proofs.sweeping.sweep.Goals as goal

pub loop-attribute-init : goal.loop-attribute-init
loop-attribute-init c = changed_none (IsSwept c.args.stores.now) [] c.args.directories.now

pub get_mut-directory-requires : goal.get_mut-directory-requires
get_mut-directory-requires c = let same = c.loop-attribute.invariant.as_many in omega (arith, same, c.loop-attribute-test.true, c.len-attribute-end.ensures)

-- one directory more is swept
pub loop-attribute-preserved : goal.loop-attribute-preserved
loop-attribute-preserved c =
    let stores = c.args.stores.now in
    let here = sym (get_or_from_slice_get c.loop-attribute.directories c.loop-attribute.attribute c.get_mut-directory.result.now [] c.get_mut-directory.ensures.value) in
    changed_more (IsSwept stores) [] c.loop-attribute.attribute c.args.directories.now c.loop-attribute.directories c.sweep.new.self (omega (arith, c.loop-attribute-test.true, c.len-attribute-end.ensures)) c.loop-attribute.invariant
    (subst (λ (es : Entries). IsSwept stores es c.sweep.new.self) here c.sweep.ensures.leads)

pub returns : goal.returns
returns c = changed_all (IsSwept c.args.stores.now) [] c.loop-attribute.attribute c.args.directories.now c.loop-attribute.directories (omega (arith, c.loop-attribute-test.false, c.len-attribute-end.ensures)) (swept_none c.args.stores.now) c.loop-attribute.invariant
