use Rattle.std.proofs.Common.{sym}
use Rattle.std.specs.Prelude.{None}
use Rattle.binding_index.proofs.EqualityLemmas.{distinct_keys}
use Rattle.binding_index.proofs.MapLemmas.{by_order, found_entry}
use Rattle.binding_index.proofs.entries.place_of.Goals as goal

-- no entry has the key
pub returns-in_err-place-clause-absent : goal.returns-in_err-place-clause-absent
returns-in_err-place-clause-absent g c = rw c.from_residual.ensures (by_order c.args.kept.now.entries c.args.key.now None (sym c.in_err-place.ensures.value))

-- the entry that was found is the key's
pub returns-clause-found : goal.returns-clause-found
returns-clause-found g c =
    found_entry c.args.kept.now.entries c.in_ok-place.place c.in_ok-place.field-0-1.now c.args.key.now c.in_ok-place.field-0-2.now c.in_ok-place.ensures.entry (sym c.in_ok-place.ensures.key) (sym c.in_ok-place.ensures.value)

pub returns-in_err-place-clause-distinct : goal.returns-in_err-place-clause-distinct
returns-in_err-place-clause-distinct g c = distinct_keys _ c.len-len.ensures.unique

pub returns-clause-distinct : goal.returns-clause-distinct
returns-clause-distinct g c = distinct_keys _ c.len-len.ensures.unique
