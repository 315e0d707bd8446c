use Rattle.std.proofs.Common.{◌≡◌, ◌∙◌, ◌-◌, ◌≤◌, ◌<◌, ap, sym, true, false, length, set, rules, arith}
use Rattle.std.specs.BTreeMap.{is_at}
use Rattle.std.specs.Map.{remove_entry}
use Rattle.std.specs.Option.{is_some}
use Rattle.std.specs.Ordering.{nat_cmp}
use Rattle.static_index.specs.Entries.{entry_of}
use Rattle.static_index.specs.Places.{entries_from}
use Rattle.static_index.proofs.EntryLemmas.{behind_ordered, dense_out, one_at_least, read_place, sparse_found, sparse_taken, taken_behind_all, unset_none, unset_some}
use Rattle.static_index.proofs.entries.Entries.remove.Goals as goal

-- its place had an entry
pub overflow_sub-self : goal.overflow_sub-self
overflow_sub-self c =
    let places = c.self.inside.dense.items in
    let others = c.self.inside.sparse.entries in
    let at = read_place places c.args.id c.index_mut.result.now (search rules) c.index_mut.ensures.value in
    let some : is_some c.index_mut.result.now ≡ true = search rules in
    one_at_least c.args.id places c.self.inside.filled others c.index_mut.result.now at some c.self.invariant

pub invariant_of-self : goal.invariant_of-self
invariant_of-self c =
    let places = c.self.inside.dense.items in
    let others = c.self.inside.sparse.entries in
    let at = read_place places c.args.id c.index_mut.result.now (search rules) c.index_mut.ensures.value in
    let some : is_some c.index_mut.result.now ≡ true = search rules in
    unset_some c.args.id places c.self.inside.filled others c.index_mut.result.now c.take-entry.new.self at some c.take-entry.ensures.after c.self.invariant

pub returns-then-is_some-clause-value : goal.returns-then-is_some-clause-value
returns-then-is_some-clause-value c =
    let places = c.self.inside.dense.items in
    let others = c.self.inside.sparse.entries in
    let at = read_place places c.args.id c.index_mut.result.now (search rules) c.index_mut.ensures.value in
    let within : c.args.id < length places = search rules in
    let out = dense_out c.args.id places c.self.inside.filled others c.args.self.now c.index_mut.result.now c.take-entry.new.self at c.take-entry.ensures.after within c.self.invariant c.self.view_is in
    c.take-entry.ensures.value ∙ out.0

pub returns-then-is_some-clause-others : goal.returns-then-is_some-clause-others
returns-then-is_some-clause-others c =
    let places = c.self.inside.dense.items in
    let others = c.self.inside.sparse.entries in
    let at = read_place places c.args.id c.index_mut.result.now (search rules) c.index_mut.ensures.value in
    let within : c.args.id < length places = search rules in
    let out = dense_out c.args.id places c.self.inside.filled others c.args.self.now c.index_mut.result.now c.take-entry.new.self at c.take-entry.ensures.after within c.self.invariant c.self.view_is in
    out.1

pub returns-then-is_some-clause-ordered : goal.returns-then-is_some-clause-ordered
returns-then-is_some-clause-ordered c = behind_ordered (set c.self.inside.dense.items c.args.id c.take-entry.new.self) (c.self.inside.filled - 1) c.self.inside.sparse.entries (invariant_of-self c)

-- its place had none
pub returns-else-is_some-clause-value : goal.returns-else-is_some-clause-value
returns-else-is_some-clause-value c =
    let places = c.self.inside.dense.items in
    let others = c.self.inside.sparse.entries in
    let at = read_place places c.args.id c.index_mut.result.now (search rules) c.index_mut.ensures.value in
    let within : c.args.id < length places = search rules in
    let out = dense_out c.args.id places c.self.inside.filled others c.args.self.now c.index_mut.result.now c.take-entry.new.self at c.take-entry.ensures.after within c.self.invariant c.self.view_is in
    c.take-entry.ensures.value ∙ out.0

pub returns-else-is_some-clause-others : goal.returns-else-is_some-clause-others
returns-else-is_some-clause-others c =
    let places = c.self.inside.dense.items in
    let others = c.self.inside.sparse.entries in
    let at = read_place places c.args.id c.index_mut.result.now (search rules) c.index_mut.ensures.value in
    let within : c.args.id < length places = search rules in
    let out = dense_out c.args.id places c.self.inside.filled others c.args.self.now c.index_mut.result.now c.take-entry.new.self at c.take-entry.ensures.after within c.self.invariant c.self.view_is in
    out.1

pub returns-else-is_some-clause-ordered : goal.returns-else-is_some-clause-ordered
returns-else-is_some-clause-ordered c =
    let places = c.self.inside.dense.items in
    let others = c.self.inside.sparse.entries in
    let at = read_place places c.args.id c.index_mut.result.now (search rules) c.index_mut.ensures.value in
    let none : is_some c.index_mut.result.now ≡ false = search rules in
    behind_ordered (set places c.args.id c.take-entry.new.self) c.self.inside.filled others
    (unset_none c.args.id places c.self.inside.filled others c.index_mut.result.now c.take-entry.new.self at none c.take-entry.ensures.after c.self.invariant)

-- it has no place
pub invariant_of-self-else-id-len : goal.invariant_of-self-else-id-len
invariant_of-self-else-id-len c =
    taken_behind_all c.args.id c.self.inside.dense.items c.self.inside.filled c.self.inside.sparse.entries c.remove.new.self.entries c.remove.ensures.entries c.remove.ensures.ordered c.self.invariant

pub returns-else-id-len-clause-value : goal.returns-else-id-len-clause-value
returns-else-id-len-clause-value c =
    let le : length c.self.inside.dense.items ≤ c.args.id = search rules in
    c.remove.ensures.value ∙ sym (sparse_found c.args.id 0 c.self.inside.dense.items c.self.inside.sparse.entries (omega (arith, le))) ∙ ap (entry_of c.args.id) c.self.view_is

pub returns-else-id-len-clause-ordered : goal.returns-else-id-len-clause-ordered
returns-else-id-len-clause-ordered c = behind_ordered c.self.inside.dense.items c.self.inside.filled c.remove.new.self.entries (invariant_of-self-else-id-len c)

pub returns-else-id-len-clause-others : goal.returns-else-id-len-clause-others
returns-else-id-len-clause-others c =
    let places = c.self.inside.dense.items in
    let le : length places ≤ c.args.id = search rules in
    ap (entries_from 0 places) c.remove.ensures.entries ∙ sparse_taken c.args.id 0 places c.self.inside.sparse.entries (omega (arith, le)) ∙ ap (remove_entry (is_at (nat_cmp c.args.id))) c.self.view_is
