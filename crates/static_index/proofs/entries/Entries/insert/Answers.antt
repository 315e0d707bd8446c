use Rattle.std.proofs.Common.{◌∙◌, ◌≤◌, ◌<◌, ◌+◌, ◌^◌, ap, sym, subst, ℕ, List, length, set, Some, rules, arith}
use Rattle.std.specs.BTreeMap.{insert_entry}
use Rattle.std.specs.Ordering.{nat_cmp}
use Rattle.static_index.specs.Entries.{AreOrdered, entry_of}
use Rattle.static_index.specs.Places.{entries_from}
use Rattle.static_index.specs.declared.entry.Entry.{Entry}
use Rattle.static_index.proofs.EntryLemmas.{bare_place, behind_ordered, dense_put, from_first, room_for_one, put_behind_all, read_place, set_behind, sparse_put}
use Rattle.static_index.proofs.entries.Entries.insert.Goals as goal

-- its place is there
pub returns-then-id-len-clause-ok : goal.returns-then-id-len-clause-ok
returns-then-id-len-clause-ok c =
    let places = c.self.inside.dense.items in
    let others = c.self.inside.sparse.entries in
    let view = c.self.view_is ∙ c.reach.ensures in
    let lt : c.args.id < length places = search rules in
    dense_put c.args.id 0 places others c.args.id c.args.entry (omega arith) lt (from_first places c.self.inside.filled others c.self.invariant) (ap (entry_of c.args.id) view ∙ c.requires)
    ∙ ap (λ (es : List (ℕ × Entry)). insert_entry nat_cmp es c.args.id c.args.entry) view

pub invariant_of-self : goal.invariant_of-self
invariant_of-self c =
    let places = c.self.inside.dense.items in
    let others = c.self.inside.sparse.entries in
    let at = read_place places c.args.id c.index_mut.result.now (search rules) c.index_mut.ensures.value in
    let bare = bare_place c.args.id places c.self.inside.filled others c.index_mut.result.now at (ap (entry_of c.args.id) (c.self.view_is ∙ c.reach.ensures) ∙ c.requires) c.self.invariant in
    set_behind c.args.id places c.self.inside.filled c.args.entry others bare c.self.invariant

pub overflow_add-self : goal.overflow_add-self
overflow_add-self c =
    let places = c.self.inside.dense.items in
    let others = c.self.inside.sparse.entries in
    let at = read_place places c.args.id c.index_mut.result.now (search rules) c.index_mut.ensures.value in
    let bare = bare_place c.args.id places c.self.inside.filled others c.index_mut.result.now at (ap (entry_of c.args.id) (c.self.view_is ∙ c.reach.ensures) ∙ c.requires) c.self.invariant in
    let room = room_for_one c.args.id places c.self.inside.filled others c.args.entry bare c.self.invariant in
    let small : length places < 2 ^ 63 = search rules in
    omega (arith, room, small)

pub returns-then-id-len-clause-ordered : goal.returns-then-id-len-clause-ordered
returns-then-id-len-clause-ordered c = behind_ordered (set c.self.inside.dense.items c.args.id (Some c.args.entry)) (c.self.inside.filled + 1) c.self.inside.sparse.entries (invariant_of-self c)

-- it has no place
pub invariant_of-self-in-Ok : goal.invariant_of-self-in-Ok
invariant_of-self-in-Ok c =
    let le : length c.self.inside.dense.items ≤ c.args.id = search rules in
    put_behind_all c.args.id c.args.entry c.self.inside.dense.items c.self.inside.filled c.self.inside.sparse.entries c.insert.new.self.entries c.in-Ok.ensures.entries le c.insert.ensures.ordered c.self.invariant

pub returns-in-Ok-clause-ok : goal.returns-in-Ok-clause-ok
returns-in-Ok-clause-ok c =
    let places = c.self.inside.dense.items in
    let le : length places ≤ c.args.id = search rules in
    ap (entries_from 0 places) c.in-Ok.ensures.entries ∙ sparse_put c.args.id 0 places c.self.inside.sparse.entries c.args.entry (omega (arith, le))
    ∙ ap (λ (es : List (ℕ × Entry)). insert_entry nat_cmp es c.args.id c.args.entry) (c.self.view_is ∙ c.reach.ensures)

pub returns-in-Ok-clause-ordered : goal.returns-in-Ok-clause-ordered
returns-in-Ok-clause-ordered c = behind_ordered c.self.inside.dense.items c.self.inside.filled c.insert.new.self.entries (invariant_of-self-in-Ok c)

pub returns-clause-ordered : goal.returns-clause-ordered
returns-clause-ordered c =
    subst (λ (es : List (ℕ × Entry)). AreOrdered (entries_from 0 c.self.inside.dense.items es)) (sym c.in-Err.ensures.err) (behind_ordered c.self.inside.dense.items c.self.inside.filled c.self.inside.sparse.entries c.self.invariant)
