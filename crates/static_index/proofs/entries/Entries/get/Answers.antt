use Rattle.std.proofs.Common.{◌∙◌, ap, sym, rules, arith}
use Rattle.static_index.specs.Entries.{entry_of}
use Rattle.static_index.proofs.EntryLemmas.{dense_found, from_first, read_place, sparse_found}
use Rattle.static_index.proofs.entries.Entries.get.Goals as goal

-- it stands at the place that it names
pub returns-then-id-len : goal.returns-then-id-len
returns-then-id-len c =
    let places = c.self.inside.dense.items in
    let at = read_place places c.args.id c.index.result.now (search rules) c.index.ensures in
    c.as_ref.ensures.value ∙ sym (dense_found c.args.id 0 places c.self.inside.sparse.entries c.args.id c.index.result.now (omega arith) at (from_first places c.self.inside.filled c.self.inside.sparse.entries c.self.invariant)) ∙ ap (entry_of c.args.id) c.self.view_is

pub returns-else-id-len : goal.returns-else-id-len
returns-else-id-len c = c.get.ensures.value ∙ sym (sparse_found c.args.id 0 c.self.inside.dense.items c.self.inside.sparse.entries (search rules)) ∙ ap (entry_of c.args.id) c.self.view_is
