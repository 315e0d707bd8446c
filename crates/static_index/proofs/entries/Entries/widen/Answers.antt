use Rattle.std.proofs.Common.{◌≡◌, ◌∙◌, ◌≤◌, ◌<◌, ◌+◌, ◌++◌, ◌^◌, ap, sym, subst, Bool, List, [], ◌∷◌, Option, length, rules, arith}
use Rattle.static_index.specs.Places.{AreBehind, entries_from}
use Rattle.static_index.specs.declared.entry.Entry.{Entry}
use Rattle.static_index.proofs.EntryLemmas.{all_moved, filled_at_most, from_lower, moved_behind}
use Rattle.static_index.proofs.entries.Entries.widen.Goals as goal
use mir.Val.{bool_byte}

pub overflow_add-self : goal.overflow_add-self
overflow_add-self c =
    let most = filled_at_most c.self.inside.dense.items in
    let all = c.self.invariant.counted in
    let small : length c.self.inside.dense.items < 2 ^ 63 = search rules in
    let one : bool_byte c.is_some.result ≤ 1 = search rules in
    omega (arith, most, all, small, one)

pub invariant_of-self-2 : goal.invariant_of-self-2
invariant_of-self-2 c =
    let places = c.self.inside.dense.items in
    let others = c.self.inside.sparse.entries in
    let is : c.len.result ≡ length places = search rules in
    let put : c.push_reserved.new.self.items ≡ places ++ c.remove-entry.result ∷ [] = search rules in
    subst (λ (b : Bool). AreBehind c.push_reserved.new.self.items (c.self.inside.filled + bool_byte b) c.remove-entry.new.self.entries) (sym c.is_some.ensures)
    (moved_behind c.len.result places c.push_reserved.new.self.items c.self.inside.filled others c.remove-entry.new.self.entries c.remove-entry.result put is c.remove-entry.ensures.entries c.remove-entry.ensures.ordered c.self.invariant)

pub returns : goal.returns
returns c =
    let places = c.self.inside.dense.items in
    let others = c.self.inside.sparse.entries in
    let is : c.len.result ≡ length places = search rules in
    let put : c.push_reserved.new.self.items ≡ places ++ c.remove-entry.result ∷ [] = search rules in
    let from = from_lower c.len.result (length places) others (omega (arith, is)) c.self.invariant.from in
    ap (λ (ps : List (Option Entry)). entries_from 0 ps c.remove-entry.new.self.entries) put
    ∙ ap (entries_from 0 (places ++ c.remove-entry.result ∷ [])) c.remove-entry.ensures.entries
    ∙ all_moved c.len.result 0 places others c.remove-entry.result (omega (arith, is)) c.remove-entry.ensures.value from c.self.invariant.ordered
    ∙ c.self.view_is
