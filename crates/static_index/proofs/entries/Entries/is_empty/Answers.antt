use Rattle.std.proofs.Common.{◌≡◌, ◌∙◌, ap, sym, ℕ, List, length, rules, arith}
use Rattle.std.proofs.lemmas.Bool.Decides.{nat_tests}
use Rattle.static_index.specs.declared.entry.Entry.{Entry}
use Rattle.static_index.proofs.EntryLemmas.{no_others, nothing, only_others}
use Rattle.static_index.proofs.entries.Entries.is_empty.Goals as goal

-- no place has an entry
pub returns-then-self-eq0 : goal.returns-then-self-eq0
returns-then-self-eq0 c =
    let places = c.self.inside.dense.items in
    let others = c.self.inside.sparse.entries in
    let zero : c.self.inside.filled ≡ 0 = search rules in (
      λ yes. sym c.self.view_is ∙ only_others 0 places others (sym c.self.invariant.counted ∙ zero) ∙ no_others others (c.is_empty.ensures.0 yes),
      λ none. c.is_empty.ensures.1 (ap (λ (es : List (ℕ × Entry)). length es) (nothing 0 places others (c.self.view_is ∙ none)).1),
    )

-- one has
pub returns-else-self-eq0 : goal.returns-else-self-eq0
returns-else-self-eq0 c = (
  λ yes. search rules,
  λ none.
      let zero = c.self.invariant.counted ∙ (nothing 0 c.self.inside.dense.items c.self.inside.sparse.entries (c.self.view_is ∙ none)).0 in
      grind (arith, nat_tests, zero),
)
