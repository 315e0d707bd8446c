use Rattle.std.proofs.Common.{◌≡◌, ◌∙◌, ◌==◌, ℕ, List, false, filter, length, not, sym, ap, subst, rules}
use Rattle.std.specs.BTreeMap.{is_at}
use Rattle.std.specs.List.{list_any}
use Rattle.std.specs.Ordering.{nat_cmp}
use Rattle.static_index.specs.Ids.{ids_in_set}
use Rattle.static_index.proofs.ApartLemmas.{key_taken, no_length}
use Rattle.static_index.proofs.ids.take_from_set.Goals as goal

-- some of the set's ids are left
pub returns-else-is_empty : goal.returns-else-is_empty
returns-else-is_empty c =
    let was : ids_in_set c.args.many.now ≡ c.deref_mut.result.now.keys = ap ids_in_set c.in-Some.is ∙ search rules in
    let out = subst (λ (ids : List ℕ). list_any (is_at (nat_cmp c.args.id)) ids ≡ false) c.remove.ensures.keys c.remove.ensures.updates.1 in
    c.remove.ensures.keys ∙ key_taken c.args.id c.deref_mut.result.now.keys out ∙ ap (λ (ids : List ℕ). filter (λ other. not (other == c.args.id)) ids) (sym was)

-- none is left
pub returns-then-is_empty : goal.returns-then-is_empty
returns-then-is_empty c =
    let was : ids_in_set c.args.many.now ≡ c.deref_mut.result.now.keys = ap ids_in_set c.in-Some.is ∙ search rules in
    let out = subst (λ (ids : List ℕ). list_any (is_at (nat_cmp c.args.id)) ids ≡ false) c.remove.ensures.keys c.remove.ensures.updates.1 in
    let none : length c.remove.new.self.keys ≡ 0 = search rules in
    no_length c.remove.new.self.keys none ∙ c.remove.ensures.keys ∙ key_taken c.args.id c.deref_mut.result.now.keys out ∙ ap (λ (ids : List ℕ). filter (λ other. not (other == c.args.id)) ids) (sym was)
