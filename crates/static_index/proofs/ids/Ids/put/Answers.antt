use Rattle.std.proofs.Common.{◌<◌, inl, inr, Contains, length, sym, subst, rules}
use Rattle.std.specs.Bool.{IsTrue}
use Rattle.std.proofs.lemmas.List.Elements.{Contains-append_cases, Contains-append_left, Contains-append_right}
use Rattle.static_index.specs.Ids.{ids_in_set}
use Rattle.static_index.proofs.ApartLemmas.{apart_inserted, apart_put, put_kept, put_there}
use Rattle.static_index.proofs.HalvingLemmas.{kept_inserted}
use Rattle.static_index.proofs.ids.Ids.put.Goals as goal

-- it is put into the set
pub invariant_of-self : goal.invariant_of-self
invariant_of-self c =
    apart_put c.put_in_set.result c.args.id c.self.inside.few.items (ids_in_set c.self.inside.many) (ids_in_set c.put_in_set.new.many) c.in-Err.place c.put_in_set.ensures.ok c.put_in_set.ensures.kept c.in-Err.ensures.missing c.self.invariant

pub returns-then-len-ge-MOST_MOVED-clause-ok : goal.returns-then-len-ge-MOST_MOVED-clause-ok
returns-then-len-ge-MOST_MOVED-clause-ok c = put_there c.put_in_set.result c.args.id c.self.inside.few.items (ids_in_set c.self.inside.many) (ids_in_set c.put_in_set.new.many) c.put_in_set.ensures.ok

pub returns-then-len-ge-MOST_MOVED-clause-kept : goal.returns-then-len-ge-MOST_MOVED-clause-kept
returns-then-len-ge-MOST_MOVED-clause-kept c = λ n has.
    put_kept c.put_in_set.result c.args.id c.self.inside.few.items (ids_in_set c.self.inside.many) (ids_in_set c.put_in_set.new.many) c.put_in_set.ensures.ok c.put_in_set.ensures.kept n
    (subst (λ ids. Contains ids n) (sym c.self.view_is) has)

-- it is in the set
pub returns-then-is_in_set-clause-ok : goal.returns-then-is_in_set-clause-ok
returns-then-is_in_set-clause-ok c =
    let found : IsTrue c.is_in_set.result = search rules in
    subst (λ ids. Contains ids c.args.id) c.self.view_is (Contains-append_right c.self.inside.few.items (ids_in_set c.self.inside.many) c.args.id (c.is_in_set.ensures.0 found))

-- it is put where it was missing
pub invariant_of-self-2 : goal.invariant_of-self-2
invariant_of-self-2 c =
    let room : length c.self.inside.few.items < 256 = search rules in
    let absent : Contains (ids_in_set c.self.inside.many) c.args.id → ⊥ = λ has. search (rules, c.is_in_set.ensures.1 has) in
    apart_inserted c.insert.result c.args.id c.self.inside.few c.insert.new.self (ids_in_set c.self.inside.many) c.in-Err.place c.insert.ensures.ok c.insert.ensures.err room c.in-Err.ensures.missing absent c.self.invariant

pub returns-clause-kept : goal.returns-clause-kept
returns-clause-kept c = λ n has.
    let few = c.self.inside.few.items in
    let many = ids_in_set c.self.inside.many in
    let new = c.insert.new.self.items in
    elim (Contains-append_cases few many n (subst (λ ids. Contains ids n) (sym c.self.view_is) has)) [
      | inl there ↦ Contains-append_left new many n (subst (λ ids. Contains ids n) (sym c.in_ok-insert.ensures.ok) (kept_inserted c.args.id few c.in-Err.place n there))
      | inr there ↦ Contains-append_right new many n there
    ]
