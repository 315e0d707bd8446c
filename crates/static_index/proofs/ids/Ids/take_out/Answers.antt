use Rattle.std.proofs.Common.{◌∙◌, ◌++◌, ◌==◌, ℕ, List, ap, filter, not, subst, sym}
use Rattle.std.proofs.lemmas.List.Elements.{filter-append}
use Rattle.static_index.specs.Ids.{AreApart, ids_in_set}
use Rattle.static_index.proofs.ApartLemmas.{apart_kept, apart_taken, none_out}
use Rattle.static_index.proofs.HalvingLemmas.{none_taken, stands, taken_where}
use Rattle.static_index.proofs.ids.Ids.take_out.Goals as goal

pub invariant_of-self : goal.invariant_of-self
invariant_of-self c =
    subst (λ ids. AreApart ids (ids_in_set c.self.inside.many)) (sym c.remove.ensures.items)
    (apart_taken c.args.id c.self.inside.few.items (ids_in_set c.self.inside.many) c.in-Ok.place c.in-Ok.ensures.found c.self.invariant)

pub invariant_of-self-in-Err : goal.invariant_of-self-in-Err
invariant_of-self-in-Err c = apart_kept c.args.id c.self.inside.few.items (ids_in_set c.self.inside.many) (ids_in_set c.take_from_set.new.many) c.take_from_set.ensures c.self.invariant

-- it stands in order, and so not in the set
pub returns-in-Ok : goal.returns-in-Ok
returns-in-Ok c =
    let few = c.self.inside.few.items in
    let many = ids_in_set c.self.inside.many in
    let out = c.remove.ensures.items ∙ taken_where c.args.id few c.in-Ok.place c.self.invariant.ascend c.in-Ok.ensures.found in
    let none = none_out c.args.id many (c.self.invariant.apart c.args.id (stands c.args.id few c.in-Ok.place c.in-Ok.ensures.found)) in
    ap (λ (ids : List ℕ). ids ++ many) out ∙ ap (λ (ids : List ℕ). filter (λ other. not (other == c.args.id)) few ++ ids) (sym none)
    ∙ sym (filter-append (λ other. not (other == c.args.id)) few many) ∙ ap (λ (ids : List ℕ). filter (λ other. not (other == c.args.id)) ids) c.self.view_is

-- it is missing in order
pub returns-in-Err : goal.returns-in-Err
returns-in-Err c =
    let few = c.self.inside.few.items in
    let many = ids_in_set c.self.inside.many in
    let none = none_taken c.args.id few c.in-Err.field-0 c.in-Err.ensures.missing in
    ap (λ (ids : List ℕ). few ++ ids) c.take_from_set.ensures ∙ ap (λ (ids : List ℕ). ids ++ filter (λ other. not (other == c.args.id)) many) (sym none)
    ∙ sym (filter-append (λ other. not (other == c.args.id)) few many) ∙ ap (λ (ids : List ℕ). filter (λ other. not (other == c.args.id)) ids) c.self.view_is
