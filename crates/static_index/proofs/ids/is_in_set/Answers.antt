use Rattle.std.proofs.Common.{◌≡◌, ◌∙◌, sym, rules}
use Rattle.std.specs.BTreeMap.{is_at}
use Rattle.std.specs.List.{list_any}
use Rattle.std.specs.Ordering.{nat_cmp}
use Rattle.static_index.specs.Ids.{ids_in_set}
use Rattle.static_index.proofs.ApartLemmas.{key_there, there_found}
use Rattle.static_index.proofs.ids.is_in_set.Goals as goal

pub returns-in-Some : goal.returns-in-Some
returns-in-Some c =
    let tested : c.contains.result ≡ list_any (is_at (nat_cmp c.args.id)) (ids_in_set c.args.many.now) = search rules in
    (λ found. key_there c.args.id (ids_in_set c.args.many.now) (sym tested ∙ found), λ has. tested ∙ there_found c.args.id (ids_in_set c.args.many.now) has)
