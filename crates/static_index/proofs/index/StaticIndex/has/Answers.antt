use Rattle.std.proofs.Common.{◌∙◌, ap, sym, subst, Contains}
use Rattle.std.specs.Option.{is_some}
use Rattle.std.proofs.lemmas.Cmp.{eq_by_cmp_equiv, nat_cmp_total}
use Rattle.std.proofs.lemmas.Map.Views.{Contains-keys_from_lookup, IsSome-lookup_from_Contains}
use Rattle.static_index.specs.Conditions.{ids_of}
use Rattle.static_index.proofs.BucketLemmas.{nat_exact}
use Rattle.static_index.proofs.EntryLemmas.{copied_some}
use Rattle.static_index.proofs.TableLemmas.{keys_are_ids}
use Rattle.static_index.proofs.index.StaticIndex.has.Goals as goal

pub returns : goal.returns
returns c =
    let entries = c.self.inside.entries in
    let there = c.is_some.ensures ∙ sym (copied_some c.get.result) ∙ ap is_some c.get.ensures in
    let same = sym (keys_are_ids entries) ∙ ap ids_of c.self.view_is in (
      λ is. subst (λ ids. Contains ids c.args.id) same (Contains-keys_from_lookup nat_exact c.args.id entries (sym there ∙ is)),
      λ has. there ∙ IsSome-lookup_from_Contains (eq_by_cmp_equiv nat_cmp_total) c.args.id entries (subst (λ ids. Contains ids c.args.id) (sym same) has),
    )
