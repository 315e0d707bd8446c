use Rattle.std.proofs.Common.{◌≡◌, ◌∙◌, sym, ap, subst, Some}
use Rattle.std.specs.Map.{lookup}
use Rattle.event_types.specs.declared.value.Value.{Value}
use Rattle.binding_index.specs.Among.{is_key}
use Rattle.binding_index.proofs.EqualityLemmas.{key_decides}
use Rattle.binding_index.proofs.MapLemmas.{by_order}
use Rattle.binding_index.proofs.near.stands_at.Goals as goal

-- the entry there is the key's, if that stands there
pub returns-in-Some : goal.returns-in-Some
returns-in-Some g c is =
    let entries = c.args.kept.now.entries in
    let kept = c.in-Some.field-0-1.now in
    let same : c.in-Some.other.now ≡ c.args.key.now = (key_decides c.in-Some.other.now c.args.key.now).0 (sym c.eq.ensures ∙ is) in (
      kept,
      sym c.in-Some.ensures.entry ∙ ap (λ (key : Value). Some (key, kept)) same,
      subst (λ (key : Value). lookup (is_key key) entries ≡ Some kept) same (by_order entries c.in-Some.other.now (Some kept) c.in-Some.ensures.value),
    )
