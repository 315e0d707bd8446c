use Rattle.std.proofs.Common.{◌≡◌, ◌∙◌, sym, ap, subst, get_or, List}
use Rattle.std.specs.Prelude.{Contains, IfSome}
use Rattle.std.specs.Option.{option_copied}
use Rattle.std.proofs.lemmas.Option.{get_or_from_slice_get}
use Rattle.event_types.specs.declared.value.Value.{Value}
use Rattle.event_types.specs.declared.value.Value.TheVariants.{Over}
use Rattle.semantics.specs.Values.{value_at}
use Rattle.binding_index.specs.Stores.{ready_of}
use Rattle.epoch_draft.specs.Readying.{HasReadyAt}
use Rattle.epoch_draft.proofs.LeadLemmas.{among_equal}
use Rattle.epoch_draft.proofs.readying.is_ready.Goals as goal

-- the last instance has the key, and its own is ready
pub returns-then-eq : goal.returns-then-eq
returns-then-eq c =
    let last = c.in-Some.last.now in
    let ready = ready_of c.args.store.now in
    let found = c.get.result.now in
    let has : HasReadyAt c.args.place ready last = subst (λ o. IfSome (option_copied o) (HasReadyAt c.args.place ready)) c.in-Some.is c.requires in
    let value : value_at last.tuple c.args.place ≡ found = ap (λ (vs : List Value). get_or vs c.args.place Over) (sym c.vals.ensures) ∙ get_or_from_slice_get c.vals.result.now c.args.place found Over c.get.ensures in
    c.if-eq.true ∙ sym (among_equal ready found c.args.key.now (subst (Contains ready) value has.1) (sym c.eq.ensures ∙ c.if-eq.true))
