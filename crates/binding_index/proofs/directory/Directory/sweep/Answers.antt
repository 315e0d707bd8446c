use Rattle.std.proofs.Common.{◌≡◌, sym, subst, ℕ, true, List, rules, arith}
use Rattle.std.specs.List.{All}
use Rattle.std.proofs.lemmas.List.Elements.{filter_passes}
use Rattle.event_types.specs.declared.value.Value.{Value}
use Rattle.indexmap.proofs.CallerLemmas.{filter-RetainsPairs}
use Rattle.binding_index.specs.Entries.{has_any, is_filled}
use Rattle.binding_index.specs.Leads.{is_ready_at}
use Rattle.binding_index.proofs.EqualityLemmas.{distinct_keys}
use Rattle.binding_index.proofs.LeadLemmas.{keep_more, kept_leads}
use Rattle.binding_index.proofs.OnceLemmas.{once_swept}
use Rattle.binding_index.proofs.directory.Directory.sweep.Goals as goal

pub loop-place-preserved : goal.loop-place-preserved
loop-place-preserved c =
    keep_more (λ key number. is_ready_at c.args.stores.now number key) c.self.inside.states.entries c.loop-place.self-inside.states.entries c.loop-place.place c.pair_mut-states.result.0.now c.pair_mut-states.result.1.now c.keep_ready.new.states c.loop-place.invariant c.pair_mut-states.ensures.value c.keep_ready.ensures

-- each key leads to the states where it did and is ready
pub returns-clause-leads : goal.returns-clause-leads
returns-clause-leads c =
    rw (← c.self.view_is) (kept_leads (λ key number. is_ready_at c.args.stores.now number key) c.self.inside.states.entries c.loop-place.self-inside.states.entries c.retain.new.self.entries c.loop-place.place c.loop-place.invariant (omega arith)
    (filter-RetainsPairs _ is_filled _ (λ k v b w g call. search rules) _ _ c.retain.ensures.filtered) (distinct_keys _ c.len-place-end.ensures.unique))

-- the pairs were counted anew, and no key has more states
pub invariant_of-self : goal.invariant_of-self
invariant_of-self c = (
  c.count_pairs-self-inside.ensures,
  once_swept (λ key number. is_ready_at c.args.stores.now number key) c.self.inside.states.entries c.loop-place.self-inside.states.entries c.retain.new.self.entries c.loop-place.place c.loop-place.invariant (omega arith)
      (filter-RetainsPairs _ is_filled _ (λ k v b w g call. search rules) _ _ c.retain.ensures.filtered) c.self.invariant.1,
)

-- each key that is left leads to a state
pub returns-clause-all_lead : goal.returns-clause-all_lead
returns-clause-all_lead c =
    let kept = filter-RetainsPairs _ is_filled _ (λ k v b w g call. search rules) _ _ c.retain.ensures.filtered in
    subst (All (λ (entry : Value × List ℕ). has_any entry.1 ≡ true)) (sym kept) (filter_passes is_filled c.loop-place.self-inside.states.entries)
