-- The stores of all waiting states, purged.
use Rattle.std.proofs.Common.{◌≡◌, ◌∙◌, sym, ap, refl, subst, ℕ, ◌+◌, List, map}
use Rattle.std.specs.Prelude.{IfSome, Option, Some, None}
use Rattle.std.specs.List.{All}
use Rattle.std.proofs.lemmas.List.Elements.{All-filter}
use Rattle.event_types.specs.declared.kind.Kind.{Kind}
use Rattle.instances.specs.Alive.{is_alive}
use Rattle.semantics.specs.Births.{is_after}
use Rattle.instances.specs.Births.{began_after}
use Rattle.instances.specs.Bounds.{alive_instances}
use Rattle.binding_index.specs.Stores.{instances_of}
use Rattle.binding_index.specs.declared.store.Store.{Store}
use Rattle.instances.specs.declared.instance.Instance.{Instance}
use Rattle.semantics.specs.Kinds.{HasKinds}
use Rattle.semantics.specs.Scalars.{Pr}
use Rattle.automaton.specs.States.{Net, wait_at}
use Rattle.automaton.specs.declared.wait.Wait.{Wait}
use Rattle.epoch_laws.proofs.Bags.{permuted_is}
use Rattle.epoch_laws.specs.Closing.{Stores}
use Rattle.epoch_laws.specs.Births.{IsLeastBirth}
use Rattle.epoch_draft.specs.Behind.{IsBirthBehind}
use Rattle.epoch_draft.specs.Held.{held, instances_in}
use Rattle.epoch_draft.specs.Purging.{AreAllPurged, left_in}
use Rattle.epoch_draft.specs.Typed.{IsTyped}
use Rattle.epoch_draft.proofs.StoreLemmas.{shaped_typed}
use Rattle.epoch_engine.specs.EngineView.{EngineView, stores_in}
use Rattle.epoch_engine.specs.Running.{IsRunning}
use Rattle.epoch_engine.specs.Trims.{AreTrimmed, Trims}
use Rattle.epoch_engine.specs.declared.epoch.Epoch.{Epoch}
use Rattle.epoch_engine.specs.declared.plan.Plan.{Plan}
use Rattle.epoch_engine.proofs.EngineLemmas.{held_in, with_typed}

module _ (time : ℕ) (net : Net) (kinds : List (List Kind)) (stores purged : List (Option Store)) (typed : IsTyped net kinds stores) (all : AreAllPurged net time stores purged) where
  -- what each store has then
  left_is : (n : ℕ) (w : Wait) → wait_at net n ≡ Some w → (since : Option ℕ) × IsLeastBirth (IsBirthBehind net n) since × (held purged n ≡ alive_instances time w.choose (began_after since (held stores n)))
  left_is n w at =
      let was = typed.has_stores n w at in
      let store = was.0 in
      let left = all.purged n w at in
      (left.0, left.1, left.2 ∙ ap (left_in time left.0) was.1 ∙ ap (λ (choose : List Pr). alive_instances time choose (began_after left.0 (instances_of store))) was.2.condition ∙ ap (λ (o : Option Store). alive_instances time w.choose (began_after left.0 (instances_in o))) (sym was.1))

  -- each has what is alive and of use
  purged_alive : AreTrimmed time net (held stores) (held purged)
  purged_alive n w at = let left = left_is n w at in (left.0, left.1, permuted_is left.2)

  -- the stores are typed as before
  purged_typed : IsTyped net kinds purged
  purged_typed =
      shaped_typed net kinds stores purged typed all.same
      (λ n w at.
      let left = left_is n w at in
      subst (All (λ (i : Instance). HasKinds (typed.kinding.waiting n) i.tuple)) (sym left.2)
      (All-filter (λ (i : Instance). is_alive time w.choose i.tuple) (λ (i : Instance). HasKinds (typed.kinding.waiting n) i.tuple) (began_after left.0 (held stores n))
      (All-filter (λ (i : Instance). is_after left.0 i.first) (λ (i : Instance). HasKinds (typed.kinding.waiting n) i.tuple) (held stores n) (have n w at))))
    where
      have : (n : ℕ) (w : Wait) → wait_at net n ≡ Some w → All (λ (i : Instance). HasKinds (typed.kinding.waiting n) i.tuple) (held stores n)
      have n w at = let was = typed.has_stores n w at in subst (λ (o : Option Store). All (λ (i : Instance). HasKinds (typed.kinding.waiting n) i.tuple) (instances_in o)) (sym was.1) was.2.instances

-- a running engine goes on running
pub purged_running : (time : ℕ) (plan : Plan) (stores purged : List (Option Store)) (epoch : Epoch) → IsRunning plan stores epoch → AreAllPurged plan.merged time stores purged → IsRunning plan purged epoch
purged_running time plan stores purged epoch running all =
    with_typed plan stores purged epoch running (purged_typed time plan.merged plan.layout.kinds stores purged running.can_draw.typed all)

-- as a view has the stores
abbrev pub with_stores : EngineView → List (Option Store) → EngineView
with_stores engine stores = record engine { stores = map instances_in stores }

-- what the purge makes of a view
pub trims_view : (engine : EngineView) (time : ℕ) (stores purged : List (Option Store)) → engine.closed_time ≡ Some time → IsTyped engine.network engine.layout.kinds stores → AreAllPurged engine.network (time + 1) stores purged
    → Trims (with_stores engine stores) (with_stores engine purged)
trims_view engine time stores purged closed_time typed all = record {
  plan = record { network = refl; layout = refl };
  times = record { time = refl; closed_time = refl };
  opened = refl;
  purged =
      subst (λ (o : Option ℕ). IfSome o (λ t. AreTrimmed (t + 1) engine.network (stores_in (with_stores engine stores)) (stores_in (with_stores engine purged)))) (sym closed_time)
      (subst (λ (st : Stores). AreTrimmed (time + 1) engine.network st (stores_in (with_stores engine purged))) (sym (held_in stores))
      (subst (λ (st : Stores). AreTrimmed (time + 1) engine.network (held stores) st) (sym (held_in purged)) (purged_alive (time + 1) engine.network engine.layout.kinds stores purged typed all)));
  none_closed = λ none. absurd (none_some (sym none ∙ closed_time));
  others = λ n none. (λ i. held_in purged i n) ∙ ap instances_in (all.others n none) ∙ (λ i. sym (held_in stores) i n);
}
  where
    none_some : None ≡ Some time → ⊥
    none_some e = cc
