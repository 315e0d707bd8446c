-- Stores stay typed through a closing.
use Rattle.std.proofs.Common.{◌≡◌, ◌∙◌, sym, ap, subst, ℕ, List, ◌++◌}
use Rattle.std.specs.Prelude.{Option, Some}
use Rattle.std.specs.List.{All}
use Rattle.std.proofs.lemmas.List.Elements.{All-append, All-filter}
use Rattle.std.proofs.lemmas.List.Sorted.{All-permutation, IsPermutation-sym}
use Rattle.event_types.specs.declared.kind.Kind.{Kind}
use Rattle.instances.specs.Alive.{is_alive}
use Rattle.binding_index.specs.declared.store.Store.{Store}
use Rattle.instances.specs.declared.instance.Instance.{Instance}
use Rattle.semantics.specs.Denotation.{Streams}
use Rattle.semantics.specs.Kinds.{HasKinds}
use Rattle.automaton.specs.Networks.{IsNetwork}
use Rattle.automaton.specs.States.{Net, wait_at}
use Rattle.automaton.specs.declared.network.Entrance.{Entrance}
use Rattle.automaton.specs.declared.wait.Wait.{Wait}
use Rattle.epoch_laws.specs.Closing.{leaving_state, stepped_by, stores_after}
use Rattle.epoch_laws.specs.Epochs.{again, is_unmet, stepped, took, unmatched_after}
use Rattle.epoch_laws.specs.Instances.{instances_entering}
use Rattle.epoch_draft.specs.Held.{held}
use Rattle.epoch_draft.specs.Settling.{AreClosed}
use Rattle.epoch_draft.specs.Typed.{HaveKinds, IsTyped}
use Rattle.epoch_draft.proofs.StateLemmas.{at_wait, hop_typed, wait_entry, wait_typed}
use Rattle.epoch_draft.proofs.StoreLemmas.{shaped_typed}
use Rattle.epoch_draft.proofs.SuitLemmas.{instances_typed, leaves_kinds}
use Rattle.epoch_draft.proofs.TypingLemmas.{entered_kinds, took_kinds}
use Rattle.epoch_draft.proofs.ReadyLemmas.{again_kinds}

module _ (net : Net) (network : IsNetwork net) (kinds : List (List Kind)) (stores : List (Option Store)) (typed : IsTyped net kinds stores) (news : Streams) (have : HaveKinds kinds news) where
  -- the instances of a waiting state after the epoch have its kinds
  after_kinds : (n : ℕ) (w : Wait) → wait_at net n ≡ Some w → All (λ (i : Instance). HasKinds (typed.kinding.waiting n) i.tuple) (stores_after net news (held stores) n)
  after_kinds n w at_w =
      let at = at_wait net n w at_w in
      let bs = typed.kinding.waiting n in
      let P : Instance → Type 0 = λ i. HasKinds bs i.tuple in
      let mine = instances_typed net network kinds stores typed n w at_w in
      let one = wait_typed kinds net typed.kinding typed.states n w at_w in
      let hop = hop_typed kinds net typed.kinding typed.states n w at in
      let came = leaves_kinds net network kinds stores typed news have at.before in
      let entered = entered_kinds at.hop.step (typed.kinding.leaving at.before) bs (leaving_state net news (held stores) at.before) hop.step came in
      let went = took_kinds w bs one.event (typed.kinding.leaving n) (held stores n) (news w.stream) one.gives (have w.stream one.event one.known) mine in
      let back = again_kinds w.fold bs one.event (typed.kinding.leaving n) (took w.choose w.fold (news w.stream) (held stores n)) one.gives.1 went in
      let comes = instances_entering at.hop (leaving_state net news (held stores) at.before) in
      let returns = again w.fold (took w.choose w.fold (news w.stream) (held stores n)) in
      subst (All P)
      (sym
      (ap (λ (o : Option Entrance). stepped_by o news (leaving_state net news (held stores)) (held stores n)) (wait_entry net n w at)
      ∙ ap (λ (x : Wait). stepped x.choose x.fold (news x.stream) comes (held stores n)) at.same))
      (All-append P (unmatched_after w.choose (news w.stream) (held stores n)) (comes ++ returns)
      (All-filter (λ (i : Instance). is_unmet w.choose (news w.stream) i.tuple) P (held stores n) mine)
      (All-append P comes returns entered back))

  -- the stores after a closing are typed
  pub closed_typed : (time : ℕ) (new : List (Option Store)) → AreClosed time net news stores new → IsTyped net kinds new
  closed_typed time new closed =
      shaped_typed net kinds stores new typed closed.same
      (λ n w at.
      All-permutation (λ (i : Instance). HasKinds (typed.kinding.waiting n) i.tuple) _ (held new n) (IsPermutation-sym _ _ (closed.purged n w at))
      (All-filter (λ (i : Instance). is_alive time w.choose i.tuple) (λ (i : Instance). HasKinds (typed.kinding.waiting n) i.tuple) (stores_after net news (held stores) n) (after_kinds n w at)))
