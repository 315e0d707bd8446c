use Rattle.std.proofs.Common.{◌≡◌, ◌∙◌, ap, sym, subst, ℕ, zero, suc, ◌+◌, ◌<◌, ◌++◌, ◌∷◌, [], List, length, get_or, arith}
use Rattle.std.specs.Prelude.{None, Option}
use Rattle.std.specs.Option.{option_map}
use Rattle.std.proofs.lemmas.List.{length-append}
use Rattle.automaton.specs.States.{wait_at}
use Rattle.automaton.specs.declared.wait.Wait.{Wait}
use Rattle.binding_index.specs.Leads.{ready_in}
use Rattle.binding_index.specs.declared.store.Store.{Store}
use Rattle.epoch_draft.specs.Held.{instances_in, shape_for, shape_of}
use Rattle.epoch_draft.proofs.stores.empty_stores.Goals as goal

-- a store more
push_at : (P : ℕ → Option Store → Type 0) (stores : List (Option Store)) (slot : Option Store) (k : ℕ) → (k < length stores → P k (get_or stores k None)) → (k ≡ length stores → P k slot) → k < length stores + 1 → P k (get_or (stores ++ slot ∷ []) k None)
push_at P [] slot zero before last lt = last (omega arith)
push_at P [] slot (suc k) before last lt = absurd (omega (arith, lt))
push_at P (x ∷ xs) slot zero before last lt = before (omega arith)
push_at P (x ∷ xs) slot (suc k) before last lt = push_at (λ j. P (suc j)) xs slot k (λ less. before (omega (arith, less))) (λ same. last (ap suc same)) (omega (arith, lt))

push_any : (P : Option Store → Type 0) (stores : List (Option Store)) (slot : Option Store) (k : ℕ) → ((k : ℕ) → P (get_or stores k None)) → P slot → P (get_or (stores ++ slot ∷ []) k None)
push_any P [] slot zero all one = one
push_any P [] slot (suc k) all one = all zero
push_any P (x ∷ xs) slot zero all one = all zero
push_any P (x ∷ xs) slot (suc k) all one = push_any P xs slot k (λ j. all (suc j)) one

-- one state more
pub loop-number-preserved : goal.loop-number-preserved
loop-number-preserved c =
    let old = c.loop-number.stores in
    let slot = c.in_ok-slot.slot in
    let is = c.in_ok-add.ensures.ok in
    let many = c.loop-number.invariant.as_many in
    let Shape = λ (k : ℕ) (o : Option Store). shape_of o ≡ option_map (λ (wait : Wait). shape_for wait.choose) (wait_at c.args.network.now k) in
    record {
      as_many = ap length is ∙ length-append old (slot ∷ []) ∙ ap (λ n. n + 1) many;
      shapes = λ k lt.
          subst (λ (stores : List (Option Store)). Shape k (get_or stores k None)) (sym is)
          (push_at Shape old slot k (λ less. c.loop-number.invariant.shapes k (omega (arith, less, many))) (λ same. subst (λ (n : ℕ). Shape n slot) (sym (same ∙ many)) c.in_ok-slot.ensures.shape) (omega (arith, lt, many)));
      empty = λ k. subst (λ (stores : List (Option Store)). instances_in (get_or stores k None) ≡ []) (sym is) (push_any (λ o. instances_in o ≡ []) old slot k c.loop-number.invariant.empty c.in_ok-slot.ensures.empty);
      none_ready = λ k. subst (λ (stores : List (Option Store)). ready_in (get_or stores k None) ≡ []) (sym is) (push_any (λ o. ready_in o ≡ []) old slot k c.loop-number.invariant.none_ready c.in_ok-slot.ensures.none_ready);
    }
