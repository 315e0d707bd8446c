use Rattle.std.proofs.Common.{◌≡◌, ◌≢◌, ◌∙◌, sym, ap, subst, inl, inr, ℕ, ◌<◌, ◌≤◌, ◌+◌, ◌⊎◌, ◌++◌, [], List, filter, length, get_or, append_assoc, arith}
use Rattle.std.specs.Prelude.{AllPairs, min}
use Rattle.std.proofs.lemmas.List.{append-nil}
use Rattle.std.proofs.lemmas.Option.{get_or_from_slice_get}
use Rattle.event_types.specs.declared.value.Value.{Value}
use Rattle.event_types.specs.declared.value.Value.TheVariants.{Over}
use Rattle.semantics.specs.Values.{value_at}
use Rattle.binding_index.specs.Leads.{Entries, states_at}
use Rattle.stream_readers.specs.Finding.{is_found_by, led_by}
use Rattle.stream_readers.proofs.KeyedLemmas.{led_more}
use Rattle.stream_readers.proofs.KeyTableLemmas.{below_or_past}
use Rattle.stream_readers.proofs.key_readers.add_led.Goals as goal

pub loop-attribute-init : goal.loop-attribute-init
loop-attribute-init c = record { led = sym (append-nil c.args.waits.now); once = λ k lt. absurd (below k lt) }
  where
    below : (k : ℕ) → k < 0 → ⊥
    below k lt = omega (arith, lt)

-- one attribute more
pub loop-attribute-preserved : goal.loop-attribute-preserved
loop-attribute-preserved c =
    let net = c.args.network.now in
    let s = c.args.stream in
    let t = c.args.tuple.now in
    let dirs : List Entries = c.args.directories.now in
    let i = c.loop-attribute.attribute in
    let old = c.args.waits.now in
    let met = is_found_by net s t i in
    let here : c.get.result.now ≡ get_or dirs i [] = sym (get_or_from_slice_get dirs i c.get.result.now [] c.get.ensures) in
    let value : c.get-in-loop-attribute.result.now ≡ value_at t i =
    sym (ap (λ (vs : List Value). get_or vs i Over) (sym c.vals-in-loop-attribute.ensures) ∙ get_or_from_slice_get c.vals-in-loop-attribute.result.now i c.get-in-loop-attribute.result.now Over c.get-in-loop-attribute.ensures) in
    let is : c.find-states.result.now ≡ states_at (get_or dirs i []) (value_at t i) = c.find-states.ensures.states ∙ (λ k. states_at (here k) (value k)) in
    record {
      led =
          c.in_ok-add_met.ensures ∙ (λ k. c.loop-attribute.invariant.led k ++ filter met (is k)) ∙ append_assoc old (led_by net s dirs t i) (filter met (states_at (get_or dirs i []) (value_at t i)))
          ∙ ap (λ (ns : List ℕ). old ++ ns) (sym (led_more net s dirs t i));
      once = λ k lt. one k lt c.loop-attribute.invariant.once (subst (λ (ns : List ℕ). AllPairs (λ x y. x ≢ y) ns) is c.find-states.ensures.once) (below_or_past k i);
    }
  where
    one : (k : ℕ) → k < c.loop-attribute.attribute + 1 → ((k : ℕ) → k < c.loop-attribute.attribute → AllPairs (λ x y. x ≢ y) (states_at (get_or c.args.directories.now k []) (value_at c.args.tuple.now k)))
        → AllPairs (λ x y. x ≢ y) (states_at (get_or c.args.directories.now c.loop-attribute.attribute []) (value_at c.args.tuple.now c.loop-attribute.attribute)) → (k < c.loop-attribute.attribute) ⊎ (c.loop-attribute.attribute ≤ k)
        → AllPairs (λ x y. x ≢ y) (states_at (get_or c.args.directories.now k []) (value_at c.args.tuple.now k))
    one k lt before now (inl less) = before k less
    one k lt before now (inr past) =
        let same : c.loop-attribute.attribute ≡ k = omega (arith, lt, past) in subst (λ (m : ℕ). AllPairs (λ x y. x ≢ y) (states_at (get_or c.args.directories.now m []) (value_at c.args.tuple.now m))) same now

pub returns-clause-led : goal.returns-clause-led
returns-clause-led c =
    let all : c.loop-attribute.attribute ≡ c.min-attributes.result = omega (arith, c.loop-attribute-test.false, c.loop-attribute.auto.attribute-end) in
    let many : c.min-attributes.result ≡ min (length c.args.directories.now) (length c.args.tuple.now.vals) =
    c.min-attributes.ensures ∙ (λ k. min (c.len.ensures k) ((c.len-2.ensures ∙ ap (λ (vs : List Value). length vs) c.vals.ensures) k)) in
    subst (λ (n : ℕ). c.loop-attribute.waits ≡ c.args.waits.now ++ led_by c.args.network.now c.args.stream c.args.directories.now c.args.tuple.now n) (all ∙ many) c.loop-attribute.invariant.led

pub returns-clause-once : goal.returns-clause-once
returns-clause-once c =
    let all : c.loop-attribute.attribute ≡ c.min-attributes.result = omega (arith, c.loop-attribute-test.false, c.loop-attribute.auto.attribute-end) in
    let many : c.min-attributes.result ≡ min (length c.args.directories.now) (length c.args.tuple.now.vals) =
    c.min-attributes.ensures ∙ (λ k. min (c.len.ensures k) ((c.len-2.ensures ∙ ap (λ (vs : List Value). length vs) c.vals.ensures) k)) in
    subst (λ (n : ℕ). (k : ℕ) → k < n → AllPairs (λ x y. x ≢ y) (states_at (get_or c.args.directories.now k []) (value_at c.args.tuple.now k))) (all ∙ many) c.loop-attribute.invariant.once
