use Rattle.std.proofs.Common.{◌≡◌, ◌≢◌, ◌∙◌, sym, ap, subst, refl, ℕ, ◌<◌, ◌≤◌, ◌++◌, [], List, length, get_or, arith}
use Rattle.std.specs.Prelude.{AllPairs, min}
use Rattle.std.proofs.Math.Nat.{min-eq_left}
use Rattle.std.proofs.lemmas.List.{append-nil}
use Rattle.std.proofs.lemmas.Option.{get_or_from_slice_get}
use Rattle.semantics.specs.Values.{value_at}
use Rattle.binding_index.specs.Leads.{Entries, states_at}
use Rattle.stream_readers.specs.Finding.{led_by}
use Rattle.stream_readers.specs.KeyTables.{KeyTable}
use Rattle.stream_readers.proofs.KeyedLemmas.{finds_keyed}
use Rattle.stream_readers.proofs.KeyTableLemmas.{default_past}
use Rattle.stream_readers.proofs.key_readers.KeyReaders.find.Goals as goal

pub returns-in_ok-add_led-clause-waits : goal.returns-in_ok-add_led-clause-waits
returns-in_ok-add_led-clause-waits c =
    let s = c.args.stream in
    let net = c.args.network.now in
    let t = c.args.tuple.now in
    let table = c.args.self.now in
    let old = c.args.found.now.waits in
    let new = c.add_led.new.waits in
    let dirs : List Entries = c.get-directories.result.now in
    let is : get_or table s [] ≡ dirs = ap (λ (table : KeyTable). get_or table s []) (sym c.self.view_is) ∙ get_or_from_slice_get c.self.inside.streams s dirs [] c.get-directories.ensures in
    finds_keyed net table s t old new (min (length (get_or table s [])) (length t.vals)) refl
    (subst (λ (cs : List Entries). new ≡ old ++ led_by net s cs t (min (length cs) (length t.vals))) (sym is) c.in_ok-add_led.ensures.led)
    (subst (λ (cs : List Entries). (k : ℕ) → k < min (length cs) (length t.vals) → AllPairs (λ x y. x ≢ y) (states_at (get_or cs k []) (value_at t k))) (sym is) c.in_ok-add_led.ensures.once)

-- no key leads anywhere on the stream
pub returns-else-stream-len-clause-waits : goal.returns-else-stream-len-clause-waits
returns-else-stream-len-clause-waits c =
    let s = c.args.stream in
    let t = c.args.tuple.now in
    let table = c.args.self.now in
    let old = c.args.found.now.waits in
    let none : get_or table s [] ≡ [] = ap (λ (table : KeyTable). get_or table s []) (sym c.self.view_is) ∙ default_past [] c.self.inside.streams s (omega (arith, c.if-stream-len.false, c.len.ensures)) in
    let width : 0 ≡ min (length (get_or table s [])) (length t.vals) = sym (ap (λ (cs : List Entries). min (length cs) (length t.vals)) none ∙ min-eq_left (let le = nothing (length t.vals) in le)) in
    finds_keyed c.args.network.now table s t old old 0 width (sym (append-nil old)) (λ k lt. absurd (below k lt))
  where
    nothing : (n : ℕ) → 0 ≤ n
    nothing n = omega arith

    below : (k : ℕ) → k < 0 → ⊥
    below k lt = omega (arith, lt)
