use Rattle.std.proofs.Common.{◌≡◌, List, ℕ, Bor, None, Option, Some, arith, option_map, refl, subst}
use Rattle.stream_schema.specs.Schema.{kinds_of}
use Rattle.event_csv.proofs.QuickFacts.{SoFar, all-values, none-yet, one-value}
use Rattle.event_csv.proofs.copied.take_any_values.Goals as goal

pub fields-init : goal.fields-init
fields-init c = rw c.new-vals.ensures (none-yet (kinds_of c.args.schema.now) (option_map (λ (s : Bor (List ℕ)). s.now) c.args.rest))

pub fields-preserved : goal.fields-preserved
fields-preserved c =
    let kinds = kinds_of c.args.schema.now in
    let first = option_map (λ (s : Bor (List ℕ)). s.now) c.args.rest in
    let left = option_map (λ (s : Bor (List ℕ)). s.now) c.in_ok-left.left in
    let kind = rw c.len-place.ensures at c.kind.ensures in
    let now : option_map (λ (s : Bor (List ℕ)). s.now) c.fields.rest ≡ Some c.in-Some.text.now = rw c.in-Some.is refl in
    let so : SoFar kinds first (Some c.in-Some.text.now) c.fields.vals = subst (λ (n : Option (List ℕ)). SoFar kinds first n c.fields.vals) now c.fields.invariant in
    let puts = c.in_ok-left.ensures in
    rw puts.put (one-value kinds first c.in-Some.text.now left c.fields.vals c.kind.result puts.value so puts.first kind)

pub returns-then-len-size : goal.returns-then-len-size
returns-then-len-size c =
    let kinds = kinds_of c.args.schema.now in
    let first = option_map (λ (s : Bor (List ℕ)). s.now) c.args.rest in
    let none : option_map (λ (s : Bor (List ℕ)). s.now) c.fields.rest ≡ None = rw c.in_default.is refl in
    let so : SoFar kinds first None c.fields.vals = subst (λ (n : Option (List ℕ)). SoFar kinds first n c.fields.vals) none c.fields.invariant in
    all-values c.args.schema.now first c.fields.vals so (omega (arith, c.len.ensures, c.size-2.ensures.value, c.if-len-size.true))
