use Rattle.std.proofs.Common.{◌≡◌, Bor, List, ℕ, Option, Some, option_map, refl, subst, sym}
use Rattle.std.specs.Prelude.{string_bytes}
use Rattle.event_csv.specs.Quick.{IsFirst}
use Rattle.event_csv.proofs.QuickFacts.{span-any}
use Rattle.event_csv.proofs.copied.take_any_span.Goals as goal

pub returns : goal.returns
returns c =
    let s = c.args.text.now in
    let start = string_bytes c.in_ok-start.start in
    let rest : option_map (λ (t : Bor (List ℕ)). t.now) c.in_ok-start.rest ≡ Some c.in_ok-rest.field-0.now = rw c.in_ok-rest.was refl in
    let first : IsFirst s start (Some c.in_ok-rest.field-0.now) = subst (λ (left : Option (List ℕ)). IsFirst s start left) rest c.in_ok-start.ensures in
    span-any s c.in_ok-rest.field-0.now start (string_bytes c.in_ok-detection.detection) c.in-Ok.times _ first c.in_ok-detection.ensures (rw (← c.as_str.ensures.value, ← c.as_str-2.ensures.value) (sym c.in-Ok.ensures.value))
