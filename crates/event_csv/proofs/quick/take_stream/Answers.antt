use Rattle.std.proofs.Common.{◌≡◌, Bor, List, ℕ, Option, Some, option_map, refl, subst}
use Rattle.event_csv.specs.Quick.{IsFirst}
use Rattle.event_csv.proofs.quick.take_stream.Goals as goal

pub returns : goal.returns
returns c =
    let left : option_map (λ (s : Bor (List ℕ)). s.now) c.in_ok-name.rest ≡ Some c.in_ok-rest.rest.now = rw c.in_ok-rest.was refl in
    record {
      name = c.in_ok-name.name.now;
      first = subst (λ (o : Option (List ℕ)). IsFirst c.args.line.now c.in_ok-name.name.now o) left c.in_ok-name.ensures;
      within = c.in_ok-stream.ensures.within;
      declared = c.in_ok-stream.ensures.value;
    }
