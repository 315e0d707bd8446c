use Rattle.std.proofs.Common.{◌≡◌, ◌∙◌, sym, ap, subst, length, ℕ}
use Rattle.std.specs.Prelude.{None, Option}
use Rattle.std.specs.Option.{unwrap_or}
use Rattle.epoch_laws.specs.Births.{IsLeastBirth}
use Rattle.epoch_draft.specs.Behind.{IsBirthBehind}
use Rattle.epoch_draft.specs.BirthLists.{births_within, least_with}
use Rattle.epoch_draft.proofs.BehindLemmas.{least_behind}
use Rattle.epoch_draft.proofs.behind.least_birth.Goals as goal

pub returns : goal.returns
returns c =
    let net = c.args.network.now in
    subst (IsLeastBirth (IsBirthBehind net c.args.state)) found (least_behind net c.places.ensures.network c.args.state c.requires)
  where
    found : unwrap_or (least_with None (births_within c.args.network.now (length c.args.network.now) c.args.state)) None ≡ c.unwrap_or.result
    found = ap (λ (n : ℕ). unwrap_or (least_with None (births_within c.args.network.now n c.args.state)) None) (sym c.places.ensures.value) ∙ ap (λ (o : Option (Option ℕ)). unwrap_or o None) (sym c.least_within.ensures) ∙ sym c.unwrap_or.ensures
