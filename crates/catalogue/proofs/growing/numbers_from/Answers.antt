use Rattle.std.proofs.Common.{◌≡◌, ◌∙◌, ℕ, ◌+◌, ◌++◌, ◌∷◌, List, [], ap}
use Rattle.std.specs.List.{range_with_len}
use Rattle.catalogue.proofs.LoadedLemmas.{range_on}
use Rattle.catalogue.proofs.growing.numbers_from.Goals as goal

-- one number more
pub loop-number-preserved : goal.loop-number-preserved
loop-number-preserved c =
    let before : c.loop-number.numbers ≡ range_with_len c.args.first c.loop-number.number = c.loop-number.invariant in
    let put : c.add.new.self ≡ c.loop-number.numbers ++ (c.args.first + c.loop-number.number) ∷ [] = c.in_ok-add.ensures.ok in
    put ∙ ap (λ (ns : List ℕ). ns ++ (c.args.first + c.loop-number.number) ∷ []) before ∙ range_on c.args.first c.loop-number.number 1
