use Rattle.std.proofs.Common.{◌≡◌, length, sym, arith, true, get_or}
use Rattle.std.specs.Prelude.{◌==◌}
use Rattle.std.proofs.lemmas.List.Sums.{position_or_len_is}
use Rattle.std.proofs.lemmas.Bool.Decides.{nat_tests}
use Rattle.resubscribe.proofs.walking.place_of.Goals as goal

pub returns-then-number-other-clause-value : goal.returns-then-number-other-clause-value
returns-then-number-other-clause-value c =
    let hit : (c.args.number == get_or c.args.numbers.now c.loop-place.place 0) ≡ true = grind (arith, nat_tests) in
    sym (position_or_len_is (λ other. c.args.number == other) c.args.numbers.now c.loop-place.place 0 (omega arith) c.loop-place.invariant (λ within. hit))

pub returns-clause-value : goal.returns-clause-value
returns-clause-value c = sym (position_or_len_is (λ other. c.args.number == other) c.args.numbers.now (length c.args.numbers.now) 0 (omega arith) (λ k less. c.loop-place.invariant k (omega arith)) (λ within. absurd (omega arith)))
