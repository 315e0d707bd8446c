use Rattle.std.proofs.Common.{◌≤◌, sym, arith, eq-eqb, length}
use Rattle.std.specs.Prelude.{◌==◌}
use Rattle.std.proofs.lemmas.List.Sums.{position_or_len_is}
use Rattle.event_csv.proofs.fields.place_of.Goals as goal

pub returns-then-byte-wanted : goal.returns-then-byte-wanted
returns-then-byte-wanted c =
    sym (position_or_len_is (λ b. b == c.args.wanted) c.args.text.now c.loop-place.place 0 (omega arith) c.loop-place.invariant (λ _. eq-eqb _ _ c.if-byte-wanted.true))

pub returns : goal.returns
returns c =
    let n : length c.args.text.now ≤ c.loop-place.place = omega arith in
    sym (position_or_len_is (λ b. b == c.args.wanted) c.args.text.now (length c.args.text.now) 0 (omega arith)
    (λ k lt. c.loop-place.invariant k (omega arith)) (λ lt. absurd (omega arith)))
