use Rattle.std.proofs.Common.{◌≡◌, ℤ, rules, to_z, of_z, arith}
use Rattle.std.specs.Int.{int_max, int_min, w64}
use Rattle.std.specs.Prelude.{FitsSigned}
use Rattle.std.proofs.lemmas.Int.{to_z-of_z}
use Rattle.static_index.proofs.NumberRangeLemmas.{bounds_kept, bounds_narrower}
use Rattle.static_index.proofs.number_range.narrowed.Goals as goal

-- a result of two numbers that are passed
passed : (f : ℤ → ℤ → ℤ) (x y r : ℤ) → FitsSigned w64 x → FitsSigned w64 y → FitsSigned w64 r → r ≡ f (to_z w64 (of_z w64 x)) (to_z w64 (of_z w64 y)) → to_z w64 (of_z w64 r) ≡ f x y
passed f x y r small_x small_y small_r e = grind (arith, to_z-of_z)

pub returns-in-Some : goal.returns-in-Some
returns-in-Some c =
    let range_low : FitsSigned w64 c.args.range.low = search rules in
    let range_high : FitsSigned w64 c.args.range.high = search rules in
    let low : FitsSigned w64 c.in-Some.low = search rules in
    let high : FitsSigned w64 c.in-Some.high = search rules in
    let max : FitsSigned w64 c.max.result = search rules in
    let min : FitsSigned w64 c.min.result = search rules in
    bounds_narrower c.args.range c.in-Some.low c.in-Some.high _ _ c.args.part.now
    (passed int_max c.args.range.low c.in-Some.low c.max.result range_low low max c.max.ensures.value)
    (passed int_min c.args.range.high c.in-Some.high c.min.result range_high high min c.min.ensures.value)
    c.in-Some.ensures

pub returns-in-None : goal.returns-in-None
returns-in-None c =
    let low : FitsSigned w64 c.args.range.low = search rules in
    let high : FitsSigned w64 c.args.range.high = search rules in
    bounds_kept c.args.range _ _ c.args.part.now (to_z-of_z w64 c.args.range.low low) (to_z-of_z w64 c.args.range.high high)
