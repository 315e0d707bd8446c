-- Free numbers: what the ones and zeros say of them.
use Rattle.std.proofs.Common.{◌≡◌, ◌∙◌, ap, ℕ, ◌==◌, ◌^◌, ◌<◌, ◌≤◌, false, true, get_or, length, set, take, List, arith}
use Rattle.std.proofs.lemmas.List.{get_or-take, length-map, length-set, length-take-le}
use Rattle.std.proofs.lemmas.List.Elements.{All-get_or, All-set}
use Rattle.std.proofs.lemmas.List.Sums.{get_or-le-sum_by, sum_by-le}
use Rattle.std.proofs.lemmas.Option.{slice_get-get_or, slice_get-map}
use Rattle.std.specs.List.{slice_get, sum}
use Rattle.std.specs.Option.{option_map}
use Rattle.std.specs.Prelude.{Some}
use Rattle.long_lists.specs.Free.{AreOnes, are_one}
use Rattle.long_lists.specs.SumTree.{IsUnitAt}

-- as many numbers as ones and zeros
pub many : (ones : List ℕ) → length (are_one ones) ≡ length ones
many ones = length-map ones (λ one. one == 1)

-- what one of them says
said : (ones : List ℕ) (number one : ℕ) → number < length ones → get_or ones number 0 ≡ one → slice_get (are_one ones) number ≡ Some (one == 1)
said ones number one within is =
    slice_get-map (λ one. one == 1) ones number
    ∙ ap (option_map (λ one. one == 1)) (slice_get-get_or ones number 0 within)
    ∙ ap (λ one. Some (one == 1)) is

-- one that adds nothing
not_free : (ones : List ℕ) (number most : ℕ) → number < length ones → get_or ones number 0 ≤ most → most ≡ 0 → slice_get (are_one ones) number ≡ Some false
not_free ones number most within small none = said ones number 0 within (omega (arith, small, none))

module _ (ones : List ℕ) (are : AreOnes ones) where
  -- how many are free is no more than how many there are
  pub sum_within : sum ones ≤ length ones
  sum_within = let within = sum_by-le (λ (one : ℕ). one) 1 ones are.each in omega (arith, within)

  -- where the sum is nothing, none is free
  pub none_free : sum ones ≡ 0 → (number : ℕ) → number < length ones → slice_get (are_one ones) number ≡ Some false
  none_free none number within = not_free ones number (sum ones) within (get_or-le-sum_by (λ (one : ℕ). one) ones number 0 within) none

  -- the number in which the first unit lies is free, and none below it is
  module _ (number rest : ℕ) (found : IsUnitAt ones 0 number rest) where
    pub found_free : slice_get (are_one ones) number ≡ Some true
    found_free =
        let small = All-get_or (λ one. one ≤ 1) ones number 0 found.within are.each in
        let less = found.less in
        said ones number 1 found.within (omega (arith, small, less))

    pub found_lowest : (below : ℕ) → below < number → slice_get (are_one ones) below ≡ Some false
    found_lowest below less =
        let in_list = found.within in
        let before = found.before in
        let long = length-take-le number ones (omega (arith, in_list)) in
        let part = get_or-le-sum_by (λ (one : ℕ). one) (take number ones) below 0 (omega (arith, less, long)) in
        let same = get_or-take number ones below 0 less in
        not_free ones below (sum (take number ones)) (omega (arith, less, in_list)) (omega (arith, part, same)) (omega (arith, before))

  -- one is another
  pub set_are : (number one : ℕ) → one ≤ 1 → AreOnes (set ones number one)
  set_are number one small = record {
    each = All-set (λ one. one ≤ 1) ones number one small are.each;
    fits = let long = length-set ones number one in let fits = are.fits in omega (arith, long, fits);
  }

  pub set_fits : (number one : ℕ) → one ≤ 1 → sum (set ones number one) < 2 ^ 64
  set_fits number one small =
      let new = set_are number one small in
      let within = sum_by-le (λ (one : ℕ). one) 1 (set ones number one) new.each in
      let fits = new.fits in
      omega (arith, within, fits)
