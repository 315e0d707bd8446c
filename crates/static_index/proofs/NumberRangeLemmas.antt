-- The range of numbers that parts ask of one attribute, part by part.
use Rattle.std.proofs.Common.{◌≡◌, ◌∙◌, ap, refl, sym, subst, ℕ, ◌+◌, ℤ, Bool, true, false, ◌&&◌, List, [], ◌∷◌, ◌++◌, take, arith}
use Rattle.std.specs.Prelude.{Some, slice_get}
use Rattle.std.specs.Int.{int_max, int_min}
use Rattle.std.proofs.lemmas.Int.{clamps, ints}
use Rattle.std.proofs.lemmas.List.{take_more}
use Rattle.std.proofs.lemmas.List.Folds.{list_all-append}
use Rattle.std.proofs.lemmas.Option.{get_or_from_slice_get, slice_get_within}
use Rattle.event_types.specs.Tuple.{TupleView}
use Rattle.static_index.specs.FixedParts.{all_hold, part_holds}
use Rattle.static_index.specs.Ranges.{Bounds, HasNumber, is_between}
use Rattle.static_index.specs.declared.fixed_part.FixedPart.{FixedPart}
use Rattle.static_index.specs.declared.number_range.NumberRange.{NumberRange}

-- with one part more
all_hold-one : (event : TupleView) (parts : List FixedPart) (part : FixedPart) → all_hold event (parts ++ part ∷ []) ≡ (all_hold event parts && part_holds event part)
all_hold-one event parts part = list_all-append (part_holds event) parts (part ∷ []) ∙ ap (λ b. all_hold event parts && b) (alone (part_holds event part))
  where
    alone : (b : Bool) → (b && true) ≡ b
    alone true = refl
    alone false = refl

-- a number lies between the nearer ends where it lies between both
between_both : (low high low' high' number : ℤ) → is_between (int_max low low') (int_min high high') number ≡ (is_between low high number && is_between low' high' number)
between_both low high low' high' number = grind (arith, ints, clamps)

-- a part that asks for a range makes it narrower
pub bounds_narrower : (range : NumberRange) (low high new_low new_high : ℤ) (part : FixedPart) → new_low ≡ int_max range.low low → new_high ≡ int_min range.high high
    → ((event : TupleView) (number : ℤ) → HasNumber event range.attr number → part_holds event part ≡ is_between low high number)
    → (parts : List FixedPart) → Bounds range parts → Bounds (record { attr = range.attr; low = new_low; high = new_high; whole = range.whole }) (parts ++ part ∷ [])
bounds_narrower range low high new_low new_high part lower higher asks parts bounds = record {
  outside = λ event number has out.
      all_hold-one event parts part
      ∙ fails (is_between range.low range.high number) (part_holds event part) (all_hold event parts) (bounds.outside event number has) (sym (both event number has) ∙ out);
  within = λ whole event number has lies.
      all_hold-one event parts part
      ∙ holds (is_between range.low range.high number) (part_holds event part) (all_hold event parts) (bounds.within whole event number has) (sym (both event number has) ∙ lies);
}
  where
    both : (event : TupleView) (number : ℤ) → HasNumber event range.attr number → is_between new_low new_high number ≡ (is_between range.low range.high number && part_holds event part)
    both event number has =
        ap (λ l. is_between l new_high number) lower ∙ ap (λ h. is_between (int_max range.low low) h number) higher
        ∙ between_both range.low range.high low high number ∙ ap (λ b. is_between range.low range.high number && b) (sym (asks event number has))

    fails : (b d all : Bool) → (b ≡ false → all ≡ false) → (b && d) ≡ false → (all && d) ≡ false
    fails true true all out e = absurd (cc)
    fails true false true out e = refl
    fails true false false out e = refl
    fails false d all out e = ap (λ a. a && d) (out refl)

    holds : (b d all : Bool) → (b ≡ true → all ≡ true) → (b && d) ≡ true → (all && d) ≡ true
    holds true d all within e = ap (λ a. a && d) (within refl) ∙ e
    holds false d all within e = absurd (cc)

-- any other part leaves it, and then it isn't all that is asked
pub bounds_kept : (range : NumberRange) (low high : ℤ) (part : FixedPart) → low ≡ range.low → high ≡ range.high
    → (parts : List FixedPart) → Bounds range parts → Bounds (record { attr = range.attr; low = low; high = high; whole = false }) (parts ++ part ∷ [])
bounds_kept range low high part same_low same_high parts bounds = record {
  outside = λ event number has out.
      all_hold-one event parts part
      ∙ ap (λ a. a && part_holds event part) (bounds.outside event number has (ap (λ l. is_between l range.high number) (sym same_low) ∙ ap (λ h. is_between low h number) (sym same_high) ∙ out));
  within = λ whole. absurd (cc);
}

-- the part at a place comes behind those before it
pub bounds_up_to : (range : NumberRange) (parts : List FixedPart) (place : ℕ) (part : FixedPart) → slice_get parts place ≡ Some part → Bounds range (take place parts ++ part ∷ []) → Bounds range (take (place + 1) parts)
bounds_up_to range parts place part at bounds =
    subst (Bounds range)
    (ap (λ (p : FixedPart). take place parts ++ p ∷ []) (sym (get_or_from_slice_get parts place part part at)) ∙ sym (take_more parts place part (slice_get_within parts place part at)))
    bounds
