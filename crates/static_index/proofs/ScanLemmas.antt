-- The fixed parts of a condition, found one after another.
use Rattle.std.proofs.Common.{◌≡◌, ◌∙◌, ap, refl, sym, ℕ, zero, suc, Bool, true, false, ◌&&◌, take, List, [], ◌∷◌, ◌++◌}
use Rattle.std.specs.Prelude.{Option, Some, None, slice_get}
use Rattle.std.specs.Option.{option_map, option_to_list}
use Rattle.std.specs.List.{cons_option}
use Rattle.event_types.specs.Tuple.{TupleView}
use Rattle.semantics.specs.Scalars.{Pr}
use Rattle.scalar_expr.specs.Classes.{Class, class_of}
use Rattle.static_index.specs.declared.fixed_part.FixedPart.{FixedPart}
use Rattle.static_index.specs.FixedParts.{all_hold, fixed_part_of, fixed_parts, holds_if_any, part_holds}

-- what may stand in front goes with the first of two lists
cons_option-append : (o : Option FixedPart) (xs ys : List FixedPart) → cons_option o xs ++ ys ≡ cons_option o (xs ++ ys)
cons_option-append None xs ys = refl
cons_option-append (Some part) xs ys = refl

-- what stands alone
cons_option-nil : (o : Option FixedPart) → cons_option o [] ≡ option_to_list o
cons_option-nil None = refl
cons_option-nil (Some part) = refl

-- one part more, by induction on the parts
pub fixed_parts-more : (parts : List Pr) (place : ℕ) (c : Class) → option_map class_of (slice_get parts place) ≡ Some c → fixed_parts (take (suc place) parts) ≡ fixed_parts (take place parts) ++ option_to_list (fixed_part_of c)
fixed_parts-more [] place c is = absurd (cc)
fixed_parts-more (p ∷ ps) zero c is =
    let same : class_of p ≡ c = cc in
    cons_option-nil (fixed_part_of (class_of p)) ∙ ap (λ (k : Class). option_to_list (fixed_part_of k)) same
fixed_parts-more (p ∷ ps) (suc place) c is =
    ap (λ (xs : List FixedPart). cons_option (fixed_part_of (class_of p)) xs) (fixed_parts-more ps place c is)
    ∙ sym (cons_option-append (fixed_part_of (class_of p)) (fixed_parts (take place ps)) (option_to_list (fixed_part_of c)))

-- one more that holds
pub all_hold-more : (event : TupleView) (xs : List FixedPart) (o : Option FixedPart) → all_hold event xs ≡ true → holds_if_any event o ≡ true → all_hold event (xs ++ option_to_list o) ≡ true
all_hold-more event [] None all one = refl
all_hold-more event [] (Some part) all one = λ i. one i && true
all_hold-more event (x ∷ xs) o all one = go (all_hold-more event xs o) (part_holds event x) all
  where
    go : (all_hold event xs ≡ true → holds_if_any event o ≡ true → all_hold event (xs ++ option_to_list o) ≡ true) → (b : Bool) → (b && all_hold event xs) ≡ true → (b && all_hold event (xs ++ option_to_list o)) ≡ true
    go rest true all = rest all one
    go rest false all = absurd (cc)

false_right : (b r : Bool) → r ≡ false → (b && r) ≡ false
false_right true r e = e
false_right false r e = refl

-- one that doesn't hold
fails_first : (event : TupleView) (o : Option FixedPart) (xs : List FixedPart) → holds_if_any event o ≡ false → all_hold event (cons_option o xs) ≡ false
fails_first event None xs e = absurd (cc)
fails_first event (Some part) xs e = λ i. e i && all_hold event xs

fails_later : (event : TupleView) (o : Option FixedPart) (xs : List FixedPart) → all_hold event xs ≡ false → all_hold event (cons_option o xs) ≡ false
fails_later event None xs e = e
fails_later event (Some part) xs e = false_right (part_holds event part) (all_hold event xs) e

-- the same among others, by induction on the parts
pub all_hold-fails : (event : TupleView) (parts : List Pr) (place : ℕ) (c : Class) → option_map class_of (slice_get parts place) ≡ Some c → holds_if_any event (fixed_part_of c) ≡ false → all_hold event (fixed_parts parts) ≡ false
all_hold-fails event [] place c is fails = absurd (cc)
all_hold-fails event (p ∷ ps) zero c is fails =
    let same : class_of p ≡ c = cc in
    fails_first event (fixed_part_of (class_of p)) (fixed_parts ps) (ap (λ (k : Class). holds_if_any event (fixed_part_of k)) same ∙ fails)
all_hold-fails event (p ∷ ps) (suc place) c is fails = fails_later event (fixed_part_of (class_of p)) (fixed_parts ps) (all_hold-fails event ps place c is fails)
