-- Parts that hold, one by one.
use Rattle.std.proofs.Common.{◌≡◌, ◌∙◌, ap, refl, ℕ, zero, suc, ◌+◌, ◌<◌, ◌≤◌, ◌⊎◌, inl, inr, Bool, true, false, ◌&&◌, List, [], ◌∷◌, get_or, arith}
use Rattle.std.specs.Prelude.{Option, Some, None, slice_get}
use Rattle.std.specs.Option.{option_map}
use Rattle.std.proofs.lemmas.Bool.{cases_lt}
use Rattle.std.proofs.lemmas.Option.{get_or_from_slice_get}
use Rattle.event_types.specs.Tuple.{TupleView}
use Rattle.static_index.specs.Choosing.{rank}
use Rattle.static_index.specs.FixedParts.{all_hold, first_holds, holds_if_any, part_holds}
use Rattle.static_index.specs.Headings.{MeetsAny, Part}
use Rattle.static_index.specs.declared.fixed_part.FixedPart.{FixedPart}

-- where the first of parts holds, an event meets it
pub first_given : (event : TupleView) (parts : List FixedPart) → first_holds event parts ≡ true → MeetsAny event (option_map Part (slice_get parts 0))
first_given event [] e = tt
first_given event (p ∷ ps) e = e

-- a part of parts that all hold, by induction on the parts
pub part_given : (event : TupleView) (parts : List FixedPart) (place : ℕ) → all_hold event parts ≡ true → holds_if_any event (slice_get parts place) ≡ true
part_given event [] place e = refl
part_given event (p ∷ ps) place e = go (part_holds event p) refl e place (part_given event ps)
  where
    go : (b : Bool) → part_holds event p ≡ b → (b && all_hold event ps) ≡ true → (place : ℕ) → ((place : ℕ) → all_hold event ps ≡ true → holds_if_any event (slice_get ps place) ≡ true)
        → holds_if_any event (slice_get (p ∷ ps) place) ≡ true
    go true is e zero rest = is
    go true is e (suc place) rest = rest place e
    go false is e place rest = absurd (cc)

-- an event meets a part that holds, if there is one
met_if_any : (event : TupleView) (part : Option FixedPart) → holds_if_any event part ≡ true → MeetsAny event (option_map Part part)
met_if_any event None e = tt
met_if_any event (Some part) e = e

-- where all parts hold, an event meets the one at a place, if there is one
pub all_given : (event : TupleView) (parts : List FixedPart) (place : ℕ) → all_hold event parts ≡ true → MeetsAny event (option_map Part (slice_get parts place))
all_given event parts place e = met_if_any event (slice_get parts place) (part_given event parts place e)

-- the better of the best so far and one more
pub best_of : (parts : List FixedPart) (best place next : ℕ) (x y : FixedPart) → slice_get parts place ≡ Some x → slice_get parts best ≡ Some y
    → (((next ≡ place) × (rank x.cmp ≤ rank y.cmp)) ⊎ ((next ≡ best) × (rank y.cmp ≤ rank x.cmp)))
    → ((p : ℕ) (d : FixedPart) → p < place → rank (get_or parts best d).cmp ≤ rank (get_or parts p d).cmp)
    → (p : ℕ) (d : FixedPart) → p < place + 1 → rank (get_or parts next d).cmp ≤ rank (get_or parts p d).cmp
best_of parts best place next x y at_place at_best which before p d lt =
    elim which [
      | inl there ↦
          let one : rank (get_or parts next d).cmp ≡ rank x.cmp = ap (λ n. rank (get_or parts n d).cmp) there.0 ∙ ap (λ (q : FixedPart). rank q.cmp) (get_or_from_slice_get parts place x d at_place) in
          elim (cases_lt p place) [
            | inl earlier ↦ let h = before p d earlier in let le = there.1 in omega (arith, h, le, one, old)
            | inr not_earlier ↦ let same : p ≡ place = omega arith in let e : rank (get_or parts p d).cmp ≡ rank x.cmp = ap (λ n. rank (get_or parts n d).cmp) same ∙ new in omega (arith, one, e)
          ]
      | inr here ↦
          let one : rank (get_or parts next d).cmp ≡ rank y.cmp = ap (λ n. rank (get_or parts n d).cmp) here.0 ∙ old in
          elim (cases_lt p place) [
            | inl earlier ↦ let h = before p d earlier in omega (arith, h, one, old)
            | inr not_earlier ↦
                let same : p ≡ place = omega arith in
                let e : rank (get_or parts p d).cmp ≡ rank x.cmp = ap (λ n. rank (get_or parts n d).cmp) same ∙ new in
                let le = here.1 in
                omega (arith, one, e, le)
          ]
    ]
  where
    old : rank (get_or parts best d).cmp ≡ rank y.cmp
    old = ap (λ (q : FixedPart). rank q.cmp) (get_or_from_slice_get parts best y d at_best)

    new : rank (get_or parts place d).cmp ≡ rank x.cmp
    new = ap (λ (q : FixedPart). rank q.cmp) (get_or_from_slice_get parts place x d at_place)
