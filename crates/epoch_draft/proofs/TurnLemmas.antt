-- The turns of streams rise along an order.
use Rattle.std.proofs.Common.{◌≡◌, ◌∙◌, sym, ap, refl, subst, inl, inr, ℕ, suc, ◌+◌, ◌-◌, ◌<◌, ◌≤◌, ◌⊎◌, length, get_or, take, drop, List, [], ◌++◌, arith}
use Rattle.std.specs.Prelude.{Contains}
use Rattle.std.specs.List.{AllPairs, remove}
use Rattle.std.proofs.lemmas.Bool.{cases_lt}
use Rattle.std.proofs.lemmas.Grind.{get_or-set_at}
use Rattle.std.proofs.lemmas.List.{get_or-append_right, get_or-drop, get_or-set_other, get_or-take, get_or_append_left, length-append, length-drop, length-take, take-append-le, take_more}
use Rattle.std.proofs.lemmas.List.Elements.{All-append, All-contains, All-contains_itself, All-drop, All-get_or, All-nil, All-push, All-take, All-weaker, Contains-get_or}
use Rattle.std.proofs.lemmas.List.Quantifiers.{all_pairs_push}
use Rattle.epoch_draft.specs.Filling.{IsLengthened}
use Rattle.epoch_draft.specs.Turns.{GivesTurn, HaveTurns, turn_of}
use Rattle.epoch_draft.specs.declared.turns.Turns.{Turns}
use Rattle.epoch_draft.proofs.Lists.{taken_all}

-- what holds of each item and each later one still does where some items in between leave
module _ {X : Type 0} (R : X → X → Type 0) (xs : List X) (first end : ℕ) (up : first ≤ end) (all : AllPairs R xs) where
  abbrev left : List X
  left = take first xs ++ drop end xs

  abbrev many : ℕ
  many = length (take first xs)

  before : (k : ℕ) (d : X) → k < many → get_or left k d ≡ get_or xs k d
  before k d lt = get_or_append_left (take first xs) (drop end xs) d k lt ∙ get_or-take first xs k d (let short = length-take first xs in omega (arith, short, lt))

  behind : (k : ℕ) (d : X) → many ≤ k → get_or left k d ≡ get_or xs (end + (k - many)) d
  behind k d ge = get_or-append_right (take first xs) (drop end xs) many k d refl ge ∙ get_or-drop end xs (k - many) d

  all_pairs_cut : AllPairs R left
  all_pairs_cut i j d lt within = go (cases_lt i many) (cases_lt j many)
    where
      long : length left ≡ many + length (drop end xs)
      long = length-append (take first xs) (drop end xs)

      go : (i < many) ⊎ (many ≤ i) → (j < many) ⊎ (many ≤ j) → R (get_or left i d) (get_or left j d)
      go (inl low) (inl high) =
          let short = length-take first xs in
          subst (R (get_or left i d)) (sym (before j d high)) (subst (λ x. R x (get_or xs j d)) (sym (before i d low)) (all i j d lt (omega (arith, short, high))))
      go (inl low) (inr high) =
          let short = length-take first xs in
          let rest = length-drop end xs in
          subst (R (get_or left i d)) (sym (behind j d high)) (subst (λ x. R x (get_or xs (end + (j - many)) d)) (sym (before i d low)) (all i (end + (j - many)) d (omega (arith, short, low, up)) (omega (arith, rest, long, within, high))))
      go (inr low) (inl high) = absurd (omega (arith, lt, low, high))
      go (inr low) (inr high) =
          let rest = length-drop end xs in
          subst (R (get_or left i d)) (sym (behind j d high))
          (subst (λ x. R x (get_or xs (end + (j - many)) d)) (sym (behind i d low)) (all (end + (i - many)) (end + (j - many)) d (omega (arith, lt, low, high)) (omega (arith, rest, long, within, high))))

-- no stream has its turn in an order without streams
pub turns_none : (turns : Turns) → HaveTurns [] turns
turns_none turns = record { rise = λ i j d lt within. absurd (omega (arith, within)); within = All-nil (λ s. (0 < turn_of turns s) × (turn_of turns s ≤ turns.last)) }

-- the streams that stay have their turns where others leave at one place
pub turns_cut : (order : List ℕ) (turns : Turns) (first end : ℕ) → first ≤ end → HaveTurns order turns → HaveTurns (take first order ++ drop end order) turns
turns_cut order turns first end up have = record {
  rise = all_pairs_cut (λ earlier later. turn_of turns earlier < turn_of turns later) order first end up have.rise;
  within = All-append Inside (take first order) (drop end order) (All-take Inside first order have.within) (All-drop Inside end order have.within);
}
  where
    Inside : ℕ → Type 0
    Inside s = (0 < turn_of turns s) × (turn_of turns s ≤ turns.last)

-- or one does
pub turns_removed : (order : List ℕ) (turns : Turns) (place : ℕ) → HaveTurns order turns → HaveTurns (remove order place) turns
turns_removed order turns place have = turns_cut order turns place (suc place) (omega arith) have

-- or all do from a place on
pub turns_taken : (order : List ℕ) (turns : Turns) (many : ℕ) → HaveTurns order turns → HaveTurns (take many order) turns
turns_taken order turns many have = record {
  rise = λ i j d lt within.
      let short = length-take many order in
      subst (λ s. turn_of turns s < turn_of turns (get_or (take many order) j d)) (sym (get_or-take many order i d (omega (arith, short, lt, within))))
      (subst (λ s. turn_of turns (get_or order i d) < turn_of turns s) (sym (get_or-take many order j d (omega (arith, short, within)))) (have.rise i j d lt (omega (arith, short, within))));
  within = All-take (λ s. (0 < turn_of turns s) × (turn_of turns s ≤ turns.last)) many order have.within;
}

-- the streams before those that came have theirs
pub turns_before : (order more : List ℕ) (turns : Turns) → HaveTurns order turns → HaveTurns (take (length order) (order ++ more)) turns
turns_before order more turns have = subst (λ (streams : List ℕ). HaveTurns streams turns) (sym (take-append-le (length order) order more (omega arith) ∙ taken_all order (length order) (omega arith))) have

-- the streams have theirs where they have the same turns
turns_same : (order : List ℕ) (old new : Turns) → ((s : ℕ) → Contains order s → turn_of new s ≡ turn_of old s) → old.last ≤ new.last → HaveTurns order old → HaveTurns order new
turns_same order old new same later have = record {
  rise = λ i j d lt within.
      let one = same (get_or order i d) (Contains-get_or order i d (omega (arith, lt, within))) in
      let other = same (get_or order j d) (Contains-get_or order j d within) in
      let was = have.rise i j d lt within in omega (arith, one, other, was);
  within =
      All-weaker (Contains order) (λ s. (0 < turn_of new s) × (turn_of new s ≤ new.last))
      (λ s c.
      let is = same s c in
      let was = All-contains (λ s. (0 < turn_of old s) × (turn_of old s ≤ old.last)) order s have.within c in
      let some = was.0 in let most = was.1 in (omega (arith, is, some), omega (arith, is, most, later)))
      order (All-contains_itself order);
}

-- and where there is more room
pub turns_longer : (order : List ℕ) (old new : Turns) → IsLengthened 0 old.given new.given → new.last ≡ old.last → HaveTurns order old → HaveTurns order new
turns_longer order old new more same have = turns_same order old new (λ s c. more.same s) (omega (arith, same)) have

-- one stream more has its turn
pub turns_more : (order : List ℕ) (i : ℕ) (old new : Turns) → i < length order → get_or order i 0 < length old.given → (Contains (take i order) (get_or order i 0) → ⊥) → GivesTurn (get_or order i 0) old new → HaveTurns (take i order) old → HaveTurns (take (i + 1) order) new
turns_more order i old new lt there once gives have =
    subst (λ (streams : List ℕ). HaveTurns streams new) (sym (take_more order i 0 lt)) (record {
      rise = all_pairs_push (λ earlier later. turn_of new earlier < turn_of new later) (take i order) stream kept.rise
          (λ k d inside.
          let is = others (get_or (take i order) k d) (Contains-get_or (take i order) k d inside) in
          let was = All-get_or (λ s. (0 < turn_of old s) × (turn_of old s ≤ old.last)) (take i order) k d inside have.within in
          let most = was.1 in let next = gives.last in omega (arith, is, most, this, next));
      within = All-push (λ s. (0 < turn_of new s) × (turn_of new s ≤ new.last)) (take i order) stream kept.within (let next = gives.last in (omega (arith, this, next), omega (arith, this)));
    })
  where
    stream : ℕ
    stream = get_or order i 0

    this : turn_of new stream ≡ new.last
    this = ap (λ (ts : List ℕ). get_or ts stream 0) gives.given ∙ get_or-set_at old.given stream stream new.last 0 refl there

    others : (s : ℕ) → Contains (take i order) s → turn_of new s ≡ turn_of old s
    others s c = ap (λ (ts : List ℕ). get_or ts s 0) gives.given ∙ get_or-set_other old.given stream s new.last 0 (λ same. once (subst (Contains (take i order)) same c))

    kept : HaveTurns (take i order) new
    kept = turns_same (take i order) old new others (let next = gives.last in omega (arith, next)) have
