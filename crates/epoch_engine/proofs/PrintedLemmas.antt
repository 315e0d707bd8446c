-- Streams that are printed are given their turns.
use Rattle.std.proofs.Common.{◌≡◌, ◌∙◌, sym, ap, subst, inl, inr, ℕ, zero, suc, ◌+◌, ◌<◌, ◌≤◌, ◌⊎◌, length, get_or, set, take, drop, List, [], ◌++◌, arith}
use Rattle.std.specs.Prelude.{Contains}
use Rattle.std.specs.List.{remove}
use Rattle.std.proofs.Math.Seq.{drop-cons}
use Rattle.std.proofs.lemmas.Bool.{cases_eq, cases_lt, cases_order}
use Rattle.std.proofs.lemmas.Grind.{get_or-set_at}
use Rattle.std.proofs.lemmas.List.{get_or-set_other, get_or_default, get_or_past, length-drop, length-set, take-append-le}
use Rattle.std.proofs.lemmas.List.Edits.{get_or-remove_above, get_or-remove_below, length-remove}
use Rattle.std.proofs.lemmas.List.Elements.{All-contains, All-contains_itself, All-weaker, Contains-append_left, Contains-get_or}
use Rattle.epoch_draft.specs.Filling.{IsLengthened}
use Rattle.epoch_draft.specs.Turns.{GivesTurn, HaveTurns, turn_of}
use Rattle.epoch_draft.specs.declared.turns.Turns.{Turns}
use Rattle.epoch_draft.proofs.Lists.{contains_more, contains_this, none_in, taken_all}
use Rattle.epoch_draft.proofs.TurnLemmas.{turns_none}
use Rattle.epoch_engine.specs.Prints.{AreInTurn, OthersHaveNone}
use Rattle.epoch_engine.proofs.RiseLemmas.{first_or_behind}

-- a stream that has its turn among others has one
pub has_one : (outs : List ℕ) (turns : Turns) (s : ℕ) → HaveTurns outs turns → Contains outs s → 0 < turn_of turns s
has_one outs turns s have here = (All-contains (λ t. (0 < turn_of turns t) × (turn_of turns t ≤ turns.last)) outs s have.within here).0

-- one stream more may have a turn
pub others_more : (outs : List ℕ) (turns : Turns) (i : ℕ) → i < length outs → OthersHaveNone (take i outs) turns → OthersHaveNone (take (i + 1) outs) turns
others_more outs turns i lt none s = go (none s)
  where
    go : (turn_of turns s ≡ 0) ⊎ Contains (take i outs) s → (turn_of turns s ≡ 0) ⊎ Contains (take (i + 1) outs) s
    go (inl is) = inl is
    go (inr here) = inr (contains_more outs i 0 s lt here)

-- and has the next one
pub others_give : (outs : List ℕ) (old new : Turns) (i : ℕ) → i < length outs → GivesTurn (get_or outs i 0) old new → OthersHaveNone (take i outs) old → OthersHaveNone (take (i + 1) outs) new
others_give outs old new i lt gives none s = go (cases_eq s (get_or outs i 0)) (none s)
  where
    same : (s ≡ get_or outs i 0 → ⊥) → turn_of new s ≡ turn_of old s
    same other = ap (λ (ts : List ℕ). get_or ts s 0) gives.given ∙ get_or-set_other old.given (get_or outs i 0) s new.last 0 other

    go : (s ≡ get_or outs i 0) ⊎ (s ≡ get_or outs i 0 → ⊥) → (turn_of old s ≡ 0) ⊎ Contains (take i outs) s → (turn_of new s ≡ 0) ⊎ Contains (take (i + 1) outs) s
    go (inl this) was = inr (subst (Contains (take (i + 1) outs)) (sym this) (contains_this outs i 0 lt))
    go (inr other) (inl is) = inl (same other ∙ is)
    go (inr other) (inr here) = inr (contains_more outs i 0 s lt here)

-- where the turn of a stream is taken it has none, and the others have theirs
turn_taken : (given : List ℕ) (stream s : ℕ) → (get_or (set given stream 0) s 0 ≡ 0) ⊎ ((s ≡ stream → ⊥) × (get_or (set given stream 0) s 0 ≡ get_or given s 0))
turn_taken given stream s = go (cases_eq s stream) (cases_lt stream (length given))
  where
    go : (s ≡ stream) ⊎ (s ≡ stream → ⊥) → (stream < length given) ⊎ (length given ≤ stream) → (get_or (set given stream 0) s 0 ≡ 0) ⊎ ((s ≡ stream → ⊥) × (get_or (set given stream 0) s 0 ≡ get_or given s 0))
    go (inl same) (inl lt) = inl (get_or-set_at given stream s 0 0 same lt)
    go (inl same) (inr past) = inl (get_or_past (set given stream 0) s 0 (let many = length-set given stream 0 in omega (arith, many, same, past)))
    go (inr other) at = inr (other, get_or-set_other given stream s 0 0 other)

-- the first of the streams that have turns has none once it is taken
pub others_forget : (outs : List ℕ) (old new : Turns) (i : ℕ) → i < length outs → new.given ≡ set old.given (get_or outs i 0) 0 → OthersHaveNone (drop i outs) old → OthersHaveNone (drop (i + 1) outs) new
others_forget outs old new i lt is none s = go (subst (λ (ts : List ℕ). (get_or ts s 0 ≡ 0) ⊎ ((s ≡ stream → ⊥) × (get_or ts s 0 ≡ turn_of old s))) (sym is) (turn_taken old.given stream s)) (none s)
  where
    stream : ℕ
    stream = get_or outs i 0

    next : suc i ≡ i + 1
    next = omega arith

    later : (s ≡ stream → ⊥) → (s ≡ stream) ⊎ Contains (drop (suc i) outs) s → Contains (drop (i + 1) outs) s
    later other (inl same) = absurd (other same)
    later other (inr here) = subst (λ (n : ℕ). Contains (drop n outs) s) next here

    go : (turn_of new s ≡ 0) ⊎ ((s ≡ stream → ⊥) × (turn_of new s ≡ turn_of old s)) → (turn_of old s ≡ 0) ⊎ Contains (drop i outs) s → (turn_of new s ≡ 0) ⊎ Contains (drop (i + 1) outs) s
    go (inl is_none) was = inl is_none
    go (inr (other, same)) (inl is_none) = inl (same ∙ is_none)
    go (inr (other, same)) (inr here) = inr (later other (first_or_behind stream (drop (suc i) outs) s (subst (λ (xs : List ℕ). Contains xs s) (drop-cons outs i 0 lt) here)))

-- once all are taken none has one
pub none_left : (outs : List ℕ) (turns : Turns) (i : ℕ) → length outs ≤ i → OthersHaveNone (drop i outs) turns → (s : ℕ) → turn_of turns s ≡ 0
none_left outs turns i past none s = go (none s)
  where
    go : (turn_of turns s ≡ 0) ⊎ Contains (drop i outs) s → turn_of turns s ≡ 0
    go (inl is_none) = is_none
    go (inr here) = absurd (let few = length-drop i outs in let less = here.1 in omega (arith, few, less, past))

-- where none has one, none is told
pub none_told : (turns : Turns) → ((s : ℕ) → turn_of turns s ≡ 0) → AreInTurn [] turns
none_told turns none = record { in_turn = turns_none turns; others = λ s. inl (none s) }

-- where none is told, none has one, also with more room
pub none_longer : (old new : Turns) → IsLengthened 0 old.given new.given → AreInTurn [] old → (s : ℕ) → turn_of new s ≡ 0
none_longer old new more told s = more.same s ∙ go (told.others s)
  where
    go : (turn_of old s ≡ 0) ⊎ Contains [] s → turn_of old s ≡ 0
    go (inl is_none) = is_none
    go (inr here) = absurd (none_in s here)

-- none has one that came with more room
pub others_longer : (outs : List ℕ) (old new : Turns) → IsLengthened 0 old.given new.given → OthersHaveNone outs old → OthersHaveNone outs new
others_longer outs old new more none s = go (none s)
  where
    go : (turn_of old s ≡ 0) ⊎ Contains outs s → (turn_of new s ≡ 0) ⊎ Contains outs s
    go (inl is_none) = inl (more.same s ∙ is_none)
    go (inr here) = inr here

-- nor does one where more are printed
pub others_grown : (outs more : List ℕ) (turns : Turns) → OthersHaveNone outs turns → OthersHaveNone (outs ++ more) turns
others_grown outs more turns none s = go (none s)
  where
    go : (turn_of turns s ≡ 0) ⊎ Contains outs s → (turn_of turns s ≡ 0) ⊎ Contains (outs ++ more) s
    go (inl is_none) = inl is_none
    go (inr here) = inr (Contains-append_left outs more s here)

-- those that were printed have their turns, before others that come
pub told_before : (outs more : List ℕ) (turns : Turns) → AreInTurn outs turns → AreInTurn (take (length outs) (outs ++ more)) turns
told_before outs more turns told = subst (λ (streams : List ℕ). AreInTurn streams turns) (sym (take-append-le (length outs) outs more (omega arith) ∙ taken_all outs (length outs) (omega arith))) told

-- what is told of turns is told of equal ones
pub told_same : (outs : List ℕ) (old new : Turns) → new.given ≡ old.given → new.last ≡ old.last → AreInTurn outs old → AreInTurn outs new
told_same outs old new given last told = subst (AreInTurn outs) (λ i. record { given = sym given i; last = sym last i }) told

-- the streams have their turns where that of another one is taken
pub turns_without : (outs : List ℕ) (old new : Turns) (stream : ℕ) → new.given ≡ set old.given stream 0 → new.last ≡ old.last → (Contains outs stream → ⊥) → HaveTurns outs old → HaveTurns outs new
turns_without outs old new stream is last gone have = record {
  rise = λ i j d lt within.
      let one = same (get_or outs i d) (Contains-get_or outs i d (omega (arith, lt, within))) in
      let other = same (get_or outs j d) (Contains-get_or outs j d within) in
      let was = have.rise i j d lt within in omega (arith, one, other, was);
  within =
      All-weaker (Contains outs) (λ s. (0 < turn_of new s) × (turn_of new s ≤ new.last))
      (λ s here.
      let kept = same s here in
      let was = All-contains (λ s. (0 < turn_of old s) × (turn_of old s ≤ old.last)) outs s have.within here in
      let some = was.0 in let most = was.1 in (omega (arith, kept, some), omega (arith, kept, most, last)))
      outs (All-contains_itself outs);
}
  where
    same : (s : ℕ) → Contains outs s → turn_of new s ≡ turn_of old s
    same s here = ap (λ (ts : List ℕ). get_or ts s 0) is ∙ get_or-set_other old.given stream s 0 0 (λ this. gone (subst (Contains outs) this here))

-- and no others have one
pub others_without : (outs : List ℕ) (old new : Turns) (stream : ℕ) → new.given ≡ set old.given stream 0 → ((s : ℕ) → (turn_of old s ≡ 0) ⊎ ((s ≡ stream) ⊎ Contains outs s)) → OthersHaveNone outs new
others_without outs old new stream is none s = go (subst (λ (ts : List ℕ). (get_or ts s 0 ≡ 0) ⊎ ((s ≡ stream → ⊥) × (get_or ts s 0 ≡ turn_of old s))) (sym is) (turn_taken old.given stream s)) (none s)
  where
    go : (turn_of new s ≡ 0) ⊎ ((s ≡ stream → ⊥) × (turn_of new s ≡ turn_of old s)) → (turn_of old s ≡ 0) ⊎ ((s ≡ stream) ⊎ Contains outs s) → (turn_of new s ≡ 0) ⊎ Contains outs s
    go (inl is_none) was = inl is_none
    go (inr (other, same)) (inl is_none) = inl (same ∙ is_none)
    go (inr (other, same)) (inr (inl this)) = absurd (other this)
    go (inr (other, same)) (inr (inr here)) = inr here

-- a stream that left an order in which each has its turn isn't there any more
pub gone_from : (outs : List ℕ) (turns : Turns) (place : ℕ) → place < length outs → HaveTurns outs turns → Contains (remove outs place) (get_or outs place 0) → ⊥
gone_from outs turns place lt have here = go (cases_lt here.0 place)
  where
    stream : ℕ
    stream = get_or outs place 0

    many : length (remove outs place) + 1 ≡ length outs
    many = length-remove outs place lt

    this : get_or outs place stream ≡ stream
    this = get_or_default outs place stream 0 lt

    go : (here.0 < place) ⊎ (place ≤ here.0) → ⊥
    go (inl before) =
        let same : get_or outs here.0 stream ≡ stream = sym (get_or-remove_below outs place stream here.0 before lt) ∙ here.2 in
        let rise = have.rise here.0 place stream before lt in
        let one = ap (turn_of turns) same in
        let other = ap (turn_of turns) this in omega (arith, rise, one, other)
    go (inr behind) =
        let same : get_or outs (here.0 + 1) stream ≡ stream = sym (get_or-remove_above outs place stream here.0 behind lt) ∙ here.2 in
        let inside = here.1 in
        let rise = have.rise place (here.0 + 1) stream (omega (arith, behind)) (omega (arith, inside, many)) in
        let one = ap (turn_of turns) same in
        let other = ap (turn_of turns) this in omega (arith, rise, one, other)

-- the others that have turns are still there
pub others_stay : (outs : List ℕ) (turns : Turns) (place : ℕ) → place < length outs → OthersHaveNone outs turns → (s : ℕ) → (turn_of turns s ≡ 0) ⊎ ((s ≡ get_or outs place 0) ⊎ Contains (remove outs place) s)
others_stay outs turns place lt none s = go (none s)
  where
    many : length (remove outs place) + 1 ≡ length outs
    many = length-remove outs place lt

    at : (k : ℕ) → k < length outs → get_or outs k s ≡ s → (k ≡ place) ⊎ ((k < place) ⊎ (place < k)) → (s ≡ get_or outs place 0) ⊎ Contains (remove outs place) s
    at k inside is (inl same) = inl (sym is ∙ ap (λ (m : ℕ). get_or outs m s) same ∙ get_or_default outs place s 0 lt)
    at k inside is (inr (inl before)) = inr (k, omega (arith, before, many, lt), get_or-remove_below outs place s k before lt ∙ is)
    at zero inside is (inr (inr behind)) = absurd (omega (arith, behind))
    at (suc k) inside is (inr (inr behind)) = inr (k, omega (arith, inside, many), get_or-remove_above outs place s k (omega (arith, behind)) lt ∙ ap (λ (m : ℕ). get_or outs m s) next ∙ is)
      where
        next : k + 1 ≡ suc k
        next = omega arith

    go : (turn_of turns s ≡ 0) ⊎ Contains outs s → (turn_of turns s ≡ 0) ⊎ ((s ≡ get_or outs place 0) ⊎ Contains (remove outs place) s)
    go (inl is_none) = inl is_none
    go (inr here) = inr (at here.0 here.1 here.2 (cases_order here.0 place))
