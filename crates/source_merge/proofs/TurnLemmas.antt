-- The file whose turn it is, among all that haven't ended.
use Rattle.std.proofs.Common.{◌≡◌, ◌∙◌, sym, ap, refl, subst, ℕ, zero, suc, ◌+◌, ◌≤◌, Bool, true, false, cond, List, [], ◌∷◌, Option, Some, None, slice_get, arith}
use Rattle.std.specs.Option.{unwrap_or}
use Rattle.std.proofs.lemmas.Bool.{le-leb, leb-false, leb-true}
use Rattle.source_merge.specs.declared.source.Source.{Source}
use Rattle.source_merge.specs.Sources.{ComesBefore, IsTurn, first_of, is_no_later, turn_from, turn_in}
use Rattle.source_merge.proofs.SourceLemmas.{turn_is_there}

-- a greatest time is no later than itself
no_later_itself : (g : Option ℕ) → is_no_later g g ≡ true
no_later_itself None = refl
no_later_itself (Some g) = le-leb g g (omega arith)

-- what isn't no later is later
later_unless : (g h : Option ℕ) → is_no_later g h ≡ false → is_no_later h g ≡ true
later_unless None h e = absurd (apart e)
  where
    apart : true ≡ false → ⊥
    apart k = cc
later_unless (Some g) None e = refl
later_unless (Some g) (Some h) e = le-leb h g (let lt = leb-false g h e in omega (arith, lt))

no_later_through : (g h k : Option ℕ) → is_no_later g h ≡ true → is_no_later h k ≡ true → is_no_later g k ≡ true
no_later_through None h k e f = refl
no_later_through (Some g) None k e f = absurd (apart e)
  where
    apart : false ≡ true → ⊥
    apart l = cc
no_later_through (Some g) (Some h) None e f = f
no_later_through (Some g) (Some h) (Some k) e f = le-leb g k (let le = leb-true g h e in let less = leb-true h k f in omega (arith, le, less))

-- all files from a number on that haven't ended come behind the turn, or all of them have ended
abbrev IsTurnFrom : ℕ → List Source → Option (ℕ × Source) → Type 0
IsTurnFrom from sources None = (place : ℕ) (other : Source) → slice_get sources place ≡ Some other → other.ended ≡ true
IsTurnFrom from sources (Some turn) =
    (from ≤ turn.0) × ((place : ℕ) (other : Source) → slice_get sources place ≡ Some other → other.ended ≡ false → ComesBefore turn (from + place, other))

-- a file comes behind itself
behind_itself : (number : ℕ) (source other : Source) → source ≡ other → ComesBefore (number, source) (number + 0, other)
behind_itself number source other same = record {
  no_later = ap (λ s. is_no_later source.greatest s.greatest) (sym same) ∙ no_later_itself source.greatest;
  lower = λ _. omega arith;
}

false_true : {P : Type 0} → (b : Bool) → b ≡ false → b ≡ true → P
false_true b e f = cc

shift : (n place : ℕ) → n + 1 + place ≡ n + suc place
shift n place = omega arith

none_some : {P : Type 0} → (other : Source) → None ≡ Some other → P
none_some other is = cc

-- one more file before those of which the turn is known
module _ (from : ℕ) (source : Source) (more : List Source) where
  -- it has ended
  past_ended : (turn : Option (ℕ × Source)) → source.ended ≡ true → IsTurnFrom (from + 1) more turn → IsTurnFrom from (source ∷ more) turn
  past_ended None ended turn = all_ended
    where
      all_ended : (place : ℕ) (other : Source) → slice_get (source ∷ more) place ≡ Some other → other.ended ≡ true
      all_ended zero other is = let same : source ≡ other = ap (λ o. unwrap_or o other) is in ap (λ s. s.ended) (sym same) ∙ ended
      all_ended (suc place) other is = turn place other is
  past_ended (Some next) ended turn = (omega (arith, turn.0), behind)
    where
      behind : (place : ℕ) (other : Source) → slice_get (source ∷ more) place ≡ Some other → other.ended ≡ false → ComesBefore next (from + place, other)
      behind zero other is going = let same : source ≡ other = ap (λ o. unwrap_or o other) is in false_true other.ended going (ap (λ s. s.ended) (sym same) ∙ ended)
      behind (suc place) other is going = subst (λ (n : ℕ). ComesBefore next (n, other)) (shift from place) (turn.1 place other is going)

  -- it has the turn where all behind it have ended
  alone : source.ended ≡ false → IsTurnFrom (from + 1) more None → IsTurnFrom from (source ∷ more) (Some (from, source))
  alone here turn = (omega arith, behind)
    where
      behind : (place : ℕ) (other : Source) → slice_get (source ∷ more) place ≡ Some other → other.ended ≡ false → ComesBefore (from, source) (from + place, other)
      behind zero other is going = behind_itself from source other (ap (λ o. unwrap_or o other) is)
      behind (suc place) other is going = false_true other.ended going (turn place other is)

  -- it has the turn where its greatest time is no later than that of the next one
  ahead : (next : ℕ × Source) → is_no_later source.greatest next.1.greatest ≡ true → IsTurnFrom (from + 1) more (Some next) → IsTurnFrom from (source ∷ more) (Some (from, source))
  ahead next first turn = (omega arith, behind)
    where
      behind : (place : ℕ) (other : Source) → slice_get (source ∷ more) place ≡ Some other → other.ended ≡ false → ComesBefore (from, source) (from + place, other)
      behind zero other is going = behind_itself from source other (ap (λ o. unwrap_or o other) is)
      behind (suc place) other is going = record {
        no_later = no_later_through source.greatest next.1.greatest other.greatest first (turn.1 place other is going).no_later;
        lower = λ _. omega arith;
      }

  -- and not where it is later
  later_on : (next : ℕ × Source) → is_no_later source.greatest next.1.greatest ≡ false → IsTurnFrom (from + 1) more (Some next) → IsTurnFrom from (source ∷ more) (Some next)
  later_on next later turn = (omega (arith, turn.0), behind)
    where
      behind : (place : ℕ) (other : Source) → slice_get (source ∷ more) place ≡ Some other → other.ended ≡ false → ComesBefore next (from + place, other)
      behind zero other is going =
          let same : source ≡ other = ap (λ o. unwrap_or o other) is in
          let unless : is_no_later other.greatest next.1.greatest ≡ false = ap (λ s. is_no_later s.greatest next.1.greatest) (sym same) ∙ later in
          record { no_later = later_unless other.greatest next.1.greatest unless; lower = λ no. false_true (is_no_later other.greatest next.1.greatest) unless no }
      behind (suc place) other is going = subst (λ (n : ℕ). ComesBefore next (n, other)) (shift from place) (turn.1 place other is going)

  with_first : (turn : Option (ℕ × Source)) → source.ended ≡ false → IsTurnFrom (from + 1) more turn → IsTurnFrom from (source ∷ more) (first_of from source turn)
  with_first None going turn = alone going turn
  with_first (Some next) going turn = go (is_no_later source.greatest next.1.greatest) refl
    where
      go : (b : Bool) → is_no_later source.greatest next.1.greatest ≡ b → IsTurnFrom from (source ∷ more) (cond b (Some (from, source)) (Some next))
      go true e = ahead next e turn
      go false e = later_on next e turn

-- by induction on the files
turn_from_is : (from : ℕ) (sources : List Source) → IsTurnFrom from sources (turn_from from sources)
turn_from_is from [] = λ place other is. none_some other is
turn_from_is from (source ∷ more) = go (turn_from_is (from + 1) more) source.ended refl
  where
    go : IsTurnFrom (from + 1) more (turn_from (from + 1) more) → (ended : Bool) → source.ended ≡ ended
        → IsTurnFrom from (source ∷ more) (cond ended (turn_from (from + 1) more) (first_of from source (turn_from (from + 1) more)))
    go rest true e = past_ended from source more (turn_from (from + 1) more) e rest
    go rest false e = with_first from source more (turn_from (from + 1) more) e rest

pub turns_are_the_earliest : (sources : List Source) → IsTurn sources (turn_in sources)
turns_are_the_earliest sources = go (turn_in sources) refl (turn_from_is 0 sources)
  where
    go : (turn : Option (ℕ × Source)) → turn_in sources ≡ turn → IsTurnFrom 0 sources turn → IsTurn sources turn
    go None is found = found
    go (Some turn) is found =
        let there = turn_is_there sources turn is in
        (there.0, there.1, λ number other at going. subst (λ (n : ℕ). ComesBefore turn (n, other)) (plain number) (found.1 number other at going))
      where
        plain : (n : ℕ) → 0 + n ≡ n
        plain n = omega arith
