-- Streams are told as read, one by one.
use Rattle.std.proofs.Common.{◌≡◌, ◌∙◌, sym, ap, refl, inl, inr, ℕ, Bool, true, false, ◌+◌, ◌<◌, ◌≤◌, ◌⊎◌, length, get_or, take, List, [], arith}
use Rattle.std.specs.Prelude.{Contains, Option, Some, None}
use Rattle.std.specs.Option.{option_map}
use Rattle.std.proofs.lemmas.Bool.{true≢false}
use Rattle.automaton.specs.States.{Net, entrance_at}
use Rattle.automaton.specs.declared.network.Entrance.{Entrance}
use Rattle.epoch_draft.specs.Agenda.{AreTold, IsUnread, StayTold, read_at, read_by}
use Rattle.epoch_draft.proofs.DrawnLemmas.{entry_below}
use Rattle.epoch_draft.proofs.Lists.{below_or_last, more_contains, none_in}

-- what was told still is
pub told_trans : (a b c : List Bool) → StayTold a b → StayTold b c → StayTold a c
told_trans a b c ab bc = record { as_many = bc.as_many ∙ ab.as_many; kept = λ s up. bc.kept s (ab.kept s up) }

pub told_none : (net : Net) (read : List Bool) → AreTold net [] read read
told_none net read = record { stay = record { as_many = refl; kept = λ s up. up }; told = λ n s c. absurd (none_in n c) }

-- the stream of one state more is told
pub told_more : (net : Net) (states : List ℕ) (i : ℕ) (old was new : List Bool) → i < length states → ((s : ℕ) → read_at net (get_or states i 0) ≡ Some s → s < length new → get_or new s false ≡ true) → StayTold was new → AreTold net (take i states) old was
    → AreTold net (take (i + 1) states) old new
told_more net states i old was new lt this stay told = record { stay = told_trans old was new told.stay stay; told = λ n s c. each n s (more_contains states i 0 n lt c) }
  where
    each : (n s : ℕ) → Contains (take i states) n ⊎ (get_or states i 0 ≡ n) → read_at net n ≡ Some s → s < length new → get_or new s false ≡ true
    each n s (inl c) e lt = stay.kept s (told.told n s c e (omega (arith, lt, stay.as_many)))
    each n s (inr same) e lt = this s (ap (read_at net) same ∙ e) lt

-- the streams of the states so far are told
abbrev pub AreReadBelow : Net → ℕ → List Bool → Type 0
AreReadBelow net i read = (n s : ℕ) → n < i → s < length read → read_at net n ≡ Some s → get_or read s false ≡ true

-- the stream of one state more
pub read_more : (net : Net) (i : ℕ) (was new : List Bool) → ((s : ℕ) → read_at net i ≡ Some s → s < length new → get_or new s false ≡ true) → StayTold was new → AreReadBelow net i was → AreReadBelow net (i + 1) new
read_more net i was new this stay told n s less below e = go (below_or_last n i less)
  where
    go : (n < i) ⊎ (n ≡ i) → get_or new s false ≡ true
    go (inl less) = stay.kept s (told n s less (omega (arith, below, stay.as_many)) e)
    go (inr same) = this s (ap (read_at net) (sym same) ∙ e) below

-- there is no state past the last
pub read_below : (net : Net) (n s : ℕ) → read_at net n ≡ Some s → n < length net
read_below net n s e = go (entrance_at net n) refl e
  where
    go : (o : Option Entrance) → entrance_at net n ≡ o → option_map read_by o ≡ Some s → n < length net
    go None is e = absurd (cc)
    go (Some entrance) is e = entry_below net n entrance is

-- once those of all states are told, no state reads another stream
pub read_all : (net : Net) (i : ℕ) (read : List Bool) → length net ≤ i → AreReadBelow net i read → (s : ℕ) → s < length read → get_or read s false ≡ false → IsUnread net s
read_all net i read past told s lt down n e = absurd (true≢false (sym (told n s (let below = read_below net n s e in omega (arith, below, past)) lt e) ∙ down))
