-- Events with the numbers of their lines, and the refusals behind them.
use Rattle.std.proofs.Common.{◌≡◌, ◌∙◌, sym, ap, subst, refl, ℕ, suc, ◌-◌, ◌<◌, ◌≤◌, length, slice_get, Bool, true, false, cond, nat_lt, is_some, List, [], ◌∷◌, ◌++◌, map, Option, Some, None, Result, Ok, Err, append_assoc, append-nil, arith}
use Rattle.std.specs.List.{All, flat_map}
use Rattle.std.specs.Option.{option_or}
use Rattle.std.proofs.lemmas.Bool.Decides.{nat_tests}
use Rattle.std.proofs.lemmas.Grind.{flat_map-append}
use Rattle.std.proofs.lemmas.List.{map-append}
use Rattle.std.proofs.lemmas.List.Elements.{All-cons, All-head, All-nil, All-tail, All-weaker}
use Rattle.semantics.specs.Histories.{Event}
use Rattle.semantics.specs.Laws.{NeverFalls}
use Rattle.epoch_laws.specs.Standing.{last_time}
use Rattle.derivations.specs.HeardLines.{AreInOrder, event_of, events_of}
use Rattle.derivations.specs.declared.history.Heard.{Heard}
use Rattle.courses.specs.declared.refusal.Refusal.{Refusal}
use Rattle.courses.specs.declared.refusal.Refusal.TheVariants.{IsOutOfOrder}
use Rattle.courses.specs.ControlLines.{EntryFault, OfControl, OfLine}
use Rattle.courses.specs.EventLines.{Reading, events_in, heard_from, last_after, refusal_of, refused_from}
use Rattle.courses.specs.Heard.{disorder}
use Rattle.explanation.specs.Hearing.{AddsFound, last_at, refusal_behind, refused_behind}
use Rattle.explanation.specs.HeardLines.{numbered_at, numbered_events}

-- where neither of two is refused, the first isn't, and the second isn't
pub first_none : (o p : Option Refusal) → option_or o p ≡ None → o ≡ None
first_none None p e = refl
first_none (Some refusal) p e = cc

pub second_none : (o p : Option Refusal) → option_or o p ≡ None → p ≡ None
second_none None p e = e
second_none (Some refusal) p e = cc

-- where no line is refused, the events with their numbers are those that are heard: an induction on the lines
pub numbered_heard : (seen : Option ℕ) (lines : List Reading) → refused_from seen lines ≡ None → events_of (numbered_events lines) ≡ heard_from seen lines
numbered_heard seen [] none = refl
numbered_heard seen (line ∷ lines) none = by_found line.found none (λ last e. numbered_heard last lines e)
  where
    by_found : (found : Result Event EntryFault) → option_or (refusal_of line.number seen found) (refused_from (last_after found) lines) ≡ None
        → ((last : Option ℕ) → refused_from last lines ≡ None → events_of (numbered_events lines) ≡ heard_from last lines)
        → events_of (numbered_at line.number found ++ numbered_events lines) ≡ cond (is_some (refusal_of line.number seen found)) [] (events_in found ++ heard_from (last_after found) lines)
    by_found (Ok event) e rest =
        let here = first_none (disorder line.number (is_some seen) seen event.tuple.at) (refused_from (Some event.tuple.at) lines) e in
        let later = second_none (disorder line.number (is_some seen) seen event.tuple.at) (refused_from (Some event.tuple.at) lines) e in
        ap (λ events. event ∷ events) (rest (Some event.tuple.at) later)
        ∙ sym (ap (λ o. cond (is_some o) [] (event ∷ heard_from (Some event.tuple.at) lines)) here)
    by_found (Err (OfLine why)) e rest = absurd (cc)
    by_found (Err (OfControl why)) e rest = absurd (cc)

-- the last time of a history with one more event
last_more : (history : List Event) (event : Event) → last_time (history ++ event ∷ []) ≡ Some event.tuple.at
last_more [] event = refl
last_more (first ∷ []) event = refl
last_more (first ∷ next ∷ later) event = last_more (next ∷ later) event

pub last_behind : (history : List Heard) (heard : Heard) → last_at (history ++ heard ∷ []) ≡ Some heard.tuple.at
last_behind history heard = ap last_time (map-append event_of history (heard ∷ [])) ∙ last_more (events_of history) (event_of heard)

-- what comes behind lines of which none is refused is refused as behind their events: an induction on the lines
pub refused_on : (history : List Heard) (lines more : List Reading) → refused_behind history lines ≡ None
    → refused_behind history (lines ++ more) ≡ refused_behind (history ++ numbered_events lines) more
refused_on history [] more none = ap (λ h. refused_behind h more) (sym (append-nil history))
refused_on history (line ∷ lines) more none = by_found line.found none (λ longer e. refused_on longer lines more e)
  where
    by_found : (found : Result Event EntryFault) → option_or (refusal_of line.number (last_at history) found) (refused_from (last_after found) lines) ≡ None
        → ((longer : List Heard) → refused_behind longer lines ≡ None → refused_behind longer (lines ++ more) ≡ refused_behind (longer ++ numbered_events lines) more)
        → option_or (refusal_of line.number (last_at history) found) (refused_from (last_after found) (lines ++ more)) ≡ refused_behind (history ++ (numbered_at line.number found ++ numbered_events lines)) more
    by_found (Ok event) e rest =
        let o = disorder line.number (is_some (last_at history)) (last_at history) event.tuple.at in
        let here : o ≡ None = first_none o (refused_from (Some event.tuple.at) lines) e in
        let later : refused_from (Some event.tuple.at) lines ≡ None = second_none o (refused_from (Some event.tuple.at) lines) e in
        let heard : Heard = record { stream = event.stream; tuple = event.tuple; line = line.number } in
        let last = last_behind history heard in
        ap (λ p. option_or p (refused_from (Some event.tuple.at) (lines ++ more))) here
        ∙ ap (λ seen. refused_from seen (lines ++ more)) (sym last)
        ∙ rest (history ++ heard ∷ []) (ap (λ seen. refused_from seen lines) last ∙ later)
        ∙ ap (λ h. refused_behind h more) (append_assoc history (heard ∷ []) (numbered_events lines))
    by_found (Err (OfLine why)) e rest = absurd (cc)
    by_found (Err (OfControl why)) e rest = absurd (cc)

-- a refused line is refused whatever follows: an induction on the lines
pub refused_stays : (seen : Option ℕ) (lines more : List Reading) (refusal : Refusal) → refused_from seen lines ≡ Some refusal → refused_from seen (lines ++ more) ≡ Some refusal
refused_stays seen [] more refusal e = absurd (cc)
refused_stays seen (line ∷ lines) more refusal e = by_first (refusal_of line.number seen line.found) e (refused_stays (last_after line.found) lines more refusal)
  where
    by_first : (o : Option Refusal) → option_or o (refused_from (last_after line.found) lines) ≡ Some refusal
        → (refused_from (last_after line.found) lines ≡ Some refusal → refused_from (last_after line.found) (lines ++ more) ≡ Some refusal)
        → option_or o (refused_from (last_after line.found) (lines ++ more)) ≡ Some refusal
    by_first None f rest = rest f
    by_first (Some other) f rest = f

-- the events of lines that come one after another
pub numbered_on : (lines more : List Reading) → numbered_events (lines ++ more) ≡ numbered_events lines ++ numbered_events more
numbered_on lines more = flat_map-append (λ (line : Reading). numbered_at line.number line.found) lines more

-- no event of a history is later than the last
low_from : (first : Event) (later : List Event) (time : ℕ) → NeverFalls (first ∷ later) → last_time (first ∷ later) ≡ Some time → All (λ (event : Event). event.tuple.at ≤ time) (first ∷ later)
low_from first [] time falls e = let same : first.tuple.at ≡ time = cc in All-cons (λ (event : Event). event.tuple.at ≤ time) first [] (omega (arith, same)) (All-nil (λ (event : Event). event.tuple.at ≤ time))
low_from first (next ∷ later) time falls e =
    let rest = low_from next later time falls.1 e in
    let first_low = All-head (λ (late : Event). first.tuple.at ≤ late.tuple.at) next later falls.0 in
    let next_low = All-head (λ (event : Event). event.tuple.at ≤ time) next later rest in
    All-cons (λ (event : Event). event.tuple.at ≤ time) first (next ∷ later) (omega (arith, first_low, next_low)) rest

pub low_by_last : (history : List Event) (time : ℕ) → NeverFalls history → last_time history ≡ Some time → All (λ (event : Event). event.tuple.at ≤ time) history
low_by_last [] time falls e = All-nil (λ (event : Event). event.tuple.at ≤ time)
low_by_last (first ∷ later) time falls e = low_from first later time falls e

-- the last time is that of the last event
pub last_is : (history : List Heard) (heard : Heard) → slice_get history (length history - 1) ≡ Some heard → last_at history ≡ Some heard.tuple.at
last_is [] heard e = cc
last_is (first ∷ []) heard e = let same : first ≡ heard = cc in ap (λ (h : Heard). Some h.tuple.at) same
last_is (first ∷ next ∷ later) heard e = last_is (next ∷ later) heard (subst (λ (n : ℕ). slice_get (first ∷ next ∷ later) n ≡ Some heard) (place_of (length later)) e)
  where
    place_of : (n : ℕ) → suc (suc n) - 1 ≡ suc (suc n - 1)
    place_of n = omega arith

-- there is none where there is no event
pub last_none : (history : List Heard) → slice_get history (length history - 1) ≡ None → last_at history ≡ None
last_none [] e = refl
last_none (first ∷ []) e = cc
last_none (first ∷ next ∷ later) e = last_none (next ∷ later) (subst (λ (n : ℕ). slice_get (first ∷ next ∷ later) n ≡ None) (place_of (length later)) e)
  where
    place_of : (n : ℕ) → suc (suc n) - 1 ≡ suc (suc n - 1)
    place_of n = omega arith

-- no time where there is no event
none_last : (history : List Event) → last_time history ≡ None → history ≡ []
none_last [] e = refl
none_last (event ∷ []) e = cc
none_last (event ∷ next ∷ later) e = let rest = none_last (next ∷ later) e in absurd (cc)

-- what holds of the events of lines holds of the lines
pub all_lines : (at : ℕ) (lines : List Heard) → All (λ (event : Event). event.tuple.at ≤ at) (events_of lines) → All (λ (line : Heard). line.tuple.at ≤ at) lines
all_lines at [] all = All-nil (λ (line : Heard). line.tuple.at ≤ at)
all_lines at (line ∷ lines) all =
    All-cons (λ (line : Heard). line.tuple.at ≤ at) line lines (All-head (λ (event : Event). event.tuple.at ≤ at) (event_of line) (events_of lines) all)
    (all_lines at lines (All-tail (λ (event : Event). event.tuple.at ≤ at) (event_of line) (events_of lines) all))

-- an event that isn't before the last one is before none
pub not_before : (history : List Heard) (at : ℕ) → AreInOrder history → ((last : ℕ) → last_at history ≡ Some last → last ≤ at) → All (λ (line : Heard). line.tuple.at ≤ at) history
not_before history at falls not_late = all_lines at history (by_last (last_at history) refl)
  where
    by_last : (o : Option ℕ) → last_at history ≡ o → All (λ (event : Event). event.tuple.at ≤ at) (events_of history)
    by_last None e = subst (λ events. All (λ (event : Event). event.tuple.at ≤ at) events) (sym (none_last (events_of history) e)) (All-nil (λ (event : Event). event.tuple.at ≤ at))
    by_last (Some last) e =
        let up = not_late last e in
        All-weaker (λ (event : Event). event.tuple.at ≤ last) (λ (event : Event). event.tuple.at ≤ at) (λ event low. omega (arith, low, up)) (events_of history) (low_by_last (events_of history) last falls e)

-- it is no disorder
pub no_disorder : (number : ℕ) (seen : Option ℕ) (at : ℕ) → ((last : ℕ) → seen ≡ Some last → last ≤ at) → disorder number (is_some seen) seen at ≡ None
no_disorder number None at not_late = refl
no_disorder number (Some last) at not_late =
    let up = not_late last refl in
    let early : nat_lt at last ≡ false = grind (arith, nat_tests, up) in
    ap (λ b. cond b (Some (IsOutOfOrder number at last)) None) early

-- and one before the last one is
pub is_disorder : (number : ℕ) (seen : Option ℕ) (last at : ℕ) → seen ≡ Some last → at < last → disorder number (is_some seen) seen at ≡ Some (IsOutOfOrder number at last)
is_disorder number seen last at e less =
    let late : nat_lt at last ≡ true = grind (arith, nat_tests, less) in
    ap (λ o. disorder number (is_some o) o at) e ∙ ap (λ b. cond b (Some (IsOutOfOrder number at last)) None) late
