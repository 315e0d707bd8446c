-- Lines that are read as events in order.
use Rattle.std.proofs.Common.{◌≡◌, ◌∙◌, ap, refl, ℕ, ◌≤◌, Bool, true, false, cond, nat_lt, List, [], ◌∷◌, ◌++◌, arith}
use Rattle.std.specs.Prelude.{⊤, Option, Some, None, Result, Ok, Err, is_some, map}
use Rattle.std.specs.List.{All, flat_map}
use Rattle.std.specs.Option.{option_or}
use Rattle.std.proofs.lemmas.Bool.Decides.{nat_tests}
use Rattle.std.proofs.lemmas.List.Elements.{All-cons, All-nil, All-weaker}
use Rattle.semantics.specs.Histories.{Event}
use Rattle.semantics.specs.Laws.{NeverFalls}
use Rattle.courses.specs.declared.refusal.Refusal.{Refusal}
use Rattle.courses.specs.declared.refusal.Refusal.TheVariants.{IsOutOfOrder}
use Rattle.courses.specs.ControlLines.{EntryFault, OfControl, OfLine}
use Rattle.courses.specs.EventLines.{Reading, events_in, heard_from, last_after, refusal_of, refused_from}

-- what was found on a line
abbrev pub Found : Type 0
Found = Result Event EntryFault

-- not before a time, if one was seen
abbrev pub NotBefore : Option ℕ → ℕ → Type 0
NotBefore None at = ⊤
NotBefore (Some seen) at = seen ≤ at

-- each is an event, and none is detected before the one before it
abbrev pub InOrder : Option ℕ → List Found → Type 0
InOrder seen [] = ⊤
InOrder seen (Ok event ∷ later) = NotBefore seen event.tuple.at × InOrder (Some event.tuple.at) later
InOrder seen (Err why ∷ later) = ⊥

-- what was found on the lines
abbrev pub founds_in : List Reading → List Found
founds_in text = map (λ (line : Reading). line.found) text

-- the events that were found
abbrev pub events_found : List Found → List Event
events_found founds = flat_map events_in founds

in_time : (seen at : ℕ) → nat_lt at seen ≡ false → seen ≤ at
in_time seen at e = grind (arith, nat_tests)

not_below : (seen at : ℕ) → seen ≤ at → nat_lt at seen ≡ false
not_below seen at le = grind (arith, nat_tests)

-- one line that isn't refused, before lines that are in order
one_in_order : (number : ℕ) (seen : Option ℕ) (found : Found) (rest : Option Refusal) (later : List Found) → option_or (refusal_of number seen found) rest ≡ None → (rest ≡ None → InOrder (last_after found) later) → InOrder seen (found ∷ later)
one_in_order number seen (Err (OfLine why)) rest later e more = absurd (cc)
one_in_order number seen (Err (OfControl why)) rest later e more = absurd (cc)
one_in_order number None (Ok event) rest later e more = (tt, more e)
one_in_order number (Some time) (Ok event) rest later e more = go (nat_lt event.tuple.at time) refl e
  where
    go : (b : Bool) → nat_lt event.tuple.at time ≡ b → option_or (cond b (Some (IsOutOfOrder number event.tuple.at time)) None) rest ≡ None → (time ≤ event.tuple.at) × InOrder (Some event.tuple.at) later
    go true is e = absurd (cc)
    go false is e = (in_time time event.tuple.at is, more e)

-- lines of which none is refused are in order, by induction on them
pub order_of_heard : (seen : Option ℕ) (text : List Reading) → refused_from seen text ≡ None → InOrder seen (founds_in text)
order_of_heard seen [] e = tt
order_of_heard seen (line ∷ text) e = one_in_order line.number seen line.found (refused_from (last_after line.found) text) (founds_in text) e (order_of_heard (last_after line.found) text)

-- of lines that are in order the first isn't refused
first_stands : (number : ℕ) (seen : Option ℕ) (found : Found) (later : List Found) → InOrder seen (found ∷ later) → refusal_of number seen found ≡ None
first_stands number seen (Err why) later h = absurd h
first_stands number None (Ok event) later h = refl
first_stands number (Some time) (Ok event) later h = ap (λ b. cond b (Some (IsOutOfOrder number event.tuple.at time)) None) (not_below time event.tuple.at h.0)

-- nor are the others
rest_in_order : (seen : Option ℕ) (found : Found) (later : List Found) → InOrder seen (found ∷ later) → InOrder (last_after found) later
rest_in_order seen (Err why) later h = absurd h
rest_in_order seen (Ok event) later h = h.1

-- by induction on the lines
pub none_refused : (seen : Option ℕ) (text : List Reading) → InOrder seen (founds_in text) → refused_from seen text ≡ None
none_refused seen [] h = refl
none_refused seen (line ∷ text) h =
    ap (λ refusal. option_or refusal (refused_from (last_after line.found) text)) (first_stands line.number seen line.found (founds_in text) h)
    ∙ none_refused (last_after line.found) text (rest_in_order seen line.found (founds_in text) h)

-- then all their events are heard, by induction on the lines
pub all_heard : (seen : Option ℕ) (text : List Reading) → InOrder seen (founds_in text) → heard_from seen text ≡ events_found (founds_in text)
all_heard seen [] h = refl
all_heard seen (line ∷ text) h =
    ap (λ refusal. cond (is_some refusal) [] (events_in line.found ++ heard_from (last_after line.found) text)) (first_stands line.number seen line.found (founds_in text) h)
    ∙ ap (λ events. events_in line.found ++ events) (all_heard (last_after line.found) text (rest_in_order seen line.found (founds_in text) h))

-- their detection times never fall, by induction on the lines
record NeverFallsFrom (seen : Option ℕ) (events : List Event) : Type 0 where
  pub behind : All (λ event. NotBefore seen event.tuple.at) events
  pub never_falls : NeverFalls events

before_too : (seen : Option ℕ) (time at : ℕ) → NotBefore seen time → time ≤ at → NotBefore seen at
before_too None time at h le = tt
before_too (Some early) time at h le = omega arith

falls_never : (seen : Option ℕ) (founds : List Found) → InOrder seen founds → NeverFallsFrom seen (events_found founds)
falls_never seen [] h = record { behind = All-nil (λ (event : Event). NotBefore seen event.tuple.at); never_falls = tt }
falls_never seen (Err why ∷ later) h = absurd h
falls_never seen (Ok event ∷ later) h =
    let rest = falls_never (Some event.tuple.at) later h.1 in
    record {
      behind =
          All-cons (λ (e : Event). NotBefore seen e.tuple.at) event (events_found later) h.0
          (All-weaker (λ (e : Event). event.tuple.at ≤ e.tuple.at) (λ (e : Event). NotBefore seen e.tuple.at) (λ e le. before_too seen event.tuple.at e.tuple.at h.0 le) (events_found later) rest.behind);
      never_falls = (rest.behind, rest.never_falls);
    }

-- the events of lines that are in order never fall
pub events_never_fall : (seen : Option ℕ) (founds : List Found) → InOrder seen founds → NeverFalls (events_found founds)
events_never_fall seen founds h = (falls_never seen founds h).never_falls

-- an earlier time may have been seen, or none
earlier_seen : (seen : Option ℕ) (time : ℕ) (founds : List Found) → NotBefore seen time → InOrder (Some time) founds → InOrder seen founds
earlier_seen seen time [] le h = tt
earlier_seen seen time (Err why ∷ later) le h = absurd h
earlier_seen seen time (Ok event ∷ later) le h = (before_too seen time event.tuple.at le h.0, h.1)

none_seen : (seen : Option ℕ) (founds : List Found) → InOrder seen founds → InOrder None founds
none_seen None founds h = h
none_seen (Some time) founds h = earlier_seen None time founds tt h

-- the later lines are in order, by induction on the earlier ones
pub order_behind : (seen : Option ℕ) (past later : List Found) → InOrder seen (past ++ later) → InOrder None later
order_behind seen [] later h = none_seen seen later h
order_behind seen (found ∷ past) later h = order_behind (last_after found) past later (rest_in_order seen found (past ++ later) h)

-- so are lines without one of them
pub kept_more : (seen : Option ℕ) (found : Found) (later kept : List Found) → InOrder seen (found ∷ later) → ((seen : Option ℕ) → InOrder seen later → InOrder seen kept) → InOrder seen (found ∷ kept) × InOrder seen kept
kept_more seen (Err why) later kept h more = absurd h
kept_more seen (Ok event) later kept h more = let rest = more (Some event.tuple.at) h.1 in ((h.0, rest), earlier_seen seen event.tuple.at kept h.0 rest)
