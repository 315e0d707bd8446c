-- One more event that is heard.
use Rattle.std.proofs.Common.{◌≡◌, ◌∙◌, sym, ap, ℕ, ◌+◌, ◌<◌, ◌==◌, Bool, true, false, cond, append-nil, get_or, length, take, List, [], ◌∷◌, ◌++◌, arith}
use Rattle.std.proofs.lemmas.List.{length-map, length-take-le, map-append, take_more}
use Rattle.semantics.specs.Histories.{Event}
use Rattle.derivations.specs.Derivation as the
use Rattle.derivations.specs.DerivedPrograms.{derived_heard, heard_one}
use Rattle.derivations.specs.DerivedTuples.{DerivedTuple}
use Rattle.derivations.specs.HeardLines.{event_of, events_of}
use Rattle.derivations.specs.declared.history.Heard.{Heard}

-- one more event stands last
pub derived_heard-push : (place : ℕ) (history : List Event) (event : Event) (stream : ℕ)
    → derived_heard place (history ++ event ∷ []) stream ≡ derived_heard place history stream ++ heard_one (place + length history) event stream
derived_heard-push place [] event stream = let sum : place ≡ place + 0 = omega arith in append-nil (heard_one place event stream) ∙ ap (λ n. heard_one n event stream) sum
derived_heard-push place (first ∷ later) event stream =
    let sum : place + 1 + length later ≡ place + length (first ∷ later) = omega arith in
    go (first.stream == stream) (derived_heard-push (place + 1) later event stream ∙ ap (λ n. derived_heard (place + 1) later stream ++ heard_one n event stream) sum)
  where
    one : DerivedTuple
    one = record { tuple = first.tuple; by = the.Event place }

    rest : List DerivedTuple
    rest = derived_heard (place + 1) later stream

    more : List DerivedTuple
    more = derived_heard (place + 1) (later ++ event ∷ []) stream

    go : (b : Bool) → more ≡ rest ++ heard_one (place + length (first ∷ later)) event stream → cond b (one ∷ []) [] ++ more ≡ (cond b (one ∷ []) [] ++ rest) ++ heard_one (place + length (first ∷ later)) event stream
    go true same = ap (λ xs. one ∷ xs) same
    go false same = same

-- one more line is heard
pub heard_step : (history : List Heard) (index stream : ℕ) (item : Heard) (found more : List DerivedTuple) → index < length history → item ≡ get_or history index item
    → found ≡ derived_heard 1 (events_of (take index history)) stream → more ≡ found ++ heard_one (index + 1) (event_of item) stream → more ≡ derived_heard 1 (events_of (take (index + 1) history)) stream
heard_step history index stream item found more lt is so longer =
    longer ∙ ap (λ xs. xs ++ heard_one (index + 1) (event_of item) stream) so
    ∙ ap (λ n. derived_heard 1 (events_of (take index history)) stream ++ heard_one n (event_of item) stream) place
    ∙ sym (derived_heard-push 1 (events_of (take index history)) (event_of item) stream)
    ∙ ap (λ events. derived_heard 1 events stream) (sym (ap events_of (taken_more history index item lt is) ∙ map-append event_of (take index history) (item ∷ [])))
  where
    taken_more : (xs : List Heard) (i : ℕ) (x : Heard) → i < length xs → x ≡ get_or xs i x → take (i + 1) xs ≡ take i xs ++ x ∷ []
    taken_more xs i x below at = take_more xs i x below ∙ ap (λ y. take i xs ++ y ∷ []) (sym at)

    place : index + 1 ≡ 1 + length (events_of (take index history))
    place = let long = length_events (take index history) in let taken : length (take index history) ≡ index = length-take-le index history (omega (arith, lt)) in omega (arith, long, taken)
      where
        length_events : (xs : List Heard) → length (events_of xs) ≡ length xs
        length_events xs = length-map xs event_of
