-- One more line of a history.
use Rattle.std.proofs.Common.{◌≡◌, ◌≤◌, sym, subst, List, [], ◌∷◌, ◌++◌}
use Rattle.std.specs.Prelude.{OnErr, OnOk, Result, Ok, Err}
use Rattle.std.specs.List.{All}
use Rattle.std.proofs.lemmas.List.Elements.{All-cons, All-head, All-nil, All-tail}
use Rattle.event_types.specs.Tuple.{IsSound}
use Rattle.semantics.specs.Histories.{Event}
use Rattle.derivations.specs.HeardLines.{AreInOrder, AreSoundLines, IsNotBefore, event_of, events_of}
use Rattle.derivations.specs.declared.history.Heard.{Heard}

-- an event that isn't before the others stands behind them in order: by induction on these
pub in_order-push : (lines : List Heard) (heard : Heard) → IsNotBefore lines heard → AreInOrder lines → AreInOrder (lines ++ heard ∷ [])
in_order-push [] heard after up = (All-nil (λ (late : Event). heard.tuple.at ≤ late.tuple.at), tt)
in_order-push (first ∷ lines) heard after up =
    (last lines (All-head (λ earlier. earlier.tuple.at ≤ heard.tuple.at) first lines after) up.0, in_order-push lines heard (All-tail (λ earlier. earlier.tuple.at ≤ heard.tuple.at) first lines after) up.1)
  where
    last : (rest : List Heard) → first.tuple.at ≤ heard.tuple.at → All (λ late. first.tuple.at ≤ late.tuple.at) (events_of rest) → All (λ late. first.tuple.at ≤ late.tuple.at) (events_of (rest ++ heard ∷ []))
    last [] le all = All-cons (λ late. first.tuple.at ≤ late.tuple.at) (event_of heard) [] le all
    last (next ∷ rest) le all =
        All-cons (λ late. first.tuple.at ≤ late.tuple.at) (event_of next) (events_of (rest ++ heard ∷ [])) (All-head (λ late. first.tuple.at ≤ late.tuple.at) (event_of next) (events_of rest) all)
        (last rest le (All-tail (λ late. first.tuple.at ≤ late.tuple.at) (event_of next) (events_of rest) all))

-- an event that is sound stands behind others that are: by induction on these
pub sound-push : (lines : List Heard) (heard : Heard) → IsSound heard.tuple → AreSoundLines lines → AreSoundLines (lines ++ heard ∷ [])
sound-push [] heard sound all = All-cons (λ (event : Event). IsSound event.tuple) (event_of heard) [] sound all
sound-push (first ∷ lines) heard sound all =
    All-cons (λ (event : Event). IsSound event.tuple) (event_of first) (events_of (lines ++ heard ∷ [])) (All-head (λ (event : Event). IsSound event.tuple) (event_of first) (events_of lines) all)
    (sound-push lines heard sound (All-tail (λ (event : Event). IsSound event.tuple) (event_of first) (events_of lines) all))

-- the lines after one that was pushed, or that was handed back
pub pushed_in_order : {A B : Type 0} (lines : List Heard) (heard : Heard) (result : Result A B) (after : List Heard) → IsNotBefore lines heard → IsSound heard.tuple → AreInOrder lines × AreSoundLines lines
    → OnOk result (after ≡ lines ++ heard ∷ []) → OnErr result (after ≡ lines) → AreInOrder after × AreSoundLines after
pushed_in_order lines heard (Ok done) after is sound so longer kept =
    subst (λ (all : List Heard). AreInOrder all × AreSoundLines all) (sym longer) (in_order-push lines heard is so.0, sound-push lines heard sound so.1)
pushed_in_order lines heard (Err back) after is sound so longer kept = subst (λ (all : List Heard). AreInOrder all × AreSoundLines all) (sym kept) so
