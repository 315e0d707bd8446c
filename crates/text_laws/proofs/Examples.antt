-- Examples that need the premises on texts, each worked out by hand. No contract cites them.
use Rattle.std.proofs.Common.{◌≡◌, refl, ℕ, false, true, List, [], ◌∷◌}
use Rattle.std.specs.Prelude.{Err, None, Ok, Some, codes}
use Rattle.semantics.specs.Histories.{times}
use Rattle.stream_schema.specs.Streams.{Entry}
use Rattle.event_csv.specs.Event.{fields_event}
use Rattle.event_csv.specs.declared.fault.LineFault.TheVariants as fault
use Rattle.courses.specs.declared.refusal.Refusal.TheVariants.{IsOutOfOrder}
use Rattle.courses.specs.ControlLines.{OfLine}
use Rattle.courses.specs.EventLines.{Reading, closed}
use Rattle.courses.specs.Heard.{disorder}

-- an event line that is detected at a time, and one with a fault
abbrev detected : ℕ → ℕ → Reading
detected number time = record { number = number; found = Ok (record { stream = 0; tuple = record { vals = []; from = time; at = time } }) }

abbrev faulty : ℕ → Reading
faulty number = record { number = number; found = Err (OfLine fault.UnknownStream) }

-- a refused line closes nothing: where it stands behind the event of 2, the epoch of 1 is closed, and where it stands between the two, none is
fault_at_the_end : times (closed (detected 1 1 ∷ detected 2 2 ∷ faulty 3 ∷ []) true) ≡ 1 ∷ []
fault_at_the_end = refl

fault_between : times (closed (detected 1 1 ∷ faulty 2 ∷ detected 3 2 ∷ []) true) ≡ []
fault_between = refl

-- where the event of 5 has another key, the line of 3 behind it is refused in the whole, which has closed 1 alone; a part that lacks that event hears it, and closes 1 and 3
refused_in_whole : times (closed (detected 1 1 ∷ detected 2 5 ∷ detected 3 3 ∷ []) true) ≡ 1 ∷ []
refused_in_whole = refl

heard_in_part : times (closed (detected 1 1 ∷ detected 2 3 ∷ []) true) ≡ 1 ∷ 3 ∷ []
heard_in_part = refl

-- a declared stream without attributes
abbrev stream : List ℕ → Entry
stream name = record { name = name; schema = []; declared = true }

-- a part without the declaration of T refuses the event of T, which the whole hears
whole_hears : fields_event (stream (codes "S") ∷ stream (codes "T") ∷ []) (codes "T" ∷ [] ∷ codes "1" ∷ []) ≡ Ok (record { stream = 1; tuple = record { vals = []; from = 1; at = 1 } })
whole_hears = refl

part_refuses : fields_event (stream (codes "S") ∷ []) (codes "T" ∷ [] ∷ codes "1" ∷ []) ≡ Err fault.UnknownStream
part_refuses = refl

-- behind a control line an event of the same detection time is refused, which is heard behind an event; so lines of one time that change places with a control line change what is heard
refused_behind_control : disorder 3 false (Some 1) 1 ≡ Some (IsOutOfOrder 3 1 1)
refused_behind_control = refl

heard_behind_event : disorder 3 true (Some 1) 1 ≡ None
heard_behind_event = refl
