-- The events of lines have the kinds of their streams.
use Rattle.std.proofs.Common.{◌≡◌, ◌∙◌, sym, ap, subst, refl, Bool, true, false, cond, List, [], ◌∷◌, ◌++◌, map, Result, Ok, Err, ℕ}
use Rattle.std.specs.Option.{option_map}
use Rattle.std.specs.Str.{is_utf8}
use Rattle.std.proofs.lemmas.List.{map-append}
use Rattle.std.proofs.lemmas.List.Elements.{All-append, All-cons, All-nil}
use Rattle.std.proofs.lemmas.Option.{get_or_from_slice_get, slice_get-map}
use Rattle.semantics.specs.Histories.{Event}
use Rattle.semantics.specs.Kinds.{HasKinds}
use Rattle.semantics.specs.TypedPrograms.{HaveTheirKinds}
use Rattle.stream_schema.specs.Schema.{kinds_of}
use Rattle.stream_schema.specs.Streams.{Entry, schemas_of}
use Rattle.event_csv.specs.Control.{is_control}
use Rattle.event_csv.specs.Event.{event}
use Rattle.event_csv.specs.Lines.{Line, is_long, lines}
use Rattle.event_csv.specs.declared.event.Seen.{Seen}
use Rattle.event_csv.specs.declared.fault.LineFault.{LineFault}
use Rattle.event_csv.specs.declared.fault.LineFault.TheVariants.{LineTooLong, NotUtf8}
use Rattle.cel_types.specs.SourceLaws.{kinds_in}
use Rattle.derivations.specs.HeardLines.{event_of, events_of}
use Rattle.derivations.specs.declared.history.Heard.{Heard}
use Rattle.courses.specs.declared.fault.ControlFault.TheVariants.{NotHere}
use Rattle.courses.specs.ControlLines.{EntryFault, OfControl, OfLine}
use Rattle.courses.specs.EventLines.{control_here, found_here, found_of, reading_here, readings_here}
use Rattle.courses.specs.Fits.{Fits}
use Rattle.courses.proofs.FitsLemmas.{event_fits}
use Rattle.explanation.specs.HeardLines.{numbered_at, numbered_events}

module _ (streams : List Entry) where
  abbrev HasItsKinds : Event → Type 0
  HasItsKinds event = HasKinds (kinds_in streams event.stream) event.tuple

  -- an event that fits its stream has its kinds
  fits_kinds : (seen : Seen) → Fits streams seen → HasKinds (kinds_in streams seen.stream) seen.tuple
  fits_kinds seen fits =
      let kinds : kinds_in streams seen.stream ≡ kinds_of fits.entry.schema =
      ap kinds_of (get_or_from_slice_get (schemas_of streams) seen.stream fits.entry.schema [] (slice_get-map (λ (entry : Entry). entry.schema) streams seen.stream ∙ ap (option_map (λ (entry : Entry). entry.schema)) fits.there)) in
      subst (λ kinds. HasKinds kinds seen.tuple) (sym kinds) fits.kinds

  -- the event of a line
  line_kinds : (number : ℕ) (bytes : List ℕ) → HaveTheirKinds (kinds_in streams) (events_of (numbered_at number (found_here streams bytes)))
  line_kinds number bytes = by_length (is_long bytes)
    where
      by_event : (found : Result Seen LineFault) → event streams bytes ≡ found → HaveTheirKinds (kinds_in streams) (events_of (numbered_at number (found_of found)))
      by_event (Ok seen) e = All-cons HasItsKinds (record { stream = seen.stream; tuple = seen.tuple }) [] (fits_kinds seen (event_fits streams bytes seen e)) (All-nil HasItsKinds)
      by_event (Err why) e = All-nil HasItsKinds

      by_text : (b : Bool) → HaveTheirKinds (kinds_in streams) (events_of (numbered_at number (cond b (Err (OfControl NotHere)) (Err (OfLine NotUtf8)))))
      by_text true = All-nil HasItsKinds
      by_text false = All-nil HasItsKinds

      by_control : (b : Bool) → HaveTheirKinds (kinds_in streams) (events_of (numbered_at number (cond b (control_here bytes) (found_of (event streams bytes)))))
      by_control true = by_text (is_utf8 bytes)
      by_control false = by_event (event streams bytes) refl

      by_length : (b : Bool) → HaveTheirKinds (kinds_in streams) (events_of (numbered_at number (cond b (Err (OfLine LineTooLong)) (cond (is_control bytes) (control_here bytes) (found_of (event streams bytes))))))
      by_length true = All-nil HasItsKinds
      by_length false = by_control (is_control bytes)

  -- and those of all lines: by induction on them
  lines_kinds : (ls : List Line) → HaveTheirKinds (kinds_in streams) (events_of (numbered_events (map (reading_here streams) ls)))
  lines_kinds [] = All-nil HasItsKinds
  lines_kinds (l ∷ ls) =
      let first = numbered_at l.number (found_here streams l.bytes) in
      let rest = numbered_events (map (reading_here streams) ls) in
      subst (HaveTheirKinds (kinds_in streams)) (sym (map-append event_of first rest)) (All-append HasItsKinds (events_of first) (events_of rest) (line_kinds l.number l.bytes) (lines_kinds ls))

  -- so those of a text that has ended
  pub text_kinds : (text : List ℕ) (history : List Heard) → history ≡ numbered_events (readings_here streams text true) → HaveTheirKinds (kinds_in streams) (events_of history)
  text_kinds text history is = subst (λ (events : List Heard). HaveTheirKinds (kinds_in streams) (events_of events)) (sym is) (lines_kinds (lines text true))
