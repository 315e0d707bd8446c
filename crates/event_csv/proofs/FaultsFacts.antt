-- The first fault of a line by the table is the one that is met field by field.
use Rattle.std.proofs.Common.{◌≡◌, ◌∙◌, ℕ, ◌+◌, ◌==◌, Bool, true, false, not, cond, List, [], ◌∷◌, length, drop, Option, Some, None, Result, Ok, Err, refl, sym, ap, arith}
use Rattle.std.specs.Prelude.{◌||◌, is_some, nat_lt, unwrap_or}
use Rattle.std.specs.List.{cons_option}
use Rattle.std.specs.Str.{is_utf8}
use Rattle.std.proofs.lemmas.Bool.{eqb-true}
use Rattle.std.proofs.lemmas.Bool.Decides.{nat_tests}
use Rattle.event_types.specs.declared.kind.Kind.{Kind}
use Rattle.event_types.specs.declared.value.Value.{Value}
use Rattle.stream_schema.specs.Streams.{Entry, number_of}
use Rattle.event_csv.specs.Event.{counted_event, declared_stream, event_of, event_with, event, known_event, no_value, record_event, span_at, span_from, value_before, value_of, values_of}
use Rattle.event_csv.specs.Faults.{LinesHaveTheirFirstFault, Row, detection_of, field, faults, fields_of, first_fault, kinds_in, seen_of, start_of, stream_of, value_faults, values}
use Rattle.event_csv.specs.Fields.{line_fields}
use Rattle.event_csv.specs.Lines.{is_empty, is_long}
use Rattle.event_csv.specs.Numbers.{time_of}
use Rattle.event_csv.specs.declared.event.Seen.{Seen}
use Rattle.event_csv.specs.declared.fault.LineFault.{LineFault}
use Rattle.event_csv.specs.declared.fault.LineFault.TheVariants as fault

-- the event that values make, or their fault
abbrev with_values : (List Value → Seen) → Result (List Value) LineFault → Result Seen LineFault
with_values make (Ok vals) = Ok (make vals)
with_values make (Err f) = Err f

-- the values, by induction on the kinds
value_faults-first : (number : ℕ) (kinds : List Kind) (fields : List (List ℕ)) (make : List Value → Seen) → first_fault (value_faults number kinds fields) (make (values kinds fields)) ≡ with_values make (values_of number kinds fields)
value_faults-first number [] fields make = refl
value_faults-first number (k ∷ kinds) [] make = refl
value_faults-first number (k ∷ kinds) (text ∷ fields) make = by (value_of k text) (λ other. value_faults-first (number + 1) kinds fields other)
  where
    behind : (v : Value) (r : Result (List Value) LineFault) → with_values (λ vals. make (v ∷ vals)) r ≡ with_values make (value_before (no_value k number) (Some v) r)
    behind v (Ok vals) = refl
    behind v (Err f) = refl

    by : (o : Option Value) → ((other : List Value → Seen) → first_fault (value_faults (number + 1) kinds fields) (other (values kinds fields)) ≡ with_values other (values_of (number + 1) kinds fields))
        → first_fault ((not (is_some o), no_value k number) ∷ value_faults (number + 1) kinds fields) (make (cons_option o (values kinds fields))) ≡ with_values make (value_before (no_value k number) o (values_of (number + 1) kinds fields))
    by None behind_it = refl
    by (Some v) behind_it = behind_it (λ vals. make (v ∷ vals)) ∙ behind v (values_of (number + 1) kinds fields)

-- the rows of the table behind those of the bytes
abbrev field_faults : Option (ℕ × List Kind) → List (List ℕ) → List Row
field_faults stream fields =
    (not (is_some stream), fault.UnknownStream)
    ∷ (not (length fields == length (kinds_in stream) + 3), fault.FieldCount (length (kinds_in stream) + 3) (length fields))
    ∷ (not (is_empty (field fields 2) || is_some (time_of (field fields 2))), fault.BadTime 2)
    ∷ (not (is_some (time_of (field fields 3))), fault.BadTime 3)
    ∷ (nat_lt (detection_of fields) (start_of fields), fault.StartAfterDetection)
    ∷ value_faults 4 (kinds_in stream) (drop 3 fields)

module _ (number : ℕ) (kinds : List Kind) where
  -- the event of two times and these values
  abbrev seen_with : ℕ → ℕ → List Value → Seen
  seen_with from at vals = record { stream = number; tuple = record { vals = vals; from = from; at = at } }

  module _ (more : List (List ℕ)) where
    values-first : (from at : ℕ) → first_fault (value_faults 4 kinds more) (seen_with from at (values kinds more)) ≡ event_with number (Ok (from, at)) (values_of 4 kinds more)
    values-first from at = value_faults-first 4 kinds more (seen_with from at) ∙ as_event (values_of 4 kinds more)
      where
        as_event : (r : Result (List Value) LineFault) → with_values (seen_with from at) r ≡ event_with number (Ok (from, at)) r
        as_event (Ok vals) = refl
        as_event (Err f) = refl

    order-first : (from at : ℕ) (b : Bool) → cond b (Err fault.StartAfterDetection) (first_fault (value_faults 4 kinds more) (seen_with from at (values kinds more)))
        ≡ event_with number (cond b (Err fault.StartAfterDetection) (Ok (from, at))) (values_of 4 kinds more)
    order-first from at true = refl
    order-first from at false = values-first from at

    -- by whether the start is empty, and by the times
    times-first : (empty : Bool) (start detection : Option ℕ)
        → first_fault ((not (empty || is_some start), fault.BadTime 2) ∷ (not (is_some detection), fault.BadTime 3)
        ∷ (nat_lt (unwrap_or detection 0) (cond empty (unwrap_or detection 0) (unwrap_or start 0)), fault.StartAfterDetection) ∷ value_faults 4 kinds more)
        (seen_with (cond empty (unwrap_or detection 0) (unwrap_or start 0)) (unwrap_or detection 0) (values kinds more))
        ≡ event_with number (cond empty (span_at None detection) (span_from start detection)) (values_of 4 kinds more)
    times-first true start None = refl
    times-first true start (Some at) =
        let same : nat_lt at at ≡ false = grind (arith, nat_tests) in
        ap (λ (b : Bool). cond b (Err fault.StartAfterDetection) (first_fault (value_faults 4 kinds more) (seen_with at at (values kinds more)))) same ∙ values-first at at
    times-first false None detection = refl
    times-first false (Some from) None = refl
    times-first false (Some from) (Some at) = order-first from at (nat_lt at from)

  module _ (name : List ℕ) where
    -- the rows behind the number of fields
    abbrev behind_count : List (List ℕ) → Result Seen LineFault
    behind_count fields = first_fault (drop 2 (field_faults (Some (number, kinds)) (name ∷ fields))) (seen_of (Some (number, kinds)) (name ∷ fields))

    shape-first : (fields : List (List ℕ)) → length fields + 1 ≡ length kinds + 3 → behind_count fields ≡ event_of number kinds fields
    shape-first [] same = absurd (omega (arith, same))
    shape-first (start ∷ []) same = absurd (omega (arith, same))
    shape-first (start ∷ detection ∷ more) same = times-first more (is_empty start) (time_of start) (time_of detection)

    count-first : (fields : List (List ℕ)) (b : Bool) → (length fields + 1 == length kinds + 3) ≡ b
        → cond (not b) (Err (fault.FieldCount (length kinds + 3) (length fields + 1))) (behind_count fields) ≡ cond b (event_of number kinds fields) (Err (fault.FieldCount (length kinds + 3) (length fields + 1)))
    count-first fields true same = shape-first fields (eqb-true _ _ same)
    count-first fields false other = refl

    fields-first : (fields : List (List ℕ)) → first_fault (field_faults (Some (number, kinds)) (name ∷ fields)) (seen_of (Some (number, kinds)) (name ∷ fields)) ≡ counted_event number kinds fields
    fields-first fields =
        let size : length (name ∷ fields) ≡ length fields + 1 = omega arith in
        ap (λ (n : ℕ). cond (not (n == length kinds + 3)) (Err (fault.FieldCount (length kinds + 3) n)) (behind_count fields)) size
        ∙ count-first fields (length fields + 1 == length kinds + 3) refl

-- a stream that may be unknown
known-first : (stream : Option (ℕ × List Kind)) (name : List ℕ) (fields : List (List ℕ)) → first_fault (field_faults stream (name ∷ fields)) (seen_of stream (name ∷ fields)) ≡ known_event stream fields
known-first None name fields = refl
known-first (Some stream) name fields = fields-first stream.0 stream.1 name fields

-- a line that may have no record
record-first : (streams : List Entry) (o : Option (List (List ℕ))) → first_fault (field_faults (stream_of streams (unwrap_or o [])) (unwrap_or o [])) (seen_of (stream_of streams (unwrap_or o [])) (unwrap_or o [])) ≡ record_event streams o
record-first streams None = refl
record-first streams (Some []) = refl
record-first streams (Some (name ∷ fields)) = known-first (declared_stream streams (number_of name streams)) name fields

-- a line
by_table : (streams : List Entry) (line : List ℕ) → first_fault (faults streams line) (seen_of (stream_of streams (fields_of line)) (fields_of line)) ≡ event streams line
by_table streams line = by (is_long line) (is_utf8 line)
  where
    by : (long utf8 : Bool) → first_fault ((long, fault.LineTooLong) ∷ (not utf8, fault.NotUtf8) ∷ field_faults (stream_of streams (fields_of line)) (fields_of line)) (seen_of (stream_of streams (fields_of line)) (fields_of line))
        ≡ cond long (Err fault.LineTooLong) (cond utf8 (record_event streams (line_fields line)) (Err fault.NotUtf8))
    by true utf8 = refl
    by false true = record-first streams (line_fields line)
    by false false = refl

-- each line that has no event has its first fault
pub event-first_fault : LinesHaveTheirFirstFault
event-first_fault streams line = sym (by_table streams line)
