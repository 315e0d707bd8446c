-- An event that was read is sound and has the kinds of its stream, which is a declared one.
use Rattle.std.proofs.Common.{◌≡◌, ◌∙◌, sym, ap, refl, subst, ℕ, ℤ, ◌+◌, ◌≤◌, ◌==◌, nat_lt, Bool, true, false, cond, List, [], ◌∷◌, Option, Some, None, Result, Ok, Err, length, unwrap_or, slice_get, arith}
use Rattle.std.specs.Option.{option_map}
use Rattle.std.specs.Str.{is_utf8}
use Rattle.std.proofs.lemmas.Bool.{eqb-true, ltb-false}
use Rattle.event_types.specs.Tuple.{IsSound}
use Rattle.event_types.specs.declared.kind.Kind.{Kind}
use Rattle.event_types.specs.declared.kind.Kind.TheVariants as kind
use Rattle.event_types.specs.declared.value.Value.{Value}
use Rattle.event_types.specs.declared.value.Value.TheVariants as value
use Rattle.semantics.specs.Kinds.{ValuesHaveKinds, HasKinds, ValueHasKind}
use Rattle.stream_schema.specs.Schema.{kinds_of}
use Rattle.stream_schema.specs.Streams.{Entry, number_of}
use Rattle.event_csv.specs.declared.event.Seen.{Seen}
use Rattle.event_csv.specs.declared.fault.LineFault.{LineFault}
use Rattle.event_csv.specs.declared.fault.LineFault.TheVariants as fault
use Rattle.event_csv.specs.Decimals.{units_of}
use Rattle.event_csv.specs.Event.{Span, event, no_value, span_at, span_from, value_of, value_before, values_of, event_with, event_of, span_of, counted_event, if_declared, declared_stream, known_event, record_event}
use Rattle.event_csv.specs.Fields.{line_fields}
use Rattle.event_csv.specs.Lines.{is_empty, is_long}
use Rattle.event_csv.specs.Numbers.{int_of, time_of}
use Rattle.courses.specs.Fits.{Fits}

-- the value of a field is of the field's kind
value_is : (k : Kind) (field : List ℕ) (v : Value) → value_of k field ≡ Some v → ValueHasKind k v
value_is kind.Int field v e = by_number (int_of field) e
  where
    by_number : (o : Option ℤ) → option_map value.Int o ≡ Some v → ValueHasKind kind.Int v
    by_number None e = cc
    by_number (Some n) e = let same : value.Int n ≡ v = cc in subst (ValueHasKind kind.Int) same refl
value_is (kind.Dec places) field v e = by_units (units_of places field) e
  where
    by_units : (o : Option ℤ) → option_map (value.Dec places) o ≡ Some v → ValueHasKind (kind.Dec places) v
    by_units None e = cc
    by_units (Some n) e = let same : value.Dec places n ≡ v = cc in subst (ValueHasKind (kind.Dec places)) same refl
value_is kind.Text field v e = let same : value.Text field ≡ v = cc in subst (ValueHasKind kind.Text) same refl

one_more : (none : LineFault) (k : Kind) (kinds : List Kind) (o : Option Value) (more : Result (List Value) LineFault) (vals : List Value)
    → ((v : Value) → o ≡ Some v → ValueHasKind k v) → ((rest : List Value) → more ≡ Ok rest → ValuesHaveKinds kinds rest) → value_before none o more ≡ Ok vals → ValuesHaveKinds (k ∷ kinds) vals
one_more none k kinds None more vals is ih e = cc
one_more none k kinds (Some v) (Err why) vals is ih e = cc
one_more none k kinds (Some v) (Ok rest) vals is ih e =
    let whole : v ∷ rest ≡ vals = cc in subst (ValuesHaveKinds (k ∷ kinds)) whole (is v refl, ih rest refl)

-- the values of as many fields as there are kinds are of these kinds, by induction on the kinds
values_are : (number : ℕ) (kinds : List Kind) (fields : List (List ℕ)) (vals : List Value) → length fields ≡ length kinds → values_of number kinds fields ≡ Ok vals → ValuesHaveKinds kinds vals
values_are number [] fields vals same e = let v : [] ≡ vals = cc in subst (ValuesHaveKinds []) v tt
values_are number (k ∷ kinds) [] vals same e = absurd (omega (arith, same))
values_are number (k ∷ kinds) (field ∷ fields) vals same e =
    let left : length fields ≡ length kinds = omega (arith, same) in
    one_more (no_value k number) k kinds (value_of k field) (values_of (number + 1) kinds fields) vals (value_is k field) (λ rest m. values_are (number + 1) kinds fields rest left m) e

seen_in : Result Seen LineFault → Seen → Seen
seen_in (Ok seen) other = seen
seen_in (Err why) other = other

same_seen : (x y : Seen) → ◌≡◌ {A = Result Seen LineFault} (Ok x) (Ok y) → x ≡ y
unfolding seen_in
same_seen x y e = ap (λ (r : Result Seen LineFault). seen_in r y) e

-- the stream of the number is declared, and of these kinds
record IsDeclaredAt (streams : List Entry) (number : ℕ) (kinds : List Kind) : Type 0 where
  entry : Entry
  there : slice_get streams number ≡ Some entry
  declared : entry.declared ≡ true
  same : kinds_of entry.schema ≡ kinds

declared_is : (streams : List Entry) (o : Option ℕ) (number : ℕ) (kinds : List Kind) → declared_stream streams o ≡ Some (number, kinds) → IsDeclaredAt streams number kinds
declared_is streams None number kinds e = cc
declared_is streams (Some place) number kinds e = by_entry (slice_get streams place) refl e
  where
    by_entry : (o : Option Entry) → slice_get streams place ≡ o → if_declared place o ≡ Some (number, kinds) → IsDeclaredAt streams number kinds
    by_entry None f e = cc
    by_entry (Some entry) f e = by_declared entry.declared refl e
      where
        by_declared : (b : Bool) → entry.declared ≡ b → cond {A = Option (ℕ × List Kind)} b (Some (place, kinds_of entry.schema)) None ≡ Some (number, kinds) → IsDeclaredAt streams number kinds
        by_declared false d e = cc
        by_declared true d e =
            let other : ℕ × List Kind = (number, kinds) in
            let here : place ≡ number = ap (λ (o : Option (ℕ × List Kind)). (unwrap_or o other).0) e in
            record {
              entry = entry;
              there = ap (slice_get streams) (sym here) ∙ f;
              declared = d;
              same = ap (λ (o : Option (ℕ × List Kind)). (unwrap_or o other).1) e;
            }

-- a span starts no later than it ends
span_sound : (start detection : Option ℕ) (span : Span) → span_at start detection ≡ Ok span → span.0 ≤ span.1
span_sound start None span e = cc
span_sound None (Some at) span e = let same : (at, at) ≡ span = cc in subst (λ (s : Span). s.0 ≤ s.1) same (omega arith)
span_sound (Some from) (Some at) span e = by_test (nat_lt at from) refl e
  where
    by_test : (b : Bool) → nat_lt at from ≡ b → cond {A = Result Span LineFault} b (Err fault.StartAfterDetection) (Ok (from, at)) ≡ Ok span → span.0 ≤ span.1
    by_test true f e = cc
    by_test false f e = let same : (from, at) ≡ span = cc in subst (λ (s : Span). s.0 ≤ s.1) same (ltb-false at from f)

span_sound_of : (start detection : List ℕ) (span : Span) → span_of start detection ≡ Ok span → span.0 ≤ span.1
span_sound_of start detection span e = by_test (is_empty start) (time_of start) e
  where
    by_test : (b : Bool) (o : Option ℕ) → cond b (span_at None (time_of detection)) (span_from o (time_of detection)) ≡ Ok span → span.0 ≤ span.1
    by_test true o e = span_sound None (time_of detection) span e
    by_test false None e = cc
    by_test false (Some from) e = span_sound (Some from) (time_of detection) span e

-- the event of a stream has its number and its kinds
counted_kinds : (number : ℕ) (kinds : List Kind) (fields : List (List ℕ)) (seen : Seen) → counted_event number kinds fields ≡ Ok seen
    → (seen.stream ≡ number) × HasKinds kinds seen.tuple × IsSound seen.tuple
counted_kinds number kinds fields seen e = by_count (length fields + 1 == length kinds + 3) refl e
  where
    by_count : (b : Bool) → (length fields + 1 == length kinds + 3) ≡ b → cond b (event_of number kinds fields) (Err (fault.FieldCount (length kinds + 3) (length fields + 1))) ≡ Ok seen
        → (seen.stream ≡ number) × HasKinds kinds seen.tuple × IsSound seen.tuple
    by_count false f e = cc
    by_count true f e = by_fields fields (eqb-true _ _ f) e
      where
        by_fields : (fields : List (List ℕ)) → length fields + 1 ≡ length kinds + 3 → event_of number kinds fields ≡ Ok seen → (seen.stream ≡ number) × HasKinds kinds seen.tuple × IsSound seen.tuple
        by_fields [] f e = cc
        by_fields (start ∷ []) f e = cc
        by_fields (start ∷ detection ∷ rest) f e = by_parts (span_of start detection) (values_of 4 kinds rest) refl refl e
          where
            by_parts : (span : Result Span LineFault) (values : Result (List Value) LineFault) → span_of start detection ≡ span → values_of 4 kinds rest ≡ values → event_with number span values ≡ Ok seen → (seen.stream ≡ number) × HasKinds kinds seen.tuple × IsSound seen.tuple
            by_parts (Err why) values sp m e = cc
            by_parts (Ok span) (Err why) sp m e = cc
            by_parts (Ok span) (Ok vals) sp m e =
                let same = same_seen (record { stream = number; tuple = record { vals = vals; from = span.0; at = span.1 } }) seen e in
                (sym (ap (λ s. s.stream) same), subst (λ s. HasKinds kinds s.tuple) same (values_are 4 kinds rest vals (omega (arith, f)) m), subst (λ (s : Seen). IsSound s.tuple) same (span_sound_of start detection span sp))

-- the event of a line
pub event_fits : (streams : List Entry) (line : List ℕ) (seen : Seen) → event streams line ≡ Ok seen → Fits streams seen
event_fits streams line seen e = by_length (is_long line) e
  where
    by_stream : (o : Option (ℕ × List Kind)) (place : Option ℕ) (fields : List (List ℕ)) → declared_stream streams place ≡ o → known_event o fields ≡ Ok seen → Fits streams seen
    by_stream None place fields d e = cc
    by_stream (Some stream) place fields d e =
        let of = counted_kinds stream.0 stream.1 fields seen e in
        let at = declared_is streams place stream.0 stream.1 d in
        record {
          entry = at.entry;
          there = ap (slice_get streams) of.0 ∙ at.there;
          declared = at.declared;
          kinds = subst (λ kinds. HasKinds kinds seen.tuple) (sym at.same) of.1;
          sound = of.2;
        }

    by_fields : (o : Option (List (List ℕ))) → record_event streams o ≡ Ok seen → Fits streams seen
    by_fields None e = cc
    by_fields (Some []) e = cc
    by_fields (Some (name ∷ fields)) e = by_stream (declared_stream streams (number_of name streams)) (number_of name streams) fields refl e

    by_text : (b : Bool) → cond b (record_event streams (line_fields line)) (Err fault.NotUtf8) ≡ Ok seen → Fits streams seen
    by_text false e = cc
    by_text true e = by_fields (line_fields line) e

    by_length : (b : Bool) → cond b (Err fault.LineTooLong) (cond (is_utf8 line) (record_event streams (line_fields line)) (Err fault.NotUtf8)) ≡ Ok seen → Fits streams seen
    by_length true e = cc
    by_length false e = by_text (is_utf8 line) e
