-- Fields at the front of a text, by the bytes that they end before.
use Rattle.std.proofs.Common.{◌≡◌, ◌∙◌, ℕ, zero, suc, ◌+◌, ◌*◌, ◌-◌, ◌<◌, ◌≤◌, Bool, true, false, List, [], ◌∷◌, ◌++◌, length, take, drop, get_or, refl, subst, sym, ap, arith, add-one, cond, drop-cons, Bor, IfSome, append-nil, append_assoc, length-append, eq-eqb, ◌^◌, Option, Some, None, Ok, option_map, ltb-true}
use Rattle.std.specs.Prelude.{◌==◌, IsUtf8, neg_ℤ, nat_le, nat_lt, pos, slice_get}
use Rattle.std.specs.Char.{digit_value, is_ascii_digit}
use Rattle.std.specs.List.{list_all}
use Rattle.std.specs.Str.{IsAscii}
use Rattle.std.specs.Str.Parse.{digits_value, digits_value_after}
use Rattle.std.proofs.Math.Seq.{take-length, take-suc}
use Rattle.std.proofs.lemmas.Bool.{le-leb, leb-true, and_parts}
use Rattle.std.proofs.lemmas.Int.{to_z_pos}
use mir.Syntax.{w128}
use mir.Val.{to_z}
use Rattle.std.proofs.lemmas.List.{length-map, length-take-le, take-append-drop}
use Rattle.std.proofs.lemmas.Str.{IsAscii-append, IsUtf8-append, IsUtf8-from_ascii, IsUtf8-nil}
use Rattle.std.proofs.lemmas.List.Folds.{list_all_more}
use Rattle.std.proofs.lemmas.List.Sums.{sum_by-cons}
use Rattle.event_csv.specs.Lines.{is_line_feed}
use Rattle.csv.specs.Machine.{Read, line_feed, next_record, step}
use Rattle.csv.specs.Reading.{strip_bom}
use Rattle.csv.specs.declared.parser.Action.TheVariants as act
use Rattle.csv.specs.declared.parser.State.TheVariants as st
use Rattle.event_csv.specs.Fed.{IsLine, line_feeds_in}
use Rattle.event_csv.specs.Fields.{comma, line_config, line_fields, quote}
use Rattle.event_csv.specs.Event.{Span, declared_stream, event, fields_event, if_declared, span_of, stream_with, values_of, record_event}
use Rattle.event_csv.specs.Numbers.{are_digits, int_of, number_up_to, time_of}
use Rattle.event_types.specs.declared.kind.Kind.{Kind}
use Rattle.event_types.specs.declared.value.Value.{Value}
use Rattle.event_types.specs.declared.value.Value.TheVariants as value
use Rattle.stream_schema.specs.Schema.{Attr, kinds_of}
use Rattle.stream_schema.specs.Streams.{Entry, declared_of, number_of, schemas_of}
use Rattle.event_csv.specs.Quick.{HasDigits, IntFirst, IsFirst, IsPlainEnd, IsRest, IsText, NoQuoteFirst, NumberFirst, SpanFirst, StreamFirst, ValueFirst, WriteAll, is_inner, no_quote, read_left}
use Rattle.event_csv.proofs.EventFacts.{event-text}
use Rattle.event_csv.proofs.PlainLines.{not_either}
use Rattle.event_csv.proofs.ValueFacts.{onto, onto-ok, read-more, values_of-all}
use Rattle.event_csv.proofs.DigitFacts.{digit-at, digit_value-is}
use Rattle.event_types.proofs.NumberLemmas.{is_other}

-- a number that isn't less doesn't pass the test for less
pub ltb-no : (a b : ℕ) → b ≤ a → nat_lt a b ≡ false
ltb-no a b le = by (nat_lt a b) refl
  where
    by : (d : Bool) → nat_lt a b ≡ d → nat_lt a b ≡ false
    by true e = absurd (omega (arith, le, ltb-true a b e))
    by false e = e

-- a digit behind others
after-snoc : (n : ℕ) (s : List ℕ) (b : ℕ) → digits_value_after 10 n (s ++ b ∷ []) ≡ digits_value_after 10 n s * 10 + digit_value b
after-snoc n [] b = refl
after-snoc n (x ∷ s) b = after-snoc (n * 10 + digit_value x) s b

-- one more digit makes ten times the value and the digit
pub value-more : (s : List ℕ) (i n : ℕ) → i < length s → 48 ≤ get_or s i 0 → get_or s i 0 ≤ 57 → digits_value 10 (take i s) ≡ n
    → digits_value 10 (take (i + 1) s) ≡ n * 10 + (get_or s i 0 - 48)
value-more s i n h lo hi e =
    let here : take (i + 1) s ≡ take i s ++ (get_or s i 0 ∷ []) = rw add-one (take-suc s i 0 h) in
    ap (digits_value_after 10 0) here ∙ after-snoc 0 (take i s) (get_or s i 0) ∙ ap (λ v. v * 10 + digit_value (get_or s i 0)) e
    ∙ ap (λ d. n * 10 + d) (digit_value-is (get_or s i 0) lo hi)

is-digit : (b : ℕ) → 48 ≤ b → b ≤ 57 → is_ascii_digit b ≡ true
is-digit b lo hi = rw (le-leb 48 b lo, le-leb b 57 hi) refl

-- digits with one more are digits
pub digits-more : (s : List ℕ) (i : ℕ) → i < length s → 48 ≤ get_or s i 0 → get_or s i 0 ≤ 57 → are_digits (take i s) ≡ true → are_digits (take (i + 1) s) ≡ true
digits-more s i h lo hi e = list_all_more is_ascii_digit s i 0 h ∙ rw (e, is-digit (get_or s i 0) lo hi) refl

-- a byte below 128 is of ASCII
ascii-one : (b : ℕ) → b < 128 → IsAscii (b ∷ [])
ascii-one b small zero = small
ascii-one b small (suc i) = omega arith

-- bytes of ASCII with one more are of ASCII
pub ascii-more : (s : List ℕ) (i : ℕ) → i < length s → get_or s i 0 < 128 → IsAscii (take i s) → IsAscii (take (i + 1) s)
ascii-more s i h small ascii =
    let here : take (i + 1) s ≡ take i s ++ (get_or s i 0 ∷ []) = rw add-one (take-suc s i 0 h) in
    rw here (IsAscii-append (take i s) (get_or s i 0 ∷ []) ascii (ascii-one (get_or s i 0) small))

-- a byte of ASCII before a text makes a text
pub utf8-before : (b : ℕ) (s : List ℕ) → b < 128 → IsUtf8 s → IsUtf8 (b ∷ s)
utf8-before b s small text = IsUtf8-append (b ∷ []) s (IsUtf8-from_ascii (b ∷ []) (ascii-one b small)) text

-- texts around a byte of ASCII make a text
pub utf8-around : (s : List ℕ) (i : ℕ) → i < length s → get_or s i 0 < 128 → IsUtf8 (take i s) → IsUtf8 (drop (i + 1) s) → IsUtf8 s
utf8-around s i h small front rest =
    let here : drop i s ≡ get_or s i 0 ∷ drop (i + 1) s = rw (drop-cons s i 0, add-one) refl in
    let whole : take i s ++ drop i s ≡ s = take-append-drop i s in
    let joined : IsUtf8 (take i s ++ drop i s) =
    rw here (IsUtf8-append (take i s) (get_or s i 0 ∷ drop (i + 1) s) front (utf8-before (get_or s i 0) (drop (i + 1) s) small rest)) in
    rw whole at joined

-- digits are of ASCII
digits-ascii : (s : List ℕ) → are_digits s ≡ true → IsUtf8 s
digits-ascii [] h = IsUtf8-nil
digits-ascii (b ∷ s) h =
    let both = and_parts (is_ascii_digit b) (are_digits s) h in
    let e = and_parts (nat_le 48 b) (nat_le b 57) both.0 in
    let hi : b ≤ 57 = leb-true b 57 e.1 in
    utf8-before b s (omega (arith, hi)) (digits-ascii s both.1)

-- a byte that is neither a comma nor a line feed ends no field
inner-byte : (b : ℕ) → (b ≡ 44 → ⊥) → (b ≡ 10 → ⊥) → is_inner b ≡ true
inner-byte b m l = rw (is_other b 44 m, is_other b 10 l) refl

-- bytes that end no field, with one more, end none
pub inner-more : (s : List ℕ) (i : ℕ) → i < length s → (get_or s i 0 ≡ 44 → ⊥) → (get_or s i 0 ≡ 10 → ⊥) → list_all is_inner (take i s) ≡ true → list_all is_inner (take (i + 1) s) ≡ true
inner-more s i h m l e = list_all_more is_inner s i 0 h ∙ rw (e, inner-byte (get_or s i 0) m l) refl

-- a byte beyond the comma ends no field
pub inner-beyond : (s : List ℕ) (i : ℕ) → i < length s → 44 < get_or s i 0 → list_all is_inner (take i s) ≡ true → list_all is_inner (take (i + 1) s) ≡ true
inner-beyond s i h beyond e = inner-more s i h (λ m. absurd (omega (arith, beyond, m))) (λ l. absurd (omega (arith, beyond, l))) e

-- bytes without a quote, with one more, have none
pub no_quote-more : (s : List ℕ) (i : ℕ) → i < length s → (get_or s i 0 ≡ 34 → ⊥) → list_all no_quote (take i s) ≡ true → list_all no_quote (take (i + 1) s) ≡ true
no_quote-more s i h q e = list_all_more no_quote s i 0 h ∙ rw (e, is_other (get_or s i 0) 34 q) refl

-- digits end no field
digits-inner : (s : List ℕ) → are_digits s ≡ true → list_all is_inner s ≡ true
digits-inner [] h = refl
digits-inner (b ∷ s) h =
    let both = and_parts (is_ascii_digit b) (are_digits s) h in
    let e = and_parts (nat_le 48 b) (nat_le b 57) both.0 in
    let lo : 48 ≤ b = leb-true 48 b e.0 in
    rw (inner-byte b (λ m. absurd (omega (arith, lo, m))) (λ l. absurd (omega (arith, lo, l)))) (digits-inner s both.1)

-- digits before a comma, or all, end plainly
pub digits-end : (s : List ℕ) (number i : ℕ) → HasDigits s number i → (i < length s → get_or s i 0 ≡ 44) → IsPlainEnd s i false
digits-end s number i has there = record { within = has.within; inner = digits-inner (take i s) has.digits; ascii = λ no. cc; ends = there }

-- texts that agree at one more place agree so far
pub same-more : (s t : List ℕ) (i : ℕ) → i < length s → i < length t → get_or s i 0 ≡ get_or t i 0 → take i s ≡ take i t → take (i + 1) s ≡ take (i + 1) t
same-more s t i in_s in_t here before = rw (add-one, take-suc s i 0 in_s, take-suc t i 0 in_t, here, before) refl

-- a number of so many digits has one more with a further digit
pub power-more : (n i d : ℕ) → n < 10 ^ i → d ≤ 9 → n * 10 + d < 10 ^ (i + 1)
power-more n i d h le = rw add-one (omega arith)

-- a byte that ends no field joins the one that has begun
inner-step : (c : ℕ) → is_inner c ≡ true → step line_config st.InField c ≡ (st.InField, act.Copy)
inner-step c inner = let e = not_either (c == comma) (c == line_feed) inner in rw (e.0, e.1) refl

-- bytes that end no field join it, up to its comma
inner-run : (s : List ℕ) (i : ℕ) (before : List (List ℕ)) (field : List ℕ) → i < length s → list_all is_inner (take i s) ≡ true → get_or s i 0 ≡ 44
    → next_record line_config st.InField before field s ≡ next_record line_config st.StartField (before ++ (field ++ take i s) ∷ []) [] (drop (i + 1) s)
unfolding next_record
inner-run [] i before field lt inner there = absurd (omega arith)
inner-run (c ∷ s) zero before field lt inner there =
    let same : c ≡ 44 = there in
    rw (same, append-nil field) refl
inner-run (c ∷ s) (suc i) before field lt inner there =
    let both = and_parts (is_inner c) (list_all is_inner (take i s)) inner in
    let next : suc i + 1 ≡ suc (i + 1) = omega arith in
    rw (inner-step c both.0, next) (
    inner-run s i before (field ++ c ∷ []) (omega arith) both.1 there
    ∙ ap (λ (f : List ℕ). next_record line_config st.StartField (before ++ f ∷ []) [] (drop (i + 1) s)) (append_assoc field (c ∷ []) (take i s))
    )

-- bytes that end no field join it, up to the end of the text
inner-all : (s : List ℕ) (before : List (List ℕ)) (field : List ℕ) → list_all is_inner s ≡ true
    → next_record line_config st.InField before field s ≡ Some (before ++ (field ++ s) ∷ [], st.StartRecord, [])
unfolding next_record
inner-all [] before field inner = rw (append-nil field) refl
inner-all (c ∷ s) before field inner =
    let both = and_parts (is_inner c) (list_all is_inner s) inner in
    rw (inner-step c both.0) (
    inner-all s before (field ++ c ∷ []) both.1
    ∙ ap (λ (f : List ℕ). Some (before ++ f ∷ [], st.StartRecord, [])) (append_assoc field (c ∷ []) s)
    )

-- a field that isn't between quotes ends at its comma
pub rest-cut : (s : List ℕ) (i : ℕ) (is_ascii : Bool) → IsPlainEnd s i is_ascii → i < length s → IsUtf8 (take i s) → IsRest s (take i s) (Some (drop (i + 1) s))
rest-cut s i is_ascii h lt text = record {
  reads = λ before begun. inner-run s i before begun lt h.inner (h.ends lt);
  utf8 = λ rest. utf8-around s i lt (omega (arith, h.ends lt)) text rest;
}

-- or with the line
pub rest-all : (s : List ℕ) (i : ℕ) (is_ascii : Bool) → IsPlainEnd s i is_ascii → i ≡ length s → IsUtf8 (take i s) → IsRest s (take i s) None
rest-all s i is_ascii h e text =
    let all : take i s ≡ s = rw e (take-length s) in
    let rest : IsRest s s None = record { reads = λ before begun. inner-all s before begun (rw all at h.inner); utf8 = λ rest. rw all at text } in
    rw all rest

-- a field begins without quotes where no quote stands first
pub starts-plainly : (s : List ℕ) (before : List (List ℕ)) → NoQuoteFirst s → next_record line_config st.StartField before [] s ≡ next_record line_config st.InField before [] s
unfolding next_record
starts-plainly [] before other = refl
starts-plainly (c ∷ s) before other = rw (is_other c quote other) refl

-- so what would end a field is all of it
pub first-rest : (s field : List ℕ) (left : Option (List ℕ)) → NoQuoteFirst s → IsRest s field left → IsFirst s field left
first-rest s field left other h = record { reads = λ before. starts-plainly s before other ∙ h.reads before []; utf8 = h.utf8 }

-- the same of what is found
pub some-first : (s : List ℕ) (r : Option (Bor (List ℕ) × Option (Bor (List ℕ)))) → NoQuoteFirst s
    → IfSome r (λ r. IsRest s r.0.now (option_map (λ (t : Bor (List ℕ)). t.now) r.1)) → IfSome r (λ r. IsFirst s r.0.now (option_map (λ (t : Bor (List ℕ)). t.now) r.1))
some-first s None other h = tt
some-first s (Some r) other h = first-rest s r.0.now (option_map (λ (t : Bor (List ℕ)). t.now) r.1) other h

-- the fields of a line are those from its first byte on
pub line-fields : (line : List ℕ) (fields : List (List ℕ)) → strip_bom line ≡ line → 0 < length line → line_feeds_in line ≡ 0
    → next_record line_config st.StartField [] [] line ≡ Some (fields, st.StartRecord, []) → line_fields line ≡ Some fields
unfolding line_fields next_record
line-fields [] fields strip some none reads = absurd (omega arith)
line-fields (c ∷ line) fields strip some none reads = by (c == line_feed) refl
  where
    by : (d : Bool) → (c == line_feed) ≡ d → line_fields (c ∷ line) ≡ Some fields
    by true e =
        let count : line_feeds_in (c ∷ line) ≡ cond (is_line_feed c) 1 0 + line_feeds_in line = sum_by-cons (λ x. cond (is_line_feed x) 1 0) c line in
        let one : ℕ = 1 in
        let feed : cond (is_line_feed c) one 0 ≡ one = rw e refl in
        absurd (omega (arith, count, feed, none))
    by false e =
        let one : next_record line_config st.StartRecord [] [] (c ∷ line) ≡ next_record line_config st.StartField [] [] (c ∷ line) = rw e refl in
        rw strip (ap (option_map (λ (p : Read). p.0)) (one ∙ reads))

number-up : (most : ℕ) (field : List ℕ) (n : ℕ) → 1 ≤ length field → are_digits field ≡ true → digits_value 10 field ≡ n → n ≤ most → number_up_to most field ≡ Some n
number-up most field n some digits value le = rw (le-leb 1 (length field) some, digits, value, le-leb n most le) refl

-- digits that come first are a time
pub time-first : (s : List ℕ) (n : ℕ) (left : Option (List ℕ)) (h : NumberFirst s n left) → time_of h.field ≡ Some n
time-first s n left h = number-up 18446744073709551615 h.field n h.some h.digits h.value h.fits

int-digits : (field : List ℕ) (n : ℕ) → 1 ≤ length field → are_digits field ≡ true → digits_value 10 field ≡ n → n ≤ 18446744073709551615 → int_of field ≡ Some (pos n)
int-digits [] n some digits value le = absurd (omega arith)
int-digits (b ∷ more) n some digits value le =
    let d = digit-at (b ∷ more) 0 digits (omega arith) in
    let minus = is_other b 45 (λ e. absurd (omega (arith, d.0, d.1, e))) in
    let plus = is_other b 43 (λ e. absurd (omega (arith, d.0, d.1, e))) in
    rw (minus, plus) (ap (option_map pos) (number-up 170141183460469231731687303715884105727 (b ∷ more) n some digits value (omega (arith, le))))

-- a number of 64 bits is the same as one of 128
pub few-same : (n : ℕ) → n ≤ 18446744073709551615 → to_z w128 n ≡ pos n
few-same n small = to_z_pos w128 n (omega (arith, small))

-- digits write their number
pub int-first : (s : List ℕ) (n : ℕ) (left : Option (List ℕ)) → NumberFirst s n left → IntFirst s (pos n) left
int-first s n left h = record { field = h.field; first = h.first; writes = ap (option_map value.Int) (int-digits h.field n h.some h.digits h.value h.fits) }

-- a sign begins the field of the digits behind it
signed-first : (sign : ℕ) (s : List ℕ) (n : ℕ) (left : Option (List ℕ)) → is_inner sign ≡ true → sign < 128 → (sign ≡ quote → ⊥) → (h : NumberFirst s n left) → IsFirst (sign ∷ s) (sign ∷ h.field) left
unfolding next_record
signed-first sign s n left inner small other h = record {
  reads = λ before. starts-plainly (sign ∷ s) before other ∙ rw (inner-step sign inner) (h.rest.reads before (sign ∷ []));
  utf8 = λ rest. utf8-before sign s small (h.first.utf8 rest);
}

minus-other : 45 ≡ quote → ⊥
minus-other e = omega (arith, e)

plus-other : 43 ≡ quote → ⊥
plus-other e = omega (arith, e)

-- a minus writes the number below zero
pub minus-first : (s : List ℕ) (n : ℕ) (left : Option (List ℕ)) → 0 < length s → get_or s 0 0 ≡ 45 → NumberFirst (drop 1 s) n left → IntFirst s (neg_ℤ (pos n)) left
minus-first [] n left some there h = absurd (omega arith)
minus-first (c ∷ s) n left some there h =
    let same : c ≡ 45 = there in
    let writes : int_of (45 ∷ h.field) ≡ Some (neg_ℤ (pos n)) =
    ap (option_map (λ n. neg_ℤ (pos n))) (number-up 170141183460469231731687303715884105728 h.field n h.some h.digits h.value (omega (arith, h.fits))) in
    rw same (record { field = 45 ∷ h.field; first = signed-first 45 s n left refl (omega arith) minus-other h; writes = ap (option_map value.Int) writes })

-- a plus writes the number
pub plus-first : (s : List ℕ) (n : ℕ) (left : Option (List ℕ)) → 0 < length s → get_or s 0 0 ≡ 43 → NumberFirst (drop 1 s) n left → IntFirst s (pos n) left
plus-first [] n left some there h = absurd (omega arith)
plus-first (c ∷ s) n left some there h =
    let same : c ≡ 43 = there in
    let writes : int_of (43 ∷ h.field) ≡ Some (pos n) =
    ap (option_map pos) (number-up 170141183460469231731687303715884105727 h.field n h.some h.digits h.value (omega (arith, h.fits))) in
    rw same (record { field = 43 ∷ h.field; first = signed-first 43 s n left refl (omega arith) plus-other h; writes = ap (option_map value.Int) writes })

-- digits don't begin with a quote
no-quote-first : (s : List ℕ) (n i : ℕ) → HasDigits s n i → (i ≡ 0 → ⊥) → NoQuoteFirst s
no-quote-first [] n i has some = tt
no-quote-first (c ∷ s) n zero has some = λ e. some refl
no-quote-first (c ∷ s) n (suc i) has some =
    let both = and_parts (is_ascii_digit c) (are_digits (take i s)) has.digits in
    let lo : 48 ≤ c = leb-true 48 c (and_parts (nat_le 48 c) (nat_le c 57) both.0).0 in
    λ e. omega (arith, lo, e)

-- a number ends at its comma
pub number-cut : (s : List ℕ) (n i : ℕ) → HasDigits s n i → (i ≡ 0 → ⊥) → i < length s → get_or s i 0 ≡ 44 → NumberFirst s n (Some (drop (i + 1) s))
number-cut s n i has some lt there =
    let size = length-take-le i s has.within in
    let rest = rest-cut s i false (digits-end s n i has (λ _. there)) lt (digits-ascii (take i s) has.digits) in record {
      field = take i s;
      first = first-rest s (take i s) (Some (drop (i + 1) s)) (no-quote-first s n i has some) rest;
      rest = rest;
      some = omega (arith, size, some);
      digits = has.digits;
      value = has.value;
      fits = has.fits;
    }

-- a number may end with the line
pub number-all : (s : List ℕ) (n i : ℕ) → HasDigits s n i → (i ≡ 0 → ⊥) → i ≡ length s → NumberFirst s n None
number-all s n i has some e =
    let all : take i s ≡ s = rw e (take-length s) in
    let rest : IsRest s (take i s) None = rest-all s i false (digits-end s n i has (λ lt. absurd (omega (arith, lt, e)))) e (digits-ascii (take i s) has.digits) in record {
      field = s;
      first = first-rest s s None (no-quote-first s n i has some) (rw all at rest);
      rest = rw all at rest;
      some = omega (arith, e, some);
      digits = rw all at has.digits;
      value = rw all at has.value;
      fits = has.fits;
    }

-- a comma is no quote
comma-first : (s : List ℕ) → 0 < length s → get_or s 0 0 ≡ 44 → NoQuoteFirst s
comma-first [] some there = tt
comma-first (c ∷ s) some there = let same : c ≡ 44 = there in λ e. omega (arith, same, e)

-- a comma stands first, and then the detection
pub span-short : (s : List ℕ) (n : ℕ) (left : Option (List ℕ)) → 0 < length s → get_or s 0 0 ≡ 44 → NumberFirst (drop 1 s) n left → SpanFirst s (n, n) left
span-short s n left some there h =
    let end : IsPlainEnd s 0 false = record { within = omega arith; inner = refl; ascii = λ no. cc; ends = λ lt. there } in
    let empty : IsFirst s [] (Some (drop 1 s)) = first-rest s [] (Some (drop 1 s)) (comma-first s some there) (rest-cut s 0 false end some IsUtf8-nil) in record {
      start = [];
      detection = h.field;
      reads = λ before. empty.reads before ∙ h.first.reads (before ++ [] ∷ []) ∙ ap (read_left left) (append_assoc before ([] ∷ []) (h.field ∷ []));
      times = rw (time-first (drop 1 s) n left h) refl;
      utf8 = λ rest. empty.utf8 (h.first.utf8 rest);
    }

-- the start and the detection, whatever writes them
pub span-any : (s rest start detection : List ℕ) (span : Span) (left : Option (List ℕ)) → IsFirst s start (Some rest) → IsFirst rest detection left → span_of start detection ≡ Ok span → SpanFirst s span left
span-any s rest start detection span left h g times = record {
  start = start;
  detection = detection;
  reads = λ before. h.reads before ∙ g.reads (before ++ start ∷ []) ∙ ap (read_left left) (append_assoc before (start ∷ []) (detection ∷ []));
  times = times;
  utf8 = λ text. h.utf8 (g.utf8 text);
}

-- the start, and then the detection
pub span-long : (s rest : List ℕ) (n m : ℕ) (left : Option (List ℕ)) → NumberFirst s n (Some rest) → NumberFirst rest m left → n ≤ m → SpanFirst s (n, m) left
span-long s rest n m left h g le =
    let early : nat_lt m n ≡ false = ltb-no m n le in
    let some : (length h.field == 0) ≡ false = is_other (length h.field) 0 (λ e. absurd (omega (arith, h.some, e))) in
    span-any s rest h.field g.field (n, m) left h.first g.first (rw (some, time-first s n (Some rest) h, time-first rest m left g, early) refl)

-- these values were read, one of each field so far
pub record SoFar (kinds : List Kind) (first now : Option (List ℕ)) (vals : List Value) : Type 0 where
  pub done : List (List ℕ)
  pub reads : (before : List (List ℕ)) → read_left first before ≡ read_left now (before ++ done)
  pub values : (more : List (List ℕ)) → values_of 4 kinds (done ++ more) ≡ onto vals (values_of (length vals + 4) (drop (length vals) kinds) more)
  pub many : length done ≡ length vals
  pub utf8 : IsText now → IsText first

-- at first no value was read
pub none-yet : (kinds : List Kind) (first : Option (List ℕ)) → SoFar kinds first first []
none-yet kinds first = record { done = []; reads = λ before. ap (read_left first) (sym (append-nil before)); values = λ more. refl; many = refl; utf8 = λ text. text }

-- one more value was read
pub one-value : (kinds : List Kind) (first : Option (List ℕ)) (text : List ℕ) (left : Option (List ℕ)) (vals : List Value) (kind : Kind) (value : Value)
    → SoFar kinds first (Some text) vals → ValueFirst kind text value left → slice_get kinds (length vals) ≡ Some kind → SoFar kinds first left (vals ++ value ∷ [])
one-value kinds first text left vals kind value so v at =
    let size = length-append vals (value ∷ []) in
    let size-done = length-append so.done (v.field ∷ []) in record {
      done = so.done ++ v.field ∷ [];
      reads = λ before. so.reads before ∙ v.first.reads (before ++ so.done) ∙ ap (read_left left) (append_assoc before so.done (v.field ∷ []));
      values = λ more. ap (values_of 4 kinds) (append_assoc so.done (v.field ∷ []) more)
          ∙ read-more (values_of 4 kinds (so.done ++ v.field ∷ more)) vals kinds kind value (v.field ∷ more) v.field more (length (vals ++ value ∷ [])) (so.values (v.field ∷ more)) refl at (sym v.writes) size;
      many = omega (arith, size, size-done, so.many);
      utf8 = λ text. so.utf8 (v.first.utf8 text);
    }

-- where as many were read as there are attributes, all were
pub all-values : (schema : List Attr) (first : Option (List ℕ)) (vals : List Value) → SoFar (kinds_of schema) first None vals → length vals ≡ length schema → WriteAll schema first vals
all-values schema first vals so many = record {
  fields = so.done;
  reads = so.reads;
  values = ap (values_of 4 (kinds_of schema)) (sym (append-nil so.done)) ∙ so.values [] ∙ ap (onto vals) (values_of-all (length vals + 4) (drop (length vals) (kinds_of schema))) ∙ onto-ok vals;
  many = so.many ∙ many;
  utf8 = so.utf8 tt;
}

-- a line of a name, the times and the values is an event
pub quick-event : (streams : List Entry) (fields : List (List ℕ)) (name start detection : List ℕ) (more : List (List ℕ)) (stream : ℕ) (schema : List Attr) (span : Span) (vals : List Value)
    → fields ≡ name ∷ start ∷ detection ∷ more → declared_stream streams (number_of name streams) ≡ stream_with (schemas_of streams) (Some stream) → slice_get (schemas_of streams) stream ≡ Some schema
    → span_of start detection ≡ Ok span → values_of 4 (kinds_of schema) more ≡ Ok vals → length more ≡ length schema
    → fields_event streams fields ≡ Ok (record { stream = stream; tuple = record { vals = vals; from = span.0; at = span.1 } })
quick-event streams fields name start detection more stream schema span vals e declared got times values many =
    let found : declared_stream streams (number_of name streams) ≡ Some (stream, kinds_of schema) = declared ∙ ap (option_map (λ s. (stream, kinds_of s))) got in
    let size = length-map schema (λ a. a.kind) in
    let same : (length (start ∷ detection ∷ more) + 1 == length (kinds_of schema) + 3) ≡ true = eq-eqb _ _ (omega (arith, size, many)) in
    rw (e, found, same, times, values) refl

-- a line at whose front stand a name and the times, and the values behind them, is an event
pub parts-event : (streams : List Entry) (line left : List ℕ) (more : Option (List ℕ)) (stream : ℕ) (schema : List Attr) (span : Span) (vals : List Value) → IsLine line → strip_bom line ≡ line
    → StreamFirst streams line stream left → slice_get (schemas_of streams) stream ≡ Some schema → SpanFirst left span more → WriteAll schema more vals
    → event streams line ≡ Ok (record { stream = stream; tuple = record { vals = vals; from = span.0; at = span.1 } })
parts-event streams line left more stream schema span vals is strip name got times write =
    let named : List (List ℕ) = name.name ∷ [] in
    let fields : List (List ℕ) = name.name ∷ times.start ∷ times.detection ∷ write.fields in
    let reads : next_record line_config st.StartField [] [] line ≡ Some (fields, st.StartRecord, []) =
    name.first.reads [] ∙ times.reads named ∙ write.reads (named ++ times.start ∷ times.detection ∷ []) in
    let text : IsUtf8 line = name.first.utf8 (times.utf8 write.utf8) in
    event-text streams line is.short text
    ∙ ap (record_event streams) (line-fields line fields strip is.nonempty is.no_feed reads)
    ∙ quick-event streams fields name.name times.start times.detection write.fields stream schema span vals refl name.declared got times.times write.values write.many

-- no quote stands first where the byte after those so far is beyond the comma
pub none-first : (s : List ℕ) (i : ℕ) → 44 < get_or s i 0 → (0 < i → get_or s 0 0 ≡ 34 → ⊥) → 0 < i + 1 → get_or s 0 0 ≡ 34 → ⊥
none-first s zero beyond before some e = omega (arith, beyond, e)
none-first s (suc i) beyond before some e = before (omega arith) e

-- none does where that byte is a comma
none-named : (s : List ℕ) (i : ℕ) → get_or s i 0 ≡ 44 → (0 < i → get_or s 0 0 ≡ 34 → ⊥) → NoQuoteFirst s
none-named [] i there other = tt
none-named (c ∷ s) zero there other = let same : c ≡ 44 = there in λ e. omega (arith, same, e)
none-named (c ∷ s) (suc i) there other = other (omega arith)

-- a name in which no byte ends a field stands first, where no quote stands first and a comma stands behind it
pub first-named : (s name : List ℕ) → length name < length s → get_or s (length name) 0 ≡ 44 → take (length name) s ≡ take (length name) name → list_all is_inner (take (length name) s) ≡ true
    → (0 < length name → get_or s 0 0 ≡ 34 → ⊥) → IsUtf8 name → IsFirst s name (Some (drop (length name + 1) s))
first-named s name within there same inner other text =
    let is : take (length name) s ≡ name = same ∙ take-length name in
    let front : IsUtf8 (take (length name) s) = rw is text in
    let end : IsPlainEnd s (length name) false = record { within = omega (arith, within); inner = inner; ascii = λ no. cc; ends = λ _. there } in
    subst (λ (field : List ℕ). IsFirst s field (Some (drop (length name + 1) s))) is
    (first-rest s (take (length name) s) (Some (drop (length name + 1) s)) (none-named s (length name) there other) (rest-cut s (length name) false end within front))

-- the kinds of a declared stream, by induction on the streams
declared-kinds : (streams : List Entry) (i n : ℕ) → slice_get (declared_of streams) i ≡ Some true
    → if_declared n (slice_get streams i) ≡ option_map (λ (schema : List Attr). (n, kinds_of schema)) (slice_get (schemas_of streams) i)
declared-kinds [] i n h = cc
declared-kinds (s ∷ streams) zero n h = let is : s.declared ≡ true = cc in rw is refl
declared-kinds (s ∷ streams) (suc i) n h = declared-kinds streams i n h

-- a stream that is declared is found by its name
pub declared-named : (streams : List Entry) (name : List ℕ) (i : ℕ) → number_of name streams ≡ Some i → slice_get (declared_of streams) i ≡ Some true
    → declared_stream streams (number_of name streams) ≡ stream_with (schemas_of streams) (Some i)
declared-named streams name i number declared = rw number (declared-kinds streams i i declared)

-- a name that stands first, where it is that of a declared stream
pub some-stream : (streams : List Entry) (text name : List ℕ) (i : ℕ) (r : Option (Bor (List ℕ))) → number_of name streams ≡ Some i → i < length streams → slice_get (declared_of streams) i ≡ Some true
    → IfSome r (λ rest. IsFirst text name (Some rest.now)) → IfSome r (λ rest. StreamFirst streams text i rest.now)
some-stream streams text name i None number within declared first = tt
some-stream streams text name i (Some rest) number within declared first = record {
  name = name;
  first = first;
  within = within;
  declared = declared-named streams name i number declared;
}
