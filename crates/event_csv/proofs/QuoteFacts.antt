-- Fields between quotes, by the pieces around the quotes in them.
use Rattle.std.proofs.Common.{◌≡◌, ◌∙◌, ℕ, ◌+◌, ◌<◌, List, [], ◌∷◌, ◌++◌, length, take, drop, get_or, refl, sym, ap, arith, add-one, drop-cons, Bool, true, false, Bor, IfSome, append-nil, append_assoc, Option, Some, None, option_map}
use Rattle.std.specs.Prelude.{◌==◌, IsUtf8, not}
use Rattle.std.specs.List.{list_all}
use Rattle.std.proofs.lemmas.Bool.{and_parts}
use Rattle.std.proofs.lemmas.List.{take-append-drop}
use Rattle.std.proofs.lemmas.Str.{IsUtf8-append, IsUtf8-nil}
use Rattle.csv.specs.Machine.{next_record}
use Rattle.csv.specs.declared.parser.State.TheVariants as st
use Rattle.event_types.proofs.NumberLemmas.{is_other}
use Rattle.event_csv.specs.Fields.{line_config, quote}
use Rattle.event_csv.specs.Quick.{EndsField, IsFirst, IsPiece, IsQuoteAt, IsQuoted, NoQuoteFirst, no_quote}
use Rattle.event_csv.proofs.QuickFacts.{starts-plainly, utf8-around, utf8-before}

not_true : (b : Bool) → not b ≡ true → b ≡ false
not_true false h = refl
not_true true h = cc

-- the text before the first quote is a piece
pub piece-at : (s : List ℕ) (i : ℕ) (is_ascii : Bool) → IsQuoteAt s i is_ascii → IsUtf8 (take i s) → IsPiece s (take i s) (drop (i + 1) s)
piece-at s i is_ascii h text =
    let here : drop i s ≡ get_or s i 0 ∷ drop (i + 1) s = rw (drop-cons s i 0 h.within, add-one) refl in
    let first : get_or s i 0 ≡ 34 = h.here in record {
      cut = sym (take-append-drop i s) ∙ ap (λ (more : List ℕ). take i s ++ more) (here ∙ ap (λ (b : ℕ). b ∷ drop (i + 1) s) first);
      none = h.none;
      utf8 = text;
    }

-- the bytes of a piece join the field, and its quote may end it
piece-run : (piece left : List ℕ) (before : List (List ℕ)) (field : List ℕ) → list_all no_quote piece ≡ true
    → next_record line_config st.InQuoted before field (piece ++ quote ∷ left) ≡ next_record line_config st.AfterQuote before (field ++ piece) left
unfolding next_record
piece-run [] left before field none = rw (append-nil field) refl
piece-run (c ∷ piece) left before field none =
    let both = and_parts (no_quote c) (list_all no_quote piece) none in
    rw (not_true (c == quote) both.0) (
    piece-run piece left before (field ++ c ∷ []) both.1
    ∙ ap (λ (f : List ℕ). next_record line_config st.AfterQuote before f left) (append_assoc field (c ∷ []) piece)
    )

-- the same of a text of which a piece is the front
piece-reads : (s piece left : List ℕ) (before : List (List ℕ)) (field : List ℕ) → IsPiece s piece left
    → next_record line_config st.InQuoted before field s ≡ next_record line_config st.AfterQuote before (field ++ piece) left
piece-reads s piece left before field h = ap (next_record line_config st.InQuoted before field) h.cut ∙ piece-run piece left before field h.none

-- a piece before a text makes a text
piece-utf8 : (s piece left : List ℕ) → IsPiece s piece left → IsUtf8 left → IsUtf8 s
piece-utf8 s piece left h text = rw h.cut (IsUtf8-append piece (quote ∷ left) h.utf8 (utf8-before quote left (omega arith) text))

-- what stands behind a quote, where one stands first
pub quote-first : (s : List ℕ) → 0 < length s → get_or s 0 0 ≡ 34 → s ≡ quote ∷ drop 1 s
quote-first [] some there = absurd (omega arith)
quote-first (c ∷ s) some there = let same : c ≡ 34 = there in ap (λ (b : ℕ). b ∷ s) same

-- else none stands first
pub no-quote : (s : List ℕ) → (0 < length s → get_or s 0 0 ≡ 34 → ⊥) → NoQuoteFirst s
no-quote [] other = tt
no-quote (c ∷ s) other = other (omega arith)

-- a quote behind that of a piece is a byte of the field
quote-joins : (s : List ℕ) (before : List (List ℕ)) (field : List ℕ) → next_record line_config st.AfterQuote before field (quote ∷ s) ≡ next_record line_config st.InQuoted before (field ++ quote ∷ []) s
unfolding next_record
quote-joins s before field = refl

-- else that quote was the last, and the field goes on without quotes
goes-plainly : (s : List ℕ) (before : List (List ℕ)) (field : List ℕ) → NoQuoteFirst s → next_record line_config st.AfterQuote before field s ≡ next_record line_config st.InField before field s
unfolding next_record
goes-plainly [] before field other = refl
goes-plainly (c ∷ s) before field other = rw (is_other c quote other) refl

-- so much of a field between quotes is read, and the rest of the text is left
pub record ReadSoFar (text read rest : List ℕ) : Type 0 where
  pub reads : (before : List (List ℕ)) → next_record line_config st.InQuoted before [] text ≡ next_record line_config st.InQuoted before read rest
  pub utf8 : IsUtf8 rest → IsUtf8 text

-- at first nothing is read
pub none-read : (s : List ℕ) → ReadSoFar s [] s
none-read s = record { reads = λ before. refl; utf8 = λ text. text }

-- one more piece is read, with one of the two quotes behind it
pub piece-read : (text read rest piece behind more : List ℕ) → ReadSoFar text read rest → IsPiece rest piece behind → behind ≡ quote ∷ more → ReadSoFar text ((read ++ piece) ++ quote ∷ []) more
piece-read text read rest piece behind more so h first = record {
  reads = λ before. so.reads before ∙ piece-reads rest piece behind before read h ∙ ap (next_record line_config st.AfterQuote before (read ++ piece)) first ∙ quote-joins more before (read ++ piece);
  utf8 = λ left. so.utf8 (piece-utf8 rest piece behind h (rw first (utf8-before quote more (omega arith) left)));
}

-- the last piece is read, and what stands behind the last quote ends the field
pub some-ends : {R : Type 0} (bytes : R → List ℕ) (text read rest piece behind : List ℕ) (r : Option (R × Option (Bor (List ℕ)))) → ReadSoFar text read rest → IsPiece rest piece behind → NoQuoteFirst behind
    → IfSome r (λ r. EndsField behind (read ++ piece) (bytes r.0) (option_map (λ (t : Bor (List ℕ)). t.now) r.1)) → IfSome r (λ r. IsQuoted text (bytes r.0) (option_map (λ (t : Bor (List ℕ)). t.now) r.1))
some-ends bytes text read rest piece behind None so h other ends = tt
some-ends bytes text read rest piece behind (Some r) so h other ends = record {
  reads = λ before. so.reads before ∙ piece-reads rest piece behind before read h ∙ goes-plainly behind before (read ++ piece) other ∙ ends.reads before;
  utf8 = λ more. so.utf8 (piece-utf8 rest piece behind h (ends.utf8 more));
}

-- a piece may be a field, with the line
pub quoted-last : (s piece rest : List ℕ) → IsPiece s piece rest → length rest ≡ 0 → IsQuoted s piece None
unfolding next_record
quoted-last s piece [] h none = record { reads = λ before. piece-reads s piece [] before [] h; utf8 = λ more. piece-utf8 s piece [] h IsUtf8-nil }
quoted-last s piece (b ∷ rest) h none = absurd (omega arith)

after-comma : (s : List ℕ) (before : List (List ℕ)) (field : List ℕ) → 0 < length s → get_or s 0 0 ≡ 44
    → next_record line_config st.AfterQuote before field s ≡ next_record line_config st.StartField (before ++ field ∷ []) [] (drop 1 s)
unfolding next_record
after-comma [] before field some there = absurd (omega arith)
after-comma (c ∷ s) before field some there = let same : c ≡ 44 = there in rw same refl

-- or before a comma
pub quoted-cut : (s piece rest : List ℕ) → IsPiece s piece rest → 0 < length rest → get_or rest 0 0 ≡ 44 → IsQuoted s piece (Some (drop 1 rest))
quoted-cut s piece rest h some there = record {
  reads = λ before. piece-reads s piece rest before [] h ∙ after-comma rest before piece some there;
  utf8 = λ more. piece-utf8 s piece rest h (utf8-around rest 0 some (omega (arith, there)) IsUtf8-nil more);
}

-- a quote begins a quoted field
pub first-quoted : (s behind field : List ℕ) (left : Option (List ℕ)) → s ≡ quote ∷ behind → IsQuoted behind field left → IsFirst s field left
unfolding next_record
first-quoted s behind field left first h = record {
  reads = λ before. ap (next_record line_config st.StartField before []) first ∙ h.reads before;
  utf8 = λ rest. rw first (utf8-before quote behind (omega arith) (h.utf8 rest));
}

-- what is found behind a quote at the front is the first field
pub some-quoted : {R : Type 0} (bytes : R → List ℕ) (s behind : List ℕ) (r : Option (R × Option (Bor (List ℕ)))) → s ≡ quote ∷ behind
    → IfSome r (λ r. IsQuoted behind (bytes r.0) (option_map (λ (t : Bor (List ℕ)). t.now) r.1)) → IfSome r (λ r. IsFirst s (bytes r.0) (option_map (λ (t : Bor (List ℕ)). t.now) r.1))
some-quoted bytes s behind None first h = tt
some-quoted bytes s behind (Some r) first h = first-quoted s behind (bytes r.0) (option_map (λ (t : Bor (List ℕ)). t.now) r.1) first h

-- what ends a field of which nothing is read is all of it, where no quote stands first
pub some-whole : {R : Type 0} (bytes : R → List ℕ) (s : List ℕ) (r : Option (R × Option (Bor (List ℕ)))) → NoQuoteFirst s
    → IfSome r (λ r. EndsField s [] (bytes r.0) (option_map (λ (t : Bor (List ℕ)). t.now) r.1)) → IfSome r (λ r. IsFirst s (bytes r.0) (option_map (λ (t : Bor (List ℕ)). t.now) r.1))
some-whole bytes s None other h = tt
some-whole bytes s (Some r) other h = record { reads = λ before. starts-plainly s before other ∙ h.reads before; utf8 = h.utf8 }
