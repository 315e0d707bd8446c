-- The lines of a text, a piece at a time.
use Rattle.std.proofs.Common.{◌≡◌, ◌∙◌, ℕ, suc, ◌+◌, ◌<◌, ◌≤◌, Bool, true, false, cond, Some, List, [], ◌∷◌, ◌++◌, length, drop, get_or, refl, arith, eqb-true, lt-ltb, le-ltb, length-append}
use Rattle.std.proofs.lemmas.List.{take_at}
use Rattle.std.specs.Prelude.{◌==◌, ◌&&◌, ◌||◌, not, slice_get}
use Rattle.std.specs.List.{onto_first}
use Rattle.std.specs.Str.Lines.{strip_carriage_return}
use Rattle.csv.specs.Machine.{line_feed}
use Rattle.csv.specs.Reading.{is_bom, strip_bom}
use Rattle.event_csv.specs.Place.{is_skipped, met_after}
use Rattle.event_csv.specs.Lines.{Line, body_of, is_empty, is_line_feed, is_header, is_long, line_limit, line_pieces, lines_from, lines_past_header, nonempty_lines, numbered_lines, pieces_of}

-- no byte of the text is a line feed
abbrev pub Lacks : List ℕ → Type 0
Lacks [] = Unit {0}
Lacks (b ∷ text) = (is_line_feed b ≡ false) × Lacks text

-- a text lacks line feeds where no byte of it is one
pub Lacks-index : (text : List ℕ) → ((k : ℕ) → k < length text → is_line_feed (get_or text k 0) ≡ false) → Lacks text
Lacks-index [] h = tt
Lacks-index (b ∷ text) h = (h 0 (omega arith), Lacks-index text (λ k lt. h (suc k) (omega arith)))

-- the piece before a line feed
pub pieces_of-feed : (a b : List ℕ) → Lacks a → pieces_of (a ++ line_feed ∷ b) ≡ a ∷ pieces_of b
pieces_of-feed [] b h = refl
pieces_of-feed (x ∷ a) b h = rw (h.0, pieces_of-feed a b h.1) refl

-- a text with no line feed is one piece
pub pieces_of-none : (a : List ℕ) → Lacks a → pieces_of a ≡ a ∷ []
pieces_of-none [] h = refl
pieces_of-none (x ∷ a) h = rw (h.0, pieces_of-none a h.1) refl

-- a first piece, and those after it
pub record Front (a text : List ℕ) : Type 0 where
  pub more : List ℕ
  pub rest : List (List ℕ)
  pub is : pieces_of text ≡ (a ++ more) ∷ rest

-- any text has a first piece
pub some_front : (text : List ℕ) → Front [] text
some_front [] = record { more = []; rest = []; is = refl }
some_front (b ∷ text) =
    let front = by (is_line_feed b) (some_front text) in record { more = front.0; rest = front.1; is = front.2 }
  where
    by : (d : Bool) → Front [] text → (more : List ℕ) × (rest : List (List ℕ)) × (cond d ([] ∷ pieces_of text) (onto_first b (pieces_of text)) ≡ more ∷ rest)
    by true f = ([], pieces_of text, refl)
    by false f = (b ∷ f.more, f.rest, rw f.is refl)

-- the first piece of a text that begins with bytes among which is no line feed
pub front_of : (a text : List ℕ) → Lacks a → Front a (a ++ text)
front_of [] text h = some_front text
front_of (x ∷ a) text h =
    let front = front_of a text h.1 in record { more = front.more; rest = front.rest; is = rw (h.0, front.is) refl }

-- the piece before a line feed is a line
pub line_pieces-feed : (ended : Bool) (a b : List ℕ) → Lacks a → line_pieces ended (pieces_of (a ++ line_feed ∷ b)) ≡ a ∷ line_pieces ended (pieces_of b)
line_pieces-feed ended a b h = let front = some_front b in rw (pieces_of-feed a b h, front.is) refl

-- the lines of a text that begins with a piece and a line feed
pub lines_from-feed : (gone : ℕ) (met : Bool) (a b : List ℕ) (ended : Bool) → Lacks a
    → lines_from gone met (a ++ line_feed ∷ b) ended
    ≡ lines_past_header met (nonempty_lines (record { number = gone + 1; bytes = body_of a } ∷ numbered_lines (gone + 1 + 1) (line_pieces ended (pieces_of b))))
lines_from-feed gone met a b ended h = rw (line_pieces-feed ended a b h) refl

-- what is left past a line that is passed over
pub past_skipped : (met : Bool) (line : Line) (rest : List Line) → is_skipped met line.bytes ≡ true
    → lines_past_header met (nonempty_lines (line ∷ rest)) ≡ lines_past_header (met_after met line.bytes) (nonempty_lines rest)
past_skipped met line rest h = by met (is_empty line.bytes) (is_header line.bytes) refl refl h
  where
    by : (m e d : Bool) → is_empty line.bytes ≡ e → is_header line.bytes ≡ d → (e || (not m && d)) ≡ true
        → lines_past_header m (cond (not e) (line ∷ nonempty_lines rest) (nonempty_lines rest)) ≡ lines_past_header (m || not e) (nonempty_lines rest)
    by true true d e h k = refl
    by false true d e h k = refl
    by true false d e h k = cc
    by false false true e h k = rw h refl
    by false false false e h k = cc

-- a line that isn't passed over comes first
pub kept_first : (met : Bool) (line : Line) (rest : List Line) → is_skipped met line.bytes ≡ false
    → lines_past_header met (nonempty_lines (line ∷ rest)) ≡ line ∷ lines_past_header (met_after met line.bytes) (nonempty_lines rest)
kept_first met line rest h = by met (is_empty line.bytes) (is_header line.bytes) refl refl h
  where
    by : (m e d : Bool) → is_empty line.bytes ≡ e → is_header line.bytes ≡ d → (e || (not m && d)) ≡ false
        → lines_past_header m (cond (not e) (line ∷ nonempty_lines rest) (nonempty_lines rest)) ≡ line ∷ lines_past_header (m || not e) (nonempty_lines rest)
    by m true d e h k = cc
    by true false d e h k = refl
    by false false true e h k = cc
    by false false false e h k = rw h refl

-- a line that isn't too long stands by its bytes without the carriage return
pub body_of-short : (a : List ℕ) → is_long a ≡ false → body_of a ≡ strip_carriage_return a
body_of-short a h = rw h refl

-- lines left past a piece that is passed over
pub lines_from-skipped : (gone : ℕ) (met : Bool) (a b : List ℕ) (ended : Bool) → Lacks a → is_long a ≡ false → is_skipped met (strip_carriage_return a) ≡ true
    → lines_from gone met (a ++ line_feed ∷ b) ended ≡ lines_from (gone + 1) (met_after met (strip_carriage_return a)) b ended
lines_from-skipped gone met a b ended h short skipped =
    lines_from-feed gone met a b ended h ∙ rw (body_of-short a short) (past_skipped met (record { number = gone + 1; bytes = strip_carriage_return a }) (numbered_lines (gone + 1 + 1) (line_pieces ended (pieces_of b))) skipped)

-- lines left where a piece isn't passed over
pub lines_from-kept : (gone : ℕ) (met : Bool) (a b : List ℕ) (ended : Bool) → Lacks a → is_long a ≡ false → is_skipped met (strip_carriage_return a) ≡ false
    → lines_from gone met (a ++ line_feed ∷ b) ended
    ≡ record { number = gone + 1; bytes = strip_carriage_return a } ∷ lines_from (gone + 1) (met_after met (strip_carriage_return a)) b ended
lines_from-kept gone met a b ended h short kept =
    lines_from-feed gone met a b ended h ∙ rw (body_of-short a short) (kept_first met (record { number = gone + 1; bytes = strip_carriage_return a }) (numbered_lines (gone + 1 + 1) (line_pieces ended (pieces_of b))) kept)

-- nothing is left of a text with no line feed that may go on, unless it is too long
pub lines_from-none : (gone : ℕ) (met : Bool) (a : List ℕ) → Lacks a → is_long a ≡ false → lines_from gone met a false ≡ []
lines_from-none gone met a h short = rw (pieces_of-none a h, short) (nothing met)
  where
    nothing : (m : Bool) → lines_past_header m [] ≡ []
    nothing true = refl
    nothing false = refl

-- the end of the text ends a last line as a line feed does
pub lines_from-ended : (gone : ℕ) (met : Bool) (a : List ℕ) → Lacks a → is_empty a ≡ false → lines_from gone met a true ≡ lines_from gone met (a ++ line_feed ∷ []) true
lines_from-ended gone met a h some = rw (pieces_of-none a h, pieces_of-feed a [] h, some) (by (is_long a))
  where
    by : (d : Bool) → lines_past_header met (nonempty_lines (numbered_lines (gone + 1) (cond (d || true) (a ∷ []) [])))
        ≡ lines_past_header met (nonempty_lines (numbered_lines (gone + 1) (a ∷ [])))
    by true = refl
    by false = refl

-- nothing is left of nothing
pub lines_from-nil : (gone : ℕ) (met : Bool) (ended : Bool) → lines_from gone met [] ended ≡ []
lines_from-nil gone true true = refl
lines_from-nil gone true false = refl
lines_from-nil gone false true = refl
lines_from-nil gone false false = refl

-- the test for too long a line
pub is_long-yes : (a : List ℕ) → line_limit < length a → is_long a ≡ true
is_long-yes a h = lt-ltb line_limit (length a) h

-- a line within the limit isn't too long
pub is_long-no : (a : List ℕ) → length a ≤ line_limit → is_long a ≡ false
is_long-no a h = le-ltb line_limit (length a) h

-- too long a line comes first, whatever follows its first bytes
pub lines_from-long : (gone : ℕ) (met : Bool) (a text : List ℕ) (ended : Bool) → Lacks a → length a ≡ line_limit + 1
    → slice_get (lines_from gone met (a ++ text) ended) 0 ≡ Some (record { number = gone + 1; bytes = a })
lines_from-long gone met a text ended h size =
    rw (front.is, first front.rest, stands) (by met)
  where
    front : Front a (a ++ text)
    front = front_of a text h

    long : is_long (a ++ front.more) ≡ true
    long = is_long-yes (a ++ front.more) (omega (arith, length-append a front.more))

    own_long : is_long a ≡ true
    own_long = is_long-yes a (omega arith)

    stands : body_of (a ++ front.more) ≡ a
    stands = rw long (take_at a front.more (line_limit + 1) size)

    some : is_empty a ≡ false
    some = elim-some (is_empty a) refl
      where
        elim-some : (d : Bool) → is_empty a ≡ d → d ≡ false
        elim-some true e = let none : length a ≡ 0 = eqb-true _ _ e in absurd (omega arith)
        elim-some false e = refl

    after : List (List ℕ) → List (List ℕ)
    after [] = []
    after (p ∷ ps) = line_pieces ended (p ∷ ps)

    first : (rest : List (List ℕ)) → line_pieces ended ((a ++ front.more) ∷ rest) ≡ (a ++ front.more) ∷ after rest
    first [] = rw long refl
    first (p ∷ ps) = refl

    by : (m : Bool) → slice_get (lines_past_header m (nonempty_lines (record { number = gone + 1; bytes = a } ∷ numbered_lines (gone + 1 + 1) (after front.rest)))) 0 ≡ Some (record { number = gone + 1; bytes = a })
    by true = rw some refl
    by false = rw (some, own_long) refl

-- a mark shows in the first three bytes
pub strip_bom-append : (a text : List ℕ) → 3 ≤ length a → strip_bom (a ++ text) ≡ strip_bom a ++ text
unfolding strip_bom
strip_bom-append [] text h = absurd (omega arith)
strip_bom-append (x ∷ []) text h = absurd (omega arith)
strip_bom-append (x ∷ y ∷ []) text h = absurd (omega arith)
strip_bom-append (x ∷ y ∷ z ∷ a) text h = by (is_bom x y z)
  where
    by : (d : Bool) → cond d (a ++ text) (x ∷ y ∷ z ∷ a ++ text) ≡ cond d a (x ∷ y ∷ z ∷ a) ++ text
    by true = refl
    by false = refl

-- fewer bytes hold no mark
pub strip_bom-short : (a : List ℕ) → length a < 3 → strip_bom a ≡ a
unfolding strip_bom
strip_bom-short [] h = refl
strip_bom-short (x ∷ []) h = refl
strip_bom-short (x ∷ y ∷ []) h = refl
strip_bom-short (x ∷ y ∷ z ∷ a) h = absurd (omega arith)

-- a text whose second byte or first is a line feed has no mark
pub strip_bom-feed : (a b : List ℕ) → length a < 2 → strip_bom (a ++ line_feed ∷ b) ≡ a ++ line_feed ∷ b
unfolding strip_bom
strip_bom-feed [] [] h = refl
strip_bom-feed [] (y ∷ []) h = refl
strip_bom-feed [] (y ∷ z ∷ b) h = refl
strip_bom-feed (x ∷ []) [] h = refl
strip_bom-feed (x ∷ []) (z ∷ b) h = by (x == 0xEF)
  where
    by : (d : Bool) → cond (d && false && (z == 0xBF)) b (x ∷ line_feed ∷ z ∷ b) ≡ x ∷ line_feed ∷ z ∷ b
    by true = refl
    by false = refl
strip_bom-feed (x ∷ w ∷ a) b h = absurd (omega arith)

-- a mark is the first three bytes
pub strip_bom-drop : (a : List ℕ) → 3 ≤ length a → strip_bom a ≡ drop (cond (is_bom (get_or a 0 0) (get_or a 1 0) (get_or a 2 0)) 3 0) a
unfolding strip_bom
strip_bom-drop [] h = absurd (omega arith)
strip_bom-drop (x ∷ []) h = absurd (omega arith)
strip_bom-drop (x ∷ y ∷ []) h = absurd (omega arith)
strip_bom-drop (x ∷ y ∷ z ∷ a) h = by (is_bom x y z)
  where
    by : (d : Bool) → cond d a (x ∷ y ∷ z ∷ a) ≡ drop (cond d 3 0) (x ∷ y ∷ z ∷ a)
    by true = refl
    by false = refl
