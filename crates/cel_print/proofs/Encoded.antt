-- Texts that are UTF-8, cut and put together at ASCII bytes. No public clause cites it.
use Rattle.std.proofs.Common.{◌≡◌, ◌∙◌, ℕ, zero, suc, ◌+◌, ◌-◌, ◌<◌, ◌≤◌, ◌^◌, Bool, true, false, List, [], ◌∷◌, ◌++◌, length, take, drop, get_or, refl, sym, ap, subst, arith, append_assoc, length-append, nat_lt}
use Rattle.std.specs.Prelude.{◌==◌, ◌&&◌, ◌||◌, Some, codes, decimal, if◌then◌else◌}
use Rattle.std.specs.Char.{is_ascii_digit}
use Rattle.std.specs.Str.{IsAscii, IsCharBoundary, IsUtf8}
use Rattle.std.proofs.Math.Seq.{get_or-append_seam, take-append_seam}
use Rattle.std.proofs.lemmas.Bool.{eqb-true}
use Rattle.std.proofs.lemmas.Bool.Decides.{nat_tests}
use Rattle.std.proofs.lemmas.Fmt.{IsAscii-decimal_wide}
use Rattle.std.proofs.lemmas.Str.{IsCharBoundary-after_ascii, IsUtf8-append, IsUtf8-drop, IsUtf8-from_ascii, IsUtf8-nil, IsUtf8-take}
use Rattle.event_types.specs.declared.comparison.Cmp.TheVariants as cmp
use Rattle.cel_lexer.specs.Bytes.{is_word_byte}
use Rattle.cel_lexer.specs.Literals.{literal_rest}
use Rattle.cel_lexer.proofs.LiteralLemmas.{literal-closes}
use Rattle.semantics.specs.Report.{with_places}
use Rattle.cel_grammar.specs.Spellings.{undoubled}
use Rattle.cel_grammar.specs.Symbols.{Symbol}
use Rattle.cel_grammar.specs.Symbols as the
use Rattle.cel_grammar.specs.Trees.{Statement}
use Rattle.cel_print.specs.Laws.{canonical_symbols}
use Rattle.cel_print.specs.Spelled.{canon, doubled, is_tight, joins_left, joins_right, line_of, space, spelling, text_behind, text_of, word_spelling}
use Rattle.cel_print.specs.StatementWords.{statement_words}
use Rattle.cel_print.specs.Words.{Word, Of, Negative, NegativeDecimal, symbols}
use Rattle.cel_print.proofs.Bytes.{both_true, drop_front, passes, passes_append, passes_more}
use Rattle.cel_print.proofs.Decimals.{pointed}
use Rattle.cel_print.proofs.Good.{AllGood, Good}
use Rattle.cel_print.proofs.Lines.{EachGood, first_text, later_good}

-- a byte of ASCII
one_ascii : (b : ℕ) → b < 128 → IsAscii (b ∷ [])
one_ascii b low zero = low
one_ascii b low (suc i) = omega arith

one_utf8 : (b : ℕ) → b < 128 → IsUtf8 (b ∷ [])
one_utf8 b low = IsUtf8-from_ascii (b ∷ []) (one_ascii b low)

-- bytes of ASCII
abbrev is_low : ℕ → Bool
is_low b = nat_lt b 128

low_utf8 : (s : List ℕ) → passes is_low s ≡ true → IsUtf8 s
low_utf8 [] h = IsUtf8-nil
low_utf8 (b ∷ s) h =
    let parts = both_true (is_low b) (passes is_low s) h in
    let low : b < 128 = grind (arith, nat_tests, parts.0) in IsUtf8-append (b ∷ []) s (one_utf8 b low) (low_utf8 s parts.1)

-- what stands before a byte of ASCII, and what stands behind it
pub cut_ascii : (xs : List ℕ) (b : ℕ) (ys : List ℕ) → b < 128 → IsUtf8 (xs ++ (b ∷ ys)) → IsUtf8 xs × IsUtf8 ys
cut_ascii xs b ys low u =
    let text : List ℕ = xs ++ (b ∷ ys) in
    let here : get_or text (length xs) 0 ≡ b = get_or-append_seam xs b ys 0 in
    let within : length xs < length text = omega (arith, length-append xs (b ∷ ys)) in
    let at : IsCharBoundary text (length xs) = (omega (arith, within), λ lt high. absurd (omega (arith, here, low, high))) in
    let after : IsCharBoundary text (length xs + 1) = IsCharBoundary-after_ascii text (length xs) u within (omega (arith, here, low)) in
    let size : length xs + 1 ≡ length (xs ++ (b ∷ [])) = sym (length-append xs (b ∷ [])) in
    let behind : drop (length xs + 1) text ≡ ys =
    ap (λ (n : ℕ). drop n text) size ∙ ap (λ (s : List ℕ). drop (length (xs ++ (b ∷ []))) s) (sym (append_assoc xs (b ∷ []) ys)) ∙ drop_front (xs ++ (b ∷ [])) ys in
    (subst IsUtf8 (take-append_seam xs (b ∷ ys)) (IsUtf8-take text (length xs) u at), subst IsUtf8 behind (IsUtf8-drop text (length xs + 1) u after))

-- one of two, by cases
choose : (P : List ℕ → Type 0) (c : Bool) (x y : List ℕ) → (c ≡ true → P x) → (c ≡ false → P y) → P (if c then x else y)
choose P true x y h k = h refl
choose P false x y h k = k refl

quote_low : (b : ℕ) → (b == 39) ≡ true → b < 128
quote_low b h = omega (arith, eqb-true b 39 h)

-- a text that stands behind others, with each doubled quote once
pub undoubled_utf8 : (front s : List ℕ) → IsUtf8 (front ++ s) → IsUtf8 (front ++ undoubled s)
undoubled_utf8 front [] u = u
undoubled_utf8 front (b ∷ []) u = u
undoubled_utf8 front (b ∷ c ∷ s) u =
    choose (λ t. IsUtf8 (front ++ t)) ((b == 39) && (c == 39)) (b ∷ undoubled s) (b ∷ undoubled (c ∷ s))
    (λ quotes.
    let tests = both_true (b == 39) (c == 39) quotes in
    let first = cut_ascii front b (c ∷ s) (quote_low b tests.0) u in
    let second = cut_ascii [] c s (quote_low c tests.1) first.1 in
    IsUtf8-append front (b ∷ undoubled s) first.0 (IsUtf8-append (b ∷ []) (undoubled s) (one_utf8 b (quote_low b tests.0)) (undoubled_utf8 [] s second.1)))
    (λ other. subst IsUtf8 (append_assoc front (b ∷ []) (undoubled (c ∷ s))) (undoubled_utf8 (front ++ (b ∷ [])) (c ∷ s) (subst IsUtf8 (sym (append_assoc front (b ∷ []) (c ∷ s))) u)))

-- and with each quote twice
doubled_utf8 : (front s : List ℕ) → IsUtf8 (front ++ s) → IsUtf8 (front ++ doubled s)
doubled_utf8 front [] u = u
doubled_utf8 front (b ∷ s) u =
    choose (λ t. IsUtf8 (front ++ (t ++ doubled s))) (b == 39) (39 ∷ 39 ∷ []) (b ∷ [])
    (λ quote.
    let parts = cut_ascii front b s (quote_low b quote) u in
    IsUtf8-append front (39 ∷ 39 ∷ doubled s) parts.0 (IsUtf8-append (39 ∷ 39 ∷ []) (doubled s) (low_utf8 (39 ∷ 39 ∷ []) refl) (doubled_utf8 [] s parts.1)))
    (λ other. subst IsUtf8 (append_assoc front (b ∷ []) (doubled s)) (doubled_utf8 (front ++ (b ∷ [])) s (subst IsUtf8 (sym (append_assoc front (b ∷ []) s)) u)))

-- a part of a front
take_inner : (m n : ℕ) (s : List ℕ) → m ≤ n → take m (take n s) ≡ take m s
take_inner zero n s le = refl
take_inner (suc m) zero s le = absurd (omega arith)
take_inner (suc m) (suc n) [] le = refl
take_inner (suc m) (suc n) (b ∷ s) le = ap (λ (t : List ℕ). b ∷ t) (take_inner m n s (omega arith))

taken : (n : ℕ) (s : List ℕ) → n ≤ length s → length (take n s) ≡ n
taken zero s le = refl
taken (suc n) [] le = absurd (omega arith)
taken (suc n) (b ∷ s) le = ap suc (taken n s (omega arith))

-- what stands between the quotes of a literal
pub literal_utf8 : (rest : List ℕ) (n : ℕ) → literal_rest rest ≡ Some n → IsUtf8 rest → IsUtf8 (take (length (take (suc n) (39 ∷ rest)) - 2) (take n rest))
literal_utf8 rest n e u =
    let closes = literal-closes rest n e in
    let at : IsCharBoundary rest (n - 1) = (omega (arith, closes.some, closes.in_text), λ lt high. absurd (omega (arith, high, closes.quote))) in
    let size : length (take (suc n) (39 ∷ rest)) - 2 ≡ n - 1 = omega (arith, taken n rest closes.in_text) in
    let same : take (length (take (suc n) (39 ∷ rest)) - 2) (take n rest) ≡ take (n - 1) rest =
    ap (λ (k : ℕ). take k (take n rest)) size ∙ take_inner (n - 1) n rest (omega arith) in
    subst IsUtf8 (sym same) (IsUtf8-take rest (n - 1) u at)

-- the bytes of a word are ASCII
word_low : (b : ℕ) → is_word_byte b ≡ true → is_low b ≡ true
word_low b h = grind (arith, nat_tests)

number_utf8 : (n : ℕ) → n < 2 ^ 127 → IsUtf8 (decimal n)
number_utf8 n low = IsUtf8-from_ascii (decimal n) (IsAscii-decimal_wide n (omega (arith, low)))

digit_low : (b : ℕ) → is_ascii_digit b ≡ true → is_low b ≡ true
digit_low b h = grind (arith, nat_tests)

decimal_utf8 : (scale n : ℕ) → Good (the.Decimal scale n) → IsUtf8 (with_places scale n)
decimal_utf8 zero n good = absurd (omega (arith, good.0))
decimal_utf8 (suc scale) n good =
    let it = pointed (suc scale) n good.2 in
    subst IsUtf8 (sym it.is) (low_utf8 (it.front ++ (46 ∷ it.places)) (passes_append is_low it.front (46 ∷ it.places) (passes_more is_ascii_digit is_low digit_low it.front it.front_pass) (passes_more is_ascii_digit is_low digit_low it.places it.places_pass)))

-- the spelling of a symbol
symbol_utf8 : (s : Symbol) → Good s → IsUtf8 (spelling s)
symbol_utf8 the.Stream good = low_utf8 _ refl
symbol_utf8 the.Int good = low_utf8 _ refl
symbol_utf8 the.Text good = low_utf8 _ refl
symbol_utf8 the.Select good = low_utf8 _ refl
symbol_utf8 the.As good = low_utf8 _ refl
symbol_utf8 the.From good = low_utf8 _ refl
symbol_utf8 the.Publish good = low_utf8 _ refl
symbol_utf8 the.Filter good = low_utf8 _ refl
symbol_utf8 the.Next good = low_utf8 _ refl
symbol_utf8 the.Fold good = low_utf8 _ refl
symbol_utf8 the.Union good = low_utf8 _ refl
symbol_utf8 the.And good = low_utf8 _ refl
symbol_utf8 the.Or good = low_utf8 _ refl
symbol_utf8 the.Not good = low_utf8 _ refl
symbol_utf8 the.True good = low_utf8 _ refl
symbol_utf8 the.Dur good = low_utf8 _ refl
symbol_utf8 the.Min good = low_utf8 _ refl
symbol_utf8 the.Max good = low_utf8 _ refl
symbol_utf8 (the.Name a) good = low_utf8 a (passes_more is_word_byte is_low word_low a good.bytes)
symbol_utf8 (the.Number n) good = number_utf8 n good
symbol_utf8 (the.Decimal scale n) good = decimal_utf8 scale n good
symbol_utf8 (the.Quoted t) good = IsUtf8-append (39 ∷ []) (doubled t ++ codes "'") (low_utf8 _ refl) (IsUtf8-append (doubled t) (codes "'") (doubled_utf8 [] t good.1) (low_utf8 _ refl))
symbol_utf8 the.Dollar1 good = low_utf8 _ refl
symbol_utf8 the.Dollar2 good = low_utf8 _ refl
symbol_utf8 the.Dollar good = low_utf8 _ refl
symbol_utf8 the.Open good = low_utf8 _ refl
symbol_utf8 the.Close good = low_utf8 _ refl
symbol_utf8 the.BraceOpen good = low_utf8 _ refl
symbol_utf8 the.BraceClose good = low_utf8 _ refl
symbol_utf8 the.Comma good = low_utf8 _ refl
symbol_utf8 the.End good = absurd good
symbol_utf8 the.Dot good = low_utf8 _ refl
symbol_utf8 the.Star good = low_utf8 _ refl
symbol_utf8 the.Plus good = low_utf8 _ refl
symbol_utf8 the.Minus good = low_utf8 _ refl
symbol_utf8 (the.Compare cmp.Eq) good = low_utf8 _ refl
symbol_utf8 (the.Compare cmp.Ne) good = low_utf8 _ refl
symbol_utf8 (the.Compare cmp.Lt) good = low_utf8 _ refl
symbol_utf8 (the.Compare cmp.Le) good = low_utf8 _ refl
symbol_utf8 (the.Compare cmp.Gt) good = low_utf8 _ refl
symbol_utf8 (the.Compare cmp.Ge) good = low_utf8 _ refl

-- that of a word before others
word_utf8 : (word : Word) (words : List Word) → AllGood (symbols (word ∷ words)) → IsUtf8 (word_spelling word)
word_utf8 (Of s) words good = symbol_utf8 s good.0
word_utf8 (NegativeDecimal scale n) words good = IsUtf8-append (45 ∷ []) (with_places scale n) (low_utf8 (45 ∷ []) refl) (decimal_utf8 scale n good.1.0)
word_utf8 (Negative n) words good = IsUtf8-append (45 ∷ []) (decimal n) (low_utf8 (45 ∷ []) refl) (number_utf8 n good.1.0)

space_utf8 : (c : Bool) → IsUtf8 (if c then [] else codes " ")
space_utf8 true = IsUtf8-nil
space_utf8 false = low_utf8 (codes " ") refl

-- the words behind a word
words_utf8 : (left : Word) (words : List Word) → AllGood (symbols words) → IsUtf8 (text_behind left words)
words_utf8 left [] good = IsUtf8-nil
words_utf8 left (word ∷ words) good =
    IsUtf8-append (space left word) (word_spelling word ++ text_behind word words) (space_utf8 (joins_right left || joins_left word || is_tight left word))
    (IsUtf8-append (word_spelling word) (text_behind word words) (word_utf8 word words good) (words_utf8 word words (later_good word words good)))

-- the line of a statement
line_utf8 : (s : Statement) → AllGood (canonical_symbols s) → IsUtf8 (line_of s)
line_utf8 s good =
    let words : List Word = statement_words s [] in
    IsUtf8-append (text_of words) (codes ";\n") (subst IsUtf8 (first_text words) (words_utf8 (Of the.Open) words good)) (low_utf8 (codes ";\n") refl)

-- the canonical text
pub canon_utf8 : (ss : List Statement) → EachGood ss → IsUtf8 (canon ss)
canon_utf8 [] good = IsUtf8-nil
canon_utf8 (s ∷ ss) good = IsUtf8-append (line_of s) (canon ss) (line_utf8 s good.0) (canon_utf8 ss good.1)
