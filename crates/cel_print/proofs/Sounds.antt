-- The symbols of a text's tokens. No public clause cites it.
use Rattle.std.proofs.Common.{◌≡◌, ◌∙◌, ℕ, zero, suc, ◌+◌, ◌-◌, ◌<◌, ◌^◌, pos, Bool, true, false, List, [], ◌∷◌, ◌++◌, length, take, drop, refl, sym, ap, subst, arith, append_assoc, length-append, add-one, nat_lt}
use Rattle.std.specs.Prelude.{cond, Ok, Err, Option, Some, None, ◌==◌, ◌&&◌, nat_le, take_while, if◌then◌else◌}
use Rattle.std.specs.Char.{is_ascii_digit}
use Rattle.std.specs.Str.{IsUtf8, bytes_eq}
use Rattle.std.specs.Str.Parse.{digits_value}
use Rattle.std.proofs.lemmas.Bool.{eqb-true}
use Rattle.std.proofs.lemmas.Bool.Decides.{nat_tests}
use Rattle.std.proofs.lemmas.List.Sums.{take_while-cons}
use Rattle.event_types.specs.declared.comparison.Cmp.TheVariants as cmp
use Rattle.cel_lexer.specs.Bytes.{is_blank, is_comment_byte, is_first, is_letter, is_word_byte}
use Rattle.cel_lexer.specs.Listing.{spelling}
use Rattle.cel_lexer.specs.Literals.{literal_piece, literal_rest}
use Rattle.cel_lexer.specs.Numbers.{behind_point, decimal_of, in_range, number_of, number_or_decimal, numeral_piece}
use Rattle.cel_lexer.specs.Pieces.{piece_of}
use Rattle.cel_lexer.specs.Signs.{is_sign, is_long_sign, is_side}
use Rattle.cel_lexer.specs.Tokens.{Lexed, before, line_after, tokens_from, with_piece}
use Rattle.cel_lexer.specs.Words.{is_keyword}
use Rattle.cel_lexer.specs.declared.token.Token.{Token}
use Rattle.cel_lexer.specs.declared.token.What.{What}
use Rattle.cel_lexer.specs.declared.token.What.TheVariants as what
use Rattle.cel_lexer.proofs.LiteralLemmas.{literal-closes}
use Rattle.cel_lexer.proofs.Lines.{lines_in}
use Rattle.cel_lexer.proofs.NumberLemmas.{in_range-some}
use Rattle.cel_lexer.proofs.PieceLemmas.{take_run}
use Rattle.cel_grammar.specs.Symbols.{Symbol}
use Rattle.cel_grammar.specs.Symbols as the
use Rattle.cel_grammar.specs.Spellings.{Entry, looked_up, keyword_entries, sign_entries, mark_entries, symbol_of, undoubled}
use Rattle.cel_print.proofs.Bytes.{passes, both_true, run_passes}
use Rattle.cel_print.proofs.Cutting.{slice_is}
use Rattle.cel_print.proofs.Encoded.{cut_ascii, literal_utf8, undoubled_utf8}
use Rattle.cel_print.proofs.Good.{Good}

-- a symbol that a token is
abbrev pub Sound : Symbol → Type 0
Sound the.End = Unit {0}
Sound t = Good t

-- the symbol of each token is
abbrev pub AllSound : List ℕ → List Token → Type 0
AllSound source [] = Unit {0}
AllSound source (token ∷ tokens) = Sound (symbol_of token.what (spelling source token)) × AllSound source tokens

-- one of two, by cases
choose : {A : Type 0} (P : A → Type 0) (c : Bool) (x y : A) → (c ≡ true → P x) → (c ≡ false → P y) → P (if c then x else y)
choose P true x y h k = h refl
choose P false x y h k = k refl

-- each entry has a sound symbol
abbrev AllEntries : List Entry → Type 0
AllEntries [] = Unit {0}
AllEntries (e ∷ es) = Sound e.symbol × AllEntries es

-- what is looked up is sound
looked_sound : (es : List Entry) (other : Symbol) (word : List ℕ) → AllEntries es → Sound other → Sound (looked_up es other word)
looked_sound [] other word all sound = sound
looked_sound (e ∷ es) other word all sound = choose Sound (bytes_eq e.word word) e.symbol (looked_up es other word) (λ _. all.0) (λ _. looked_sound es other word all.1 sound)

keyword_sound : (word : List ℕ) → Sound (symbol_of what.Keyword word)
keyword_sound word = looked_sound keyword_entries the.Max word (tt, (tt, (tt, (tt, (tt, (tt, (tt, (tt, (tt, (tt, (tt, (tt, (tt, (tt, (tt, (tt, (tt, tt))))))))))))))))) tt

sign_sound : (word : List ℕ) → Sound (symbol_of what.Sign word)
sign_sound word = looked_sound sign_entries (the.Compare cmp.Ge) word (tt, (tt, (tt, (tt, (tt, (tt, (tt, (tt, (tt, (tt, (tt, (tt, (tt, (tt, (tt, tt))))))))))))))) tt

mark_sound : (word : List ℕ) → Sound (symbol_of what.Mark word)
mark_sound word = looked_sound mark_entries the.Dollar word (tt, (tt, tt)) tt

-- a token before others
before_sound : (source : List ℕ) (token : Token) (r : Lexed) (tokens : List Token) → ((ts : List Token) → r ≡ Ok ts → AllSound source ts) → Sound (symbol_of token.what (spelling source token)) → before token r ≡ Ok tokens → AllSound source tokens
before_sound source token (Ok ts) tokens later sound e = let same : token ∷ ts ≡ tokens = cc in subst (AllSound source) same (sound, later ts refl)
before_sound source token (Err fault) tokens later sound e = absurd cc

-- a run of the front is a token's bytes
run_bytes : (p : ℕ → Bool) (s : List ℕ) → take (length (take_while p s)) s ≡ take_while p s
run_bytes p s = take_run p s

-- a word is a name where it is no keyword
word_sound : (b : ℕ) (rest : List ℕ) → is_letter b ≡ true → nat_le (length (take_while is_word_byte (b ∷ rest))) 64 ≡ true
    → Sound (symbol_of (if is_keyword (take_while is_word_byte (b ∷ rest)) then what.Keyword else what.Name) (take_while is_word_byte (b ∷ rest)))
word_sound b rest letter short =
    let word : List ℕ = take_while is_word_byte (b ∷ rest) in
    choose (λ kind. Sound (symbol_of kind word)) (is_keyword word) what.Keyword what.Name (λ _. keyword_sound word)
    (λ free. record {
      letter = first_letter;
      bytes = run_passes is_word_byte (b ∷ rest);
      short = grind (arith, nat_tests, short);
      free = free;
    })
  where
    letter_case : (c : Bool) → c ≡ true → is_first is_letter (cond c (b ∷ take_while is_word_byte rest) []) ≡ true
    letter_case true e = letter
    letter_case false e = absurd cc

    first_letter : is_first is_letter (take_while is_word_byte (b ∷ rest)) ≡ true
    first_letter = rw (take_while-cons is_word_byte b rest) (letter_case (is_word_byte b) (rw letter refl))

-- what has no line feed passes
lines_case : (b : ℕ) (s : List ℕ) (c : Bool) → (b == 10) ≡ c → (if c then 1 else 0) + lines_in s ≡ 0 → (lines_in s ≡ 0 → passes is_comment_byte s ≡ true) → passes is_comment_byte (b ∷ s) ≡ true
lines_case b s true e h later = absurd (omega arith)
lines_case b s false e h later = rw e (later (omega arith))

lines_pass : (s : List ℕ) → lines_in s ≡ 0 → passes is_comment_byte s ≡ true
lines_pass [] h = refl
lines_pass (b ∷ s) h = lines_case b s (b == 10) refl h (lines_pass s)

-- a part of what passes passes
take_passes : (p : ℕ → Bool) (n : ℕ) (s : List ℕ) → passes p s ≡ true → passes p (take n s) ≡ true
take_passes p zero s h = refl
take_passes p (suc n) [] h = refl
take_passes p (suc n) (b ∷ s) h = let parts = both_true (p b) (passes p s) h in rw parts.0 (take_passes p n s parts.1)

-- so does a text with each doubled quote once
undoubled_passes : (p : ℕ → Bool) (s : List ℕ) → passes p s ≡ true → passes p (undoubled s) ≡ true
undoubled_passes p [] h = refl
undoubled_passes p (b ∷ []) h = h
undoubled_passes p (b ∷ c ∷ s) h =
    let parts = both_true (p b) (passes p (c ∷ s)) h in
    choose (λ t. passes p t ≡ true) ((b == 39) && (c == 39)) (b ∷ undoubled s) (b ∷ undoubled (c ∷ s))
    (λ _. rw parts.0 (undoubled_passes p s (both_true (p c) (passes p s) parts.1).1))
    (λ _. rw parts.0 (undoubled_passes p (c ∷ s) parts.1))

-- a literal's text stays on its line, and is UTF-8
literal_sound : (rest : List ℕ) (n : ℕ) → IsUtf8 rest → literal_rest rest ≡ Some n → Sound (symbol_of what.Quoted (take (n + 1) (39 ∷ rest)))
literal_sound rest n utf8 e =
    let closes = literal-closes rest n e in
    let text : List ℕ = take (length (take (suc n) (39 ∷ rest)) - 2) (take n rest) in
    rw add-one (
      undoubled_passes is_comment_byte text (take_passes is_comment_byte (length (take (suc n) (39 ∷ rest)) - 2) (take n rest) (lines_pass (take n rest) closes.one_line)),
      undoubled_utf8 [] text (literal_utf8 rest n e utf8),
    )

-- what stands at the front
AtFront : List ℕ → List ℕ → List ℕ → Type 0
AtFront source front s = source ≡ front ++ s

-- the pieces of a text, by what its first bytes are
pub piece_sound : (source front : List ℕ) (b : ℕ) (rest : List ℕ) (line : ℕ) (follows : ℕ → Lexed) (tokens : List Token) → IsUtf8 source → source ≡ front ++ (b ∷ rest) → ((n : ℕ) (ts : List Token) → follows n ≡ Ok ts → AllSound source ts)
    → with_piece (piece_of (b ∷ rest)) line (length front) follows ≡ Ok tokens → AllSound source tokens
unfolding numeral_piece
piece_sound source front b rest line follows tokens utf8 whole later =
    choose (λ p. with_piece p line at follows ≡ Ok tokens → AllSound source tokens) (is_blank b) _ _ (λ _ e. later 0 tokens e) (λ _.
    choose (λ p. with_piece p line at follows ≡ Ok tokens → AllSound source tokens) ((b == 45) && is_first (λ next. next == 45) rest) _ _ (λ _ e. later _ tokens e) (λ _.
    choose (λ p. with_piece p line at follows ≡ Ok tokens → AllSound source tokens) (is_letter b) _ _ (λ letter.
    choose (λ p. with_piece p line at follows ≡ Ok tokens → AllSound source tokens) (nat_le (length word) 64) _ _
    (λ short e. lexed (if is_keyword word then what.Keyword else what.Name) (length word) word (run_bytes is_word_byte (b ∷ rest)) (word_sound b rest letter short) e)
    (λ _ e. absurd cc)) (λ _.
    choose (λ p. with_piece p line at follows ≡ Ok tokens → AllSound source tokens) (is_ascii_digit b) _ _ (λ digit. numeral (take_while is_ascii_digit (behind_point (drop (length digits) (b ∷ rest))))) (λ _.
    choose (λ p. with_piece p line at follows ≡ Ok tokens → AllSound source tokens) (b == 39) _ _ (λ quote. literal (literal_rest rest) refl quote) (λ _.
    choose (λ p. with_piece p line at follows ≡ Ok tokens → AllSound source tokens) (b == 36) _ _
    (λ _ e. lexed what.Mark (if is_first is_side rest then 2 else 1) (take (if is_first is_side rest then 2 else 1) (b ∷ rest)) refl (mark_sound (take (if is_first is_side rest then 2 else 1) (b ∷ rest))) e) (λ _.
    choose (λ p. with_piece p line at follows ≡ Ok tokens → AllSound source tokens) (is_sign b) _ _
    (λ _ e. lexed what.Sign (if is_first (is_long_sign b) rest then 2 else 1) (take (if is_first (is_long_sign b) rest then 2 else 1) (b ∷ rest)) refl (sign_sound (take (if is_first (is_long_sign b) rest then 2 else 1) (b ∷ rest))) e)
    (λ _ e. absurd cc)))))))
  where
    at : ℕ
    at = length front

    word : List ℕ
    word = take_while is_word_byte (b ∷ rest)

    digits : List ℕ
    digits = take_while is_ascii_digit (b ∷ rest)

    lexed : (kind : What) (n : ℕ) (bytes : List ℕ) → take n (b ∷ rest) ≡ bytes → Sound (symbol_of kind bytes) → before (record { what = kind; line = line; begin = length front; end = length front + n }) (follows (n - 1)) ≡ Ok tokens → AllSound source tokens
    lexed kind n bytes is sound e =
        before_sound source (record { what = kind; line = line; begin = length front; end = length front + n }) (follows (n - 1)) tokens (λ ts k. later (n - 1) ts k)
        (rw (slice_is source front (b ∷ rest) n whole ∙ is) sound) e

    -- a whole number
    whole_number : (o : Option ℕ) → in_range (digits_value 10 digits) ≡ o → with_piece (number_of o (length digits)) line (length front) follows ≡ Ok tokens → AllSound source tokens
    whole_number (Some n) is e = lexed (what.Number (pos n)) (length digits) digits (run_bytes is_ascii_digit (b ∷ rest)) (in_range-some (digits_value 10 digits) n (sym is)).1 e
    whole_number None is e = absurd cc

    -- a decimal
    decimal : (places : List ℕ) → 0 < length places → nat_le (length places) 18 ≡ true → (o : Option ℕ) → in_range (digits_value 10 (digits ++ places)) ≡ o → with_piece (decimal_of o (length places) (length digits + 1 + length places)) line (length front) follows ≡ Ok tokens → AllSound source tokens
    decimal places some few (Some n) is e =
        lexed (what.Decimal (length places) (pos n)) (length digits + 1 + length places) (take (length digits + 1 + length places) (b ∷ rest)) refl
        (some, grind (arith, nat_tests, few), (in_range-some (digits_value 10 (digits ++ places)) n (sym is)).1) e
    decimal places some few None is e = absurd cc

    -- by the digits behind the point
    numeral : (places : List ℕ) → with_piece (number_or_decimal digits places) line (length front) follows ≡ Ok tokens → AllSound source tokens
    numeral [] = whole_number (in_range (digits_value 10 digits)) refl
    numeral (c ∷ places) =
        choose (λ p. with_piece p line (length front) follows ≡ Ok tokens → AllSound source tokens) (nat_le (length (c ∷ places)) 18) _ _
        (λ few. decimal (c ∷ places) (omega arith) few (in_range (digits_value 10 (digits ++ (c ∷ places)))) refl) (λ _ e. absurd cc)

    -- what stands behind the quote
    behind : (b == 39) ≡ true → IsUtf8 rest
    behind quote = (cut_ascii front b rest (omega (arith, eqb-true b 39 quote)) (subst IsUtf8 whole utf8)).1

    literal : (o : Option ℕ) → literal_rest rest ≡ o → (b == 39) ≡ true → with_piece (literal_piece o) line (length front) follows ≡ Ok tokens → AllSound source tokens
    literal (Some n) is quote e = lexed what.Quoted (n + 1) _ refl (rw (eqb-true b 39 quote) (literal_sound rest n (behind quote) is)) e
    literal None is quote e = absurd cc

-- the tokens of a source from a place on
pub from_sound : (source : List ℕ) (n line : ℕ) (front s : List ℕ) (tokens : List Token) → IsUtf8 source → source ≡ front ++ s → tokens_from n line (length front) s ≡ Ok tokens → AllSound source tokens
unfolding tokens_from
from_sound source n line front [] tokens utf8 whole e = let same : [] ≡ tokens = cc in subst (AllSound source) same tt
from_sound source zero line front (b ∷ rest) tokens utf8 whole e =
    piece_sound source front b rest line (λ n. tokens_from n (line_after b line) (length front + 1) rest) tokens utf8 whole
    (λ n ts k. from_sound source n (line_after b line) (front ++ (b ∷ [])) rest ts utf8 (whole ∙ sym (append_assoc front (b ∷ []) rest)) (ap (λ (at : ℕ). tokens_from n (line_after b line) at rest) (length-append front (b ∷ [])) ∙ k)) e
from_sound source (suc n) line front (b ∷ rest) tokens utf8 whole e =
    from_sound source n (line_after b line) (front ++ (b ∷ [])) rest tokens utf8 (whole ∙ sym (append_assoc front (b ∷ []) rest)) (ap (λ (at : ℕ). tokens_from n (line_after b line) at rest) (length-append front (b ∷ [])) ∙ e)
