-- The spelling of a symbol is cut off as it. No public clause cites it.
use Rattle.std.proofs.Common.{◌≡◌, ◌∙◌, ℕ, zero, suc, sym, subst, append_assoc, ◌+◌, ◌-◌, ◌<◌, ◌^◌, pos, Bool, true, false, List, [], ◌∷◌, ◌++◌, length, take, refl, ap, arith, length-append, nat_lt}
use Rattle.std.specs.Prelude.{◌==◌, ◌&&◌, codes, decimal, nat_le, if◌then◌else◌}
use Rattle.std.specs.Char.{is_ascii_digit}
use Rattle.std.specs.Str.Parse.{digits_value}
use Rattle.std.proofs.Math.Seq.{take-append_seam}
use Rattle.std.proofs.lemmas.Fmt.{decimal_is_IsNumeral_wide}
use Rattle.std.proofs.lemmas.Bool.Decides.{nat_tests}
use Rattle.event_types.specs.declared.comparison.Cmp.TheVariants as cmp
use Rattle.cel_lexer.specs.Bytes.{is_blank, is_comment_byte, is_first, is_letter, is_word_byte}
use Rattle.cel_lexer.specs.Words.{is_keyword, word_piece}
use Rattle.cel_lexer.specs.Numbers.{decimal_piece, number_piece, numeral_piece}
use Rattle.cel_lexer.specs.Literals.{literal_piece}
use Rattle.cel_lexer.specs.Signs.{is_long_sign, is_side, is_sign}
use Rattle.cel_lexer.specs.Pieces.{piece_of}
use Rattle.cel_lexer.specs.declared.token.What.{What}
use Rattle.cel_lexer.specs.declared.token.What.TheVariants as what
use Rattle.cel_lexer.specs.Tokens.{Lexed, before, with_piece}
use Rattle.cel_grammar.specs.Symbols.{Symbol}
use Rattle.cel_grammar.specs.Symbols as the
use Rattle.cel_grammar.specs.Spellings.{symbol_of, undoubled}
use Rattle.cel_print.specs.Words.{Word, Of, Negative}
use Rattle.cel_print.specs.Spelled.{doubled, joins_right, spelling}
use Rattle.cel_print.proofs.Bytes.{passes, passes_append, both_true, run_is, IsStop, stops, no_word, no_digit, no_side, no_dash, no_quote, no_less, no_more, letter_is, digit_is, word_comment, digit_comment, passes_more}
use Rattle.semantics.specs.Report.{with_places}
use Rattle.cel_print.proofs.Decimals.{NoPoint, digits_pass, numeral_pointed, numeral_whole, pointed}
use Rattle.cel_print.proofs.Good.{IsName, Good}
use Rattle.cel_print.proofs.Literals.{literal_is, undoubled_is, doubled_passes}

-- the piece at the front of the text is a token of this kind and of so many bytes
abbrev pub Lexes : List ℕ → What → ℕ → Type 0
Lexes text kind n = (line at : ℕ) (follows : ℕ → Lexed) → with_piece (piece_of text) line at follows ≡ before (record { what = kind; line = line; begin = at; end = at + n }) (follows (n - 1))

-- a spelling before rest is cut off as the symbol
pub record IsCut (symbol : Symbol) (u rest : List ℕ) : Type 0 where
  pub kind : What
  pub piece : Lexes (u ++ rest) kind (length u)
  pub stands : symbol_of kind u ≡ symbol
  pub line : passes is_comment_byte u ≡ true
  pub some : 0 < length u

-- the third choice of several
third : {A : Type 0} (c d e : Bool) (x y z w : A) → c ≡ false → d ≡ false → e ≡ true → (if c then x else (if d then y else (if e then z else w))) ≡ z
third c d e x y z w off off2 on = rw (off, off2, on) refl

-- the fourth choice of several
fourth : {A : Type 0} (c d e f : Bool) (x y z w v : A) → c ≡ false → d ≡ false → e ≡ false → f ≡ true → (if c then x else (if d then y else (if e then z else (if f then w else v)))) ≡ w
fourth c d e f x y z w v off off2 off3 on = rw (off, off2, off3, on) refl

-- a byte that is no minus begins no comment
no_comment : (b : ℕ) (c : Bool) → (b == 45) ≡ false → ((b == 45) && c) ≡ false
no_comment b c e = rw e refl

-- a word that begins with a letter, before what is no word
word_of : (b : ℕ) (u rest : List ℕ) → is_letter b ≡ true → passes is_word_byte (b ∷ u) ≡ true → IsStop rest → piece_of ((b ∷ u) ++ rest) ≡ word_piece (b ∷ u)
word_of b u rest letter all stop =
    let plain = letter_is b letter in
    third (is_blank b) _ (is_letter b) _ _ _ _ plain.0 (no_comment b _ plain.1) letter ∙ ap word_piece (run_is is_word_byte (b ∷ u) rest all (stops is_word_byte rest no_word stop))

-- a keyword
keyword : (symbol : Symbol) (b : ℕ) (u rest : List ℕ) → is_letter b ≡ true → passes is_word_byte (b ∷ u) ≡ true → nat_le (length (b ∷ u)) 64 ≡ true → is_keyword (b ∷ u) ≡ true → symbol_of what.Keyword (b ∷ u) ≡ symbol → IsStop rest → IsCut symbol (b ∷ u) rest
keyword symbol b u rest letter all short key stands stop = record {
  kind = what.Keyword;
  piece = λ line at follows. ap (λ p. with_piece p line at follows) (word_of b u rest letter all stop) ∙ rw (short, key) refl;
  stands = stands;
  line = passes_more is_word_byte is_comment_byte word_comment (b ∷ u) all;
  some = omega arith;
}

-- a name
name : (a rest : List ℕ) → IsName a → IsStop rest → IsCut (the.Name a) a rest
name [] rest is stop = absurd (let h = is.letter in cc)
name (b ∷ u) rest is stop =
    let short : nat_le (length (b ∷ u)) 64 ≡ true = grind (arith, nat_tests, is.short) in
    record {
      kind = what.Name;
      piece = λ line at follows. ap (λ p. with_piece p line at follows) (word_of b u rest is.letter is.bytes stop) ∙ rw (short, is.free) refl;
      stands = refl;
      line = passes_more is_word_byte is_comment_byte word_comment (b ∷ u) is.bytes;
      some = omega arith;
    }

-- digits whose number is not too large are a token
number_lexes : (n : ℕ) (u : List ℕ) → digits_value 10 u ≡ n → nat_lt n (2 ^ 127) ≡ true → (line at : ℕ) (follows : ℕ → Lexed) → with_piece (number_piece u) line at follows ≡ before (record { what = what.Number (pos n); line = line; begin = at; end = at + length u }) (follows (length u - 1))
number_lexes n u value fits line at follows = rw value (rw fits refl)

-- a text that begins with a digit is cut off as what begins with digits
numeral_of : (b : ℕ) (u rest : List ℕ) → is_ascii_digit b ≡ true → piece_of ((b ∷ u) ++ rest) ≡ numeral_piece ((b ∷ u) ++ rest)
numeral_of b u rest digit =
    let plain = digit_is b digit in
    fourth (is_blank b) _ (is_letter b) (is_ascii_digit b) _ _ _ _ _ plain.0 (no_comment b _ plain.1) plain.2 digit

-- digits before what is no digit
digits_cut : (n : ℕ) (u rest : List ℕ) → n < 2 ^ 127 → passes is_ascii_digit u ≡ true → 0 < length u → digits_value 10 u ≡ n → IsStop rest → NoPoint rest → IsCut (the.Number n) u rest
digits_cut n [] rest low all some value stop point = absurd (omega arith)
digits_cut n (b ∷ u) rest low all some value stop point =
    let parts = both_true (is_ascii_digit b) (passes is_ascii_digit u) all in
    let fits : nat_lt n (2 ^ 127) ≡ true = grind (arith, nat_tests, low) in
    record {
      kind = what.Number (pos n);
      piece = λ line at follows.
          ap (λ p. with_piece p line at follows) (numeral_of b u rest parts.0 ∙ numeral_whole (b ∷ u) rest all (stops is_ascii_digit rest no_digit stop) point)
          ∙ number_lexes n (b ∷ u) value fits line at follows;
      stands = refl;
      line = passes_more is_ascii_digit is_comment_byte digit_comment (b ∷ u) all;
      some = omega arith;
    }

-- a number
pub number : (n : ℕ) (rest : List ℕ) → n < 2 ^ 127 → IsStop rest → NoPoint rest → IsCut (the.Number n) (decimal n) rest
number n rest low stop point =
    let numeral = decimal_is_IsNumeral_wide n (omega (arith, low)) in
    digits_cut n (decimal n) rest low (digits_pass (decimal n) numeral.0.1) numeral.0.0 numeral.1 stop point

-- digits, a point and few digits whose units are not too many are a token
decimal_lexes : (n size : ℕ) (front places : List ℕ) → digits_value 10 (front ++ places) ≡ n → nat_lt n (2 ^ 127) ≡ true → nat_le (length places) 18 ≡ true → length front + 1 + length places ≡ size → (line at : ℕ) (follows : ℕ → Lexed)
    → with_piece (decimal_piece front places) line at follows ≡ before (record { what = what.Decimal (length places) (pos n); line = line; begin = at; end = at + size }) (follows (size - 1))
decimal_lexes n size front places value fits few long line at follows = rw few (rw value (rw fits (rw long refl)))

-- digits, a point and digits before what is no digit
pointed_cut : (scale n : ℕ) (front places rest : List ℕ) → Good (the.Decimal scale n) → passes is_ascii_digit front ≡ true → 0 < length front → passes is_ascii_digit places ≡ true → length places ≡ scale → digits_value 10 (front ++ places) ≡ n → IsStop rest → IsCut (the.Decimal scale n) (front ++ (46 ∷ places)) rest
pointed_cut scale n [] places rest good all some more size value stop = absurd (omega arith)
pointed_cut scale n (b ∷ front) places rest good all some more size value stop =
    let parts = both_true (is_ascii_digit b) (passes is_ascii_digit front) all in
    let fits : nat_lt n (2 ^ 127) ≡ true = grind (arith, nat_tests, good.2) in
    let few : nat_le (length places) 18 ≡ true = grind (arith, nat_tests, size, good.1) in
    let long : length (b ∷ front) + 1 + length places ≡ length ((b ∷ front) ++ (46 ∷ places)) = omega (arith, length-append (b ∷ front) (46 ∷ places)) in
    record {
      kind = what.Decimal (length places) (pos n);
      piece = λ line at follows.
          ap (λ p. with_piece p line at follows) (numeral_of b (front ++ (46 ∷ places)) rest parts.0 ∙ numeral_pointed (b ∷ front) places rest all more (omega (arith, size, good.0)) (stops is_ascii_digit rest no_digit stop))
          ∙ decimal_lexes n (length ((b ∷ front) ++ (46 ∷ places))) (b ∷ front) places value fits few long line at follows;
      stands = ap (λ (s : ℕ). the.Decimal s n) size;
      line = passes_append is_comment_byte (b ∷ front) (46 ∷ places) (passes_more is_ascii_digit is_comment_byte digit_comment (b ∷ front) all) (passes_more is_ascii_digit is_comment_byte digit_comment places more);
      some = omega arith;
    }

-- a decimal
pub decimal_cut : (scale n : ℕ) (rest : List ℕ) → Good (the.Decimal scale n) → IsStop rest → IsCut (the.Decimal scale n) (with_places scale n) rest
decimal_cut zero n rest good stop = absurd (omega (arith, good.0))
decimal_cut (suc scale) n rest good stop =
    let it = pointed (suc scale) n good.2 in
    subst (λ (u : List ℕ). IsCut (the.Decimal (suc scale) n) u rest) (sym it.is) (pointed_cut (suc scale) n it.front it.places rest good it.front_pass it.some it.places_pass it.size it.value stop)

-- what stands behind a number begins with no point
abbrev pub MayFollow : Word → List ℕ → Type 0
MayFollow (Of (the.Number n)) rest = NoPoint rest
MayFollow (Negative n) rest = NoPoint rest
MayFollow word rest = Unit {0}

-- sizes of a literal
whole : (k n : ℕ) → n ≡ k + 1 → k + 1 + 1 ≡ suc n
whole k n e = omega arith

inner : (k n : ℕ) → n ≡ k + 1 → suc n - 2 ≡ k
inner k n e = omega arith

-- a text
text : (t rest : List ℕ) → passes is_comment_byte t ≡ true → IsStop rest → IsCut (the.Quoted t) (39 ∷ (doubled t ++ codes "'")) rest
text t rest line stop =
    let size : length (doubled t ++ codes "'") ≡ length (doubled t) + 1 = length-append (doubled t) (codes "'") in
    record {
      kind = what.Quoted;
      piece = λ line' at follows.
          ap (λ o. with_piece (literal_piece o) line' at follows) (literal_is t rest line (stops (λ c. c == 39) rest no_quote stop))
          ∙ ap (λ (k : ℕ). before (record { what = what.Quoted; line = line'; begin = at; end = at + k }) (follows (k - 1))) (whole (length (doubled t)) _ size);
      stands = ap the.Quoted (ap undoubled (ap (λ (k : ℕ). take k (doubled t ++ codes "'")) (inner (length (doubled t)) _ size) ∙ take-append_seam (doubled t) (codes "'")) ∙ undoubled_is t);
      line = passes_append is_comment_byte (doubled t) (codes "'") (doubled_passes t line) refl;
      some = omega arith;
    }

-- a sign, or a mark
sign : (kind : What) (symbol : Symbol) (u rest : List ℕ) → Lexes (u ++ rest) kind (length u) → symbol_of kind u ≡ symbol → passes is_comment_byte u ≡ true → 0 < length u → IsCut symbol u rest
sign kind symbol u rest piece stands line some = record { kind = kind; piece = piece; stands = stands; line = line; some = some }

-- nothing that follows makes a sign longer
no_longer : (b : ℕ) (rest : List ℕ) → ((c : ℕ) → is_long_sign b c ≡ false) → is_first (is_long_sign b) rest ≡ false
no_longer b [] short = refl
no_longer b (c ∷ rest) short = short c

-- a sign of one byte
short_sign : (symbol : Symbol) (b : ℕ) (rest : List ℕ) → is_blank b ≡ false → (b == 45) ≡ false → is_letter b ≡ false → is_ascii_digit b ≡ false → (b == 39) ≡ false → (b == 36) ≡ false → is_sign b ≡ true → is_first (is_long_sign b) rest ≡ false → symbol_of what.Sign (b ∷ []) ≡ symbol → is_comment_byte b ≡ true → IsCut symbol (b ∷ []) rest
short_sign symbol b rest e0 e1 e2 e3 e4 e5 e6 e7 stands line =
    sign what.Sign symbol (b ∷ []) rest (λ line' at follows. rw (e0, e1, e2, e3, e4, e5, e6, e7) refl) stands (rw line refl) (omega arith)

-- a minus, before what is no minus
pub minus : (rest : List ℕ) → is_first (λ c. c == 45) rest ≡ false → IsCut the.Minus (45 ∷ []) rest
unfolding is_sign
minus rest stop = sign what.Sign the.Minus (45 ∷ []) rest (λ line at follows. rw stop (rw (no_longer 45 rest (λ c. refl)) refl)) refl refl (omega arith)

-- a symbol before what stops it, where it is not cut off in any case
pub cut_of : (s : Symbol) (rest : List ℕ) → Good s → (joins_right (Of s) ≡ false → IsStop rest) → MayFollow (Of s) rest → IsCut s (spelling s) rest
unfolding is_keyword is_sign
cut_of the.Stream rest good stop point = keyword the.Stream _ _ rest refl refl refl refl refl (stop refl)
cut_of the.Int rest good stop point = keyword the.Int _ _ rest refl refl refl refl refl (stop refl)
cut_of the.Text rest good stop point = keyword the.Text _ _ rest refl refl refl refl refl (stop refl)
cut_of the.Select rest good stop point = keyword the.Select _ _ rest refl refl refl refl refl (stop refl)
cut_of the.As rest good stop point = keyword the.As _ _ rest refl refl refl refl refl (stop refl)
cut_of the.From rest good stop point = keyword the.From _ _ rest refl refl refl refl refl (stop refl)
cut_of the.Publish rest good stop point = keyword the.Publish _ _ rest refl refl refl refl refl (stop refl)
cut_of the.Filter rest good stop point = keyword the.Filter _ _ rest refl refl refl refl refl (stop refl)
cut_of the.Next rest good stop point = keyword the.Next _ _ rest refl refl refl refl refl (stop refl)
cut_of the.Fold rest good stop point = keyword the.Fold _ _ rest refl refl refl refl refl (stop refl)
cut_of the.Union rest good stop point = keyword the.Union _ _ rest refl refl refl refl refl (stop refl)
cut_of the.And rest good stop point = keyword the.And _ _ rest refl refl refl refl refl (stop refl)
cut_of the.Or rest good stop point = keyword the.Or _ _ rest refl refl refl refl refl (stop refl)
cut_of the.Not rest good stop point = keyword the.Not _ _ rest refl refl refl refl refl (stop refl)
cut_of the.True rest good stop point = keyword the.True _ _ rest refl refl refl refl refl (stop refl)
cut_of the.Dur rest good stop point = keyword the.Dur _ _ rest refl refl refl refl refl (stop refl)
cut_of the.Min rest good stop point = keyword the.Min _ _ rest refl refl refl refl refl (stop refl)
cut_of the.Max rest good stop point = keyword the.Max _ _ rest refl refl refl refl refl (stop refl)
cut_of (the.Name a) rest good stop point = name a rest good (stop refl)
cut_of (the.Number n) rest good stop point = number n rest good (stop refl) point
cut_of (the.Decimal scale n) rest good stop point = decimal_cut scale n rest good (stop refl)
cut_of (the.Quoted t) rest good stop point = text t rest good.0 (stop refl)
cut_of the.Dollar1 rest good stop point = sign what.Mark the.Dollar1 _ rest (λ line at follows. refl) refl refl (omega arith)
cut_of the.Dollar2 rest good stop point = sign what.Mark the.Dollar2 _ rest (λ line at follows. refl) refl refl (omega arith)
cut_of the.Dollar rest good stop point = sign what.Mark the.Dollar _ rest (λ line at follows. rw (stops is_side rest no_side (stop refl)) refl) refl refl (omega arith)
cut_of the.End rest good stop point = absurd good
cut_of the.Minus rest good stop point = minus rest (stops (λ c. c == 45) rest no_dash (stop refl))
cut_of (the.Compare cmp.Lt) rest good stop point = short_sign (the.Compare cmp.Lt) 60 rest refl refl refl refl refl refl refl (stops (is_long_sign 60) rest no_less (stop refl)) refl refl
cut_of (the.Compare cmp.Gt) rest good stop point = short_sign (the.Compare cmp.Gt) 62 rest refl refl refl refl refl refl refl (stops (is_long_sign 62) rest no_more (stop refl)) refl refl
cut_of the.Open rest good stop point = short_sign the.Open 40 rest refl refl refl refl refl refl refl (no_longer 40 rest (λ c. refl)) refl refl
cut_of the.Close rest good stop point = short_sign the.Close 41 rest refl refl refl refl refl refl refl (no_longer 41 rest (λ c. refl)) refl refl
cut_of the.BraceOpen rest good stop point = short_sign the.BraceOpen 123 rest refl refl refl refl refl refl refl (no_longer 123 rest (λ c. refl)) refl refl
cut_of the.BraceClose rest good stop point = short_sign the.BraceClose 125 rest refl refl refl refl refl refl refl (no_longer 125 rest (λ c. refl)) refl refl
cut_of the.Comma rest good stop point = short_sign the.Comma 44 rest refl refl refl refl refl refl refl (no_longer 44 rest (λ c. refl)) refl refl
cut_of the.Dot rest good stop point = short_sign the.Dot 46 rest refl refl refl refl refl refl refl (no_longer 46 rest (λ c. refl)) refl refl
cut_of the.Star rest good stop point = short_sign the.Star 42 rest refl refl refl refl refl refl refl (no_longer 42 rest (λ c. refl)) refl refl
cut_of the.Plus rest good stop point = short_sign the.Plus 43 rest refl refl refl refl refl refl refl (no_longer 43 rest (λ c. refl)) refl refl
cut_of (the.Compare cmp.Eq) rest good stop point = short_sign (the.Compare cmp.Eq) 61 rest refl refl refl refl refl refl refl (no_longer 61 rest (λ c. refl)) refl refl
cut_of (the.Compare cmp.Ne) rest good stop point = sign what.Sign (the.Compare cmp.Ne) _ rest (λ line at follows. refl) refl refl (omega arith)
cut_of (the.Compare cmp.Le) rest good stop point = sign what.Sign (the.Compare cmp.Le) _ rest (λ line at follows. refl) refl refl (omega arith)
cut_of (the.Compare cmp.Ge) rest good stop point = sign what.Sign (the.Compare cmp.Ge) _ rest (λ line at follows. refl) refl refl (omega arith)

-- a semicolon
pub end : (rest : List ℕ) → IsCut the.End (59 ∷ []) rest
unfolding is_sign
end rest = short_sign the.End 59 rest refl refl refl refl refl refl refl (no_longer 59 rest (λ c. refl)) refl refl

-- digits begin with no minus
digits_no_dash : (u rest : List ℕ) → passes is_ascii_digit u ≡ true → 0 < length u → is_first (λ c. c == 45) (u ++ rest) ≡ false
digits_no_dash [] rest all some = absurd (omega arith)
digits_no_dash (b ∷ u) rest all some = (digit_is b (both_true (is_ascii_digit b) (passes is_ascii_digit u) all).0).1

-- nor does a number
pub number_no_dash : (n : ℕ) (rest : List ℕ) → n < 2 ^ 127 → is_first (λ c. c == 45) (decimal n ++ rest) ≡ false
number_no_dash n rest low =
    let numeral = decimal_is_IsNumeral_wide n (omega (arith, low)) in
    digits_no_dash (decimal n) rest (digits_pass (decimal n) numeral.0.1) numeral.0.0

-- nor does a decimal
pub decimal_no_dash : (scale n : ℕ) (rest : List ℕ) → Good (the.Decimal scale n) → is_first (λ c. c == 45) (with_places scale n ++ rest) ≡ false
decimal_no_dash zero n rest good = absurd (omega (arith, good.0))
decimal_no_dash (suc scale) n rest good =
    let it = pointed (suc scale) n good.2 in
    rw it.is (rw (append_assoc it.front (46 ∷ it.places) rest) (digits_no_dash it.front (46 ∷ (it.places ++ rest)) it.front_pass it.some))
