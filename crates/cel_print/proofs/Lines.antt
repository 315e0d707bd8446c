-- The lines of a canonical text are cut into their symbols. No public clause cites it.
use Rattle.std.proofs.Common.{◌≡◌, ◌∙◌, ℕ, ◌+◌, Bool, true, false, List, [], ◌∷◌, ◌++◌, length, map, refl, sym, ap, subst, append_assoc, length-append}
use Rattle.std.specs.Prelude.{◌||◌, codes, decimal, if◌then◌else◌}
use Rattle.semantics.specs.Report.{with_places}
use Rattle.cel_lexer.specs.Tokens.{tokens_from}
use Rattle.cel_grammar.specs.Symbols.{Symbol}
use Rattle.cel_grammar.specs.Symbols as the
use Rattle.cel_grammar.specs.Sentences.{Placed}
use Rattle.cel_grammar.specs.Trees.{Statement}
use Rattle.cel_print.specs.Words.{Word, Of, Negative, NegativeDecimal, symbols}
use Rattle.cel_print.specs.StatementWords.{statement_words}
use Rattle.cel_print.specs.Spelled.{joins_left, joins_right, is_tight, space, text_behind, text_of, word_spelling, line_of, canon}
use Rattle.cel_print.specs.Laws.{canonical_symbols}
use Rattle.cel_print.proofs.Bytes.{IsStop}
use Rattle.cel_print.proofs.Good.{AllGood}
use Rattle.cel_print.proofs.Decimals.{NoPoint}
use Rattle.cel_print.proofs.Pieces.{IsCut, MayFollow, cut_of, decimal_cut, decimal_no_dash, end, minus, number, number_no_dash}
use Rattle.cel_print.proofs.Cutting.{Cut, token_first, blank_first, feed_first}

-- what joins the word before it stops that word
joined_stops : (word : Word) (s : List ℕ) → joins_left word ≡ true → IsStop (word_spelling word ++ s)
joined_stops (Of the.Comma) s e = refl
joined_stops (Of the.Close) s e = refl
joined_stops (Of the.BraceClose) s e = refl
joined_stops word s e = absurd cc

-- so does the parenthesis of a call, and the point of a mark
tight_stops : (left word : Word) (s : List ℕ) → is_tight left word ≡ true → IsStop (word_spelling word ++ s)
tight_stops (Of the.Min) (Of the.Open) s e = refl
tight_stops (Of the.Max) (Of the.Open) s e = refl
tight_stops (Of the.Min) word s e = absurd cc
tight_stops (Of the.Max) word s e = absurd cc
tight_stops (Of the.Dollar1) (Of the.Dot) s e = refl
tight_stops (Of the.Dollar2) (Of the.Dot) s e = refl
tight_stops (Of the.Dollar) (Of the.Dot) s e = refl
tight_stops (Of the.Dollar1) word s e = absurd cc
tight_stops (Of the.Dollar2) word s e = absurd cc
tight_stops (Of the.Dollar) word s e = absurd cc
tight_stops left word s e = absurd cc

-- a space, or a word that joins the one before it
space_stops : (a b : Bool) (u s : List ℕ) → (a ≡ true → IsStop (u ++ s)) → (b ≡ true → IsStop (u ++ s)) → IsStop (((if false || a || b then [] else codes " ") ++ u) ++ s)
space_stops true b u s h k = h refl
space_stops false true u s h k = k refl
space_stops false false u s h k = refl

-- what stands behind a word that joins nothing behind it stops it
behind_stops : (word : Word) (words : List Word) (tail : List ℕ) → joins_right word ≡ false → IsStop tail → IsStop (text_behind word words ++ tail)
behind_stops word [] tail free stop = stop
behind_stops word (next ∷ words) tail free stop =
    rw free (subst IsStop (regroup (if false || joins_left next || is_tight word next then [] else codes " ") (word_spelling next) (text_behind next words) tail)
    (space_stops (joins_left next) (is_tight word next) (word_spelling next) (text_behind next words ++ tail) (joined_stops next _) (tight_stops word next _)))
  where
    regroup : (a b c d : List ℕ) → (a ++ b) ++ (c ++ d) ≡ (a ++ (b ++ c)) ++ d
    regroup a b c d = simp append_assoc

-- nothing behind a word begins with a point but behind a mark
point_behind : (word : Word) → joins_right word ≡ false → ((right : Word) → is_tight word right ≡ false) → (words : List Word) (tail : List ℕ) → NoPoint tail → NoPoint (text_behind word words ++ tail)
point_behind word free loose [] tail h = h
point_behind word free loose (next ∷ words) tail h = rw (free, loose next) (by_next next)
  where
    by_next : (next : Word) → NoPoint (((if false || joins_left next || false then [] else codes " ") ++ (word_spelling next ++ text_behind next words)) ++ tail)
    by_next (Of the.Comma) = refl
    by_next (Of the.Close) = refl
    by_next (Of the.BraceClose) = refl
    by_next next = refl

-- what stands behind a word may follow it
behind_follows : (word : Word) (words : List Word) (tail : List ℕ) → NoPoint tail → MayFollow word (text_behind word words ++ tail)
behind_follows (Of (the.Number n)) words tail h = point_behind (Of (the.Number n)) refl (λ right. refl) words tail h
behind_follows (Negative n) words tail h = point_behind (Negative n) refl (λ right. refl) words tail h
behind_follows word words tail h = tt

-- symbols on a line
abbrev pub on_line : ℕ → List Symbol → List Placed
on_line line ts = map (λ t. record { line = line; symbol = t }) ts

-- what is left of a source behind its front, wherever that ends, is cut into these symbols
abbrev CutFrom : List ℕ → ℕ → List ℕ → List Placed → Type 0
CutFrom source line text words = (front : List ℕ) → source ≡ front ++ text → Cut source line (length front) text words

-- the same text otherwise grouped
retexted : (source : List ℕ) (line : ℕ) (text other : List ℕ) (words : List Placed) → text ≡ other → CutFrom source line text words → CutFrom source line other words
retexted source line text other words e cut = subst (λ (t : List ℕ). CutFrom source line t words) e cut

-- a token at the front
token_cut : (source : List ℕ) (line : ℕ) (symbol : Symbol) (u tail : List ℕ) (words : List Placed) → IsCut symbol u tail → CutFrom source line tail words → CutFrom source line (u ++ tail) (record { line = line; symbol = symbol } ∷ words)
token_cut source line symbol u tail words is cut front e = token_first source front symbol u tail line words e is (cut (front ++ u) (e ∙ sym (append_assoc front u tail)))

-- a byte at the front
byte_place : (front : List ℕ) (b : ℕ) → length (front ++ (b ∷ [])) ≡ length front + 1
byte_place front b = length-append front (b ∷ [])

-- a space at the front
blank_cut : (source : List ℕ) (line : ℕ) (tail : List ℕ) (words : List Placed) → CutFrom source line tail words → CutFrom source line (32 ∷ tail) words
blank_cut source line tail words cut front e =
    blank_first source line (length front) tail words (subst (λ (k : ℕ). Cut source line k tail words) (byte_place front 32) (cut (front ++ (32 ∷ [])) (e ∙ sym (append_assoc front (32 ∷ []) tail))))

-- a line feed at the front
feed_cut : (source : List ℕ) (line : ℕ) (tail : List ℕ) (words : List Placed) → CutFrom source (line + 1) tail words → CutFrom source line (10 ∷ tail) words
feed_cut source line tail words cut front e =
    feed_first source line (length front) tail words (subst (λ (k : ℕ). Cut source (line + 1) k tail words) (byte_place front 10) (cut (front ++ (10 ∷ [])) (e ∙ sym (append_assoc front (10 ∷ []) tail))))

-- a space or nothing at the front
space_cut : (c : Bool) (source : List ℕ) (line : ℕ) (tail : List ℕ) (words : List Placed) → CutFrom source line tail words → CutFrom source line ((if c then [] else codes " ") ++ tail) words
space_cut true source line tail words cut = cut
space_cut false source line tail words cut = blank_cut source line tail words cut

-- a word, its space, and what follows it
word_cut : (source : List ℕ) (line : ℕ) (word : Word) (words : List Word) (tail : List ℕ) (later : List Placed) → AllGood (symbols (word ∷ words)) → (joins_right word ≡ false → IsStop tail) → MayFollow word tail → CutFrom source line tail (on_line line (symbols words) ++ later) → CutFrom source line (word_spelling word ++ tail) (on_line line (symbols (word ∷ words)) ++ later)
word_cut source line (Of s) words tail later good stop point cut = token_cut source line s (word_spelling (Of s)) tail _ (cut_of s tail good.0 stop point) cut
word_cut source line (NegativeDecimal scale n) words tail later good stop point cut =
    token_cut source line the.Minus (45 ∷ []) (with_places scale n ++ tail) _ (minus (with_places scale n ++ tail) (decimal_no_dash scale n tail good.1.0))
    (token_cut source line (the.Decimal scale n) (with_places scale n) tail _ (decimal_cut scale n tail good.1.0 (stop refl)) cut)
word_cut source line (Negative n) words tail later good stop point cut =
    token_cut source line the.Minus (45 ∷ []) (decimal n ++ tail) _ (minus (decimal n ++ tail) (number_no_dash n tail good.1.0))
    (token_cut source line (the.Number n) (decimal n) tail _ (number n tail good.1.0 (stop refl) point) cut)

-- the symbols behind a word are good
pub later_good : (word : Word) (words : List Word) → AllGood (symbols (word ∷ words)) → AllGood (symbols words)
later_good (Of s) words good = good.1
later_good (Negative n) words good = good.1.1
later_good (NegativeDecimal scale n) words good = good.1.1

-- the words behind a word
words_cut : (source : List ℕ) (line : ℕ) (left : Word) (words : List Word) (tail : List ℕ) (later : List Placed) → AllGood (symbols words) → IsStop tail → NoPoint tail → CutFrom source line tail later → CutFrom source line (text_behind left words ++ tail) (on_line line (symbols words) ++ later)
words_cut source line left [] tail later good stop point cut = cut
words_cut source line left (word ∷ words) tail later good stop point cut =
    retexted source line _ _ _ (regroup (space left word) (word_spelling word) (text_behind word words) tail)
    (space_cut (joins_right left || joins_left word || is_tight left word) source line _ _
    (word_cut source line word words (text_behind word words ++ tail) later good (λ free. behind_stops word words tail free stop) (behind_follows word words tail point)
    (words_cut source line word words tail later (later_good word words good) stop point cut)))
  where
    regroup : (a b c d : List ℕ) → a ++ (b ++ (c ++ d)) ≡ (a ++ (b ++ c)) ++ d
    regroup a b c d = simp append_assoc

-- the text of words is their text behind an opening parenthesis
pub first_text : (words : List Word) → text_behind (Of the.Open) words ≡ text_of words
first_text [] = refl
first_text (word ∷ words) = refl

-- a semicolon on a line
abbrev pub end_on : ℕ → Placed
end_on line = record { line = line; symbol = the.End }

-- the line of a statement
line_cut : (source : List ℕ) (line : ℕ) (s : Statement) (tail : List ℕ) (later : List Placed) → AllGood (canonical_symbols s) → CutFrom source (line + 1) tail later → CutFrom source line (line_of s ++ tail) (on_line line (canonical_symbols s) ++ (end_on line ∷ later))
line_cut source line s tail later good cut =
    retexted source line _ _ _ (ap (λ (t : List ℕ). t ++ (59 ∷ 10 ∷ tail)) (first_text (statement_words s [])) ∙ sym (append_assoc (text_of (statement_words s [])) (codes ";\n") tail))
    (words_cut source line (Of the.Open) (statement_words s []) (59 ∷ 10 ∷ tail) _ good refl refl
    (token_cut source line the.End (59 ∷ []) (10 ∷ tail) later (end (10 ∷ tail)) (feed_cut source line tail later cut)))

-- the symbols of statements, each on its line
abbrev pub on_lines : ℕ → List Statement → List Placed
on_lines line [] = []
on_lines line (s ∷ ss) = on_line line (canonical_symbols s) ++ (end_on line ∷ on_lines (line + 1) ss)

-- the symbols of each statement are good
abbrev pub EachGood : List Statement → Type 0
EachGood [] = Unit {0}
EachGood (s ∷ ss) = AllGood (canonical_symbols s) × EachGood ss

-- nothing is left
none_cut : (source : List ℕ) (line : ℕ) → CutFrom source line [] []
unfolding tokens_from
none_cut source line front e = record { tokens = []; all = refl; seen = refl }

-- the lines of a file
pub file_cut : (source : List ℕ) (line : ℕ) (ss : List Statement) → EachGood ss → CutFrom source line (canon ss) (on_lines line ss)
file_cut source line [] good = none_cut source line
file_cut source line (s ∷ ss) good = line_cut source line s (canon ss) (on_lines (line + 1) ss) good.0 (file_cut source (line + 1) ss good.1)
