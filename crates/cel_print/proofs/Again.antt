-- The canonical text of what some text reads as is read again. No public clause cites it.
use Rattle.std.proofs.Common.{◌≡◌, ◌∙◌, ℕ, ◌+◌, Bool, true, false, List, [], ◌∷◌, ◌++◌, map, refl, sym, ap, subst}
use Rattle.std.specs.Prelude.{Ok, Err, if◌then◌else◌}
use Rattle.std.specs.Str.{is_utf8}
use Rattle.std.proofs.lemmas.Str.{IsUtf8-from_is_utf8, is_utf8-from_IsUtf8}
use Rattle.cel_lexer.specs.Faults.{broken_line}
use Rattle.cel_lexer.specs.Listing.{spelling}
use Rattle.cel_lexer.specs.Tokens.{mark_len, tokens_behind_mark, tokens_from}
use Rattle.cel_lexer.specs.declared.fault.LexFault.TheVariants as fault
use Rattle.cel_lexer.specs.declared.token.Token.{Token}
use Rattle.cel_grammar.specs.Symbols.{Symbol}
use Rattle.cel_grammar.specs.Symbols as the
use Rattle.cel_grammar.specs.Sentences.{IsSmall, Placed, ReadsAs, AreSentencesOf, IsSentenceOf, Sentence, more, none, placed_of, sentences, with_front, with_symbol}
use Rattle.cel_grammar.specs.Spellings.{symbol_of}
use Rattle.cel_grammar.specs.Statements.{IsStatement}
use Rattle.cel_grammar.specs.Trees.{Statement, Stream, Query}
use Rattle.cel_print.specs.Spelled.{canon}
use Rattle.cel_print.specs.Laws.{canonical_symbols, lines_from}
use Rattle.cel_print.proofs.Best.{best, small}
use Rattle.cel_print.proofs.Cutting.{placed}
use Rattle.cel_print.proofs.Encoded.{canon_utf8}
use Rattle.cel_print.proofs.Good.{Good, AllGood}
use Rattle.cel_print.proofs.GoodTrees.{statement_good}
use Rattle.cel_print.proofs.Lines.{EachGood, end_on, file_cut, on_line, on_lines}
use Rattle.cel_print.proofs.Sounds.{AllSound, Sound, from_sound}

-- the symbols of each sentence are good
abbrev SentencesGood : List Sentence → Type 0
SentencesGood [] = Unit {0}
SentencesGood (s ∷ ss) = AllGood s.symbols × SentencesGood ss

-- a symbol before sentences
front_good : (word : Placed) (ss : List Sentence) → Good word.symbol → SentencesGood ss → SentencesGood (with_front word ss)
front_good word [] good each = ((good, tt), tt)
front_good word (s ∷ ss) good each = ((good, each.0), each.1)

-- a symbol, which may be a semicolon, before sentences
symbol_good : (t : Symbol) (word : Placed) (ss : List Sentence) → word.symbol ≡ t → Sound t → SentencesGood ss → SentencesGood (with_symbol t word ss)
symbol_good the.End word ss e sound each = (tt, each)
symbol_good t word ss e sound each = front_good word ss (subst Good (sym e) sound) each

-- the sentences of a text's tokens
sentences_good : (source : List ℕ) (tokens : List Token) → AllSound source tokens → SentencesGood (sentences (map (placed source) tokens))
sentences_good source [] sound = tt
sentences_good source (token ∷ tokens) sound =
    symbol_good (symbol_of token.what (spelling source token)) (placed source token) (sentences (map (placed source) tokens)) refl sound.0 (sentences_good source tokens sound.1)

-- the canonical symbols of a statement are read, good and within the limits
record Printable (s : Statement) : Type 0 where
  read : IsStatement (canonical_symbols s) s []
  good : AllGood (canonical_symbols s)
  small : IsSmall (canonical_symbols s)

-- those of each statement are
abbrev AllPrintable : List Statement → Type 0
AllPrintable [] = Unit {0}
AllPrintable (s ∷ ss) = Printable s × AllPrintable ss

-- what a sentence says
said : (sentence : Sentence) (s : Statement) → IsSentenceOf sentence s → AllGood sentence.symbols → Printable s
said sentence s says good = record {
  read = (best sentence.symbols s says.read).read;
  good = (statement_good says.read good).words [] tt;
  small = small sentence.symbols s says.read says.small;
}

-- what sentences say
all_said : {sentences : List Sentence} {ss : List Statement} {lines : List ℕ} → AreSentencesOf sentences ss lines → SentencesGood sentences → AllPrintable ss
all_said none good = tt
all_said (more {sentence = sentence} {s = s} says later) good = (said sentence s says good.0, all_said later good.1)

-- no semicolon begins a sentence of its own
not_end : (t : Symbol) (word : Placed) (ss : List Sentence) → Good t → with_symbol t word ss ≡ with_front word ss
not_end the.End word ss good = absurd good
not_end t word ss good = refl

-- symbols on a line up to its semicolon are a sentence
sentence_is : (line : ℕ) (ts : List Symbol) (rest : List Placed) → AllGood ts → sentences (on_line line ts ++ (end_on line ∷ rest)) ≡ record { line = line; symbols = ts; ended = true } ∷ sentences rest
sentence_is line [] rest good = refl
sentence_is line (t ∷ ts) rest good =
    not_end t (record { line = line; symbol = t }) (sentences (on_line line ts ++ (end_on line ∷ rest))) good.0
    ∙ ap (with_front (record { line = line; symbol = t })) (sentence_is line ts rest good.1)

-- the lines of statements say them
lines_say : (line : ℕ) (ss : List Statement) → AllPrintable ss → AreSentencesOf (sentences (on_lines line ss)) ss (lines_from line ss)
lines_say line [] printable = none
lines_say line (s ∷ ss) printable =
    let sentence : Sentence = record { line = line; symbols = canonical_symbols s; ended = true } in
    let says : IsSentenceOf sentence s = record { ended = refl; small = printable.0.small; read = printable.0.read } in
    let P : List Sentence → Type 0 = λ said. AreSentencesOf said (s ∷ ss) (line ∷ lines_from (line + 1) ss) in
    subst P (sym (sentence_is line (canonical_symbols s) (on_lines (line + 1) ss) printable.0.good)) (more {sentence = sentence} says (lines_say (line + 1) ss printable.1))

-- each is good
each_good : (ss : List Statement) → AllPrintable ss → EachGood ss
each_good [] printable = tt
each_good (s ∷ ss) printable = (printable.0.good, each_good ss printable.1)

-- no canonical text begins with a mark
no_mark : (ss : List Statement) → mark_len (canon ss) ≡ 0
no_mark [] = refl
no_mark (Stream a cs ∷ ss) = refl
no_mark (Query items e a ∷ ss) = refl

-- the tokens of a text are sound
tokens_sound : (text : List ℕ) (tokens : List Token) (utf8 : Bool) → is_utf8 text ≡ utf8 → (if utf8 then tokens_behind_mark text else Err (fault.NotUtf8 (broken_line text))) ≡ Ok tokens → AllSound text tokens
tokens_sound text tokens true is e = from_sound text (mark_len text) 1 [] text tokens (IsUtf8-from_is_utf8 text is) refl e
tokens_sound text tokens false is e = absurd cc

-- statements that a text reads as
printable_of : (text : List ℕ) (ss : List Statement) (lines : List ℕ) → ReadsAs text ss lines → AllPrintable ss
unfolding placed_of
printable_of text ss lines h = all_said h.said (sentences_good text h.tokens (tokens_sound text h.tokens (is_utf8 text) refl h.all))

-- the canonical text reads as them
pub read_again : (text : List ℕ) (ss : List Statement) (lines : List ℕ) → ReadsAs text ss lines → ReadsAs (canon ss) ss (lines_from 1 ss)
unfolding placed_of
read_again text ss lines h =
    let printable = printable_of text ss lines h in
    let cut = file_cut (canon ss) 1 ss (each_good ss printable) [] refl in
    let utf8 : is_utf8 (canon ss) ≡ true = is_utf8-from_IsUtf8 (canon ss) (canon_utf8 ss (each_good ss printable)) in
    record {
      tokens = cut.tokens;
      all = rw utf8 (ap (λ (n : ℕ). tokens_from n 1 0 (canon ss)) (no_mark ss) ∙ cut.all);
      said = subst (λ (words : List Placed). AreSentencesOf (sentences words) ss (lines_from 1 ss)) (sym cut.seen) (lines_say 1 ss printable);
    }
