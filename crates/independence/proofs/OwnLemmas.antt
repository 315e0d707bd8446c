-- No statement of a text has the name of a retired stream, nor reads one.
use Rattle.std.proofs.Common.{◌≡◌, ℕ, Bool, true, false, List, [], ◌∷◌, ◌++◌, map, refl, sym, subst}
use Rattle.std.specs.Prelude.{⊤, Ok, Err, if◌then◌else◌}
use Rattle.std.specs.List.{All}
use Rattle.std.specs.Str.{is_utf8}
use Rattle.std.proofs.lemmas.List.Elements.{All-append, All-cons, All-nil}
use Rattle.std.proofs.lemmas.Str.{IsUtf8-from_is_utf8}
use Rattle.cel_lexer.specs.Bytes.{is_first, is_letter}
use Rattle.cel_lexer.specs.Faults.{broken_line}
use Rattle.cel_lexer.specs.Listing.{spelling}
use Rattle.cel_lexer.specs.Tokens.{mark_len, tokens_behind_mark}
use Rattle.cel_lexer.specs.declared.fault.LexFault.TheVariants as lex
use Rattle.cel_lexer.specs.declared.token.Token.{Token}
use Rattle.stream_schema.specs.Streams.{retired_name}
use Rattle.stream_schema.specs.Table.{IsOwn}
use Rattle.cel_grammar.specs.Symbols.{Symbol}
use Rattle.cel_grammar.specs.Symbols as the
use Rattle.cel_grammar.specs.Sentences.{AreSentencesOf, Placed, ReadsAs, Sentence, more, none, placed_of, sentences, with_front, with_symbol}
use Rattle.cel_grammar.specs.Sources as source
use Rattle.cel_grammar.specs.Spellings.{symbol_of}
use Rattle.cel_grammar.specs.Statements as statement
use Rattle.cel_grammar.specs.Trees.{Agg, Item, Source, Statement}
use Rattle.cel_print.proofs.Cutting.{placed}
use Rattle.cel_print.proofs.Good.{AllGood, Good, IsName}
use Rattle.cel_print.proofs.GoodTrees.{pred_good, scalar_good}
use Rattle.cel_print.proofs.Sounds.{AllSound, Sound, from_sound}
use Rattle.cel_types.specs.Statements.{read_names}
use Rattle.catalogue.specs.Statements.{name_of, reads_by}

-- a name that begins with a letter is no retired stream's
own-name : (a : List ℕ) → IsName a → IsOwn a
own-name a is number same = let first : is_first is_letter (retired_name number) ≡ true = subst (λ x. is_first is_letter x ≡ true) same is.letter in cc

-- what follows an item
item-left : {ts rest : List Symbol} {i : Item} → source.IsItem ts i rest → AllGood ts → AllGood rest
item-left source.star good = good.1
item-left source.name good = good.1
item-left (source.named h) good = (scalar_good h good).left.1.1

-- what follows items, by induction on them
items-left : {ts rest : List Symbol} {items : List Item} → source.IsItems ts items rest → AllGood ts → AllGood rest
items-left (source.one h) good = item-left h good
items-left (source.more h k) good = items-left k (item-left h good).1

-- what follows aggregates, by induction on them
aggs-left : {ts rest : List Symbol} {aggs : List Agg} → source.IsAggs ts aggs rest → AllGood ts → AllGood rest
aggs-left source.none good = good
aggs-left (source.set h k) good = aggs-left k (scalar_good h good.1).left.1.1

-- the names that a source reads, and what follows it
record OwnReads (e : Source) (rest : List Symbol) : Type 0 where
  pub names : All IsOwn (read_names e)
  pub left : AllGood rest

-- those of two sources
both-own : (e f : Source) → All IsOwn (read_names e) → All IsOwn (read_names f) → All IsOwn (read_names e ++ read_names f)
both-own e f h k = All-append IsOwn (read_names e) (read_names f) h k

mutual
  -- by induction on what the symbols read as
  source-own : {ts rest : List Symbol} {e : Source} → source.IsSource ts e rest → AllGood ts → OwnReads e rest
  source-own (source.term h) good = term-own h good
  source-own (source.union {e = e} {f = f} h k) good =
      let a = source-own h good in let b = term-own k a.left.1 in record { names = both-own e f a.names b.names; left = b.left }
  source-own (source.next {e = e} {f = f} h k) good =
      let a = source-own h good in let b = term-own k a.left.1 in record { names = both-own e f a.names b.names; left = b.left }
  source-own (source.next_where {e = e} {f = f} h i k) good =
      let a = source-own h good in let b = term-own k (pred_good i a.left.1.1).left.1 in record { names = both-own e f a.names b.names; left = b.left }
  source-own (source.fold {e = e} {f = f} h i j s k) good =
      let a = source-own h good in let b = term-own k (aggs-left s (pred_good j (pred_good i a.left.1.1).left.1).left).1 in record { names = both-own e f a.names b.names; left = b.left }

  -- by induction on what the symbols read as
  term-own : {ts rest : List Symbol} {e : Source} → source.IsTerm ts e rest → AllGood ts → OwnReads e rest
  term-own (source.of {a = a}) good = record { names = All-cons IsOwn a [] (own-name a good.0) (All-nil IsOwn); left = good.1 }
  term-own (source.group h) good = let a = source-own h good.1 in record { names = a.names; left = a.left.1 }
  term-own (source.select h k) good = let a = source-own k (items-left h good.1.1).1 in record { names = a.names; left = a.left.1 }
  term-own (source.filter h k) good = let a = term-own k (pred_good h good.1.1).left.1 in record { names = a.names; left = a.left }

-- a statement's name, and the names that it reads
pub record OwnNames (s : Statement) : Type 0 where
  pub name : IsOwn (name_of s)
  pub reads : All IsOwn (reads_by s)

statement-own : {ts rest : List Symbol} {s : Statement} → statement.IsStatement ts s rest → AllGood ts → OwnNames s
statement-own (statement.declaration {a = a} h) good = record { name = own-name a good.1.0; reads = All-nil IsOwn }
statement-own (statement.query {a = a} h k) good =
    let reads = source-own k (items-left h good.1).1 in record { name = own-name a reads.left.1.0; reads = reads.names }

-- the symbols of each sentence are those of tokens
abbrev SentencesGood : List Sentence → Type 0
SentencesGood [] = ⊤
SentencesGood (s ∷ ss) = AllGood s.symbols × SentencesGood ss

-- a symbol before sentences
front-good : (word : Placed) (ss : List Sentence) → Good word.symbol → SentencesGood ss → SentencesGood (with_front word ss)
front-good word [] good each = ((good, tt), tt)
front-good word (s ∷ ss) good each = ((good, each.0), each.1)

-- a symbol, which may be a semicolon, before sentences
symbol-good : (t : Symbol) (word : Placed) (ss : List Sentence) → word.symbol ≡ t → Sound t → SentencesGood ss → SentencesGood (with_symbol t word ss)
symbol-good the.End word ss e sound each = (tt, each)
symbol-good t word ss e sound each = front-good word ss (subst Good (sym e) sound) each

-- the sentences of a text's tokens
sentences-good : (source : List ℕ) (tokens : List Token) → AllSound source tokens → SentencesGood (sentences (map (placed source) tokens))
sentences-good source [] sound = tt
sentences-good source (token ∷ tokens) sound =
    symbol-good (symbol_of token.what (spelling source token)) (placed source token) (sentences (map (placed source) tokens)) refl sound.0 (sentences-good source tokens sound.1)

-- the tokens of a text
tokens-sound : (text : List ℕ) (tokens : List Token) (utf8 : Bool) → is_utf8 text ≡ utf8 → (if utf8 then tokens_behind_mark text else Err (lex.NotUtf8 (broken_line text))) ≡ Ok tokens → AllSound text tokens
tokens-sound text tokens true is e = from_sound text (mark_len text) 1 [] text tokens (IsUtf8-from_is_utf8 text is) refl e
tokens-sound text tokens false is e = absurd cc

-- what sentences say, by induction on them
said-own : {sentences : List Sentence} {ss : List Statement} {lines : List ℕ} → AreSentencesOf sentences ss lines → SentencesGood sentences → All OwnNames ss
said-own none good = All-nil OwnNames
said-own (more {s = s} {ss = ss} says later) good = All-cons OwnNames s ss (statement-own says.read good.0) (said-own later good.1)

-- so of the statements that a text reads as
pub reads-own : (text : List ℕ) (ss : List Statement) (lines : List ℕ) → ReadsAs text ss lines → All OwnNames ss
unfolding placed_of
reads-own text ss lines h = said-own h.said (sentences-good text h.tokens (tokens-sound text h.tokens (is_utf8 text) refl h.all))
