-- The queries of a text are short and few: a statement has few symbols, and a text has few statements.
use Rattle.std.proofs.Common.{◌≡◌, ap, refl, subst, ℕ, suc, ◌+◌, ◌-◌, ◌≤◌, Bool, true, false, cond, length, List, [], ◌∷◌, arith}
use Rattle.std.specs.Prelude.{⊤, Ok, Err, Some, slice_get}
use Rattle.std.specs.List.{All}
use Rattle.std.specs.Str.{is_utf8}
use Rattle.std.proofs.lemmas.List.{length-map}
use Rattle.std.proofs.lemmas.List.Elements.{All-nil, All-cons, All-get_or, All-filter}
use Rattle.std.proofs.lemmas.Option.{get_or_from_slice_get, slice_get_within}
use Rattle.semantics.specs.Expressions.{Ex}
use Rattle.semantics.specs.Programs.{Query}
use Rattle.stream_schema.specs.Schema.{Attr}
use Rattle.stream_schema.specs.Streams.{Entry}
use Rattle.splitter.proofs.FewLemmas.{nodes}
use Rattle.splitter.proofs.ProgramLemmas.{IsShort}
use Rattle.cel_lexer.specs.Faults.{broken_line, tokens_of}
use Rattle.cel_lexer.specs.Listing.{Ascend}
use Rattle.cel_lexer.specs.Tokens.{tokens_behind_mark}
use Rattle.cel_lexer.specs.declared.fault.LexFault.TheVariants as fault
use Rattle.cel_lexer.specs.declared.token.Token.{Token}
use Rattle.cel_lexer.proofs.AscentLemmas.{tokens-ascend}
use Rattle.cel_grammar.specs.Sentences.{Placed, AreSentencesOf, Sentence, none, more, placed_of, sentences, with_front, with_symbol}
use Rattle.cel_grammar.specs.Sources.{IsSource, IsTerm, term, union, next, next_where, fold, of, group, select, filter}
use Rattle.cel_grammar.specs.Statements.{IsStatement, declaration, query}
use Rattle.cel_grammar.specs.Symbols.{Symbol}
use Rattle.cel_grammar.specs.Symbols as the
use Rattle.cel_grammar.specs.Trees.{Source, Statement}
use Rattle.cel_grammar.specs.Trees as tree
use Rattle.cel_parser.proofs.PredicateComplete.{pred_shorter}
use Rattle.cel_parser.proofs.SourceComplete.{aggs_shorter, items_shorter}
use Rattle.cel_types.specs.Sources.{Elaborates}
use Rattle.cel_types.specs.Sources as source
use Rattle.cel_types.specs.Statements.{Queries}
use Rattle.catalogue.specs.Filing.{IsFileWithinLimit, most_bytes}
use Rattle.catalogue.specs.Statements.{is_query, queries_in}
use Rattle.catalogue.specs.Typing.{Publish}
use Rattle.catalogue.specs.Typing as typing

-- how many nodes a source has: its names, its NEXTs and its FOLDs
abbrev pub nodes_in : Source → ℕ
nodes_in (tree.Name a) = 1
nodes_in (tree.Filter p e) = nodes_in e
nodes_in (tree.Select items e) = nodes_in e
nodes_in (tree.Union e f) = nodes_in e + nodes_in f
nodes_in (tree.Next p e f) = nodes_in e + nodes_in f + 1
nodes_in (tree.Fold p q aggs e f) = nodes_in e + nodes_in f + 1

-- each is a symbol
mutual
  source_nodes : {ts rest : List Symbol} {e : Source} → IsSource ts e rest → nodes_in e + length rest ≤ length ts
  source_nodes (term h) = term_nodes h
  source_nodes (union h k) = omega (arith, source_nodes h, term_nodes k)
  source_nodes (next h k) = omega (arith, source_nodes h, term_nodes k)
  source_nodes (next_where h p k) = omega (arith, source_nodes h, pred_shorter p, term_nodes k)
  source_nodes (fold h p q s k) = omega (arith, source_nodes h, pred_shorter p, pred_shorter q, aggs_shorter s, term_nodes k)

  term_nodes : {ts rest : List Symbol} {e : Source} → IsTerm ts e rest → nodes_in e + length rest ≤ length ts
  term_nodes of = omega arith
  term_nodes (group h) = omega (arith, source_nodes h)
  term_nodes (select i h) = omega (arith, items_shorter i, source_nodes h)
  term_nodes (filter p h) = omega (arith, pred_shorter p, term_nodes h)

-- its expression has as many
gives_nodes : {streams : List Entry} {e : Source} {schema : List Attr} {x : Ex} → Elaborates streams e schema x → nodes x ≡ nodes_in e
gives_nodes (source.name a b) = refl
gives_nodes (source.filter g m) = gives_nodes g
gives_nodes (source.select g m le) = gives_nodes g
gives_nodes (source.union g h d) = omega (arith, gives_nodes g, gives_nodes h)
gives_nodes (source.next g h le m) = omega (arith, gives_nodes g, gives_nodes h)
gives_nodes (source.fold g h m n a) = omega (arith, gives_nodes g, gives_nodes h)

-- the statement has at most 1,024 of them
abbrev pub HasFew : Statement → Type 0
HasFew (tree.Stream name columns) = ⊤
HasFew (tree.Query items e name) = nodes_in e ≤ 1024

statement_few : {ts : List Symbol} {s : Statement} → IsStatement ts s [] → length ts ≤ 1024 → HasFew s
statement_few (declaration h) few = tt
statement_few (query i h) few = omega (arith, items_shorter i, source_nodes h)

-- each statement of a text has as few parts as the text has bytes
pub say_few : {said : List Sentence} {ss : List Statement} {lines : List ℕ} → AreSentencesOf said ss lines → All HasFew ss
say_few none = All-nil HasFew
say_few (more {s = s} {ss = ss} says rest) = All-cons HasFew s ss (statement_few says.read says.small.few) (say_few rest)

pub query_short : (streams : List Entry) (s : Statement) (schema : List Attr) (x : Ex) → HasFew s → Queries streams s schema x → IsShort x
query_short streams (tree.Stream name columns) schema x few q = absurd q
query_short streams (tree.Query items e name) schema x few q = omega (arith, gives_nodes q, few)

-- each query is short
pub published_short : {queries : List Statement} {streams all : List Entry} {hidden : ℕ} {order : List ℕ} {done : List Query} → All HasFew queries → Publish queries streams hidden order all done → All (λ query. IsShort query.expr) done
published_short few typing.none = All-nil (λ (q : Query). IsShort q.expr)
published_short {queries = queries} few (typing.next {streams = streams} {number = number} {s = s} {more = done} schema x there typed rest) =
    All-cons (λ (q : Query). IsShort q.expr) _ done (query_short streams s schema x (at queries number s few there) typed) (published_short few rest)
  where
    at : (xs : List Statement) (place : ℕ) (s : Statement) → All HasFew xs → slice_get xs place ≡ Some s → HasFew s
    at xs place s all e = subst HasFew (get_or_from_slice_get xs place s s e) (All-get_or HasFew xs place s (slice_get_within xs place s e) all)

-- how many statements there are
say_many : {said : List Sentence} {ss : List Statement} {lines : List ℕ} → AreSentencesOf said ss lines → length ss ≡ length said
say_many none = refl
say_many (more says rest) = ap suc (say_many rest)

front_few : (placed : Placed) (ss : List Sentence) → length (with_front placed ss) ≤ length ss + 1
front_few placed [] = omega arith
front_few placed (s ∷ ss) = omega arith

symbol_few : (symbol : Symbol) (placed : Placed) (ss : List Sentence) → length (with_symbol symbol placed ss) ≤ length ss + 1
symbol_few the.End placed ss = omega arith
symbol_few symbol placed ss = front_few placed ss

sentences_few : (ps : List Placed) → length (sentences ps) ≤ length ps
sentences_few [] = omega arith
sentences_few (placed ∷ rest) = omega (arith, symbol_few placed.symbol placed (sentences rest), sentences_few rest)

tokens_few : (low high : ℕ) (tokens : List Token) → Ascend low high tokens → length tokens ≤ high - low
tokens_few low high [] h = omega arith
tokens_few low high (token ∷ tokens) h = omega (arith, h.0, h.1, h.2, tokens_few token.end high tokens h.3)

placed_many : (text : List ℕ) (tokens : List Token) → length (placed_of (record { source = text; items = tokens })) ≡ length tokens
unfolding placed_of
placed_many text tokens = length-map tokens _

sound_tokens : (text : List ℕ) (tokens : List Token) → tokens_of text ≡ Ok tokens → tokens_behind_mark text ≡ Ok tokens
sound_tokens text tokens e = go (is_utf8 text) e
  where
    go : (b : Bool) → cond b (tokens_behind_mark text) (Err (fault.NotUtf8 (broken_line text))) ≡ Ok tokens → tokens_behind_mark text ≡ Ok tokens
    go true e = e
    go false e = cc

-- a file has as few statements
pub file_few : (text : List ℕ) (ss : List Statement) (lines : List ℕ) → IsFileWithinLimit text ss lines → length ss ≤ most_bytes
file_few text ss lines file =
    let tokens = file.reads.tokens in
    let ascend = tokens-ascend text tokens (sound_tokens text tokens file.reads.all) in
    omega (arith, file.short, say_many file.reads.said, sentences_few (placed_of (record { source = text; items = tokens })), placed_many text tokens, tokens_few 0 (length text) tokens ascend)

-- and its queries as few parts
pub queries_few : (text : List ℕ) (ss : List Statement) (lines : List ℕ) → IsFileWithinLimit text ss lines → All HasFew (queries_in ss)
queries_few text ss lines file = All-filter is_query HasFew ss (say_few file.reads.said)
