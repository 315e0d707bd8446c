-- The verdict on the text of an added query is the one that the rules of the catalogue give.
use Rattle.std.proofs.Common.{◌≡◌, ℕ, ◌+◌, ◌≤◌, List, length, take, count_by, Some, None, Ok, Err, refl, subst, nat_lt}
use Rattle.std.specs.Prelude.{Option, Result}
use Rattle.std.proofs.lemmas.Bool.{cond_both, ltb-false, ltb-true}
use Rattle.cel_lexer.specs.Bytes.{is_line_feed}
use Rattle.cel_lexer.specs.Faults.{tokens_of}
use Rattle.cel_lexer.specs.Tokens.{Lexed}
use Rattle.cel_lexer.specs.declared.fault.LexFault.{LexFault}
use Rattle.cel_lexer.specs.declared.fault.LexFault.TheVariants as lex
use Rattle.cel_lexer.specs.declared.token.Token.{Token}
use Rattle.cel_lexer.proofs.MemoryLemmas.{never_memory}
use Rattle.stream_schema.specs.Streams.{Entry, stream_names}
use Rattle.cel_grammar.specs.Sentences.{placed_of, sentences}
use Rattle.cel_grammar.specs.Trees.{Source, Statement}
use Rattle.cel_grammar.specs.Trees as tree
use Rattle.cel_parser.specs.OneQuery.{IsNotOneQuery, query}
use Rattle.cel_parser.specs.declared.fault.SyntaxFault.{SyntaxFault}
use Rattle.cel_parser.specs.declared.fault.SyntaxFault.TheVariants as syntax
use Rattle.cel_parser.proofs.QueryLemmas.{query-no-memory}
use Rattle.cel_types.specs.Sources.{FailsToElaborate}
use Rattle.cel_types.specs.Statements.{read_names}
use Rattle.cel_types.specs.declared.fault.TypeFault.{TypeFault}
use Rattle.catalogue.specs.declared.fault.QueryFault.{QueryFault}
use Rattle.catalogue.specs.declared.fault.QueryFault.TheVariants.{TooLong}
use Rattle.catalogue.specs.Adding.{AddedVerdict, JudgesAdded, JudgesStatement, NotTaken}
use Rattle.catalogue.specs.Adding as adding
use Rattle.catalogue.specs.Faults as told
use Rattle.catalogue.specs.Filing.{most_bytes}
use Rattle.catalogue.specs.Naming.{name_fault, read_fault}
use Rattle.catalogue.proofs.AddingLemmas.{names-there, one_added_verdict}
use Rattle.courses.specs.AddedVerdicts.{read_verdict, tokens_verdict, typed_verdict, unless_fault, verdict_of}
use Rattle.courses.specs.Laws.{VerdictsAreJudged}
use Rattle.courses.specs.QuerySentences.{PlacedQuery, one_query}
use Rattle.courses.specs.SourceTypes.{SourceType, source_type}
use Rattle.courses.specs.ToldFaults.{sentences_refused, tokens_refused}
use Rattle.courses.proofs.FoundLemmas.{IsFound}
use Rattle.courses.proofs.SentenceLemmas.{IsAnswer, query-said}
use Rattle.courses.proofs.SourceTypeLemmas.{Gives, source-typed}

module _ (streams : List Entry) (q : PlacedQuery) where
  abbrev statement : Statement
  statement = tree.Query q.items q.source q.name

  abbrev selection : Source
  selection = tree.Select q.items q.source

  abbrev IsJudged : AddedVerdict → Type 0
  IsJudged = JudgesStatement streams statement q.line

  -- a query whose names are sound is judged by its types
  types-judge : name_fault (stream_names streams) q.name ≡ None → read_fault (stream_names streams) (read_names q.source) ≡ None → (found : Result SourceType TypeFault) → IsFound (Gives streams selection) (FailsToElaborate streams selection) found → IsJudged (typed_verdict q found)
  types-judge names reads (Ok found) gives = adding.taken names reads gives
  types-judge names reads (Err why) fails = adding.typed names reads fails.0 fails.1

  -- a query whose own name is sound is judged by the names that it reads
  reads-judge : name_fault (stream_names streams) q.name ≡ None → (found : Option QueryFault) → read_fault (stream_names streams) (read_names q.source) ≡ found → IsJudged (unless_fault found q.line (typed_verdict q (source_type streams selection)))
  reads-judge names (Some why) is = adding.reads names is
  reads-judge names None is = types-judge names is (source_type streams selection) (source-typed streams selection (names-there (stream_names streams) (read_names q.source) is))

  name-judges : (found : Option QueryFault) → name_fault (stream_names streams) q.name ≡ found
      → IsJudged (unless_fault found q.line (unless_fault (read_fault (stream_names streams) (read_names q.source)) q.line (typed_verdict q (source_type streams selection))))
  name-judges (Some why) is = adding.named is
  name-judges None is = reads-judge is (read_fault (stream_names streams) (read_names q.source)) refl

module _ (streams : List Entry) (text : List ℕ) (short : length text ≤ most_bytes) where
  -- a fault of sentences is told
  sentences-judge : (why : SyntaxFault) → IsNotOneQuery text why → JudgesAdded streams text (sentences_refused why)
  sentences-judge (syntax.TooManyTokens number line) not = adding.text (adding.syntax short not told.many)
  sentences-judge (syntax.TooDeep number line) not = adding.text (adding.syntax short not told.deep)
  sentences-judge (syntax.BadStatement number line) not = adding.text (adding.syntax short not told.bad)
  sentences-judge syntax.Memory not = absurd (query-no-memory text not)

  -- what was read judges the text
  reading-judges : (tokens : List Token) → tokens_of text ≡ Ok tokens → (found : Result PlacedQuery SyntaxFault) → IsAnswer (sentences (placed_of (record { source = text; items = tokens }))) found → JudgesAdded streams text (read_verdict streams found)
  reading-judges tokens all (Ok q) said = adding.one short (record { reads = record { tokens = tokens; all = all; said = said }; query = query }) (name-judges streams q (name_fault (stream_names streams) q.name) refl)
  reading-judges tokens all (Err why) not = sentences-judge why (record { tokens = tokens; all = all; explained = not })

  -- a fault of tokens is told
  fault-judges : (why : LexFault) → tokens_of text ≡ Err why → JudgesAdded streams text (tokens_refused why)
  fault-judges (lex.NotUtf8 line) is = adding.text (adding.tokens short is told.not_utf8)
  fault-judges (lex.BadToken line) is = adding.text (adding.tokens short is told.bad_token)
  fault-judges (lex.NumberPast128 line) is = adding.text (adding.tokens short is told.number)
  fault-judges lex.Memory is = absurd (never_memory text is)

  tokens-judge : (found : Lexed) → tokens_of text ≡ found → JudgesAdded streams text (tokens_verdict streams text found)
  tokens-judge (Ok tokens) is = reading-judges tokens is (one_query (sentences (placed_of (record { source = text; items = tokens })))) (query-said (sentences (placed_of (record { source = text; items = tokens }))))
  tokens-judge (Err why) is = fault-judges why is

-- the text is judged so
pub verdict_judges : (streams : List Entry) (text : List ℕ) → JudgesAdded streams text (verdict_of streams text)
unfolding verdict_of
verdict_judges streams text =
    cond_both (nat_lt most_bytes (length text)) (NotTaken (count_by is_line_feed (take most_bytes text) + 1) TooLong) (tokens_verdict streams text (tokens_of text)) (JudgesAdded streams text)
    (λ long. adding.text (adding.long (ltb-true most_bytes (length text) long)))
    (λ short. tokens-judge streams text (ltb-false most_bytes (length text) short) (tokens_of text) refl)

-- and in no other way
pub verdict_is : (streams : List Entry) (text : List ℕ) (verdict : AddedVerdict) → JudgesAdded streams text verdict → verdict_of streams text ≡ verdict
verdict_is streams text verdict judged = one_added_verdict streams text (verdict_of streams text) verdict (verdict_judges streams text) judged

-- so the rules judge a text to be just what is computed
pub verdicts_judged : VerdictsAreJudged
verdicts_judged streams text verdict = (verdict_is streams text verdict, λ is. subst (JudgesAdded streams text) is (verdict_judges streams text))
