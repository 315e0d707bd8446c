-- Each text has a verdict: pass by pass.
use Rattle.std.proofs.Common.{◌≡◌, ◌⊎◌, ℕ, zero, suc, ◌+◌, ◌<◌, ◌≤◌, List, length, refl, subst, inl, inr, Ok, Err, arith}
use Rattle.std.specs.Prelude.{Option, Some, None}
use Rattle.std.proofs.lemmas.Bool.{cases_lt}
use Rattle.std.proofs.lemmas.Option.{slice_get-get_or}
use Rattle.cel_lexer.specs.Faults.{tokens_of}
use Rattle.cel_lexer.specs.Tokens.{Lexed}
use Rattle.cel_lexer.specs.declared.fault.LexFault.{LexFault}
use Rattle.cel_lexer.specs.declared.fault.LexFault.TheVariants as lex
use Rattle.cel_lexer.proofs.MemoryLemmas.{never_memory}
use Rattle.cel_grammar.specs.Sentences.{Sentence}
use Rattle.cel_grammar.specs.Trees.{Statement}
use Rattle.cel_parser.specs.Faults.{Explains, HasSyntaxFault}
use Rattle.cel_parser.specs.Faults as why
use Rattle.cel_parser.specs.Laws.{Readable, Refusable}
use Rattle.cel_parser.specs.declared.fault.SyntaxFault.{SyntaxFault}
use Rattle.cel_parser.specs.declared.fault.SyntaxFault.TheVariants as syntax_fault
use Rattle.cel_parser.proofs.FaultLemmas.{one-of-both}
use Rattle.cel_parser.proofs.SentenceLemmas.{said-lines}
use Rattle.semantics.specs.Programs.{Query}
use Rattle.stream_schema.specs.Streams.{Entry}
use Rattle.resubscribe.specs.Cycle.{IsCycle}
use Rattle.resubscribe.specs.Order.{IsOrder}
use Rattle.resubscribe.proofs.TotalLemmas.{some_outcome}
use Rattle.catalogue.specs.declared.fault.QueryFault.{QueryFault}
use Rattle.catalogue.specs.Arranging.{AreSound, name, read}
use Rattle.catalogue.specs.Faults as told
use Rattle.catalogue.specs.Filing.{IsFileWithinLimit, most_bytes, long, tokens, syntax}
use Rattle.catalogue.specs.First.{HaveNone, IsFirst}
use Rattle.catalogue.specs.Judgement.{Accepted, Circle, Judges, Refused, Verdict}
use Rattle.catalogue.specs.Judgement as judgement
use Rattle.catalogue.specs.Naming.{name_fault_at, read_fault_at}
use Rattle.catalogue.specs.Reading.{names_at, reads_in}
use Rattle.catalogue.specs.Statements.{queries_in}
use Rattle.catalogue.specs.Typing.{FileDeclares, FileFailsToDeclare, FailToPublish, Publish, query_lines}
use Rattle.catalogue.specs.Verdicts.{SomeVerdict}
use Rattle.catalogue.proofs.PlaceLemmas.{HaveNone-more}
use Rattle.catalogue.proofs.SmallLemmas.{reads_small}
use Rattle.catalogue.proofs.TotalDeclarations.{FileCase, declare_case, fine, fault}
use Rattle.catalogue.proofs.TotalQueries.{publish_case}

-- none of the first so many has a fault, or there is a first one that has
data FirstCase (fault_at : ℕ → Option QueryFault) (many : ℕ) : Type 0 where
  sound : HaveNone fault_at many → FirstCase fault_at many
  first : (place : ℕ) (why : QueryFault) → place < many → fault_at place ≡ Some why → HaveNone fault_at place → FirstCase fault_at many

more_case : (fault_at : ℕ → Option QueryFault) (many : ℕ) (found : Option QueryFault) → fault_at many ≡ found → FirstCase fault_at many → FirstCase fault_at (suc many)
more_case fault_at many found is (first place why before has none) = first place why (omega arith) has none
more_case fault_at many (Some why) is (sound none) = first many why (omega arith) is none
more_case fault_at many None is (sound none) = let next : many + 1 ≡ suc many = omega arith in sound (subst (HaveNone fault_at) next (HaveNone-more fault_at many none is))

-- by induction on how many there are
first_case : (fault_at : ℕ → Option QueryFault) (many : ℕ) → FirstCase fault_at many
first_case fault_at zero = sound (λ place before. absurd (omega arith))
first_case fault_at (suc many) = more_case fault_at many (fault_at many) refl (first_case fault_at many)

is_first : (fault_at : ℕ → Option QueryFault) (lines : List ℕ) (many place : ℕ) (why : QueryFault) → length lines ≡ many → place < many → fault_at place ≡ Some why → HaveNone fault_at place → (line : ℕ) × IsFirst fault_at lines line why
is_first fault_at lines many place why lengths before has none = (_, record { place = place; on_line = slice_get-get_or lines place 0 (omega arith); has = has; none_before = none })

abbrev HasVerdict : List ℕ → Type 0
HasVerdict text = (v : Verdict) × Judges text v

module _ (text : List ℕ) (ss : List Statement) (lines : List ℕ) (file : IsFileWithinLimit text ss lines) (lengths : length lines ≡ length ss) where
  module _ (are_sound : AreSound ss) where
    publishes : (order : List ℕ) (streams : List Entry) → IsOrder (reads_in ss) order → FileDeclares ss streams
        → FileCase ((all : List Entry) × (published : List Query) × Publish (queries_in ss) streams (length ss) order all published) (FailToPublish (queries_in ss) (query_lines ss lines) streams order) → HasVerdict text
    publishes order streams in_order declares (fine (all, published, publish)) = (
      Accepted (record { statements = ss; lines = lines; declared = streams; streams = all; order = order; published = published }),
      record { file = file; sound = are_sound; in_order = in_order; declares = declares; publishes = publish },
    )
    publishes order streams in_order declares (fault tells fails) = (Refused _ _, judgement.query file are_sound in_order declares fails tells)

    declares_case : (order : List ℕ) → IsOrder (reads_in ss) order → FileCase ((streams : List Entry) × FileDeclares ss streams) (FileFailsToDeclare ss lines) → HasVerdict text
    declares_case order in_order (fine (streams, declares)) = publishes order streams in_order declares (publish_case ss lines streams order are_sound in_order declares lengths)
    declares_case order in_order (fault tells fails) = (Refused _ _, judgement.declared file are_sound in_order fails tells)

    order_case : ((order : List ℕ) × IsOrder (reads_in ss) order) ⊎ ((cycle : List ℕ) × IsCycle (reads_in ss) cycle) → HasVerdict text
    order_case (inl (order, in_order)) = declares_case order in_order (declare_case ss lines lengths)
    order_case (inr (cycle, is_cycle)) = (Circle (names_at ss cycle), record { statements = ss; lines = lines; file = file; have_cycle = record { sound = are_sound; cycle = cycle; is_cycle = is_cycle; names_are = refl } })

  reads_case : HaveNone (name_fault_at ss) (length ss) → FirstCase (read_fault_at ss) (length ss) → HasVerdict text
  reads_case names (sound reads) = order_case (record { names = names; reads = reads }) (some_outcome (reads_in ss) (reads_small ss))
  reads_case names (first place why before has none) =
      let (line, is) = is_first (read_fault_at ss) lines (length ss) place why lengths before has none in (Refused line why, judgement.names file (read names is))

  names_case : FirstCase (name_fault_at ss) (length ss) → HasVerdict text
  names_case (sound names) = reads_case names (first_case (read_fault_at ss) (length ss))
  names_case (first place why before has none) =
      let (line, is) = is_first (name_fault_at ss) lines (length ss) place why lengths before has none in (Refused line why, judgement.names file (name is))

-- a text whose tokens have a fault
by_tokens : (text : List ℕ) (f : LexFault) → length text ≤ most_bytes → tokens_of text ≡ Err f → HasVerdict text
by_tokens text (lex.NotUtf8 line) short is = (Refused _ _, judgement.file (tokens short is told.not_utf8))
by_tokens text (lex.BadToken line) short is = (Refused _ _, judgement.file (tokens short is told.bad_token))
by_tokens text (lex.NumberPast128 line) short is = (Refused _ _, judgement.file (tokens short is told.number))
by_tokens text lex.Memory short is = absurd (never_memory text is)

-- no faulty statement is want of memory
explains_memory : {number : ℕ} {sentences : List Sentence} {f : SyntaxFault} → Explains number sentences f → f ≡ syntax_fault.Memory → ⊥
explains_memory (why.here (why.many _ _)) is = absurd cc
explains_memory (why.here (why.deep _ _ _)) is = absurd cc
explains_memory (why.here (why.bad _ _ _)) is = absurd cc
explains_memory (why.here (why.unended _)) is = absurd cc
explains_memory (why.behind _ later) is = explains_memory later is

-- a text whose statements have a fault
by_statements : (text : List ℕ) (f : SyntaxFault) → length text ≤ most_bytes → HasSyntaxFault text f → HasVerdict text
by_statements text (syntax_fault.TooManyTokens number line) short refused = (Refused _ _, judgement.file (syntax short refused told.many))
by_statements text (syntax_fault.TooDeep number line) short refused = (Refused _ _, judgement.file (syntax short refused told.deep))
by_statements text (syntax_fault.BadStatement number line) short refused = (Refused _ _, judgement.file (syntax short refused told.bad))
by_statements text syntax_fault.Memory short refused = absurd (explains_memory refused.explained refl)

-- a text with tokens
by_reading : (text : List ℕ) → length text ≤ most_bytes → Readable text ⊎ Refusable text → HasVerdict text
by_reading text short (inl readable) =
    names_case text readable.statements readable.lines (record { short = short; reads = readable.reads }) (said-lines readable.reads.said) (first_case (name_fault_at readable.statements) (length readable.statements))
by_reading text short (inr refusable) = by_statements text refusable.fault short refusable.refused

by_found : (text : List ℕ) (found : Lexed) → length text ≤ most_bytes → tokens_of text ≡ found → HasVerdict text
by_found text (Ok found) short is = by_reading text short (one-of-both text found is)
by_found text (Err f) short is = by_tokens text f short is

-- each text has a verdict
pub some_verdict : SomeVerdict
some_verdict text = elim (cases_lt most_bytes (length text)) [
  | inl more ↦ (Refused _ _, judgement.file (long more))
  | inr short ↦ by_found text (tokens_of text) short refl
]
