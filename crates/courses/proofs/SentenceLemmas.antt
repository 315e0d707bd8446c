-- The one query that sentences are computed to be is the one that they are by the grammar, and so is why they are none.
use Rattle.std.proofs.Common.{◌≡◌, ◌∙◌, ℕ, ◌*◌, true, List, [], ◌∷◌, length, Ok, Err, Some, None, refl, sym, nat_lt, arith}
use Rattle.std.specs.Prelude.{Result}
use Rattle.std.proofs.lemmas.Bool.{cond_both, ltb-false, ltb-true}
use Rattle.cel_grammar.specs.Sentences.{AreSentencesOf, IsSentenceOf, IsSmall, Sentence, is_deep, more, none}
use Rattle.cel_grammar.specs.Symbols.{Symbol}
use Rattle.cel_grammar.specs.Trees.{Query, Statement, Stream}
use Rattle.cel_parser.specs.Faults.{IsFaulty, bad, deep, many, unended}
use Rattle.cel_parser.specs.OneQuery.{AreNotOneQuery, AreTooMany, IsNotAlone, declared, first, followed, not_alone, query}
use Rattle.cel_parser.specs.OneQuery as one
use Rattle.cel_parser.specs.ScalarReader.{Read}
use Rattle.cel_parser.specs.StatementReader.{statement_at}
use Rattle.cel_parser.specs.declared.fault.SyntaxFault.{SyntaxFault}
use Rattle.cel_parser.specs.declared.fault.SyntaxFault.TheVariants.{BadStatement, TooDeep, TooManyTokens}
use Rattle.cel_parser.proofs.ScalarSound.{same}
use Rattle.cel_parser.proofs.StatementComplete.{statement_complete}
use Rattle.cel_parser.proofs.StatementSound.{statement_sound}
use Rattle.courses.specs.FirstFault.{◌>>=◌}
use Rattle.courses.specs.QuerySentences.{PlacedQuery, one_query, only_query, second_fault, sentence_read, whole}

-- what is found of a sentence is so
abbrev IsSaid : ℕ → Sentence → Result Statement SyntaxFault → Type 0
IsSaid number sentence (Ok statement) = IsSentenceOf sentence statement
IsSaid number sentence (Err fault) = IsFaulty number sentence fault

-- no symbols are left
abbrev NoneLeft : List Symbol → Type 0
NoneLeft [] = Unit {0}
NoneLeft (t ∷ ts) = ⊥

module _ (number : ℕ) (sentence : Sentence) where
  abbrev answer : Read Statement
  answer = statement_at (16 * length sentence.symbols) sentence.symbols

  -- what the reader answers tells it
  whole-said : sentence.ended ≡ true → IsSmall sentence.symbols → (read : Read Statement) → answer ≡ read → IsSaid number sentence (whole number sentence.line read)
  whole-said ended small (Some (s, [])) is = record { ended = ended; small = small; read = statement_sound (16 * length sentence.symbols) sentence.symbols s [] is }
  whole-said ended small (Some (s, t ∷ left)) is = bad ended small
      (λ other h.
      let read = statement_complete h (16 * length sentence.symbols) (omega arith) in
      same (λ _ us. NoneLeft us) other [] s (t ∷ left) (sym read ∙ is) tt)
  whole-said ended small None is = bad ended small (λ s h. let read = statement_complete h (16 * length sentence.symbols) (omega arith) in absurd cc)

  -- a sentence is a statement, or has a fault
  sentence-said : IsSaid number sentence (sentence_read number sentence)
  sentence-said =
      cond_both sentence.ended _ (Err (BadStatement number sentence.line)) (IsSaid number sentence)
      (λ ended. cond_both (nat_lt 1024 (length sentence.symbols)) (Err (TooManyTokens number sentence.line)) _ (IsSaid number sentence)
      (λ long. many ended (ltb-true 1024 (length sentence.symbols) long))
      (λ short. let few = ltb-false 1024 (length sentence.symbols) short in cond_both (is_deep 0 sentence.symbols) (Err (TooDeep number sentence.line)) (whole number sentence.line answer) (IsSaid number sentence)
      (λ steep. deep ended few steep)
      (λ shallow. whole-said ended (record { few = few; shallow = shallow }) answer refl)))
      (λ missing. unended missing)

-- what is found of sentences is so
abbrev pub IsAnswer : List Sentence → Result PlacedQuery SyntaxFault → Type 0
IsAnswer all (Ok q) = AreSentencesOf all (Query q.items q.source q.name ∷ []) (q.line ∷ [])
IsAnswer all (Err fault) = AreNotOneQuery all fault

-- a sentence behind a query is one too many
second-said : (next : Sentence) (later : List Sentence) (found : Result Statement SyntaxFault) → IsSaid 2 next found → AreTooMany (next ∷ later) (second_fault next found)
second-said next later (Ok s) is = one.more is
second-said next later (Err fault) is = one.faulty is

-- a first statement tells
only-said : (sentence : Sentence) (later : List Sentence) (s : Statement) → IsSentenceOf sentence s → IsAnswer (sentence ∷ later) (only_query sentence.line later s)
only-said sentence later (Stream name columns) says = not_alone says declared
only-said sentence [] (Query items source name) says = more says none
only-said sentence (next ∷ later) (Query items source name) says = not_alone says (followed query (second-said next later (sentence_read 2 next) (sentence-said 2 next)))

first-said : (sentence : Sentence) (later : List Sentence) (found : Result Statement SyntaxFault) → IsSaid 1 sentence found → IsAnswer (sentence ∷ later) (found >>= λ s. only_query sentence.line later s)
first-said sentence later (Ok s) is = only-said sentence later s is
first-said sentence later (Err fault) is = first is

-- sentences are one query, or are none for a fault
pub query-said : (all : List Sentence) → IsAnswer all (one_query all)
query-said [] = one.none
query-said (sentence ∷ later) = first-said sentence later (sentence_read 1 sentence) (sentence-said 1 sentence)
