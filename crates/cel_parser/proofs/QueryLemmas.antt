-- A text has one answer as one query: it is one query, or is none for one fault.
use Rattle.std.proofs.Common.{◌≡◌, ◌∙◌, ◌≢◌, ◌⊎◌, ℕ, List, [], ◌∷◌, inl, inr, refl, sym, subst, ap, Ok, Err}
use Rattle.std.specs.Prelude.{Result, IfErr, IfOk, unwrap_or}
use Rattle.std.specs.Result.{result_err}
use Rattle.cel_lexer.specs.declared.token.Token.{Token}
use Rattle.cel_grammar.specs.Sentences.{AreSentencesOf, IsSentenceOf, Sentence, more, none, placed_of, sentences}
use Rattle.cel_grammar.specs.Trees.{Column, Query, Statement, Stream}
use Rattle.cel_grammar.specs.Views.{statement_of}
use Rattle.cel_grammar.specs.declared.statement.Statement as code
use Rattle.cel_parser.specs.Cutting.{Begins, BeginsFaulty}
use Rattle.cel_parser.specs.OneQuery.{AreNotOneQuery, AreTooMany, IsNotAlone, IsNotOneQuery, IsOneQuery, IsQuery, declared, first, followed, not_alone, query}
use Rattle.cel_parser.specs.Faults.{IsFaulty}
use Rattle.cel_parser.specs.OneQuery as one
use Rattle.cel_parser.specs.QueryLaws.{OneFaultOfQuery, OneQueryReading, QueryNotBoth, QueryOrFault}
use Rattle.cel_parser.specs.declared.fault.SyntaxFault.{SyntaxFault}
use Rattle.cel_parser.specs.declared.fault.SyntaxFault.TheVariants as fault
use Rattle.cel_parser.proofs.FaultLemmas.{no-fault, one-fault, one-reading, sentence-told}
use Rattle.cel_parser.proofs.StatementComplete.{statement_same}

module _ (all later : List Sentence) (line : ℕ) (s : Statement) (begins : Begins all line s later) where
  -- a statement that stands first is one more
  pub one-more : AreTooMany all (fault.BadStatement 2 line)
  one-more = subst (λ all. AreTooMany all (fault.BadStatement 2 line)) (sym begins.front) (subst (λ line. AreTooMany (begins.sentence ∷ later) (fault.BadStatement 2 line)) begins.there (one.more begins.says))

  -- where it is not the only query, the sentences are not one query
  pub begins-not_alone : (e : SyntaxFault) → IsNotAlone s line later e → AreNotOneQuery all e
  begins-not_alone e h = subst (λ all. AreNotOneQuery all e) (sym begins.front) (not_alone begins.says (subst (λ line. IsNotAlone s line later e) (sym begins.there) h))

  -- where nothing stands behind it, it is all of them
  pub begins-alone : later ≡ [] → AreSentencesOf all (s ∷ []) (line ∷ [])
  begins-alone end =
      let front : all ≡ begins.sentence ∷ [] = begins.front ∙ ap (λ later. begins.sentence ∷ later) end in
      subst (λ line. AreSentencesOf all (s ∷ []) (line ∷ [])) begins.there (subst (λ all. AreSentencesOf all (s ∷ []) (begins.sentence.line ∷ [])) (sym front) (more begins.says none))

-- a first sentence with a fault is no query
pub begins-faulty : (all : List Sentence) (e : SyntaxFault) → BeginsFaulty 1 all e → AreNotOneQuery all e
begins-faulty all e h = subst (λ all. AreNotOneQuery all e) (sym h.front) (first h.faulty)

-- nor may it stand behind a query
faulty-more : (all : List Sentence) (e : SyntaxFault) → BeginsFaulty 2 all e → AreTooMany all e
faulty-more all e h = subst (λ all. AreTooMany all e) (sym h.front) (one.faulty h.faulty)

-- a sentence behind a query is one too many, whether it is read or refused
pub too-many : (answer : Result (code.Statement × ℕ) SyntaxFault) (all : List Sentence) (behind : ℕ → List Sentence) (line : ℕ)
    → IfOk answer (λ read. Begins all line (statement_of read.0) (behind read.1)) → IfErr answer (λ e. e ≢ fault.Memory → BeginsFaulty 2 all e)
    → (e : SyntaxFault) → e ≡ unwrap_or (result_err answer) (fault.BadStatement 2 line) → e ≢ fault.Memory → AreTooMany all e
too-many (Ok read) all behind line ok err e is other = subst (AreTooMany all) (sym is) (one-more all (behind read.1) line (statement_of read.0) ok)
too-many (Err f) all behind line ok err e is other = subst (AreTooMany all) (sym is) (faulty-more all f (err (λ memory. other (is ∙ memory))))

-- a declaration is no query
no-query : {name : List ℕ} {columns : List Column} → IsQuery (Stream name columns) → ⊥
no-query h = elim h [ ]

-- a sentence is at most one statement
pub one-statement : {sentence : Sentence} {s t : Statement} → IsSentenceOf sentence s → IsSentenceOf sentence t → s ≡ t
one-statement {sentence = sentence} {s = s} {t = t} h k = (statement_same sentence.symbols [] [] s t h.read k.read).statement

-- sentences are too many for one fault
many-one : {all : List Sentence} {e other : SyntaxFault} → AreTooMany all e → AreTooMany all other → e ≡ other
many-one (one.faulty h) (one.faulty k) = one-fault h k
many-one (one.faulty h) (one.more k) = absurd (no-fault k h)
many-one (one.more h) (one.faulty k) = absurd (no-fault h k)
many-one (one.more h) (one.more k) = refl

-- a statement is not alone for one fault
alone-one : {s : Statement} {line : ℕ} {later : List Sentence} {e other : SyntaxFault} → IsNotAlone s line later e → IsNotAlone s line later other → e ≡ other
alone-one declared declared = refl
alone-one declared (followed k _) = absurd (no-query k)
alone-one (followed h _) declared = absurd (no-query h)
alone-one (followed _ h) (followed _ k) = many-one h k

-- sentences are not one query for one fault
not-one : {all : List Sentence} {e other : SyntaxFault} → AreNotOneQuery all e → AreNotOneQuery all other → e ≡ other
not-one one.none one.none = refl
not-one (first h) (first k) = one-fault h k
not-one (first h) (not_alone k _) = absurd (no-fault k h)
not-one (not_alone h _) (first k) = absurd (no-fault h k)
not-one (not_alone {sentence = sentence} {later = later} h a) (not_alone {e = other} k b) = alone-one a (subst (λ s. IsNotAlone s sentence.line later other) (one-statement k h) b)

-- a query with nothing behind it is alone
query-alone : {s : Statement} {line : ℕ} {e : SyntaxFault} → IsQuery s → IsNotAlone s line [] e → ⊥
query-alone h declared = no-query h
query-alone h (followed _ k) = elim k [ ]

-- sentences that are one query have no fault for which they are none
said-one-query : {all : List Sentence} {s : Statement} {line : ℕ} {e : SyntaxFault} → AreSentencesOf all (s ∷ []) (line ∷ []) → IsQuery s → AreNotOneQuery all e → ⊥
said-one-query (more says none) h (first k) = no-fault says k
said-one-query (more {sentence = sentence} says none) h (not_alone {e = e} k a) = query-alone h (subst (λ s. IsNotAlone s sentence.line [] e) (one-statement k says) a)

-- these sentences are one query, or are none for this fault
abbrev Told : List Sentence → Type 0
Told all = ((s : Statement) × (line : ℕ) × AreSentencesOf all (s ∷ []) (line ∷ []) × IsQuery s) ⊎ ((e : SyntaxFault) × AreNotOneQuery all e)

-- a first statement tells
told-first : (sentence : Sentence) (later : List Sentence) (s : Statement) → IsSentenceOf sentence s → Told (sentence ∷ later)
told-first sentence later (Stream name columns) says = inr (_, not_alone says declared)
told-first sentence [] (Query items source name) says = inl (_, _, more says none, query)
told-first sentence (next ∷ later) (Query items source name) says = elim (sentence-told 2 next) [
  | inl there ↦ inr (_, not_alone says (followed query (one.more there.1)))
  | inr faulty ↦ inr (_, not_alone says (followed query (one.faulty faulty.1)))
]

-- sentences are one query, or are none for a fault
told : (all : List Sentence) → Told all
told [] = inr (_, one.none)
told (sentence ∷ later) = elim (sentence-told 1 sentence) [
  | inl says ↦ told-first sentence later says.0 says.1
  | inr faulty ↦ inr (_, first faulty.1)
]

-- the sentences of a text with these tokens
abbrev sentences_of : List ℕ → List Token → List Sentence
sentences_of text tokens = sentences (placed_of (record { source = text; items = tokens }))

-- a text is at most one query
pub one-query-reading : OneQueryReading
one-query-reading text s other line other_line h k =
    let same = one-reading text (s ∷ []) (other ∷ []) (line ∷ []) (other_line ∷ []) h.reads k.reads in
    record { statements = (let statements = same.statements in cc); lines = (let lines = same.lines in cc) }

-- a text is none for one fault
pub one-query-fault : OneFaultOfQuery
one-query-fault text e other h k =
    let same : h.tokens ≡ k.tokens = (let both = sym h.all ∙ k.all in cc) in
    not-one (subst (λ tokens. AreNotOneQuery (sentences_of text tokens) e) same h.explained) k.explained

-- no text is one query and is none
pub query-not-both : QueryNotBoth
query-not-both text s line e h k =
    let same : h.reads.tokens ≡ k.tokens = (let both = sym h.reads.all ∙ k.all in cc) in
    said-one-query (subst (λ tokens. AreSentencesOf (sentences_of text tokens) (s ∷ []) (line ∷ [])) same h.reads.said) h.query k.explained

-- each text with tokens is one query or is none
pub query-or-fault : QueryOrFault
query-or-fault text tokens all = elim (told (sentences_of text tokens)) [
  | inl is ↦ inl (is.0, is.1, record { reads = record { tokens = tokens; all = all; said = is.2 }; query = is.3 })
  | inr not ↦ inr (not.0, record { tokens = tokens; all = all; explained = not.1 })
]

-- want of memory is no fault of a sentence
faulty-memory : {number : ℕ} {sentence : Sentence} → IsFaulty number sentence fault.Memory → ⊥
faulty-memory h = elim h [ ]

-- nor of a text that is not one query
pub query-no-memory : (text : List ℕ) → IsNotOneQuery text fault.Memory → ⊥
query-no-memory text h = sentences-memory h.explained
  where
    sentences-memory : {all : List Sentence} → AreNotOneQuery all fault.Memory → ⊥
    sentences-memory (first k) = faulty-memory k
    sentences-memory (not_alone _ (followed _ (one.faulty k))) = faulty-memory k
