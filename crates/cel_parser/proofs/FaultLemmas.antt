-- A text has one answer: it reads as one list of statements, or has one fault.
use Rattle.std.proofs.Common.{◌≡◌, ◌∙◌, ℕ, ◌+◌, ◌*◌, Bool, true, false, List, [], ◌∷◌, ◌⊎◌, inl, inr, length, refl, sym, arith, Some, None, Ok}
use Rattle.std.specs.Prelude.{Option}
use Rattle.std.proofs.lemmas.Bool.{cases_Bool, cases_lt}
use Rattle.cel_lexer.specs.Faults.{tokens_of}
use Rattle.cel_lexer.specs.declared.token.Token.{Token}
use Rattle.cel_grammar.specs.Sentences.{IsSmall, AreSentencesOf, IsSentenceOf, Sentence, is_deep, more, none, placed_of, sentences}
use Rattle.cel_grammar.specs.Statements.{IsStatement}
use Rattle.cel_grammar.specs.Symbols.{Symbol}
use Rattle.cel_grammar.specs.Trees.{Statement}
use Rattle.cel_parser.specs.StatementReader.{statement_at}
use Rattle.cel_parser.proofs.StatementComplete.{statement_complete, statement_same}
use Rattle.cel_parser.proofs.StatementSound.{statement_sound}
use Rattle.cel_parser.proofs.ScalarSound.{same}
use Rattle.cel_parser.specs.Faults.{Explains, IsFaulty, bad, behind, deep, here, many, unended}
use Rattle.cel_parser.specs.Laws.{NotBoth, OneFault, OneOfBoth, OneReading, SameFile}
use Rattle.cel_parser.specs.declared.fault.SyntaxFault.{SyntaxFault}

-- a semicolon that is there is not missing
not-missing : {b : Bool} → b ≡ true → b ≡ false → ⊥
not-missing there missing = absurd cc

-- a sentence has at most one fault
pub one-fault : {number : ℕ} {sentence : Sentence} {e other : SyntaxFault} → IsFaulty number sentence e → IsFaulty number sentence other → e ≡ other
one-fault (many _ _) (many _ _) = refl
one-fault (many _ long) (deep _ few _) = absurd (omega arith)
one-fault (many _ long) (bad _ small _) = absurd (omega (arith, small.few))
one-fault (many there _) (unended missing) = absurd (not-missing there missing)
one-fault (deep _ few _) (many _ long) = absurd (omega arith)
one-fault (deep _ _ _) (deep _ _ _) = refl
one-fault (deep _ _ steep) (bad _ small _) = absurd (not-missing steep small.shallow)
one-fault (deep there _ _) (unended missing) = absurd (not-missing there missing)
one-fault (bad _ small _) (many _ long) = absurd (omega (arith, small.few))
one-fault (bad _ small _) (deep _ _ steep) = absurd (not-missing steep small.shallow)
one-fault (bad _ _ _) (bad _ _ _) = refl
one-fault (bad _ _ _) (unended _) = refl
one-fault (unended missing) (many there _) = absurd (not-missing there missing)
one-fault (unended missing) (deep there _ _) = absurd (not-missing there missing)
one-fault (unended _) (bad _ _ _) = refl
one-fault (unended _) (unended _) = refl

-- a sentence that is a statement has no fault
pub no-fault : {number : ℕ} {sentence : Sentence} {s : Statement} {e : SyntaxFault} → IsSentenceOf sentence s → IsFaulty number sentence e → ⊥
no-fault says (many _ long) = absurd (omega (arith, says.small.few))
no-fault says (deep _ _ steep) = not-missing steep says.small.shallow
no-fault says (bad _ _ not) = not _ says.read
no-fault says (unended missing) = not-missing says.ended missing

-- sentences have at most one fault
explains-one : {number : ℕ} {ss : List Sentence} {e other : SyntaxFault} → Explains number ss e → Explains number ss other → e ≡ other
explains-one (here h) (here k) = one-fault h k
explains-one (here h) (behind says k) = absurd (no-fault says h)
explains-one (behind says h) (here k) = absurd (no-fault says k)
explains-one (behind _ h) (behind _ k) = explains-one h k

-- sentences that are statements have no fault
said-no-fault : {ss : List Sentence} {statements : List Statement} {lines : List ℕ} → AreSentencesOf ss statements lines → (number : ℕ) (e : SyntaxFault) → Explains number ss e → ⊥
said-no-fault none number e h = elim h [ ]
said-no-fault (more says later) number e (here h) = no-fault says h
said-no-fault (more says later) number e (behind _ h) = said-no-fault later (number + 1) e h

-- sentences are at most one list of statements
said-one : {ss : List Sentence} {xs ys : List Statement} {ls ms : List ℕ} → AreSentencesOf ss xs ls → AreSentencesOf ss ys ms → SameFile xs ys ls ms
said-one none none = record { statements = refl; lines = refl }
said-one (more {sentence = sentence} {s = s} a later) (more {s = t} b others) =
    let first : s ≡ t = (statement_same sentence.symbols [] [] s t a.read b.read).statement in
    let rest = said-one later others in
    record { statements = rw (first, rest.statements) refl; lines = rw rest.lines refl }

-- no symbols are left
abbrev NoneLeft : List Symbol → Type 0
NoneLeft [] = Unit {0}
NoneLeft (t ∷ ts) = ⊥

-- what the reader answers tells whether some symbols are a statement
by-reader : (ts : List Symbol) (answer : Option (Statement × List Symbol)) → statement_at (16 * length ts) ts ≡ answer
    → ((s : Statement) × IsStatement ts s []) ⊎ ((s : Statement) → IsStatement ts s [] → ⊥)
by-reader ts None answered =
    inr (λ s h. let read = statement_complete h (16 * length ts) (omega arith) in absurd cc)
by-reader ts (Some (s, [])) answered = inl (s, statement_sound (16 * length ts) ts s [] answered)
by-reader ts (Some (s, t ∷ left)) answered =
    inr (λ other h.
    let read = statement_complete h (16 * length ts) (omega arith) in
    same (λ _ us. NoneLeft us) other [] s (t ∷ left) (sym read ∙ answered) tt)

-- symbols are a statement or not
decided : (ts : List Symbol) → ((s : Statement) × IsStatement ts s []) ⊎ ((s : Statement) → IsStatement ts s [] → ⊥)
decided ts = by-reader ts (statement_at (16 * length ts) ts) refl

-- small symbols with their semicolon are a statement, or have a fault
small-told : (number : ℕ) (sentence : Sentence) → sentence.ended ≡ true → IsSmall sentence.symbols
    → ((s : Statement) × IsSentenceOf sentence s) ⊎ ((e : SyntaxFault) × IsFaulty number sentence e)
small-told number sentence ended small = elim (decided sentence.symbols) [
  | inl read ↦ inl (read.0, record { ended = ended; small = small; read = read.1 })
  | inr not ↦ inr (_, bad ended small not)
]

-- so are symbols with their semicolon
ended-told : (number : ℕ) (sentence : Sentence) → sentence.ended ≡ true → ((s : Statement) × IsSentenceOf sentence s) ⊎ ((e : SyntaxFault) × IsFaulty number sentence e)
ended-told number sentence ended = elim (cases_lt 1024 (length sentence.symbols)) [
  | inl long ↦ inr (_, many ended long)
  | inr few ↦ elim (cases_Bool (is_deep 0 sentence.symbols)) [
    | inl steep ↦ inr (_, deep ended few steep)
    | inr shallow ↦ small-told number sentence ended (record { few = few; shallow = shallow })
  ]
]

-- a sentence is a statement, or has a fault
pub sentence-told : (number : ℕ) (sentence : Sentence) → ((s : Statement) × IsSentenceOf sentence s) ⊎ ((e : SyntaxFault) × IsFaulty number sentence e)
sentence-told number sentence = elim (cases_Bool sentence.ended) [
  | inl there ↦ ended-told number sentence there
  | inr missing ↦ inr (_, unended missing)
]

-- these sentences are some statements on some lines
record Sayable (ss : List Sentence) : Type 0 where
  statements : List Statement
  lines : List ℕ
  said : AreSentencesOf ss statements lines

-- sentences are statements, or have a fault
told : (number : ℕ) (ss : List Sentence) → Sayable ss ⊎ ((e : SyntaxFault) × Explains number ss e)
told number [] = inl (record { statements = []; lines = []; said = none })
told number (sentence ∷ ss) = elim (sentence-told number sentence) [
  | inl says ↦ elim (told (number + 1) ss) [
    | inl later ↦ inl (record { statements = says.0 ∷ later.statements; lines = sentence.line ∷ later.lines; said = more says.1 later.said })
    | inr fault ↦ inr (fault.0, behind says.1 fault.1)
  ]
  | inr fault ↦ inr (fault.0, here fault.1)
]

-- a text's tokens are its only ones
same-tokens : (text : List ℕ) (tokens others : List Token) → tokens_of text ≡ Ok tokens → tokens_of text ≡ Ok others → tokens ≡ others
same-tokens text tokens others all all_others = cc

-- the sentences of a text with these tokens
abbrev sentences_of : List ℕ → List Token → List Sentence
sentences_of text tokens = sentences (placed_of (record { source = text; items = tokens }))

-- a text has at most one reading
pub one-reading : OneReading
one-reading text ss others lines other_lines h k =
    let same : h.tokens ≡ k.tokens = same-tokens text h.tokens k.tokens h.all k.all in
    let said = rw same at h.said in
    said-one said k.said

-- a text has at most one fault
pub one-refusal : OneFault
one-refusal text e other h k =
    let same : h.tokens ≡ k.tokens = same-tokens text h.tokens k.tokens h.all k.all in
    let explained = rw same at h.explained in
    explains-one explained k.explained

-- no text has a reading and a fault
pub not-both : NotBoth
not-both text ss lines e h k =
    let same : h.tokens ≡ k.tokens = same-tokens text h.tokens k.tokens h.all k.all in
    let said = rw same at h.said in
    said-no-fault said 1 e k.explained

-- each text has a reading or a fault
pub one-of-both : OneOfBoth
one-of-both text tokens all = elim (told 1 (sentences_of text tokens)) [
  | inl read ↦ inl (record { statements = read.statements; lines = read.lines; reads = record { tokens = tokens; all = all; said = read.said } })
  | inr fault ↦ inr (record { fault = fault.0; refused = record { tokens = tokens; all = all; explained = fault.1 } })
]
