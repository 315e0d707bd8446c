-- Files of symbols by their sentences.
use Rattle.std.proofs.Common.{◌≡◌, ◌∙◌, ℕ, Bool, true, List, [], ◌∷◌, ◌++◌, map, refl, sym, ap, subst, append_assoc}
use Rattle.std.specs.Prelude.{if◌then◌else◌}
use Rattle.std.specs.List.{All}
use Rattle.std.proofs.lemmas.List.{append-nil}
use Rattle.std.proofs.lemmas.List.Elements.{All-nil, All-cons, All-head, All-tail}
use Rattle.cel_grammar.specs.Sentences.{IsSmall, Placed, AreSentencesOf, IsSentenceOf, Sentence, more, none, sentences, with_front, with_symbol}
use Rattle.cel_grammar.specs.Statements.{IsFile, IsStatement, empty, then}
use Rattle.cel_grammar.specs.Symbols.{Symbol}
use Rattle.cel_grammar.specs.Symbols as the
use Rattle.cel_grammar.specs.Trees.{Statement}
use Rattle.cel_grammar.specs.Laws.{SentencesAreAFile}
use Rattle.cel_parser.proofs.Fronts.{AreInside, IsInside, statement_front}

-- the symbols of a sentence, with its semicolon
abbrev whole : Sentence → List Symbol
whole sentence = sentence.symbols ++ (if sentence.ended then the.End ∷ [] else [])

-- the symbols of sentences, with their semicolons
abbrev glued : List Sentence → List Symbol
glued [] = []
glued (sentence ∷ later) = whole sentence ++ glued later

-- one more symbol before them
front_glued : (placed : Placed) (said : List Sentence) → glued (with_front placed said) ≡ placed.symbol ∷ glued said
front_glued placed [] = refl
front_glued placed (sentence ∷ later) = refl

-- also where it is a semicolon
symbol_glued : (t : Symbol) (placed : Placed) (said : List Sentence) → placed.symbol ≡ t → glued (with_symbol t placed said) ≡ t ∷ glued said
symbol_glued the.End placed said e = refl
symbol_glued t placed said e = front_glued placed said ∙ ap (λ (u : Symbol). u ∷ glued said) e

-- the sentences of symbols have these symbols
sentences_glued : (ps : List Placed) → glued (sentences ps) ≡ map (λ placed. placed.symbol) ps
sentences_glued [] = refl
sentences_glued (placed ∷ ps) = symbol_glued placed.symbol placed (sentences ps) refl ∙ ap (λ (ts : List Symbol). placed.symbol ∷ ts) (sentences_glued ps)

-- a statement of a sentence before other symbols
before : (sentence : Sentence) (s : Statement) (later : List Symbol) → IsStatement sentence.symbols s [] → sentence.ended ≡ true → IsStatement (whole sentence ++ later) s (the.End ∷ later)
before sentence s later read ended =
    let at = statement_front read in
    let same : at.front ≡ sentence.symbols = sym (at.is ∙ append-nil at.front) in
    let placed : sentence.symbols ++ (the.End ∷ later) ≡ whole sentence ++ later =
    sym (append_assoc sentence.symbols (the.End ∷ []) later) ∙ ap (λ (b : Bool). (sentence.symbols ++ (if b then the.End ∷ [] else [])) ++ later) (sym ended) in
    subst (λ (ts : List Symbol). IsStatement ts s (the.End ∷ later)) (ap (λ (ts : List Symbol). ts ++ (the.End ∷ later)) same ∙ placed) (at.moves (the.End ∷ later))

-- sentences that are statements are a file of them
file_of : {said : List Sentence} {ss : List Statement} {lines : List ℕ} → AreSentencesOf said ss lines → IsFile (glued said) ss
file_of none = empty
file_of (more {sentence = sentence} {later = later} {s = s} says rest) = (then) (before sentence s (glued later) says.read says.ended) (file_of rest)

-- sentences that are statements are within the limits
small_of : {said : List Sentence} {ss : List Statement} {lines : List ℕ} → AreSentencesOf said ss lines → All (λ sentence. IsSmall sentence.symbols) said
small_of none = All-nil (λ (sentence : Sentence). IsSmall sentence.symbols)
small_of (more {sentence = sentence} {later = later} says rest) = All-cons (λ (sentence : Sentence). IsSmall sentence.symbols) sentence later says.small (small_of rest)

-- symbols up to a semicolon are the first sentence
record Cut (ps : List Placed) (front rest : List Symbol) : Type 0 where
  line : ℕ
  later : List Placed
  same : map (λ placed. placed.symbol) later ≡ rest
  is : sentences ps ≡ record { line = line; symbols = front; ended = true } ∷ sentences later

-- a semicolon ends a sentence
ended_at : (t : Symbol) (placed : Placed) (said : List Sentence) → t ≡ the.End → with_symbol t placed said ≡ record { line = placed.line; symbols = []; ended = true } ∷ said
ended_at t placed said e = ap (λ (u : Symbol). with_symbol u placed said) e

-- any other symbol goes on with one
goes_on : (t : Symbol) (placed : Placed) (said : List Sentence) → IsInside t → with_symbol t placed said ≡ with_front placed said
goes_on the.End placed said inside = absurd inside
goes_on t placed said inside = refl

-- what stands up to the first semicolon, by induction over it
cut : (ps : List Placed) (front rest : List Symbol) → AreInside front → map (λ placed. placed.symbol) ps ≡ front ++ (the.End ∷ rest) → Cut ps front rest
cut [] [] rest inside e = absurd cc
cut [] (t ∷ front) rest inside e = absurd cc
cut (placed ∷ ps) [] rest inside e =
    let first : placed.symbol ≡ the.End = cc in
    let others : map (λ placed. placed.symbol) ps ≡ rest = cc in
    record { line = placed.line; later = ps; same = others; is = ended_at placed.symbol placed (sentences ps) first }
cut (placed ∷ ps) (t ∷ front) rest inside e =
    let first : placed.symbol ≡ t = cc in
    let others : map (λ placed. placed.symbol) ps ≡ front ++ (the.End ∷ rest) = cc in
    let behind = cut ps front rest inside.1 others in
    record {
      line = placed.line;
      later = behind.later;
      same = behind.same;
      is =
          goes_on placed.symbol placed (sentences ps) (subst IsInside (sym first) inside.0)
          ∙ ap (with_front placed) behind.is
          ∙ ap (λ (u : Symbol). record { line = placed.line; symbols = u ∷ front; ended = true } ∷ sentences behind.later) first;
    }

-- a file of symbols is said by its sentences
said_by : {ts : List Symbol} {ss : List Statement} → IsFile ts ss → (ps : List Placed) → map (λ placed. placed.symbol) ps ≡ ts → All (λ sentence. IsSmall sentence.symbols) (sentences ps) → (lines : List ℕ) × AreSentencesOf (sentences ps) ss lines
said_by empty [] e small = ([], none)
said_by empty (placed ∷ ps) e small = absurd cc
said_by ((then) {rest = rest} {s = s} {ss = ss} h k) ps e small =
    let P : Sentence → Type 0 = λ sentence. IsSmall sentence.symbols in
    let at = statement_front h in
    let up = cut ps at.front rest at.inside (e ∙ at.is) in
    let sentence : Sentence = record { line = up.line; symbols = at.front; ended = true } in
    let each : All P (sentence ∷ sentences up.later) = subst (All P) up.is small in
    let read : IsStatement at.front s [] = subst (λ (ts : List Symbol). IsStatement ts s []) (append-nil at.front) (at.moves []) in
    let says : IsSentenceOf sentence s = record { ended = refl; small = All-head P sentence (sentences up.later) each; read = read } in
    let others = said_by k up.later up.same (All-tail P sentence (sentences up.later) each) in
    (up.line ∷ others.0, subst (λ (said : List Sentence). AreSentencesOf said (s ∷ ss) (up.line ∷ others.0)) (sym up.is) (more says others.1))

-- the two rules of a file are one
pub sentences_are_a_file : SentencesAreAFile
sentences_are_a_file ps ss = (fore, back)
  where
    fore : (lines : List ℕ) × AreSentencesOf (sentences ps) ss lines → IsFile (map (λ placed. placed.symbol) ps) ss × All (λ sentence. IsSmall sentence.symbols) (sentences ps)
    fore h = (subst (λ (ts : List Symbol). IsFile ts ss) (sentences_glued ps) (file_of h.1), small_of h.1)

    back : IsFile (map (λ placed. placed.symbol) ps) ss × All (λ sentence. IsSmall sentence.symbols) (sentences ps) → (lines : List ℕ) × AreSentencesOf (sentences ps) ss lines
    back h = said_by h.0 ps refl h.1
