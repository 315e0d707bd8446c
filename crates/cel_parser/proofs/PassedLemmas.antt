-- The sentences that are read so far: what the others are, all of them are.
use Rattle.std.proofs.Common.{◌≡◌, ℕ, ◌+◌, List, [], ◌∷◌, ◌++◌, length, map, sym, subst, arith, append_assoc, append-nil, length-append}
use Rattle.std.proofs.lemmas.List.{length-map, map-append}
use Rattle.cel_grammar.specs.Sentences.{AreSentencesOf, IsSentenceOf, Sentence, more, none}
use Rattle.cel_grammar.specs.Trees.{Statement}
use Rattle.cel_grammar.specs.Views.{statement_of}
use Rattle.cel_grammar.specs.declared.statement.Statement as code
use Rattle.cel_parser.specs.Cutting.{Begins, BeginsFaulty}
use Rattle.cel_parser.specs.Faults.{Explains, behind, here}
use Rattle.cel_parser.specs.declared.fault.SyntaxFault.{SyntaxFault}

-- these statements on these lines stand before the sentences that are left
pub record Passed (all left : List Sentence) (ss : List Statement) (lines : List ℕ) : Type 0 where
  pub said : (ts : List Statement) (ls : List ℕ) → AreSentencesOf left ts ls → AreSentencesOf all (ss ++ ts) (lines ++ ls)
  pub refused : (e : SyntaxFault) → Explains (length ss + 1) left e → Explains 1 all e

-- nothing is read yet
pub passed-none : (all : List Sentence) → Passed all all [] []
passed-none all = record { said = λ ts ls h. h; refused = λ e h. h }

-- one more sentence is read
pub passed-more : (all later : List Sentence) (sentence : Sentence) (ss : List Statement) (lines : List ℕ) (s : Statement)
    → Passed all (sentence ∷ later) ss lines → IsSentenceOf sentence s → Passed all later (ss ++ s ∷ []) (lines ++ sentence.line ∷ [])
passed-more all later sentence ss lines s passed says =
    let count : length (ss ++ s ∷ []) ≡ length ss + 1 = length-append ss (s ∷ []) in
    record {
      said = λ ts ls h. rw (append_assoc ss (s ∷ []) ts, append_assoc lines (sentence.line ∷ []) ls) (passed.said (s ∷ ts) (sentence.line ∷ ls) (more says h));
      refused = λ e h. let next = rw count at h in passed.refused e (behind says next);
    }

-- all is read
pub passed-all : (all : List Sentence) (ss : List Statement) (lines : List ℕ) → Passed all [] ss lines → AreSentencesOf all ss lines
passed-all all ss lines passed = let said = passed.said [] [] none in rw (append-nil ss, append-nil lines) at said

-- the sentences that are left, behind statements of a program
module _ (all left : List Sentence) (ss : List code.Statement) (lines : List ℕ) (passed : Passed all left (map statement_of ss) lines) where
  -- the fault of the first of them is the fault of all
  pub faulty : (number : ℕ) (e : SyntaxFault) → number ≡ length ss + 1 → BeginsFaulty number left e → Explains 1 all e
  faulty number e count h =
      let place : number ≡ length (map statement_of ss) + 1 = omega (arith, count, length-map ss statement_of) in
      let first : Explains number (h.sentence ∷ h.later) e = here h.faulty in
      passed.refused e (subst (λ number. Explains number left e) place (subst (λ left. Explains number left e) (sym h.front) first))

  -- the statement of the first of them goes behind those
  pub read : (line : ℕ) (s : code.Statement) (later : List Sentence) → Begins left line (statement_of s) later → Passed all later (map statement_of (ss ++ s ∷ [])) (lines ++ line ∷ [])
  read line s later h =
      let on : Passed all (h.sentence ∷ later) (map statement_of ss) lines = subst (λ left. Passed all left (map statement_of ss) lines) h.front passed in
      let more = passed-more all later h.sentence (map statement_of ss) lines (statement_of s) on h.says in
      rw (map-append statement_of ss (s ∷ [])) (subst (λ line. Passed all later (map statement_of ss ++ statement_of s ∷ []) (lines ++ line ∷ [])) h.there more)
