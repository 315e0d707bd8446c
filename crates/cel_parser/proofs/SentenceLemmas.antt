-- Sentences and the statements that they are.
use Rattle.std.proofs.Common.{◌≡◌, ◌∙◌, ℕ, suc, List, length, refl, sym, ap}
use Rattle.std.proofs.lemmas.List.{length-map}
use Rattle.cel_grammar.specs.Sentences.{AreSentencesOf, Sentence, more, none}
use Rattle.cel_grammar.specs.Trees.{Statement}
use Rattle.cel_grammar.specs.Views.{statement_of}
use Rattle.cel_parser.specs.Filed.{Filed, IsRead}

-- each statement has its line
pub said-lines : {sentences : List Sentence} {ss : List Statement} {lines : List ℕ} → AreSentencesOf sentences ss lines → length lines ≡ length ss
said-lines none = refl
said-lines (more first later) = ap suc (said-lines later)

-- each statement of a file has its line
pub lines-of : (file : Filed) → IsRead file → length file.statements ≡ length file.lines
lines-of file read = sym (said-lines read.reads.said ∙ length-map file.statements statement_of)
