use Rattle.std.proofs.Common.{◌≡◌, ℕ, false, List, refl, sym, inl, inr}
use Rattle.std.specs.Str.{bytes_eq}
use Rattle.std.proofs.lemmas.Bool.{cases_Bool}
use Rattle.std.proofs.lemmas.Slice.Eq.{bytes_eq-Decides}
use Rattle.cel_parser.proofs.symbols.keyword.Goals as goal

-- a word is no entry that it differs from
differs : {word entry : List ℕ} → (word ≡ entry → ⊥) → bytes_eq entry word ≡ false
differs {word} {entry} other = elim (cases_Bool (bytes_eq entry word)) [
  | inl same ↦ absurd (other (sym ((bytes_eq-Decides entry word).0 same)))
  | inr none ↦ none
]

-- MAX is what no entry is
pub returns-in_default : goal.returns-in_default
returns-in_default c =
    let not = c.in_default in
    rw (
      differs not.not-STREAM,
      differs not.not-INT,
      differs not.not-TEXT,
      differs not.not-SELECT,
      differs not.not-AS,
      differs not.not-FROM,
      differs not.not-PUBLISH,
      differs not.not-FILTER,
      differs not.not-NEXT,
      differs not.not-FOLD,
      differs not.not-UNION,
      differs not.not-AND,
      differs not.not-OR,
      differs not.not-NOT,
      differs not.not-TRUE,
      differs not.not-DUR,
      differs not.not-MIN,
    ) refl
