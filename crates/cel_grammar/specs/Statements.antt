-- The grammar of statements and files. `IsStatement ts s rest` says that a statement which is s stands
-- at the front of the symbols ts, and that rest follows it.
use Rattle.std.specs.Prelude.{ℕ, ◌≤◌, List, [], ◌∷◌, codes}
use Rattle.event_types.specs.declared.kind.Kind.{Kind}
use Rattle.event_types.specs.declared.kind.Kind.TheVariants as kind
use Rattle.cel_grammar.specs.Symbols.{Symbol}
use Rattle.cel_grammar.specs.Symbols as the
use Rattle.cel_grammar.specs.Trees.{Item, Source, Column, Col, Statement, Stream, Query}
use Rattle.cel_grammar.specs.Sources.{IsItems, IsSource}

-- INT, or TEXT, or the name DEC, which is no keyword, and a number of places from 0 to 18
pub data IsKind : List Symbol → Kind → List Symbol → Type 0 where
  int : {rest : List Symbol} → IsKind (the.Int ∷ rest) kind.Int rest
  text : {rest : List Symbol} → IsKind (the.Text ∷ rest) kind.Text rest
  dec : {places : ℕ} {rest : List Symbol} → places ≤ 18 → IsKind (the.Name (codes "DEC") ∷ the.Number places ∷ rest) (kind.Dec places) rest

-- name kind, zero or more of (, name kind)
pub data IsColumns : List Symbol → List Column → List Symbol → Type 0 where
  one : {a : List ℕ} {k : Kind} {ts rest : List Symbol} → IsKind ts k rest → IsColumns (the.Name a ∷ ts) (Col a k ∷ []) rest
  more : {a : List ℕ} {k : Kind} {ts us rest : List Symbol} {cs : List Column} → IsKind ts k (the.Comma ∷ us) → IsColumns us cs rest → IsColumns (the.Name a ∷ ts) (Col a k ∷ cs) rest

-- STREAM name ( columns ), or SELECT items FROM source PUBLISH name
pub data IsStatement : List Symbol → Statement → List Symbol → Type 0 where
  declaration : {a : List ℕ} {ts rest : List Symbol} {cs : List Column} → IsColumns ts cs (the.Close ∷ rest) → IsStatement (the.Stream ∷ the.Name a ∷ the.Open ∷ ts) (Stream a cs) rest
  query : {a : List ℕ} {ts us rest : List Symbol} {items : List Item} {source : Source} → IsItems ts items (the.From ∷ us) → IsSource us source (the.Publish ∷ the.Name a ∷ rest) → IsStatement (the.Select ∷ ts) (Query items source a) rest

-- zero or more of: statement ;
pub data IsFile : List Symbol → List Statement → Type 0 where
  empty : IsFile [] []
  then : {ts rest : List Symbol} {s : Statement} {ss : List Statement} → IsStatement ts s (the.End ∷ rest) → IsFile rest ss → IsFile ts (s ∷ ss)
