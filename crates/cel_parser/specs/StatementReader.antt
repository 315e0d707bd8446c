-- Reading statements from left to right, of which what an added query says is made. They are those that the grammar has.
-- The number bounds how deep the calls go: with 16 times the number of symbols each statement is read.
use Rattle.std.specs.Prelude.{ℕ, zero, suc, nat_le, ◌&&◌, List, [], ◌∷◌, Option, Some, None, codes, if◌then◌else◌}
use Rattle.std.specs.Str.{bytes_eq}
use Rattle.event_types.specs.declared.kind.Kind.{Kind}
use Rattle.event_types.specs.declared.kind.Kind.TheVariants as kind
use Rattle.cel_grammar.specs.Symbols.{Symbol}
use Rattle.cel_grammar.specs.Symbols as the
use Rattle.cel_grammar.specs.Trees.{Column, Col, Statement, Stream, Query}
use Rattle.cel_parser.specs.ScalarReader.{◌>>=◌, Read, done, close_at}
use Rattle.cel_parser.specs.SourceReader.{from_at, items_at, source_at}

-- the kind of a name and a number: DEC with at most 18 places
unfoldable pub dec_of : List ℕ → ℕ → Option Kind
dec_of name places = if bytes_eq name (codes "DEC") && nat_le places 18 then Some (kind.Dec places) else None

-- a kind
unfoldable pub kind_at : List Symbol → Read Kind
kind_at (the.Int ∷ ts) = done kind.Int ts
kind_at (the.Text ∷ ts) = done kind.Text ts
kind_at (the.Name a ∷ the.Number places ∷ ts) = dec_of a places >>= λ k. done k ts
kind_at ts = None

-- a name and its kind
unfoldable pub column_at : List Symbol → Read Column
column_at (the.Name a ∷ ts) = kind_at ts >>= λ k. done (Col a k.0) k.1
column_at ts = None

unfoldable mutual
  -- names with their kinds, between commas
  pub columns_at : ℕ → List Symbol → Read (List Column)
  columns_at zero ts = None
  columns_at (suc n) ts = column_at ts >>= λ c. columns_more n c.0 c.1

  -- and the same after the first of them
  pub columns_more : ℕ → Column → List Symbol → Read (List Column)
  columns_more zero c ts = None
  columns_more (suc n) c (the.Comma ∷ ts) = columns_at n ts >>= λ cs. done (c ∷ cs.0) cs.1
  columns_more (suc n) c ts = done (c ∷ []) ts

-- PUBLISH and a name
abbrev pub publish_at : List Symbol → Read (List ℕ)
publish_at (the.Publish ∷ the.Name a ∷ ts) = done a ts
publish_at ts = None

-- a declaration or a query
unfoldable pub statement_at : ℕ → List Symbol → Read Statement
statement_at n (the.Stream ∷ the.Name a ∷ the.Open ∷ ts) =
    columns_at n ts >>= λ cs. close_at cs.1 >>= done (Stream a cs.0)
statement_at n (the.Select ∷ ts) =
    items_at n ts >>= λ items. from_at items.1 >>= λ us. source_at n us >>= λ source. publish_at source.1 >>= λ name. done (Query items.0 source.0 name.0) name.1
statement_at n ts = None
