-- Examples of the definitions, each worked out by hand. No contract cites them.
use Rattle.std.proofs.Common.{◌≡◌, ℕ, pos, negsuc, List, [], ◌∷◌, refl, arith}
use Rattle.std.specs.Prelude.{codes}
use Rattle.event_types.specs.declared.comparison.Cmp.TheVariants as cmp
use Rattle.event_types.specs.declared.kind.Kind.{Kind}
use Rattle.event_types.specs.declared.kind.Kind.TheVariants as kind
use Rattle.cel_lexer.specs.declared.token.What.TheVariants as what
use Rattle.cel_grammar.specs.declared.mark.Mark.TheVariants as mark
use Rattle.cel_grammar.specs.Symbols.{Symbol}
use Rattle.cel_grammar.specs.Symbols as the
use Rattle.cel_grammar.specs.Spellings.{symbol_of}
use Rattle.cel_grammar.specs.Trees as tree
use Rattle.cel_grammar.specs.Scalars as scalar
use Rattle.cel_grammar.specs.Predicates as pred
use Rattle.cel_grammar.specs.Sources as source
use Rattle.cel_grammar.specs.Statements as statement

-- spellings and their symbols
keyword_has_its_symbol : symbol_of what.Keyword (codes "SELECT") ≡ the.Select
keyword_has_its_symbol = refl

last_keyword_has_its_symbol : symbol_of what.Keyword (codes "MAX") ≡ the.Max
last_keyword_has_its_symbol = refl

less_has_its_symbol : symbol_of what.Sign (codes "<") ≡ the.Compare cmp.Lt
less_has_its_symbol = refl

at_least_has_its_symbol : symbol_of what.Sign (codes ">=") ≡ the.Compare cmp.Ge
at_least_has_its_symbol = refl

second_mark_has_its_symbol : symbol_of what.Mark (codes "$2") ≡ the.Dollar2
second_mark_has_its_symbol = refl

mark_alone_has_its_symbol : symbol_of what.Mark (codes "$") ≡ the.Dollar
mark_alone_has_its_symbol = refl

doubled_quote_is_one : symbol_of what.Quoted (codes "'it''s'") ≡ the.Quoted (codes "it's")
doubled_quote_is_one = refl

empty_text_is_empty : symbol_of what.Quoted (codes "''") ≡ the.Quoted []
empty_text_is_empty = refl

-- the name A
abbrev a : List ℕ
a = codes "A"

-- the scalar of a number
abbrev number : ℕ → tree.Scalar
number n = tree.Number (pos n)

-- 1 + 2 * 3
product_binds_tighter : scalar.IsScalar (the.Number 1 ∷ the.Plus ∷ the.Number 2 ∷ the.Star ∷ the.Number 3 ∷ []) (tree.Two tree.Add (number 1) (tree.Two tree.Mul (number 2) (number 3))) []
product_binds_tighter = scalar.sum (scalar.product (scalar.factor scalar.number)) (scalar.times (scalar.factor scalar.number) scalar.number)

-- 3 - 2 - 1
difference_groups_from_the_left : scalar.IsScalar (the.Number 3 ∷ the.Minus ∷ the.Number 2 ∷ the.Minus ∷ the.Number 1 ∷ []) (tree.Two tree.Sub (tree.Two tree.Sub (number 3) (number 2)) (number 1)) []
difference_groups_from_the_left = scalar.difference (scalar.difference (scalar.product (scalar.factor scalar.number)) (scalar.factor scalar.number)) (scalar.factor scalar.number)

-- -2 and -0
minus_makes_a_negative_literal : scalar.IsFactor (the.Minus ∷ the.Number 2 ∷ []) (tree.Number (negsuc 1)) []
minus_makes_a_negative_literal = scalar.less

minus_zero_is_zero : scalar.IsFactor (the.Minus ∷ the.Number 0 ∷ []) (number 0) []
minus_zero_is_zero = scalar.less

-- -10.50 and -0.00
decimal_keeps_its_places : scalar.IsFactor (the.Minus ∷ the.Decimal 2 1050 ∷ []) (tree.Decimal 2 (negsuc 1049)) []
decimal_keeps_its_places = scalar.less_decimal

minus_no_units_is_no_units : scalar.IsFactor (the.Minus ∷ the.Decimal 2 0 ∷ []) (tree.Decimal 2 (pos 0)) []
minus_no_units_is_no_units = scalar.less_decimal

-- DEC 2.5, which has one token behind DEC
decimal_is_no_count_of_places : {k : Kind} {ts rest : List Symbol} → statement.IsKind (the.Name (codes "DEC") ∷ the.Decimal 1 25 ∷ ts) k rest → ⊥
decimal_is_no_count_of_places h = elim h [ ]

-- $2.A
attribute_has_its_mark : scalar.IsFactor (the.Dollar2 ∷ the.Dot ∷ the.Name a ∷ []) (tree.Attr mark.Second a) []
attribute_has_its_mark = scalar.attribute scalar.of_second

-- TRUE OR TRUE AND NOT TRUE
and_binds_tighter : pred.IsPred (the.True ∷ the.Or ∷ the.True ∷ the.And ∷ the.Not ∷ the.True ∷ []) (tree.Or tree.True (tree.And tree.True (tree.Not tree.True))) []
and_binds_tighter = pred.or (pred.conj (pred.neg (pred.prim pred.true))) (pred.and (pred.neg (pred.prim pred.true)) (pred.not (pred.prim pred.true)))

-- A NEXT B
next_alone_has_the_condition_true : source.IsSource (the.Name a ∷ the.Next ∷ the.Name (codes "B") ∷ []) (tree.Next tree.True (tree.Name a) (tree.Name (codes "B"))) []
next_alone_has_the_condition_true = source.next (source.term source.of) source.of

-- STREAM A (A INT); SELECT A FROM A PUBLISH B;
statements_end_with_a_semicolon : statement.IsFile
    (the.Stream ∷ the.Name a ∷ the.Open ∷ the.Name a ∷ the.Int ∷ the.Close ∷ the.End ∷ the.Select ∷ the.Name a ∷ the.From ∷ the.Name a ∷ the.Publish ∷ the.Name (codes "B") ∷ the.End ∷ [])
    (tree.Stream a (tree.Col a kind.Int ∷ []) ∷ tree.Query (tree.Named (tree.Attr mark.Bare a) a ∷ []) (tree.Name a) (codes "B") ∷ [])
statements_end_with_a_semicolon =
    statement.then (statement.declaration (statement.one statement.int))
    (statement.then (statement.query (source.one source.name) (source.term source.of)) statement.empty)

-- STREAM A (DEC DEC 2, A DEC 0)
dec_is_also_a_name : statement.IsStatement
    (the.Stream ∷ the.Name a ∷ the.Open ∷ the.Name (codes "DEC") ∷ the.Name (codes "DEC") ∷ the.Number 2 ∷ the.Comma ∷ the.Name a ∷ the.Name (codes "DEC") ∷ the.Number 0 ∷ the.Close ∷ [])
    (tree.Stream a (tree.Col (codes "DEC") (kind.Dec 2) ∷ tree.Col a (kind.Dec 0) ∷ [])) []
dec_is_also_a_name = statement.declaration (statement.more (statement.dec (omega arith)) (statement.one (statement.dec (omega arith))))

-- DEC 19
nineteen_places_are_too_many : {k : Kind} {ts rest : List Symbol} → statement.IsKind (the.Name (codes "DEC") ∷ the.Number 19 ∷ ts) k rest → ⊥
nineteen_places_are_too_many (statement.dec few) = absurd (omega arith)

-- after a kind of a name and a number follows what stands after the number
name_and_number : {a : List ℕ} {n : ℕ} {k : Kind} {ts rest : List Symbol} → statement.IsKind (the.Name a ∷ the.Number n ∷ ts) k rest → ts ≡ rest
name_and_number (statement.dec few) = refl

-- DEC 2.5,
places_are_whole : {k : Kind} {ts rest : List Symbol} → statement.IsKind (the.Name (codes "DEC") ∷ the.Number 2 ∷ the.Dot ∷ the.Number 5 ∷ ts) k (the.Comma ∷ rest) → ⊥
places_are_whole h = let all = name_and_number h in absurd cc
