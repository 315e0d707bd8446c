-- Expressions in the order of work as queries, and what is made of them.
use Rattle.std.specs.Prelude.{◌≡◌, ℕ, ◌+◌, List, [], ◌∷◌, ◌++◌, length, map, slice_index_or, None}
use Rattle.event_types.specs.declared.kind.Kind.{Kind}
use Rattle.semantics.specs.Expressions.{Ex}
use Rattle.semantics.specs.Programs.{Query}
use Rattle.expressions.specs.declared.expression.Expr.{Expr}
use Rattle.expressions.specs.Views.{ex_of}
use Rattle.automaton.specs.Layouts.{LayoutFits}
use Rattle.splitter.specs.Splitting.{parts_of}
use Rattle.splitter.specs.Chains.{chain_end, chain_lines, chain_order}
use Rattle.splitter.specs.declared.chains.Chains.{Chains}

-- the kinds of a stream by its number; past the end of the list it has none
abbrev pub kinds_by : List (List Kind) → ℕ → List Kind
kinds_by kinds stream = slice_index_or kinds stream []

-- queries that publish the streams from a number on, by these expressions, and whose hidden streams have the numbers from another on; their names and births play no part in their lines
abbrev pub queries_from : ℕ → ℕ → List Ex → List Query
queries_from number hidden [] = []
queries_from number hidden (e ∷ expressions) = record { name = []; stream = number; hidden = hidden; expr = e; birth = None } ∷ queries_from (number + 1) (parts_of e hidden).next expressions

-- the expressions as queries behind so many declared streams, and their hidden streams behind all those
abbrev pub work_of : ℕ → List Expr → List Query
work_of declared expressions = queries_from declared (declared + length expressions) (map ex_of expressions)

-- these are the lines of the queries, with the order of work of their streams; printed are the streams at these places in the order of work; the kinds are the given ones, and behind them one list for each hidden stream; and the layout fits the lines
pub record AreChains (declared : ℕ) (expressions : List Expr) (places : List ℕ) (kinds : List (List Kind)) (chains : Chains) : Type 0 where
  pub lines : chains.lines ≡ chain_lines (work_of declared expressions)
  pub order : chains.layout.order ≡ chain_order (work_of declared expressions)
  pub outs : chains.layout.outs ≡ map (λ place. declared + place) places
  pub hidden : List (List Kind)
  pub kinds_are : chains.layout.kinds ≡ kinds ++ hidden
  pub all_kinds : length chains.layout.kinds ≡ chain_end (work_of declared expressions) declared
  pub fits : LayoutFits chains.lines chains.layout
