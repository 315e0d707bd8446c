-- The lines and the queries of a catalogue as a query comes and is taken back. No public clause cites this.
use Rattle.std.specs.Prelude.{ℕ, ◌∷◌, [], ◌++◌, length, take}
use Rattle.std.specs.List.{range_with_len}
use Rattle.automaton.specs.Layouts.{cut_back, grown, sizes_of}
use Rattle.expressions.specs.declared.expression.Expr.{Expr}
use Rattle.splitter.specs.declared.chains.Chains.{Chains}
use Rattle.catalogue.specs.declared.adding.Added.{Added}
use Rattle.catalogue.specs.declared.held_lines.Before.{Before}
use Rattle.catalogue.specs.declared.held_lines.HeldLines.{HeldLines}
use Rattle.catalogue.specs.declared.held_queries.HeldQueries.{HeldQueries}
use Rattle.catalogue.specs.declared.numbering.Published.{Published}
use Rattle.catalogue.specs.declared.sharing.Shares.{Shares}
use Rattle.catalogue.specs.Sharing.{first_shares, with_share}

-- lines and their layout, with the shares of queries; the ends have the first numbers
abbrev pub first_lines : Chains → Shares → HeldLines
first_lines chains shares = record { lines = chains.lines; ends = range_with_len 0 (length chains.lines); shares = shares; layout = chains.layout }

-- how much there is
abbrev pub sizes_held : HeldLines → Before
sizes_held held = record { lines = length held.lines; ends = length held.ends; shares = length held.shares.lines; sizes = sizes_of held.layout }

-- the lines with those of a query that is told
abbrev pub with_lines : HeldLines → Added → HeldLines
with_lines held told = record {
  lines = held.lines ++ told.lines;
  ends = held.ends ++ told.ends;
  shares = with_share held.shares (record { lines = length told.lines; streams = length told.growth.order });
  layout = grown held.layout told.growth;
}

-- the lines as they were before a query came
abbrev pub first_held : HeldLines → Before → HeldLines
first_held held before = record { lines = take before.lines held.lines; ends = take before.ends held.ends; shares = first_shares held.shares before.shares; layout = cut_back held.layout before.sizes }

-- the queries with one more, which is the last in number and in the order of work
abbrev pub with_last : HeldQueries → Published → Expr → HeldQueries
with_last held publication x = record {
  order = held.order ++ length held.order ∷ [];
  published = held.published ++ publication ∷ [];
  expressions = held.expressions ++ x ∷ [];
}

-- the first so many queries
abbrev pub first_queries : HeldQueries → ℕ → HeldQueries
first_queries held many = record { order = take many held.order; published = take many held.published; expressions = take many held.expressions }
