-- What an added query brings that is taken. No public clause cites this.
use Rattle.std.specs.Prelude.{◌≡◌, ℕ, ◌+◌, ◌≤◌, ◌<◌, ◌^◌, ◌++◌, ◌∷◌, [], List, length, sum_by}
use Rattle.std.specs.List.{range_with_len}
use Rattle.event_types.specs.declared.kind.Kind.{Kind}
use Rattle.semantics.specs.Expressions.{Ex}
use Rattle.automaton.specs.declared.growth.Growth.{Growth}
use Rattle.automaton.specs.declared.layout.Layout.{Layout}
use Rattle.automaton.specs.declared.line.Line.{Line}
use Rattle.automaton.specs.Layouts.{grown}
use Rattle.splitter.specs.Chains.{lines_of}
use Rattle.splitter.specs.Growing.{GrowInTurn}
use Rattle.splitter.specs.Laws.{IsApart, split_order}
use Rattle.splitter.specs.Splitting.{parts_of, split_lines}
use Rattle.stream_schema.specs.Schema.{Attr, kinds_of}
use Rattle.catalogue.specs.declared.adding.Added.{Added}
use Rattle.catalogue.specs.declared.fault.AddFault.{AddFault}
use Rattle.catalogue.specs.declared.fault.AddFault.TheVariants as added
use Rattle.catalogue.specs.declared.fault.LoadFault.{LoadFault}
use Rattle.catalogue.specs.declared.fault.LoadFault.TheVariants.{Bad, Cycle, Memory}
use Rattle.catalogue.specs.Adding.{AddedQuery}
use Rattle.catalogue.specs.Catalogued.{Catalogued, program_in}

-- the same fault of an added query; no cycle is one
abbrev pub IsSameFault : LoadFault → AddFault → Type 0
IsSameFault (Bad line why) fault = fault ≡ added.Bad line why
IsSameFault (Cycle names) fault = ⊥
IsSameFault Memory fault = fault ≡ added.Memory

-- a layout has room for the streams of an expression that is typed over it, whose own has the next number and this schema
pub record MayGrow (layout : Layout) (schema : List Attr) (e : Ex) : Type 0 where
  pub numbers : (next : ℕ) → (parts_of e next).next ≤ next + 1024
  pub apart : (out : ℕ) → out ≡ length layout.kinds → IsApart e out (out + 1)
  pub typed : (all : List (List Kind)) × GrowInTurn (layout.kinds ++ kinds_of schema ∷ []) (split_lines e (length layout.kinds) (length layout.kinds + 1)) all

-- these are the lines of an expression, and the layout has grown by their streams
pub record IsGrown (layout : Layout) (schema : List Attr) (e : Ex) (lines : List Line) (new : Layout) : Type 0 where
  pub lines_are : lines ≡ split_lines e (length layout.kinds) (length layout.kinds + 1)
  pub order : new.order ≡ layout.order ++ split_order e (length layout.kinds) (length layout.kinds + 1)
  pub outs : new.outs ≡ layout.outs ++ length layout.kinds ∷ []
  pub kinds : GrowInTurn (layout.kinds ++ kinds_of schema ∷ []) lines new.kinds
  pub room : length layout.kinds + 1 < 2 ^ 64

-- and by this
abbrev pub HasGrown : Layout → List Attr → Ex → List Line → Growth → Type 0
HasGrown layout schema e lines growth = IsGrown layout schema e lines (grown layout growth)

-- of a typed query that comes to a catalogue this may be told: its number, its lines with their ends, and what the layout grows by; and all lines are few
pub record MayTell (c : Catalogued) (added : AddedQuery) (told : Added) : Type 0 where
  pub lines : HasGrown c.layout added.schema added.expr told.lines told.growth
  pub number : told.query ≡ length c.order
  pub ends : told.ends ≡ range_with_len c.next_end (length told.lines)
  pub ends_room : c.next_end + length told.lines < 2 ^ 64
  pub few : sum_by (λ line. 1 + length line.hops) (lines_of (program_in c)) + 1048576 < 2 ^ 64
