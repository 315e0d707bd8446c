-- Layouts of programs.
use Rattle.std.specs.Prelude.{◌≡◌, List, ◌++◌, length}
use Rattle.event_types.specs.declared.kind.Kind.{Kind}
use Rattle.semantics.specs.Programs.{Program}
use Rattle.automaton.specs.declared.layout.Layout.{Layout}
use Rattle.automaton.specs.Layouts.{LayoutFits}
use Rattle.splitter.specs.Chains.{end_of, lines_of, work_order, outs_of}

-- the layout has the program's order of work and its printed streams; it has these kinds of the declared and the published streams, and behind them one list for each hidden stream; and it fits the program's lines
pub record IsLayoutOf (program : Program) (kinds : List (List Kind)) (layout : Layout) : Type 0 where
  pub order : layout.order ≡ work_order program
  pub outs : layout.outs ≡ outs_of program
  pub hidden : List (List Kind)
  pub kinds_are : layout.kinds ≡ kinds ++ hidden
  pub all_kinds : length layout.kinds ≡ end_of program
  pub fits : LayoutFits (lines_of program) layout
