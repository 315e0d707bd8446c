-- Lines and a layout that fit one another, and layouts that grow and shrink.
use Rattle.std.specs.Prelude.{◌==◌, ◌<◌, ◌≤◌, ◌++◌, IsTrue, List, length, take, drop}
use Rattle.std.specs.List.{All, list_any, remove}
use Rattle.automaton.specs.declared.growth.Growth.{Growth}
use Rattle.automaton.specs.declared.growth.Shrinkage.{Shrinkage}
use Rattle.automaton.specs.declared.growth.Sizes.{Sizes}
use Rattle.automaton.specs.declared.layout.Layout.{Layout}
use Rattle.automaton.specs.declared.line.Line.{Line}
use Rattle.automaton.specs.LineKinds.{LineFits}
use Rattle.automaton.specs.Work.{IsInOrder, is_in}

-- each line fits the kinds; the order of work has exactly the out streams of the lines, each once and after every one of them that its lines read; and the printed streams are among them
pub record LayoutFits (lines : List Line) (layout : Layout) : Type 0 where
  pub typed : All (LineFits layout.kinds) lines
  pub in_order : IsInOrder lines layout.order
  pub all_outs : All (λ line. IsTrue (is_in layout.order line.out)) lines
  pub only_outs : All (λ stream. IsTrue (list_any (λ line. line.out == stream) lines)) layout.order
  pub printed : All (λ stream. IsTrue (is_in layout.order stream)) layout.outs

-- a layout with a growth at the end of each list
abbrev pub grown : Layout → Growth → Layout
grown layout growth = record { order = layout.order ++ growth.order; outs = layout.outs ++ growth.outs; kinds = layout.kinds ++ growth.kinds }

-- the part is one of the layout: its streams stand in the order of work, one after another, and its printed stream is there
pub record HasPart (layout : Layout) (part : Shrinkage) : Type 0 where
  pub up : part.first ≤ part.end
  pub within : part.end ≤ length layout.order
  pub printed : part.out < length layout.outs

-- a layout without a part of its order of work and one printed stream; all streams keep their kinds
abbrev pub shrunk : Layout → Shrinkage → Layout
shrunk layout part = record { order = take part.first layout.order ++ drop part.end layout.order; outs = remove layout.outs part.out; kinds = layout.kinds }

-- how many streams the lists of a layout have
abbrev pub sizes_of : Layout → Sizes
sizes_of layout = record { worked = length layout.order; printed = length layout.outs; all = length layout.kinds }

-- what a layout has behind its first streams
abbrev pub growth_behind : Layout → Sizes → Growth
growth_behind layout sizes = record { order = drop sizes.worked layout.order; outs = drop sizes.printed layout.outs; kinds = drop sizes.all layout.kinds }

-- the first streams of a layout
abbrev pub cut_back : Layout → Sizes → Layout
cut_back layout sizes = record { order = take sizes.worked layout.order; outs = take sizes.printed layout.outs; kinds = take sizes.all layout.kinds }
