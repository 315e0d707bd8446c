use Rattle.std.proofs.Common.{[], map, take}
use Rattle.cel_grammar.specs.Views.{item_of}
use Rattle.scalar_expr.specs.Views.{sc_of}
use Rattle.cel_types.specs.Items.{Make}
use Rattle.cel_types.proofs.items.make.Given as goal

abbrev pub invariant-loop-item : goal.invariant-loop-item
invariant-loop-item l = Make l.schema [] (map item_of (take l.item-index l.items)) l.made.attributes (map sc_of l.made.terms)
