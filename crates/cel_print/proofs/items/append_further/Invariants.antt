use Rattle.std.proofs.Common.{◌≡◌, ◌++◌, take}
use Rattle.std.specs.Prelude.{codes}
use Rattle.std.specs.List.{flat_map}
use Rattle.cel_grammar.specs.Views.{item_of}
use Rattle.cel_print.specs.Parts.{item_text}
use Rattle.cel_print.proofs.items.append_further.Given as goal

-- the items so far were put behind the text
abbrev pub invariant-loop-item : goal.invariant-loop-item
invariant-loop-item l = l.text.items ≡ l.initial.text.items ++ flat_map (λ item. codes ", " ++ item_text (item_of item)) (take l.item-index l.items)
