use Rattle.std.proofs.Common.{◌≡◌, ◌++◌, take}
use Rattle.std.specs.Prelude.{codes}
use Rattle.std.specs.List.{flat_map}
use Rattle.cel_grammar.specs.Views.{column_of}
use Rattle.cel_print.specs.Parts.{column_text}
use Rattle.cel_print.proofs.statements.append_further.Given as goal

-- the attributes so far were put behind the text
abbrev pub invariant-loop-attr : goal.invariant-loop-attr
invariant-loop-attr l = l.text.items ≡ l.initial.text.items ++ flat_map (λ attr. codes ", " ++ column_text (column_of attr)) (take l.attr-index l.attrs)
