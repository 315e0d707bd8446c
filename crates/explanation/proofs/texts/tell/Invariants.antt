use Rattle.std.proofs.Common.{◌≡◌, string_bytes, take}
use Rattle.std.specs.List.{flat_map}
use Rattle.catalogue.specs.Catalogued.{program_in}
use Rattle.explanation.specs.Explained.{explained_text}
use Rattle.explanation.proofs.texts.tell.Given as goal

-- the results so far were told
abbrev pub invariant-loop-told : goal.invariant-loop-told
invariant-loop-told l = string_bytes l.text ≡ flat_map (explained_text (program_in l.catalogue) l.history) (take l.told-index l.results)
