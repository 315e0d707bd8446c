-- The least births of lines that share states.
use Rattle.std.specs.Prelude.{ℕ, List, Option}
use Rattle.automaton.specs.Prefixes.{Prefix}
use Rattle.epoch_laws.specs.Births.{IsLeastBirth}
use Rattle.epoch_laws.specs.BornLines.{BornLine, IsReadAfter}

-- whatever the lines and the prefix, the lines that use it have a least birth
abbrev pub EachPrefixHasALeastBirth : Type 0
EachPrefixHasALeastBirth = (lines : List BornLine) (prefix : Prefix) → (since : Option ℕ) × IsLeastBirth (IsReadAfter lines prefix) since
