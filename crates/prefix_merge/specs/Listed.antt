-- The prefixes of lines, each listed once.
use Rattle.std.specs.Prelude.{ℕ, ◌==◌, ◌&&◌, not, Bool, true, false, List, [], ◌∷◌}
use Rattle.std.specs.List.{filter}
use base.Stored.{Gv, gnil, gnum, gcons}
use Rattle.automaton.specs.Prefixes.{Prefix, Root, After, prefixes}
use Rattle.automaton.specs.contracts.line.Hop.{the_row}
use Rattle.automaton.specs.declared.line.Line.{Line}

-- whether two codes are one
abbrev pub is_same_code : Gv → Gv → Bool
is_same_code gnil gnil = true
is_same_code (gnum n) (gnum other) = n == other
is_same_code (gcons first second) (gcons other more) = is_same_code first other && is_same_code second more
is_same_code code other = false

-- the code of a prefix: its root stream, with the code of each hop behind
abbrev pub prefix_code : Prefix → Gv
prefix_code (Root stream) = gnum stream
prefix_code (After prefix hop) = gcons (prefix_code prefix) (the_row.coded.code hop)

-- whether two prefixes are one, as their codes tell
abbrev pub is_same_prefix : Prefix → Prefix → Bool
is_same_prefix prefix other = is_same_code (prefix_code prefix) (prefix_code other)

-- these prefixes, each once
abbrev pub each_once : List Prefix → List Prefix
each_once [] = []
each_once (prefix ∷ others) = prefix ∷ filter (λ other. not (is_same_prefix prefix other)) (each_once others)

-- the prefixes of lines, each once: one for each state of their merged network
abbrev pub states_of : List Line → List Prefix
states_of lines = each_once (prefixes lines)
