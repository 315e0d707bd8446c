-- The prefixes of lines, for which states stand.
use Rattle.std.specs.Prelude.{ℕ, List, [], ◌∷◌, ◌++◌}
use Rattle.std.specs.List.{flat_map}
use Rattle.automaton.specs.declared.line.Hop.{Hop}
use Rattle.automaton.specs.declared.line.Line.{Line}

-- a prefix: a root stream, or a prefix and one more hop
pub data Prefix : Type 0 where
  Root : ℕ → Prefix
  After : Prefix → Hop → Prefix

-- the prefix with more hops behind it
abbrev pub extended : Prefix → List Hop → Prefix
extended prefix [] = prefix
extended prefix (hop ∷ hops) = extended (After prefix hop) hops

-- the prefix of a whole line: its root and all its hops
abbrev pub path : Line → Prefix
path line = extended (Root line.root) line.hops

-- the stream in which a prefix begins
abbrev pub root_of : Prefix → ℕ
root_of (Root stream) = stream
root_of (After prefix hop) = root_of prefix

-- the hops of a prefix, in their order
abbrev pub hops_of : Prefix → List Hop
hops_of (Root stream) = []
hops_of (After prefix hop) = hops_of prefix ++ hop ∷ []

-- the prefixes with which a prefix begins: its root first, itself last
abbrev pub beginnings : Prefix → List Prefix
beginnings (Root stream) = Root stream ∷ []
beginnings (After prefix hop) = beginnings prefix ++ After prefix hop ∷ []

-- the prefixes of lines, roots included; as a set, for which it counts what is contained
abbrev pub prefixes : List Line → List Prefix
prefixes lines = flat_map (λ line. beginnings (path line)) lines
