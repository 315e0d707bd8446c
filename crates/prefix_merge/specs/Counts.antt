-- How many states the networks of lines have, merged and plain.
use Rattle.std.specs.Prelude.{◌≡◌, ◌≢◌, ◌↔◌, ℕ, ◌+◌, Bool, true, false, List, AllPairs, Contains, count_by, length, sum_by}
use Rattle.automaton.specs.declared.line.Line.{Line}
use Rattle.automaton.specs.Prefixes.{Prefix, Root, After, prefixes}

-- whether a prefix is a root
abbrev pub is_root : Prefix → Bool
is_root (Root stream) = true
is_root (After prefix hop) = false

-- these are the prefixes of the lines, roots included, and each is listed once
pub record ListPrefixes (lines : List Line) (distinct : List Prefix) : Type 0 where
  pub apart : AllPairs (λ prefix other. prefix ≢ other) distinct
  pub same : (prefix : Prefix) → Contains distinct prefix ↔ Contains (prefixes lines) prefix

-- how many states the merged network of the lines has: one for each distinct prefix
pub record CountsStates (lines : List Line) (count : ℕ) : Type 0 where
  pub distinct : List Prefix
  pub are : ListPrefixes lines distinct
  pub value : count ≡ length distinct

-- how many states the plain network of the lines has: one for each distinct root and one for each hop of each line
pub record CountsPlain (lines : List Line) (count : ℕ) : Type 0 where
  pub distinct : List Prefix
  pub are : ListPrefixes lines distinct
  pub value : count ≡ count_by is_root distinct + sum_by (λ line. length line.hops) lines
