-- The roots among the distinct prefixes of lines, and the size of the plain network of lines.
use Rattle.std.proofs.Common.{◌≡◌, ◌≢◌, ◌⊎◌, sym, ap, refl, subst, inl, inr, ◌+◌, ◌<◌, ◌≤◌, ◌^◌, true, length, List, [], ◌∷◌, map, arith}
use Rattle.std.specs.Prelude.{All, Contains, count_by, sum_by}
use Rattle.std.specs.List.{filter}
use Rattle.std.proofs.lemmas.List.{length-map}
use Rattle.std.proofs.lemmas.List.Elements.{All-contains_itself, All-filter, filter_passes}
use Rattle.std.proofs.lemmas.List.Kept.{AllPairs-filter}
use Rattle.std.proofs.lemmas.List.Sums.{length-filter, sum_by-cons}
use Rattle.automaton.specs.declared.line.Line.{Line}
use Rattle.automaton.specs.Prefixes.{Prefix, Root, After, beginnings, path, root_of}
use Rattle.prefix_merge.specs.Counts.{ListPrefixes, is_root}
use Rattle.prefix_merge.proofs.ContainLemmas.{from_flat_map, in_map, no_longer}
use Rattle.prefix_merge.proofs.PrefixLemmas.{begins_cases, begins_root}

-- a prefix begins with one root
begins_in_root : (whole prefix : Prefix) → is_root prefix ≡ true → Contains (beginnings whole) prefix → prefix ≡ Root (root_of whole)
begins_in_root (Root stream) prefix root has = begins_root stream prefix has
begins_in_root (After whole hop) prefix root has =
    go (begins_in_root whole prefix root) (begins_cases whole hop prefix has)
  where
    go : (Contains (beginnings whole) prefix → prefix ≡ Root (root_of whole)) → (Contains (beginnings whole) prefix) ⊎ (prefix ≡ After whole hop) → prefix ≡ Root (root_of whole)
    go before (inl earlier) = before earlier
    go before (inr same) = let none : is_root prefix ≡ is_root (After whole hop) = ap is_root same in cc

module _ (lines : List Line) (distinct : List Prefix) (are : ListPrefixes lines distinct) where
  abbrev roots : List Prefix
  roots = filter is_root distinct

  abbrev line_roots : List Prefix
  line_roots = map (λ line. Root (root_of (path line))) lines

  -- each root is that of a line
  root_of_line : (prefix : Prefix) → Contains roots prefix → Contains line_roots prefix
  root_of_line prefix has =
      let root : is_root prefix ≡ true = subst (λ p. is_root p ≡ true) has.2 (filter_passes is_root distinct has.0 prefix has.1) in
      let listed : All (Contains distinct) roots = All-filter is_root (Contains distinct) distinct (All-contains_itself distinct) in
      let line = from_flat_map (λ line. beginnings (path line)) lines prefix ((are.same prefix).0 (subst (Contains distinct) has.2 (listed has.0 prefix has.1))) in
      subst (Contains line_roots) (sym (begins_in_root (path line.0) prefix root line.2)) (in_map (λ line. Root (root_of (path line))) lines line.0 line.1)

  -- there are at most as many roots as lines
  pub roots_few : count_by is_root distinct ≤ length lines
  roots_few =
      let most = no_longer roots line_roots (AllPairs-filter (λ prefix other. prefix ≢ other) is_root distinct are.apart) root_of_line in
      omega (arith, most, length-filter is_root distinct, length-map lines (λ line. Root (root_of (path line))))

-- lines and their hops
pub lines_and_hops : (lines : List Line) → sum_by (λ line. 1 + length line.hops) lines ≡ length lines + sum_by (λ line. length line.hops) lines
lines_and_hops [] = refl
lines_and_hops (line ∷ lines) =
    omega (arith, sum_by-cons (λ (l : Line). 1 + length l.hops) line lines, sum_by-cons (λ (l : Line). length l.hops) line lines, lines_and_hops lines)

-- the plain network of few lines has few states
pub plain_few : (lines : List Line) (distinct : List Prefix) → ListPrefixes lines distinct → sum_by (λ line. 1 + length line.hops) lines < 2 ^ 64
    → count_by is_root distinct + sum_by (λ line. length line.hops) lines < 2 ^ 64
plain_few lines distinct are few = omega (arith, few, roots_few lines distinct are, lines_and_hops lines)
