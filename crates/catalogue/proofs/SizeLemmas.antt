-- How many lines there are, and hops on them, as some of them leave.
use Rattle.std.proofs.Common.{◌≡◌, ◌∙◌, ℕ, ◌+◌, ◌-◌, ◌<◌, ◌≤◌, List, length, take, drop, get_or, ap, arith}
use Rattle.std.specs.Prelude.{Some, slice_get, sum_by}
use Rattle.std.proofs.lemmas.List.{drop-drop, get_or-drop, length-drop}
use Rattle.std.proofs.lemmas.List.Sums.{sum_by-append, sum_by-take-drop, sum_by_more, sum_by_more_le}
use Rattle.std.proofs.lemmas.Option.{get_or_from_slice_get}
use Rattle.automaton.specs.declared.line.Line.{Line}
use Rattle.catalogue.specs.Leaving.{without_part}

abbrev pub size : List Line → ℕ
size lines = sum_by (λ line. 1 + length line.hops) lines

-- those of a part and those of the others are all
pub size_apart : (lines : List Line) (first end : ℕ) → first ≤ end → size (take (end - first) (drop first lines)) + size (without_part lines first end) ≡ size lines
size_apart lines first end up =
    let f : Line → ℕ = λ line. 1 + length line.hops in
    let others = sum_by-append f (take first lines) (drop end lines) in
    let whole = sum_by-take-drop f lines first in
    let behind = sum_by-take-drop f (drop first lines) (end - first) in
    let far : drop (end - first) (drop first lines) ≡ drop end lines = drop-drop (end - first) first lines ∙ ap (λ n. drop n lines) (omega (arith, up)) in
    omega (arith, others, whole, behind, ap (sum_by f) far)

module _ (lines : List Line) (first place : ℕ) (line : Line) (up : first ≤ place) (inside : place < length lines) (there : slice_get lines place ≡ Some line) where
  abbrev line_size : Line → ℕ
  line_size l = 1 + length l.hops

  behind : place - first < length (drop first lines)
  behind = omega (arith, up, inside, length-drop first lines)

  here : get_or (drop first lines) (place - first) line ≡ line
  here = let at : first + (place - first) ≡ place = omega (arith, up) in get_or-drop first lines (place - first) line ∙ ap (λ k. get_or lines k line) at ∙ get_or_from_slice_get lines place line line there

  -- one line more
  pub size_more : size (take (place + 1 - first) (drop first lines)) ≡ size (take (place - first) (drop first lines)) + (1 + length line.hops)
  size_more =
      let next : place + 1 - first ≡ place - first + 1 = omega (arith, up) in
      ap (λ k. size (take k (drop first lines))) next ∙ sum_by_more line_size (drop first lines) (place - first) line behind ∙ ap (λ (l : Line). size (take (place - first) (drop first lines)) + line_size l) here

  -- is within all
  pub size_within : size (take (place - first) (drop first lines)) + (1 + length line.hops) ≤ size lines
  size_within =
      let most = sum_by_more_le line_size (drop first lines) (place - first) line behind in
      let whole = sum_by-take-drop line_size lines first in
      omega (arith, most, ap line_size here, whole)
