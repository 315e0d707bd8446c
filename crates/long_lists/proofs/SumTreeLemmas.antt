-- Sum trees: what a node has is the sum of the leaves under it, and the way down to a leaf.
use Rattle.std.proofs.Common.{◌≡◌, ◌∙◌, sym, ap, refl, subst, ℕ, zero, suc, ◌+◌, ◌*◌, ◌/◌, ◌-◌, ◌^◌, ◌<◌, ◌≤◌, ◌≢◌, inl, inr, get_or, length, max, replicate, set, take, drop, List, [], ◌∷◌, ◌++◌, arith}
use Rattle.std.proofs.Math.Nat.{mul-le-mul_left, pow-suc}
use Rattle.std.proofs.Math.Seq.{take-set-lt}
use Rattle.std.proofs.lemmas.Bool.{cases_eq, cases_lt}
use Rattle.std.proofs.lemmas.Nat.{pow_pos}
use Rattle.std.proofs.lemmas.List.{drop-replicate, drop-set-add, drop-set-lt, get_or-drop, get_or-set_other, get_or-set_same, get_or-take, length-append, length-drop, length-replicate, length-set, length-take, length-take-le, take_all, take_more_set, take-append-le, take-set, take-take}
use Rattle.std.proofs.lemmas.List.Sums.{sum_by_more, sum_by_push, sum_by-append, sum_by-set, sum_by-take-drop, sum_by-take-le}
use Rattle.std.proofs.lemmas.List.Folds.{sum_by-replicate}
use Rattle.std.specs.List.{sum}
use Rattle.long_lists.specs.SumTree.{AreSumsBut, HasLeaves, HasMoreLeaves, HasRoom, IsSum, IsSumTree, IsUnitAt, leaves_of}

-- the sum of the leaves before one
abbrev pub before : List ℕ → ℕ → ℕ
before nodes leaf = sum (take leaf (leaves_of nodes))

-- one leaf more
before_more : (nodes : List ℕ) (leaf : ℕ) → length nodes / 2 + leaf < length nodes → before nodes (leaf + 1) ≡ before nodes leaf + get_or nodes (length nodes / 2 + leaf) 0
before_more nodes leaf within =
    let long = length-drop (length nodes / 2) nodes in
    sum_by_more (λ x. x) (leaves_of nodes) leaf 0 (omega (arith, long, within)) ∙ ap (λ n. before nodes leaf + n) (get_or-drop (length nodes / 2) nodes leaf 0)

module _ (nodes : List ℕ) (least : ℕ) (sums : (node : ℕ) → least ≤ node → 0 < node → 2 * node < length nodes → IsSum nodes node) where
  -- a node has the sum of the leaves that stand under it at one depth, from one up to another; by induction on the depth
  pub covers : (depth node start end : ℕ) → least ≤ node → 0 < node → length nodes / 2 + start ≡ node * 2 ^ depth → length nodes / 2 + end ≡ (node + 1) * 2 ^ depth → length nodes / 2 + end ≤ length nodes → before nodes start + get_or nodes node 0 ≡ before nodes end
  covers zero node start end late pos from to fits =
      let low : length nodes / 2 + start ≡ node * 1 = from in
      let high : length nodes / 2 + end ≡ (node + 1) * 1 = to in
      let same : length nodes / 2 + start ≡ node = omega (arith, low) in
      let next : end ≡ start + 1 = omega (arith, low, high) in
      let more = before_more nodes start (omega (arith, fits, next)) in
      let at = ap (λ n. get_or nodes n 0) same in
      let last = ap (before nodes) next in
      omega (arith, more, at, last)
  covers (suc depth) node start end late pos from to fits =
      let double = pow-suc 2 depth in
      let low : length nodes / 2 + start ≡ node * (2 ^ depth * 2) = subst (λ s. length nodes / 2 + start ≡ node * s) double from in
      let high : length nodes / 2 + end ≡ (node + 1) * (2 ^ depth * 2) = subst (λ s. length nodes / 2 + end ≡ (node + 1) * s) double to in
      let some : 1 ≤ 2 ^ depth = pow_pos depth in
      let wide = mul-le-mul_left (2 * node + 2) some in
      let middle : ℕ = start + 2 ^ depth in
      let left = covers depth (2 * node) start middle (omega (arith, late)) (omega (arith, pos)) (omega (arith, low)) (omega (arith, low)) (omega (arith, low, high, fits)) in
      let right = covers depth (2 * node + 1) middle end (omega (arith, late)) (omega (arith, pos)) (omega (arith, low)) (omega (arith, high)) fits in
      let is = sums node late pos (omega (arith, wide, high, fits)) in
      omega (arith, left, right, is)

-- how deep the leaves are under a node
pub record Depth (half node : ℕ) : Type 0 where
  pub depth : ℕ
  pub from : half ≤ node * 2 ^ depth
  pub to : (node + 1) * 2 ^ depth ≤ 2 * half

-- one level more
deeper : (half node : ℕ) → Depth half node → Depth (half * 2) node
deeper half node at =
    let twice = pow-suc 2 at.depth in
    let from : node * (2 ^ at.depth * 2) ≡ node * 2 ^ suc at.depth = ap (λ s. node * s) (sym twice) in
    let to : (node + 1) * (2 ^ at.depth * 2) ≡ (node + 1) * 2 ^ suc at.depth = ap (λ s. (node + 1) * s) (sym twice) in
    let low = at.from in
    let high = at.to in
    record { depth = suc at.depth; from = omega (arith, from, low); to = omega (arith, to, high) }

-- a leaf
outermost : (half node : ℕ) → half ≤ node → node < 2 * half → Depth half node
outermost half node late within = record { depth = 0; from = let low : half ≤ node * 1 = omega (arith, late) in low; to = let high : (node + 1) * 1 ≤ 2 * half = omega (arith, within) in high }

-- each node of a whole tree has its leaves at one depth; by induction on the height
pub depth_of : (height node : ℕ) → 0 < node → node < 2 * 2 ^ height → Depth (2 ^ height) node
depth_of zero node pos within = outermost 1 node pos within
depth_of (suc height) node pos within =
    let double = pow-suc 2 height in
    subst (λ half. Depth half node) (sym double)
    (elim (cases_lt node (2 * 2 ^ height)) [
      | inl inner ↦ deeper (2 ^ height) node (depth_of height node pos inner)
      | inr late ↦ outermost (2 ^ height * 2) node (omega (arith, late)) (omega (arith, double, within))
    ])

-- the numbers of two children are within the sum of all leaves
module _ (nodes : List ℕ) (node : ℕ) (sums : AreSumsBut node nodes) (pos : 0 < node) (inner : node < length nodes / 2) where
  fit_at : (depth : ℕ) → length nodes / 2 ≤ node * 2 ^ depth → (node + 1) * 2 ^ depth ≤ 2 * (length nodes / 2) → get_or nodes (2 * node) 0 + get_or nodes (2 * node + 1) 0 ≤ sum (leaves_of nodes)
  fit_at zero from to = let low : length nodes / 2 ≤ node * 1 = from in absurd (omega (arith, low, inner))
  fit_at (suc depth) from to =
      let double = pow-suc 2 depth in
      let low : length nodes / 2 ≤ node * (2 ^ depth * 2) = subst (λ s. length nodes / 2 ≤ node * s) double from in
      let high : (node + 1) * (2 ^ depth * 2) ≤ 2 * (length nodes / 2) = subst (λ s. (node + 1) * s ≤ 2 * (length nodes / 2)) double to in
      let start : ℕ = node * (2 ^ depth * 2) - length nodes / 2 in
      let at : length nodes / 2 + start ≡ node * (2 ^ depth * 2) = omega (arith, low) in
      let least : (m : ℕ) → 2 * node ≤ m → 0 < m → 2 * m < length nodes → IsSum nodes m = λ m late some within. sums m some within (omega (arith, late, pos)) in
      let left = covers nodes (2 * node) least depth (2 * node) start (start + 2 ^ depth) (omega arith) (omega (arith, pos)) (omega (arith, at)) (omega (arith, at)) (omega (arith, at, high)) in
      let right = covers nodes (2 * node) least depth (2 * node + 1) (start + 2 ^ depth) (start + 2 ^ depth * 2) (omega arith) (omega arith) (omega (arith, at)) (omega (arith, at)) (omega (arith, at, high)) in
      let within = sum_by-take-le (λ (number : ℕ). number) (leaves_of nodes) (start + 2 ^ depth * 2) in
      omega (arith, left, right, within)

  pub children_fit : (height : ℕ) → length nodes ≡ 2 * 2 ^ height → get_or nodes (2 * node) 0 + get_or nodes (2 * node + 1) 0 ≤ sum (leaves_of nodes)
  children_fit height size =
      let half : 2 ^ height ≡ length nodes / 2 = omega (arith, size) in
      let at : Depth (length nodes / 2) node = subst (λ h. Depth h node) half (depth_of height node pos (omega (arith, size, inner))) in
      fit_at at.depth at.from at.to

-- an inner node is written, and the leaves stay
pub leaves_stay : (nodes : List ℕ) (node number : ℕ) → node < length nodes / 2 → leaves_of (set nodes node number) ≡ leaves_of nodes
leaves_stay nodes node number inner = ap (λ n. drop (n / 2) (set nodes node number)) (length-set nodes node number) ∙ drop-set-lt (length nodes / 2) nodes node number inner

-- the sum of two children is written into their parent, and the parent of that may be wrong
module _ (nodes : List ℕ) (node number : ℕ) (sums : AreSumsBut node nodes) (inner : 2 * node < length nodes) (pos : 0 < node) (is : number ≡ get_or nodes (2 * node) 0 + get_or nodes (2 * node + 1) 0) where
  there : (m : ℕ) → m ≢ node → get_or (set nodes node number) m 0 ≡ get_or nodes m 0
  there m other = get_or-set_other nodes node m number 0 other

  pub sum_written : AreSumsBut (node / 2) (set nodes node number)
  sum_written m some within not_above =
      let long = length-set nodes node number in
      let left = there (2 * m) (λ e. not_above (omega (arith, e))) in
      let right = there (2 * m + 1) (λ e. not_above (omega (arith, e))) in
      elim (cases_eq m node) [
        | inl here ↦
            let written = get_or-set_same nodes node number 0 (omega (arith, inner)) in
            let at = ap (λ n. get_or (set nodes node number) n 0) here in
            let low = ap (λ n. get_or nodes (2 * n) 0) here in
            let high = ap (λ n. get_or nodes (2 * n + 1) 0) here in
            omega (arith, written, at, low, high, left, right, is)
        | inr other ↦
            let at = there m other in
            let was = sums m some (omega (arith, within, long)) other in
            omega (arith, at, was, left, right)
      ]

-- the way down: so many levels above the leaves there is a node, under which the leaves begin at one
pub record LeadsTo (nodes : List ℕ) (depth node start : ℕ) : Type 0 where
  pub pos : 0 < node
  pub at : length nodes / 2 + start ≡ node * 2 ^ depth
  pub to : (node + 1) * 2 ^ depth ≤ length nodes

-- it begins at the root
pub from_root : (nodes : List ℕ) (tree : IsSumTree nodes) → 0 < length nodes → LeadsTo nodes tree.height 1 0
from_root nodes tree some = record {
  pos = omega arith;
  at = let size = tree.size some in omega (arith, size);
  to = let size = tree.size some in omega (arith, size);
}

-- it ends at a leaf
pub at_leaf : (nodes : List ℕ) (depth node start : ℕ) → LeadsTo nodes depth node start → length nodes / 2 ≤ node → (depth ≡ 0) × (length nodes / 2 + start ≡ node)
at_leaf nodes zero node start way outer = let at : length nodes / 2 + start ≡ node * 1 = way.at in (refl, omega (arith, at))
at_leaf nodes (suc depth) node start way outer =
    let to : (node + 1) * (2 ^ depth * 2) ≤ length nodes = subst (λ s. (node + 1) * s ≤ length nodes) (pow-suc 2 depth) way.to in
    let some : 1 ≤ 2 ^ depth = pow_pos depth in
    let wide = mul-le-mul_left (node + 1) some in
    absurd (omega (arith, to, wide, outer))

-- else there is a level below
pub level_below : (nodes : List ℕ) (depth node start : ℕ) → LeadsTo nodes depth node start → node < length nodes / 2 → (below : ℕ) × (depth ≡ suc below)
level_below nodes zero node start way inner = let at : length nodes / 2 + start ≡ node * 1 = way.at in absurd (omega (arith, at, inner))
level_below nodes (suc below) node start way inner = (below, refl)

-- the root has the sum of all leaves
pub root_sum : (nodes : List ℕ) → IsSumTree nodes → 0 < length nodes → get_or nodes 1 0 ≡ sum (leaves_of nodes)
root_sum nodes tree some =
    let size = tree.size some in
    let long = length-drop (length nodes / 2) nodes in
    let whole = covers nodes 0 (λ node late pos within. tree.sums node pos within) tree.height 1 0 (length nodes / 2) (omega arith) (omega arith) (omega (arith, size)) (omega (arith, size)) (omega (arith, size)) in
    let all = ap sum (take_all (length nodes / 2) (leaves_of nodes) (omega (arith, long, size))) in
    omega (arith, whole, all)

-- one level down
module _ (nodes : List ℕ) (tree : IsSumTree nodes) (depth below node start : ℕ) (way : LeadsTo nodes depth node start) (level : depth ≡ suc below) where
  double : 2 ^ depth ≡ 2 ^ below * 2
  double = ap (λ d. 2 ^ d) level ∙ pow-suc 2 below

  at : length nodes / 2 + start ≡ node * (2 ^ below * 2)
  at = subst (λ s. length nodes / 2 + start ≡ node * s) double way.at

  to : (node + 1) * (2 ^ below * 2) ≤ length nodes
  to = subst (λ s. (node + 1) * s ≤ length nodes) double way.to

  some : 1 ≤ 2 ^ below
  some = pow_pos below

  -- to the left child
  pub to_left : LeadsTo nodes below (node * 2) start
  to_left = record { pos = let pos = way.pos in omega (arith, pos); at = omega (arith, at); to = omega (arith, to) }

  -- to the right child
  pub to_right : LeadsTo nodes below (node * 2 + 1) (start + 2 ^ below)
  to_right = record { pos = omega arith; at = omega (arith, at); to = omega (arith, to) }

  -- what is under the left child
  pub left_sum : before nodes start + get_or nodes (node * 2) 0 ≡ before nodes (start + 2 ^ below)
  left_sum =
      let pos = way.pos in
      covers nodes 0 (λ m late some within. tree.sums m some within) below (node * 2) start (start + 2 ^ below) (omega arith) (omega (arith, pos)) (omega (arith, at)) (omega (arith, at)) (omega (arith, at, to))

  -- what is under both children is under the node
  pub both_sum : get_or nodes node 0 ≡ get_or nodes (node * 2) 0 + get_or nodes (node * 2 + 1) 0
  both_sum =
      let twice : 2 * node ≡ node * 2 = omega arith in
      let wide = mul-le-mul_left (node * 2 + 2) some in
      subst (λ n. get_or nodes node 0 ≡ get_or nodes n 0 + get_or nodes (n + 1) 0) twice (tree.sums node way.pos (omega (arith, to, wide)))

-- the sum before a leaf is found on the way down to it
pub record SumsTo (nodes : List ℕ) (leaf rest span node sum : ℕ) : Type 0 where
  pub depth : ℕ
  pub start : ℕ
  pub way : LeadsTo nodes depth node start
  pub span_is : span ≡ 2 ^ depth
  pub rest_is : start + rest ≡ leaf
  pub within : rest < span
  pub so_far : before nodes start ≡ sum

pub sum_begins : (nodes : List ℕ) (leaf : ℕ) → IsSumTree nodes → leaf < length (leaves_of nodes) → SumsTo nodes leaf leaf (length nodes / 2) 1 0
sum_begins nodes leaf tree within =
    let long = length-drop (length nodes / 2) nodes in
    let size = tree.size (omega (arith, long, within)) in
    record { depth = tree.height; start = 0; way = from_root nodes tree (omega (arith, long, within)); span_is = omega (arith, size); rest_is = omega arith; within = omega (arith, long, within); so_far = refl }

module _ (nodes : List ℕ) (leaf rest span node sum : ℕ) (tree : IsSumTree nodes) (here : SumsTo nodes leaf rest span node sum) (inner : node < length nodes / 2) where
  level : (below : ℕ) × (here.depth ≡ suc below)
  level = level_below nodes here.depth node here.start here.way inner

  half_span : span / 2 ≡ 2 ^ level.0
  half_span = let is = here.span_is in let twice = double nodes tree here.depth level.0 node here.start here.way level.1 in omega (arith, is, twice)

  whole_span : span ≡ 2 ^ level.0 * 2
  whole_span = here.span_is ∙ double nodes tree here.depth level.0 node here.start here.way level.1

  pub sum_left : rest < span / 2 → SumsTo nodes leaf rest (span / 2) (node * 2) sum
  sum_left early = record { depth = level.0; start = here.start; way = to_left nodes tree here.depth level.0 node here.start here.way level.1; span_is = half_span; rest_is = here.rest_is; within = early; so_far = here.so_far }

  pub sum_right : span / 2 ≤ rest → SumsTo nodes leaf (rest - span / 2) (span / 2) (node * 2 + 1) (sum + get_or nodes (node * 2) 0)
  sum_right late =
      let is = here.rest_is in
      let within = here.within in
      let so_far = here.so_far in
      let more = left_sum nodes tree here.depth level.0 node here.start here.way level.1 in
      record {
        depth = level.0;
        start = here.start + 2 ^ level.0;
        way = to_right nodes tree here.depth level.0 node here.start here.way level.1;
        span_is = half_span;
        rest_is = omega (arith, is, late, half_span);
        within = omega (arith, within, whole_span, half_span, late);
        so_far = omega (arith, more, so_far);
      }

  -- no sum on the way is past that of all leaves
  pub sum_fits : sum + get_or nodes (node * 2) 0 ≤ get_or nodes 1 0
  sum_fits =
      let so_far = here.so_far in
      let more = left_sum nodes tree here.depth level.0 node here.start here.way level.1 in
      let within = sum_by-take-le (λ (number : ℕ). number) (leaves_of nodes) (here.start + 2 ^ level.0) in
      let all = root_sum nodes tree (omega (arith, inner)) in
      omega (arith, so_far, more, within, all)

pub sum_ends : (nodes : List ℕ) (leaf rest span node sum : ℕ) → SumsTo nodes leaf rest span node sum → length nodes / 2 ≤ node → sum ≡ before nodes leaf
sum_ends nodes leaf rest span node sum here outer =
    let ends = at_leaf nodes here.depth node here.start here.way outer in
    let one : span ≡ 1 = here.span_is ∙ ap (λ d. 2 ^ d) ends.0 in
    let is = here.rest_is in
    let within = here.within in
    let start : here.start ≡ leaf = omega (arith, one, is, within) in
    sym (here.so_far) ∙ ap (before nodes) start

-- the leaf of a unit is found on the way down to it
pub record FindsIn (nodes : List ℕ) (unit offset node : ℕ) : Type 0 where
  pub depth : ℕ
  pub start : ℕ
  pub way : LeadsTo nodes depth node start
  pub so_far : before nodes start + offset ≡ unit
  pub within : offset < get_or nodes node 0

find_from : (nodes : List ℕ) (unit : ℕ) → IsSumTree nodes → 0 < length nodes → unit < sum (leaves_of nodes) → FindsIn nodes unit unit 1
find_from nodes unit tree some within =
    let all = root_sum nodes tree some in
    record { depth = tree.height; start = 0; way = from_root nodes tree some; so_far = omega arith; within = omega (arith, all, within) }

pub find_begins : (nodes : List ℕ) (unit : ℕ) → IsSumTree nodes → unit < sum (leaves_of nodes) → FindsIn nodes unit unit 1
find_begins [] unit tree within = absurd (omega (arith, within))
find_begins (node ∷ nodes) unit tree within = find_from (node ∷ nodes) unit tree (omega arith) within

module _ (nodes : List ℕ) (unit offset node : ℕ) (tree : IsSumTree nodes) (here : FindsIn nodes unit offset node) (inner : node < length nodes / 2) where
  below_is : (below : ℕ) × (here.depth ≡ suc below)
  below_is = level_below nodes here.depth node here.start here.way inner

  pub find_left : offset < get_or nodes (node * 2) 0 → FindsIn nodes unit offset (node * 2)
  find_left early = record { depth = below_is.0; start = here.start; way = to_left nodes tree here.depth below_is.0 node here.start here.way below_is.1; so_far = here.so_far; within = early }

  pub find_right : get_or nodes (node * 2) 0 ≤ offset → FindsIn nodes unit (offset - get_or nodes (node * 2) 0) (node * 2 + 1)
  find_right late =
      let so_far = here.so_far in
      let within = here.within in
      let more = left_sum nodes tree here.depth below_is.0 node here.start here.way below_is.1 in
      let both = both_sum nodes tree here.depth below_is.0 node here.start here.way below_is.1 in
      record {
        depth = below_is.0;
        start = here.start + 2 ^ below_is.0;
        way = to_right nodes tree here.depth below_is.0 node here.start here.way below_is.1;
        so_far = omega (arith, so_far, more, late);
        within = omega (arith, within, both, late);
      }

-- the leaf lies within the leaves, the unit in it, and the other units before it
module _ (nodes : List ℕ) (unit offset node : ℕ) (here : FindsIn nodes unit offset node) (outer : length nodes / 2 ≤ node) where
  start_is : here.start ≡ node - length nodes / 2
  start_is = let ends = at_leaf nodes here.depth node here.start here.way outer in let at = ends.1 in omega (arith, at)

  leaf_within : node - length nodes / 2 < length (leaves_of nodes)
  leaf_within =
      let ends = at_leaf nodes here.depth node here.start here.way outer in
      let long = length-drop (length nodes / 2) nodes in
      let to : (node + 1) * 1 ≤ length nodes = subst (λ d. (node + 1) * 2 ^ d ≤ length nodes) ends.0 here.way.to in
      omega (arith, long, to, outer)

  units_before : before nodes (node - length nodes / 2) + offset ≡ unit
  units_before = let so_far = here.so_far in let same = ap (before nodes) start_is in omega (arith, so_far, same)

  unit_within : offset < get_or (leaves_of nodes) (node - length nodes / 2) 0
  unit_within =
      let within = here.within in
      let here_is : length nodes / 2 + (node - length nodes / 2) ≡ node = omega (arith, outer) in
      let at = get_or-drop (length nodes / 2) nodes (node - length nodes / 2) 0 ∙ ap (λ n. get_or nodes n 0) here_is in
      omega (arith, within, at)

  pub leaf_found : IsUnitAt (leaves_of nodes) unit (node - length nodes / 2) offset
  leaf_found = record { within = leaf_within; before = units_before; less = unit_within }

-- a leaf is written, and the sums up to a node are again those of their children; the parent of the node may be wrong
pub record IsWritten (old : List ℕ) (leaf number node : ℕ) (nodes : List ℕ) : Type 0 where
  pub pos : 0 < node
  pub within : node < length nodes
  pub as_long : length nodes ≡ length old
  pub leaves : leaves_of nodes ≡ set (leaves_of old) leaf number
  pub sums : AreSumsBut (node / 2) nodes

pub write_begins : (old : List ℕ) (leaf number : ℕ) → IsSumTree old → leaf < length (leaves_of old) → IsWritten old leaf number (length old / 2 + leaf) (set old (length old / 2 + leaf) number)
write_begins old leaf number tree within =
    let long = length-drop (length old / 2) old in
    let size = tree.size (omega (arith, long, within)) in
    let as_long = length-set old (length old / 2 + leaf) number in
    let some = pow_pos tree.height in
    record {
      pos = omega (arith, size, some);
      within = omega (arith, long, within, as_long);
      as_long = as_long;
      leaves = ap (λ n. drop (n / 2) (set old (length old / 2 + leaf) number)) as_long ∙ drop-set-add (length old / 2) old leaf number;
      sums = λ m pos fits not_above.
          let other : (n : ℕ) → n ≢ length old / 2 + leaf → get_or (set old (length old / 2 + leaf) number) n 0 ≡ get_or old n 0 = λ n ne. get_or-set_other old (length old / 2 + leaf) n number 0 ne in
          let at = other m (λ e. omega (arith, e, fits, as_long)) in
          let left = other (2 * m) (λ e. not_above (omega (arith, e))) in
          let right = other (2 * m + 1) (λ e. not_above (omega (arith, e))) in
          let was = tree.sums m pos (omega (arith, fits, as_long)) in
          omega (arith, at, left, right, was);
    }

module _ (old : List ℕ) (leaf number node : ℕ) (nodes : List ℕ) (tree : IsSumTree old) (there : leaf < length (leaves_of old)) (here : IsWritten old leaf number node nodes) (up : 1 < node) where
  parent_within : 2 * (node / 2) < length nodes
  parent_within = let within = here.within in omega (arith, within)

  size : length nodes ≡ 2 * 2 ^ tree.height
  size = let as_long = here.as_long in let long = length-drop (length old / 2) old in let whole = tree.size (omega (arith, long, there)) in omega (arith, as_long, whole)

  pub write_fits : get_or nodes (2 * (node / 2)) 0 + get_or nodes (2 * (node / 2) + 1) 0 ≤ sum (set (leaves_of old) leaf number)
  write_fits =
      let within = parent_within in
      let fit = children_fit nodes (node / 2) here.sums (omega (arith, up)) (omega (arith, within, size)) tree.height size in
      let same = ap sum here.leaves in
      omega (arith, fit, same)

  pub write_on : IsWritten old leaf number (node / 2) (set nodes (node / 2) (get_or nodes (2 * (node / 2)) 0 + get_or nodes (2 * (node / 2) + 1) 0))
  write_on =
      let within = parent_within in
      let number : ℕ = get_or nodes (2 * (node / 2)) 0 + get_or nodes (2 * (node / 2) + 1) 0 in
      let long = length-set nodes (node / 2) number in
      record {
        pos = omega (arith, up);
        within = omega (arith, within, long, up);
        as_long = long ∙ here.as_long;
        leaves = leaves_stay nodes (node / 2) number (omega (arith, within, size)) ∙ here.leaves;
        sums = sum_written nodes (node / 2) number here.sums within (omega (arith, up)) refl;
      }

-- at the root all sums are right
pub write_ends : (old : List ℕ) (leaf number node : ℕ) (nodes : List ℕ) → IsSumTree old → IsWritten old leaf number node nodes → node ≤ 1 → IsSumTree nodes
write_ends old leaf number node nodes tree here low =
    let as_long = here.as_long in
    let pos = here.pos in
    record { height = tree.height; size = λ some. as_long ∙ tree.size (omega (arith, some, as_long)); sums = λ m some within. here.sums m some within (λ e. omega (arith, e, low, some)) }

-- the numbers of the first leaves, of which the others add nothing
module _ (nodes : List ℕ) (count : ℕ) (has : HasLeaves nodes count) where
  -- the leaves behind them
  nothing_behind : sum (drop count (leaves_of nodes)) ≡ 0
  nothing_behind = let others = has.others in let parts = sum_by-take-drop (λ (number : ℕ). number) (leaves_of nodes) count in omega (arith, others, parts)

  pub count_is : length (take count (leaves_of nodes)) ≡ count
  count_is = length-take-le count (leaves_of nodes) has.within

  -- one of them is written
  module _ (block number : ℕ) (early : block < count) where
    pub sum_set : sum (set (leaves_of nodes) block number) ≡ sum (set (take count (leaves_of nodes)) block number)
    sum_set =
        let parts = sum_by-take-drop (λ (n : ℕ). n) (set (leaves_of nodes) block number) count in
        let behind = ap sum (drop-set-lt count (leaves_of nodes) block number early) in
        let front = ap sum (take-set-lt count (leaves_of nodes) block number early) in
        let nothing = nothing_behind in
        omega (arith, parts, behind, front, nothing)

    pub has_set : (new : List ℕ) → sum (set (take count (leaves_of nodes)) block number) < 2 ^ 64 → IsSumTree new → leaves_of new ≡ set (leaves_of nodes) block number → HasLeaves new count
    has_set new fits tree is =
        let within = has.within in
        let long = ap length is ∙ length-set (leaves_of nodes) block number in
        let front = ap (take count) is ∙ take-set-lt count (leaves_of nodes) block number early in
        let same = ap sum is ∙ sum_set in
        record { tree = tree; fits = omega (arith, same, fits); within = omega (arith, within, long); others = same ∙ ap sum (sym front) }

    pub view_set : (new : List ℕ) → leaves_of new ≡ set (leaves_of nodes) block number → take count (leaves_of new) ≡ set (take count (leaves_of nodes)) block number
    view_set new is = ap (take count) is ∙ take-set-lt count (leaves_of nodes) block number early

  -- the last of them is dropped
  module _ (last : ℕ) (is_last : count ≡ last + 1) where
    last_within : last < length (leaves_of nodes)
    last_within = let within = has.within in omega (arith, within, is_last)

    less : sum (set (leaves_of nodes) last 0) ≡ sum (take last (leaves_of nodes))
    less =
        let others = has.others in
        let written = sum_by-set (λ (n : ℕ). n) (leaves_of nodes) last 0 0 last_within in
        let more = sum_by_more (λ (n : ℕ). n) (leaves_of nodes) last 0 last_within in
        let same = ap (λ n. sum (take n (leaves_of nodes))) is_last in
        omega (arith, others, written, more, same)

    pub pop_fits : sum (set (leaves_of nodes) last 0) < 2 ^ 64
    pop_fits =
        let fewer = less in
        let within = sum_by-take-le (λ (n : ℕ). n) (leaves_of nodes) last in
        let fits = has.fits in
        omega (arith, fewer, within, fits)

    pub has_less : (new : List ℕ) → IsSumTree new → leaves_of new ≡ set (leaves_of nodes) last 0 → HasLeaves new last
    has_less new tree is =
        let within = has.within in
        let long = ap length is ∙ length-set (leaves_of nodes) last 0 in
        let same = ap sum is in
        let fits = pop_fits in
        record { tree = tree; fits = omega (arith, same, fits); within = omega (arith, within, is_last, long); others = same ∙ less ∙ ap sum (sym (ap (take last) is ∙ take-set (leaves_of nodes) last 0)) }

    pub view_less : (new : List ℕ) → leaves_of new ≡ set (leaves_of nodes) last 0 → take last (leaves_of new) ≡ take last (take count (leaves_of nodes))
    view_less new is = ap (take last) is ∙ take-set (leaves_of nodes) last 0 ∙ sym (take-take last count (leaves_of nodes) (omega (arith, is_last)))

  -- one more is put where there is a leaf left
  module _ (number : ℕ) (left : count < length (leaves_of nodes)) where
    grows : sum (set (leaves_of nodes) count number) ≡ sum (take count (leaves_of nodes)) + number
    grows =
        let others = has.others in
        let written = sum_by-set (λ (n : ℕ). n) (leaves_of nodes) count number 0 left in
        let more = sum_by_more (λ (n : ℕ). n) (leaves_of nodes) count 0 left in
        let within = sum_by-take-le (λ (n : ℕ). n) (leaves_of nodes) (count + 1) in
        omega (arith, others, written, more, within)

    pub add_fits : sum (take count (leaves_of nodes)) + number < 2 ^ 64 → sum (set (leaves_of nodes) count number) < 2 ^ 64
    add_fits fits = let sums = grows in omega (arith, sums, fits)

    pub view_more : (new : List ℕ) → leaves_of new ≡ set (leaves_of nodes) count number → take (count + 1) (leaves_of new) ≡ take count (leaves_of nodes) ++ number ∷ []
    view_more new is = ap (take (count + 1)) is ∙ take_more_set (leaves_of nodes) count number left

    pub has_more : (new : List ℕ) → sum (take count (leaves_of nodes)) + number < 2 ^ 64 → IsSumTree new → leaves_of new ≡ set (leaves_of nodes) count number → HasLeaves new (count + 1)
    has_more new small tree is =
        let long = ap length is ∙ length-set (leaves_of nodes) count number in
        let pushed = sum_by_push (λ (n : ℕ). n) (take count (leaves_of nodes)) number in
        let same = ap sum is in
        let fits = add_fits small in
        record { tree = tree; fits = omega (arith, same, fits); within = omega (arith, left, long); others = same ∙ grows ∙ sym (ap sum (view_more new is) ∙ pushed) }

-- a tree with more leaves has the same numbers
module _ (nodes grown : List ℕ) (count : ℕ) (has : HasLeaves nodes count) (more : HasMoreLeaves nodes grown) where
  pub same_numbers : take count (leaves_of grown) ≡ take count (leaves_of nodes)
  same_numbers = ap (take count) more.leaves ∙ take-append-le count (leaves_of nodes) (replicate more.more 0) has.within

  pub grown_left : length (leaves_of nodes) < length (leaves_of grown)
  grown_left =
      let some = more.some in
      let long = ap length more.leaves ∙ length-append (leaves_of nodes) (replicate more.more 0) in
      let zeros = length-replicate {A = ℕ} more.more 0 in
      omega (arith, some, long, zeros)

  pub still_has : HasLeaves grown count
  still_has =
      let within = has.within in
      let others = has.others in
      let left = grown_left in
      let both = ap sum more.leaves ∙ sum_by-append (λ (n : ℕ). n) (leaves_of nodes) (replicate more.more 0) in
      let zeros = sum_by-replicate (λ (n : ℕ). n) more.more 0 in
      let same = ap sum same_numbers in
      let fits = has.fits in
      record { tree = more.tree; fits = omega (arith, both, zeros, fits); within = omega (arith, within, left); others = omega (arith, others, both, zeros, same) }

-- the first leaves, so many, are copied into a tree whose other leaves are 0
pub record IsCopied (nodes : List ℕ) (count leaf : ℕ) (grown : List ℕ) : Type 0 where
  pub tree : IsSumTree grown
  pub as_long : length grown ≡ count
  pub leaves : leaves_of grown ≡ take leaf (leaves_of nodes) ++ replicate (count / 2 - leaf) 0

-- a number is written behind those that were written, in the place of the first that was not
next_written : (xs : List ℕ) (place rest v : ℕ) → place < length xs → v ≡ get_or xs place 0 → set (take place xs ++ replicate (suc rest) 0) place v ≡ take (suc place) xs ++ replicate rest 0
next_written [] place rest v lt is = absurd (omega arith)
next_written (x ∷ xs) zero rest v lt is = ap (λ y. y ∷ replicate rest 0) is
next_written (x ∷ xs) (suc place) rest v lt is = ap (λ ys. x ∷ ys) (next_written xs place rest v (omega (arith, lt)) is)

-- so many zeros
abbrev zeros : ℕ → List ℕ
zeros count = replicate count 0

zero_at : (count node : ℕ) → get_or (zeros count) node 0 ≡ zero
zero_at zero node = refl
zero_at (suc count) zero = refl
zero_at (suc count) (suc node) = zero_at count node

-- they are a tree where there are enough for one
zeros_tree : (count height : ℕ) → count ≡ 2 * 2 ^ height → IsSumTree (zeros count)
zeros_tree count height is = record {
  height = height;
  size = λ some. length-replicate {A = ℕ} count 0 ∙ is;
  sums = λ node pos within. let at = zero_at count node in let left = zero_at count (2 * node) in let right = zero_at count (2 * node + 1) in omega (arith, at, left, right);
}

grown_tree : (nodes : List ℕ) (count : ℕ) → IsSumTree nodes → count ≡ max (length nodes) 1 * 2 → IsSumTree (zeros count)
grown_tree [] count tree is = zeros_tree count 0 (let two : max 0 1 ≡ 1 = refl in omega (arith, is, two))
grown_tree (node ∷ nodes) count tree is =
    let size = tree.size (omega arith) in
    let twice = pow-suc 2 tree.height in
    zeros_tree count (suc tree.height) (omega (arith, is, size, twice))

-- half of them are left
zeros_left : (count first : ℕ) → count - first ≡ count / 2 - 0 → drop first (zeros count) ≡ zeros (count / 2 - 0)
zeros_left count first left = drop-replicate first count 0 ∙ ap zeros left

-- so are twice as many as another tree has nodes, or two
pub copy_begins : (nodes : List ℕ) (count : ℕ) → IsSumTree nodes → count ≡ max (length nodes) 1 * 2 → IsCopied nodes count 0 (zeros count)
copy_begins nodes count tree is =
    let long : length (zeros count) ≡ count = length-replicate {A = ℕ} count 0 in
    record { tree = grown_tree nodes count tree is; as_long = long; leaves = zeros_left count (length (zeros count) / 2) (omega (arith, long, is)) }

module _ (nodes : List ℕ) (count leaf number : ℕ) (grown : List ℕ) (tree : IsSumTree nodes) (is : count ≡ max (length nodes) 1 * 2) (early : leaf < length nodes / 2) (copied : IsCopied nodes count leaf grown) (read : number ≡ get_or nodes (length nodes / 2 + leaf) 0) where
  early_leaf : leaf < length (leaves_of nodes)
  early_leaf = let long = length-drop (length nodes / 2) nodes in omega (arith, long, early)

  rest : ℕ
  rest = count / 2 - (leaf + 1)

  written : set (leaves_of grown) leaf number ≡ take (leaf + 1) (leaves_of nodes) ++ replicate (count / 2 - (leaf + 1)) 0
  written =
      let one : count / 2 - leaf ≡ suc (count / 2 - (leaf + 1)) = omega (arith, early, is) in
      let next : suc leaf ≡ leaf + 1 = omega arith in
      ap (λ xs. set xs leaf number) (copied.leaves ∙ ap (λ n. take leaf (leaves_of nodes) ++ replicate n 0) one)
      ∙ next_written (leaves_of nodes) leaf (count / 2 - (leaf + 1)) number early_leaf (read ∙ sym (get_or-drop (length nodes / 2) nodes leaf 0))
      ∙ ap (λ n. take n (leaves_of nodes) ++ replicate (count / 2 - (leaf + 1)) 0) next

  pub copy_within : leaf < length (leaves_of grown)
  copy_within = let as_long = copied.as_long in let long = length-drop (length grown / 2) grown in omega (arith, as_long, long, is, early)

  pub copy_fits : sum (set (leaves_of grown) leaf number) ≤ get_or nodes 1 0
  copy_fits =
      let same = ap sum written ∙ sum_by-append (λ (n : ℕ). n) (take (leaf + 1) (leaves_of nodes)) (replicate (count / 2 - (leaf + 1)) 0) in
      let zeros = sum_by-replicate (λ (n : ℕ). n) (count / 2 - (leaf + 1)) 0 in
      let within = sum_by-take-le (λ (n : ℕ). n) (leaves_of nodes) (leaf + 1) in
      let all = root_sum nodes tree (omega (arith, early)) in
      omega (arith, same, zeros, within, all)

  pub copy_next : (new : List ℕ) → length new ≡ length grown → IsSumTree new → leaves_of new ≡ set (leaves_of grown) leaf number → IsCopied nodes count (leaf + 1) new
  copy_next new as_long whole leaves = record { tree = whole; as_long = as_long ∙ copied.as_long; leaves = leaves ∙ written }

-- half of the nodes are leaves
halves : (nodes : List ℕ) → IsSumTree nodes → length nodes ≡ 2 * (length nodes / 2)
halves [] tree = omega arith
halves (node ∷ nodes) tree = let size = tree.size (omega arith) in omega (arith, size)

-- all leaves are copied
pub copy_ends : (nodes : List ℕ) (count : ℕ) (grown : List ℕ) → count ≡ max (length nodes) 1 * 2 → IsCopied nodes count (length nodes / 2) grown → IsSumTree nodes → HasMoreLeaves nodes grown
copy_ends nodes count grown is copied tree =
    let long = length-drop (length nodes / 2) nodes in
    let size = halves nodes tree in
    record {
      tree = copied.tree;
      more = count / 2 - length nodes / 2;
      some = omega (arith, is);
      leaves = copied.leaves ∙ ap (λ xs. xs ++ replicate (count / 2 - length nodes / 2) 0) (take_all (length nodes / 2) (leaves_of nodes) (omega (arith, long, size)));
    }

-- where there is a leaf left, there is room
pub room_is : (nodes : List ℕ) (count : ℕ) → HasLeaves nodes count → count < length nodes / 2 → HasRoom nodes nodes count
room_is nodes count has early = record { has = has; left = let long = length-drop (length nodes / 2) nodes in omega (arith, long, early); same = refl }

-- a tree with more leaves has room
pub room_made : (nodes grown : List ℕ) (count : ℕ) → HasLeaves nodes count → HasMoreLeaves nodes grown → HasRoom nodes grown count
room_made nodes grown count has more = record {
  has = still_has nodes grown count has more;
  left = let within = has.within in let left = grown_left nodes grown count has more in omega (arith, within, left);
  same = same_numbers nodes grown count has more;
}

-- a tree that has nodes has a root
pub root_within : (nodes : List ℕ) → IsSumTree nodes → 0 < length nodes → 1 < length nodes
root_within nodes tree some = let size = tree.size some in let wide = pow_pos tree.height in omega (arith, size, wide)

-- the leaf in which a unit of the numbers lies is one of theirs
pub found_first : (nodes : List ℕ) (count unit block rest : ℕ) → unit < sum (take count (leaves_of nodes)) → IsUnitAt (leaves_of nodes) unit block rest → IsUnitAt (take count (leaves_of nodes)) unit block rest
found_first nodes count unit block rest small found =
    elim (cases_lt block count) [
      | inl early ↦
          let leaves = leaves_of nodes in
          let long = length-take count leaves in
          let within = found.within in
          let before = found.before in
          let front = ap sum (take-take block count leaves (omega (arith, early))) in
          let less = found.less in
          let here = get_or-take count leaves block 0 early in
          record { within = omega (arith, early, long, within); before = omega (arith, before, front); less = omega (arith, less, here) }
      | inr late ↦
          let before = found.before in
          let front = ap sum (take-take count block (leaves_of nodes) late) in
          let within = sum_by-take-le (λ (n : ℕ). n) (take block (leaves_of nodes)) count in
          absurd (omega (arith, before, front, within, small))
    ]
