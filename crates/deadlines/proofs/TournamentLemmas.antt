-- Tournament trees: what is under a node, and the way down to a leaf.
use Rattle.std.proofs.Common.{◌≡◌, ◌∙◌, sym, ap, refl, subst, ℕ, zero, suc, ◌+◌, ◌*◌, ◌/◌, ◌-◌, ◌^◌, ◌<◌, ◌≤◌, ◌⊎◌, inl, inr, get_or, length, min, drop, replicate, set, take, List, [], ◌∷◌, ◌++◌, append_assoc, length-set, length-take, arith}
use Rattle.std.proofs.Math.Nat.{mul-le-mul_left, mul-le-mul_right, pow-suc}
use Rattle.std.proofs.Math.Seq.{drop-append_seam, drop-nil, take-add}
use Rattle.std.proofs.lemmas.Bool.{cases_lt}
use Rattle.std.proofs.lemmas.Grind.{get_or_default_zero}
use Rattle.std.proofs.lemmas.Nat.{pow_pos}
use Rattle.std.proofs.lemmas.List.{drop-replicate, drop-set-lt, get_or-drop, get_or-replicate, get_or-take, length-drop, length-take-le, replicate-append-replicate, take-append-drop, take-replicate}
use Rattle.std.proofs.lemmas.List.Elements.{All-from_get_or, All-same, Contains-get_or}
use Rattle.std.specs.List.{All, Contains}
use Rattle.deadlines.specs.Tournament.{AreFree, IsLesser, IsTournament, leaves_of}

module _ (nodes : List ℕ) (lesser : (node : ℕ) → 0 < node → 2 * node < length nodes → IsLesser nodes node) where
  -- what is at most each number under either child is at most each under the node
  under_either : (node under span : ℕ) → 0 < node → 0 < span → node * (span * 2) ≤ under → under < (node + 1) * (span * 2) → (node + 1) * (span * 2) ≤ length nodes
      → ((child : ℕ) → 0 < child → child * span ≤ under → under < (child + 1) * span → (child + 1) * span ≤ length nodes → get_or nodes child 0 ≤ get_or nodes under 0) → get_or nodes node 0 ≤ get_or nodes under 0
  under_either node under span pos some from to fits below = go (cases_lt under ((2 * node + 1) * span))
    where
      is : IsLesser nodes node
      is = lesser node pos (let wide = mul-le-mul_left (2 * node + 2) some in omega (arith, wide, fits))

      go : (under < (2 * node + 1) * span) ⊎ ((2 * node + 1) * span ≤ under) → get_or nodes node 0 ≤ get_or nodes under 0
      go (inl left) = let there = below (2 * node) (omega (arith, pos)) (omega (arith, from)) left (omega (arith, fits)) in omega (arith, is, there)
      go (inr right) = let there = below (2 * node + 1) (omega (arith, pos)) right (omega (arith, to)) (omega (arith, fits)) in omega (arith, is, there)

  -- a node's number is at most each of those that stand under it at one depth; by induction on the depth
  pub least_under : (depth node under : ℕ) → 0 < node → node * 2 ^ depth ≤ under → under < (node + 1) * 2 ^ depth → (node + 1) * 2 ^ depth ≤ length nodes → get_or nodes node 0 ≤ get_or nodes under 0
  least_under zero node under pos from to fits =
      let low : node * 1 ≤ under = from in let high : under < (node + 1) * 1 = to in let same : node ≡ under = omega arith in let e = ap (λ n. get_or nodes n 0) same in omega (arith, e)
  least_under (suc depth) node under pos from to fits =
      let double = pow-suc 2 depth in
      under_either node under (2 ^ depth) pos (pow_pos depth) (subst (λ s. node * s ≤ under) double from) (subst (λ s. under < (node + 1) * s) double to) (subst (λ s. (node + 1) * s ≤ length nodes) double fits)
      (λ child some low high within. least_under depth child under some low high within)

-- where the first leaf of at most a number is looked for: the node has at most that number, the leaves under it begin at a power of two times the node, and those before them have more
pub record LeadsTo (nodes : List ℕ) (most node : ℕ) : Type 0 where
  pub pos : 0 < node
  pub depth : ℕ
  pub from : length nodes / 2 ≤ node * 2 ^ depth
  pub to : (node + 1) * 2 ^ depth ≤ length nodes
  pub found : get_or nodes node 0 ≤ most
  pub before : (under : ℕ) → length nodes / 2 ≤ under → under < node * 2 ^ depth → most < get_or nodes under 0

-- the root leads to it where it has at most that number
pub from_root : (nodes : List ℕ) (most : ℕ) → IsTournament nodes → get_or nodes 1 0 ≤ most → LeadsTo nodes most 1
from_root nodes most tree found = record {
  pos = omega arith;
  depth = tree.height;
  from = let size = tree.size in omega (arith, size);
  to = let size = tree.size in omega (arith, size);
  found = found;
  before = λ under low high. let size = tree.size in absurd (omega (arith, size, low, high));
}

-- no leaf has less than the root
pub root_least : (nodes : List ℕ) (root leaf : ℕ) → IsTournament nodes → root ≡ get_or nodes 1 root → leaf < length (leaves_of nodes) → root ≤ get_or (leaves_of nodes) leaf 0
root_least nodes root leaf tree is within =
    let size = tree.size in
    let some = pow_pos tree.height in
    let same = get_or_default_zero nodes 1 root (omega (arith, size, some)) in
    let long = length-drop (length nodes / 2) nodes in
    let least = least_under nodes tree.lesser tree.height 1 (length nodes / 2 + leaf) (omega arith) (omega (arith, size)) (omega (arith, size, long, within)) (omega (arith, size)) in
    rw get_or-drop (omega (arith, least, same, is))

-- some number that stands under a node at one depth is the node's; by induction on the depth
least_is_one : (nodes : List ℕ) → ((node : ℕ) → 0 < node → 2 * node < length nodes → IsLesser nodes node) → (depth node : ℕ) → 0 < node → (node + 1) * 2 ^ depth ≤ length nodes
    → (under : ℕ) × (node * 2 ^ depth ≤ under) × (under < (node + 1) * 2 ^ depth) × (get_or nodes under 0 ≡ get_or nodes node 0)
least_is_one nodes lesser zero node pos fits = (node, omega arith, omega arith, refl)
least_is_one nodes lesser (suc depth) node pos fits = go (cases_lt left right) (least_is_one nodes lesser depth (2 * node)) (least_is_one nodes lesser depth (2 * node + 1))
  where
    left : ℕ
    left = get_or nodes (2 * node) 0

    right : ℕ
    right = get_or nodes (2 * node + 1) 0

    span : ℕ
    span = 2 ^ depth

    double : 2 ^ suc depth ≡ span * 2
    double = pow-suc 2 depth

    wide : (node + 1) * (span * 2) ≤ length nodes
    wide = subst (λ s. (node + 1) * s ≤ length nodes) double fits

    is : get_or nodes node 0 ≡ min left right
    is = lesser node pos (let some = pow_pos depth in let more = mul-le-mul_left (2 * node + 2) some in omega (arith, more, wide))

    -- one under a child is under the node
    up : (child under : ℕ) → node * 2 ≤ child → child ≤ node * 2 + 1 → child * span ≤ under → under < (child + 1) * span → (node * 2 ^ suc depth ≤ under) × (under < (node + 1) * 2 ^ suc depth)
    up child under low high from to =
        (subst (λ s. node * s ≤ under) (sym double) (let less = mul-le-mul_right span low in omega (arith, less, from)), subst (λ s. under < (node + 1) * s) (sym double) (let more = mul-le-mul_right span high in omega (arith, more, to)))

    go : (left < right) ⊎ (right ≤ left)
        → (0 < 2 * node → (2 * node + 1) * span ≤ length nodes → (under : ℕ) × (2 * node * span ≤ under) × (under < (2 * node + 1) * span) × (get_or nodes under 0 ≡ left))
        → (0 < 2 * node + 1 → (2 * node + 1 + 1) * span ≤ length nodes → (under : ℕ) × ((2 * node + 1) * span ≤ under) × (under < (2 * node + 1 + 1) * span) × (get_or nodes under 0 ≡ right))
        → (under : ℕ) × (node * 2 ^ suc depth ≤ under) × (under < (node + 1) * 2 ^ suc depth) × (get_or nodes under 0 ≡ get_or nodes node 0)
    go (inl less) by_left by_right =
        let one = by_left (omega (arith, pos)) (omega (arith, wide)) in
        let within = up (2 * node) one.0 (omega arith) (omega arith) one.1 one.2 in
        (one.0, within.0, within.1, (let same = one.3 in omega (arith, same, is, less)))
    go (inr less) by_left by_right =
        let one = by_right (omega arith) (omega (arith, wide)) in
        let within = up (2 * node + 1) one.0 (omega arith) (omega arith) one.1 one.2 in
        (one.0, within.0, within.1, (let same = one.3 in omega (arith, same, is, less)))

-- the root's number is that of a leaf
root_is_one : (nodes : List ℕ) → IsTournament nodes → (leaf : ℕ) × (leaf < length (leaves_of nodes)) × (get_or (leaves_of nodes) leaf 0 ≡ get_or nodes 1 0)
root_is_one nodes tree =
    let size = tree.size in
    let some = pow_pos tree.height in
    let one = least_is_one nodes tree.lesser tree.height 1 (omega arith) (omega (arith, size)) in
    let long = length-drop (length nodes / 2) nodes in
    let from = one.1 in
    let to = one.2 in
    let there : length nodes / 2 + (one.0 - length nodes / 2) ≡ one.0 = omega (arith, size, from) in
    (one.0 - length nodes / 2, omega (arith, size, long, from, to), get_or-drop (length nodes / 2) nodes (one.0 - length nodes / 2) 0 ∙ ap (λ n. get_or nodes n 0) there ∙ one.3)

-- where the leaves from a place on are free, it is that of a leaf before the place, or of a free one
pub root_found : (nodes : List ℕ) (places root : ℕ) → IsTournament nodes → root ≡ get_or nodes 1 root → places ≤ length (leaves_of nodes) → AreFree places (leaves_of nodes) → (root ≡ 2 ^ 128 - 1) ⊎ Contains (take places (leaves_of nodes)) root
root_found nodes places root tree is within free = go (root_is_one nodes tree) (λ leaf. cases_lt leaf places)
  where
    leaves : List ℕ
    leaves = leaves_of nodes

    value : get_or nodes 1 0 ≡ root
    value = (let size = tree.size in let some = pow_pos tree.height in let same = get_or_default_zero nodes 1 root (omega (arith, size, some)) in sym same) ∙ sym is

    go : ((leaf : ℕ) × (leaf < length leaves) × (get_or leaves leaf 0 ≡ get_or nodes 1 0)) → ((leaf : ℕ) → (leaf < places) ⊎ (places ≤ leaf)) → (root ≡ 2 ^ 128 - 1) ⊎ Contains (take places leaves) root
    go one cases = by (cases one.0)
      where
        by : (one.0 < places) ⊎ (places ≤ one.0) → (root ≡ 2 ^ 128 - 1) ⊎ Contains (take places leaves) root
        by (inl early) =
            let long = length-take-le places leaves within in
            let is_root = get_or-take places leaves one.0 0 early ∙ one.2 ∙ value in
            inr (subst (Contains (take places leaves)) is_root (Contains-get_or (take places leaves) one.0 0 (omega (arith, long, early))))
        by (inr late) =
            let there : places + (one.0 - places) ≡ one.0 = omega (arith, late) in
            let free_one = sym (get_or-drop places leaves (one.0 - places) 0) ∙ ap (λ xs. get_or xs (one.0 - places) 0) free ∙ get_or-replicate (length leaves - places) (one.0 - places) (2 ^ 128 - 1) 0 (let below = one.1 in omega (arith, below, late)) in
            inl (sym value ∙ sym one.2 ∙ ap (λ n. get_or leaves n 0) (sym there) ∙ free_one)

-- the step to a child: the left one where it has at most that number, else the right one
module _ (nodes : List ℕ) (most node : ℕ) (tree : IsTournament nodes) (inner : node < length nodes / 2) (here : LeadsTo nodes most node) where
  -- there is a level below the node
  below_is : (depth : ℕ) → here.depth ≡ depth → (deeper : ℕ) × (here.depth ≡ suc deeper)
  below_is zero e = let from : length nodes / 2 ≤ node * 1 = subst (λ d. length nodes / 2 ≤ node * 2 ^ d) e here.from in absurd (omega (arith, inner, from))
  below_is (suc deeper) e = (deeper, e)

  level : (deeper : ℕ) × (here.depth ≡ suc deeper)
  level = below_is here.depth refl

  abbrev deeper : ℕ
  deeper = level.0

  double : 2 ^ here.depth ≡ 2 ^ deeper * 2
  double = ap (λ d. 2 ^ d) level.1 ∙ pow-suc 2 deeper

  from : length nodes / 2 ≤ node * (2 ^ deeper * 2)
  from = subst (λ s. length nodes / 2 ≤ node * s) double here.from

  to : (node + 1) * (2 ^ deeper * 2) ≤ length nodes
  to = subst (λ s. (node + 1) * s ≤ length nodes) double here.to

  before : (under : ℕ) → length nodes / 2 ≤ under → under < node * (2 ^ deeper * 2) → most < get_or nodes under 0
  before = subst (λ s. (under : ℕ) → length nodes / 2 ≤ under → under < node * s → most < get_or nodes under 0) double here.before

  -- where the left child's number is small enough, the way leads there
  pub to_left : get_or nodes (node * 2) 0 ≤ most → LeadsTo nodes most (node * 2)
  to_left found = record {
    pos = let pos = here.pos in omega (arith, pos);
    depth = deeper;
    from = omega (arith, from);
    to = omega (arith, to);
    found = found;
    before = λ under low high. before under low (omega (arith, high));
  }

  -- else it leads to the right child
  pub to_right : most < get_or nodes (node * 2) 0 → LeadsTo nodes most (node * 2 + 1)
  to_right more = record {
    pos = omega arith;
    depth = deeper;
    from = omega (arith, from);
    to = omega (arith, to);
    found = let found = here.found in omega (arith, found, lesser, more);
    before = λ under low high. go under low high (cases_lt under (node * (2 ^ deeper * 2)));
  }
    where
      lesser : get_or nodes node 0 ≡ min (get_or nodes (node * 2) 0) (get_or nodes (node * 2 + 1) 0)
      lesser = let twice : 2 * node ≡ node * 2 = omega arith in subst (λ n. get_or nodes node 0 ≡ min (get_or nodes n 0) (get_or nodes (n + 1) 0)) twice (tree.lesser node here.pos (omega (arith, inner)))

      go : (under : ℕ) → length nodes / 2 ≤ under → under < (node * 2 + 1) * 2 ^ deeper → (under < node * (2 ^ deeper * 2)) ⊎ (node * (2 ^ deeper * 2) ≤ under) → most < get_or nodes under 0
      go under low high (inl early) = before under low early
      go under low high (inr late) =
          let pos = here.pos in
          let least = least_under nodes tree.lesser deeper (node * 2) under (omega (arith, pos)) (omega (arith, late)) high (omega (arith, to)) in
          omega (arith, more, least)

-- the node that has no children is the first such leaf
module _ (nodes : List ℕ) (most node : ℕ) (outer : length nodes / 2 ≤ node) (here : LeadsTo nodes most node) where
  some : 1 ≤ 2 ^ here.depth
  some = pow_pos here.depth

  -- the leaf is one of the leaves
  pub leaf_within : node - length nodes / 2 < length (leaves_of nodes)
  leaf_within = let long = length-drop (length nodes / 2) nodes in let to = here.to in let wide = mul-le-mul_left (node + 1) some in omega (arith, long, to, wide, outer)

  -- the leaves before it are past the number
  pub leaf_first : (leaf : ℕ) → leaf < node - length nodes / 2 → most < get_or (leaves_of nodes) leaf 0
  leaf_first leaf early = let wide = mul-le-mul_left node some in rw get_or-drop (here.before (length nodes / 2 + leaf) (omega arith) (omega (arith, early, wide, outer)))

-- what holds of the first leaves, so many as there are places, holds of all deadlines
pub all_of : (P : ℕ → Type 0) (deadlines nodes : List ℕ) (places : ℕ) → take places (leaves_of nodes) ≡ deadlines → places ≤ length (leaves_of nodes) → ((leaf : ℕ) → leaf < places → P (get_or (leaves_of nodes) leaf 0)) → All P deadlines
all_of P deadlines nodes places same within each =
    All-same P _ _ (sym same)
    (All-from_get_or P (take places (leaves_of nodes)) 0 (λ leaf lt. let long = length-take places (leaves_of nodes) in let early : leaf < places = omega (arith, lt, long, within) in rw get_or-take (each leaf early)))

-- a number is written behind those that were written, in the place of the first that was not
pub next_written : (xs : List ℕ) (place rest d n v : ℕ) → place < length xs → v ≡ get_or xs place d → set (take place xs ++ replicate (suc rest) n) place v ≡ take (suc place) xs ++ replicate rest n
next_written [] place rest d n v lt is = absurd (omega arith)
next_written (x ∷ xs) zero rest d n v lt is = ap (λ y. y ∷ replicate rest n) is
next_written (x ∷ xs) (suc place) rest d n v lt is = ap (λ ys. x ∷ ys) (next_written xs place rest d n v (omega (arith, lt)) is)

-- what is left out of a list in two goes
drop-add : (m n : ℕ) (xs : List ℕ) → drop (m + n) xs ≡ drop n (drop m xs)
drop-add zero n xs = ap (λ k. drop k xs) (let e : 0 + n ≡ n = omega arith in e)
drop-add (suc m) n [] = drop-nil (suc m + n) ∙ sym (drop-nil n)
drop-add (suc m) n (x ∷ xs) = ap (λ k. drop k (x ∷ xs)) (let e : suc m + n ≡ suc (m + n) = omega arith in e) ∙ drop-add m n xs

-- the leaves from one place on are written up to another
pub record FilledTo (start end number : ℕ) (old new : List ℕ) : Type 0 where
  pub tree : IsTournament new
  pub as_many : length (leaves_of new) ≡ length (leaves_of old)
  pub filled : take end (leaves_of new) ≡ take start (leaves_of old) ++ replicate (end - start) number
  pub others : drop end (leaves_of new) ≡ drop end (leaves_of old)

-- one place more is taken of a list in which it was written
take_written : (xs : List ℕ) (place number : ℕ) → place < length xs → take (suc place) (set xs place number) ≡ take place xs ++ number ∷ []
take_written [] place number lt = absurd (omega arith)
take_written (x ∷ xs) zero number lt = refl
take_written (x ∷ xs) (suc place) number lt = ap (λ ys. x ∷ ys) (take_written xs place number (omega (arith, lt)))

-- one copy more
one_copy : (n number : ℕ) → replicate n number ++ number ∷ [] ≡ replicate (suc n) number
one_copy zero number = refl
one_copy (suc n) number = ap (λ ys. number ∷ ys) (one_copy n number)

-- one leaf more is written
pub fill_next : (start end number : ℕ) (old was new : List ℕ) → start ≤ end → end < length (leaves_of old) → FilledTo start end number old was → IsTournament new → leaves_of new ≡ set (leaves_of was) end number → FilledTo start (end + 1) number old new
fill_next start end number old was new later within filled tree is =
    let long = filled.as_many in
    let next : end + 1 ≡ suc end = omega arith in
    let count : suc (end - start) ≡ end + 1 - start = omega (arith, later) in
    record {
      tree = tree;
      as_many = ap length is ∙ length-set (leaves_of was) end number ∙ filled.as_many;
      filled =
          ap (take (end + 1)) is ∙ ap (λ n. take n (set (leaves_of was) end number)) next ∙ take_written (leaves_of was) end number (omega (arith, long, within)) ∙ ap (λ xs. xs ++ number ∷ []) filled.filled
          ∙ append_assoc (take start (leaves_of old)) (replicate (end - start) number) (number ∷ []) ∙ ap (λ xs. take start (leaves_of old) ++ xs) (one_copy (end - start) number ∙ ap (λ n. replicate n number) count);
      others = ap (drop (end + 1)) is ∙ drop-set-lt (end + 1) (leaves_of was) end number (omega arith) ∙ drop-add end 1 (leaves_of was) ∙ ap (drop 1) filled.others ∙ sym (drop-add end 1 (leaves_of old));
    }

-- where leaves are made free up to a place from which on they were, they are from the first of these on
pub free_after : (old new : List ℕ) (start end : ℕ) → start ≤ end → end ≤ length old → length new ≡ length old
    → take end new ≡ take start old ++ replicate (end - start) (2 ^ 128 - 1) → drop end new ≡ drop end old → AreFree end old → AreFree start new
free_after old new start end later within many filled others free =
    let front = length-take-le start old (omega (arith, later, within)) in
    let count : end - start + (length old - end) ≡ length new - start = omega (arith, later, within, many) in
    ap (drop start) (sym (take-append-drop end new) ∙ (λ i. filled i ++ (others ∙ free) i) ∙ append_assoc (take start old) (replicate (end - start) (2 ^ 128 - 1)) (replicate (length old - end) (2 ^ 128 - 1)))
    ∙ ap (λ n. drop n (take start old ++ (replicate (end - start) (2 ^ 128 - 1) ++ replicate (length old - end) (2 ^ 128 - 1)))) (sym front)
    ∙ drop-append_seam (take start old) (replicate (end - start) (2 ^ 128 - 1) ++ replicate (length old - end) (2 ^ 128 - 1))
    ∙ replicate-append-replicate (end - start) (length old - end) (2 ^ 128 - 1)
    ∙ ap (λ n. replicate n (2 ^ 128 - 1)) count

-- so many more of the leaves are free ones, where there are so many
pub more_taken : (leaves : List ℕ) (place more : ℕ) → place + more ≤ length leaves → AreFree place leaves → take (place + more) leaves ≡ take place leaves ++ replicate more (2 ^ 128 - 1)
more_taken leaves place more within free =
    take-add place more leaves ∙ ap (λ xs. take place leaves ++ xs) (ap (take more) free ∙ take-replicate more (length leaves - place) (2 ^ 128 - 1) (omega (arith, within)))

-- and the rest is free still
pub less_free : (leaves : List ℕ) (place more : ℕ) → AreFree place leaves → AreFree (place + more) leaves
less_free leaves place more free =
    drop-add place more leaves ∙ ap (drop more) free ∙ drop-replicate more (length leaves - place) (2 ^ 128 - 1) ∙ ap (λ n. replicate n (2 ^ 128 - 1)) (let less : length leaves - place - more ≡ length leaves - (place + more) = omega arith in less)

-- a leaf before the place is written
pub set_free : (leaves : List ℕ) (place leaf number : ℕ) → leaf < place → AreFree place leaves → AreFree place (set leaves leaf number)
set_free leaves place leaf number before free =
    drop-set-lt place leaves leaf number before ∙ free ∙ ap (λ n. replicate (n - place) (2 ^ 128 - 1)) (sym (length-set leaves leaf number))
