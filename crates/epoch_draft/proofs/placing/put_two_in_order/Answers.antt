use Rattle.std.proofs.Common.{◌≡◌, ◌∙◌, ◌<◌, List, ℕ, false, true, sym, ap, subst, length, get_or, set, arith}
use Rattle.std.specs.List.{All}
use Rattle.std.specs.Ordering.{is_gt}
use Rattle.std.proofs.lemmas.Option.{slice_get-get_or}
use Rattle.event_types.specs.Order.{sorted, tuple_cmp}
use Rattle.event_types.specs.Tuple.{TupleView}
use Rattle.epoch_draft.specs.Made.{placed}
use Rattle.epoch_draft.proofs.MadeLemmas.{read_at, two_stay, two_turn}
use Rattle.epoch_draft.proofs.placing.put_two_in_order.Goals as goal

-- two places, of which each is that of a tuple
module _ (tuples : List TupleView) (places both : List ℕ) (x y : TupleView) (are_two : length places ≡ 2) (inside : All (λ place. place < length tuples) places) (lent : both ≡ places) (is_x : x ≡ get_or tuples (get_or both 0 0) x) (is_y : y ≡ get_or tuples (get_or both 1 0) y) where
  two : length both ≡ 2
  two = ap (λ (ps : List ℕ). length ps) lent ∙ are_two

  below : All (λ place. place < length tuples) both
  below = subst (All (λ place. place < length tuples)) (sym lent) inside

  abbrev p : ℕ
  p = get_or both 0 0

  abbrev q : ℕ
  q = get_or both 1 0

  -- they change their places
  turn : is_gt (tuple_cmp x y) ≡ true → placed tuples (set (set places 0 q) 1 p) ≡ sorted (placed tuples places)
  turn down =
      let first = slice_get-get_or both 0 0 (omega (arith, two)) in
      let second = slice_get-get_or both 1 0 (omega (arith, two)) in
      subst (λ (ps : List ℕ). placed tuples (set (set ps 0 q) 1 p) ≡ sorted (placed tuples ps)) lent
      (two_turn tuples both p q x y two first second (read_at tuples both 0 p x below first is_x) (read_at tuples both 1 q y below second is_y) down)

  -- they stay
  stay : is_gt (tuple_cmp x y) ≡ false → placed tuples places ≡ sorted (placed tuples places)
  stay up =
      let first = slice_get-get_or both 0 0 (omega (arith, two)) in
      let second = slice_get-get_or both 1 0 (omega (arith, two)) in
      subst (λ (ps : List ℕ). placed tuples ps ≡ sorted (placed tuples ps)) lent (two_stay tuples both p q x y two first second (read_at tuples both 0 p x below first is_x) (read_at tuples both 1 q y below second is_y) up)

-- the place of the lesser tuple comes first
pub returns-then-gt-clause-ordered : goal.returns-then-gt-clause-ordered
returns-then-gt-clause-ordered c =
    let tuples = c.args.tuples.now in
    let places = c.args.places.now in
    let both = c.as_slice-both.result.now in
    ap (placed tuples) (c.set-then-gt.ensures ∙ ap (λ (ps : List ℕ). set ps 1 (get_or both 0 0)) c.set.ensures)
    ∙ turn tuples places both c.index-tuples-first.result c.index-tuples-second.result c.requires.two c.requires.below c.as_slice-both.ensures c.index-tuples-first.is c.index-tuples-second.is (sym c.gt.ensures ∙ c.if-gt.true)

-- it stands there already
pub returns-else-gt-clause-ordered : goal.returns-else-gt-clause-ordered
returns-else-gt-clause-ordered c =
    stay c.args.tuples.now c.args.places.now c.as_slice-both.result.now c.index-tuples-first.result c.index-tuples-second.result c.requires.two c.requires.below c.as_slice-both.ensures c.index-tuples-first.is c.index-tuples-second.is (sym c.gt.ensures ∙ c.if-gt.false)
