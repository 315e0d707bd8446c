use Rattle.std.proofs.Common.{◌≡◌, ◌∙◌, ◌-◌, ◌<◌, ◌≤◌, ◌++◌, ◌∷◌, [], List, ℕ, ap, sym, subst, length, get_or, set, map, arith}
use Rattle.std.specs.Prelude.{Some, slice_get}
use Rattle.std.proofs.lemmas.List.Elements.{All-get_or}
use Rattle.std.proofs.lemmas.Option.{slice_get-get_or}
use Rattle.event_types.specs.Tuple.{TupleView}
use Rattle.epoch_draft.specs.Made.{ArePlaced, EndsWith, placed}
use Rattle.epoch_draft.proofs.Lists.{on_both, on_ok, some_is}
use Rattle.epoch_draft.proofs.MadeLemmas.{again_below, again_is, below_got, item_at, item_got, kept_below, many_at}
use Rattle.epoch_draft.proofs.made.Made.add_again.Goals as goal

-- the places of a stream that has tuples
module _ (items : List TupleView) (lists : List (List ℕ)) (seen : List (List TupleView)) (number : ℕ) (held places : List ℕ) (inside : ArePlaced items lists) (is : map (placed items) lists ≡ seen) (at : slice_get lists number ≡ Some held) (lent : places ≡ held) (one : 0 < length (get_or seen number [])) where
  got : slice_get lists number ≡ Some places
  got = at ∙ ap Some (sym lent)

  many : length (get_or seen number []) ≡ length places
  many = many_at items lists seen number places inside is got

  some : 1 ≤ length places
  some = omega (arith, many, one)

  last : length places - 1 < length places
  last = omega (arith, some)

  -- the last is that of a tuple
  below : get_or places (length places - 1) 0 < length items
  below = All-get_or (λ place. place < length items) places (length places - 1) 0 last (below_got items lists number places inside got)

  -- which is the last of the stream
  ends : (item : TupleView) → slice_get items (get_or places (length places - 1) 0) ≡ Some item → EndsWith (get_or seen number []) item
  ends item stands =
      subst (λ (n : ℕ). slice_get (get_or seen number []) (n - 1) ≡ Some item) (sym many)
      (item_got items lists seen number (length places - 1) (get_or places (length places - 1) 0) places item inside is got (slice_get-get_or places (length places - 1) 0 last) stands)

pub overflow_sub-place : goal.overflow_sub-place
overflow_sub-place c = some c.self.inside.tuples c.self.inside.places c.args.self.now c.args.other c.get.result.now c.as_slice-places.result.now c.self.invariant c.self.view_is c.get.ensures c.as_slice-places.ensures c.requires.other

pub bounds-places-places : goal.bounds-places-places
bounds-places-places c = last c.self.inside.tuples c.self.inside.places c.args.self.now c.args.other c.get.result.now c.as_slice-places.result.now c.self.invariant c.self.view_is c.get.ensures c.as_slice-places.ensures c.requires.other

-- the place that comes behind is that of a tuple
pub invariant_of-self : goal.invariant_of-self
invariant_of-self c =
    let items = c.self.inside.tuples in
    let lists = c.self.inside.places in
    let s = c.args.stream in
    let others = c.as_slice-places.result.now in
    let places = c.get_mut.result.now in
    let place = get_or others (length others - 1) 0 in
    let lt = below items lists c.args.self.now c.args.other c.get.result.now others c.self.invariant c.self.view_is c.get.ensures c.as_slice-places.ensures c.requires.other in
    on_both c.add.result (c.add.new.self ≡ places ++ place ∷ []) (c.add.new.self ≡ places) (ArePlaced items (set lists s c.add.new.self))
    (λ is. subst (λ (ps : List ℕ). ArePlaced items (set lists s ps)) (sym is) (again_below items lists s place places c.self.invariant c.get_mut.ensures.value lt))
    (λ is. subst (λ (ps : List ℕ). ArePlaced items (set lists s ps)) (sym is) (kept_below items lists s places c.self.invariant c.get_mut.ensures.value)) c.add.ensures.ok c.add.ensures.kept

pub returns : goal.returns
returns c = λ x x_ends.
    let items = c.self.inside.tuples in
    let lists = c.self.inside.places in
    let seen = c.args.self.now in
    let s = c.args.stream in
    let other = c.args.other in
    let others = c.as_slice-places.result.now in
    let places = c.get_mut.result.now in
    let place = get_or others (length others - 1) 0 in
    let stands = item_at items place (below items lists seen other c.get.result.now others c.self.invariant c.self.view_is c.get.ensures c.as_slice-places.ensures c.requires.other) in
    let got = ends items lists seen other c.get.result.now others c.self.invariant c.self.view_is c.get.ensures c.as_slice-places.ensures c.requires.other stands.0 stands.1 in
    let same = some_is stands.0 x (sym got ∙ x_ends) in
    on_ok c.add.result (c.add.new.self ≡ places ++ place ∷ []) (map (placed items) (set lists s c.add.new.self) ≡ set seen s (get_or seen s [] ++ x ∷ []))
    (λ is.
    ap (λ (ps : List ℕ). map (placed items) (set lists s ps)) is ∙ again_is items lists seen s place places stands.0 c.self.view_is c.get_mut.ensures.value stands.1 ∙ ap (λ (y : TupleView). set seen s (get_or seen s [] ++ y ∷ [])) same) c.add.ensures.ok
