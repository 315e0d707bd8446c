use Rattle.std.proofs.Common.{◌≡◌, ◌∙◌, ◌<◌, List, ℕ, [], sym, ap, length, get_or, map, arith}
use Rattle.std.specs.Prelude.{Some, slice_get}
use Rattle.std.proofs.lemmas.List.Elements.{All-get_or}
use Rattle.std.proofs.lemmas.Option.{slice_get-get_or}
use Rattle.event_types.specs.Tuple.{TupleView}
use Rattle.epoch_draft.specs.Made.{ArePlaced, placed}
use Rattle.epoch_draft.proofs.MadeLemmas.{below_got, item_got, many_at}
use Rattle.epoch_draft.proofs.made.Made.get.Goals as goal

-- a place among those of a stream, below the number of its tuples
module _ (items : List TupleView) (lists : List (List ℕ)) (seen : List (List TupleView)) (number place : ℕ) (held places : List ℕ) (inside : ArePlaced items lists) (is : map (placed items) lists ≡ seen) (at : slice_get lists number ≡ Some held) (lent : places ≡ held) (lt : place < length (get_or seen number [])) where
  got : slice_get lists number ≡ Some places
  got = at ∙ ap Some (sym lent)

  within : place < length places
  within = let many = many_at items lists seen number places inside is got in omega (arith, many, lt)

  -- what stands there is the place of a tuple
  below : get_or places place 0 < length items
  below = All-get_or (λ place. place < length items) places place 0 within (below_got items lists number places inside got)

  -- which is the tuple of the stream
  item_is : (item : TupleView) → slice_get items (get_or places place 0) ≡ Some item → slice_get (get_or seen number []) place ≡ Some item
  item_is item stands = item_got items lists seen number place (get_or places place 0) places item inside is got (slice_get-get_or places place 0 within) stands

pub offset_bounds-places-place : goal.offset_bounds-places-place
offset_bounds-places-place c = let lt = within c.self.inside.tuples c.self.inside.places c.args.self.now c.args.stream c.args.place c.get.result.now c.as_slice-places.result.now c.self.invariant c.self.view_is c.get.ensures c.as_slice-places.ensures c.requires in omega arith

pub bounds-places-place : goal.bounds-places-place
bounds-places-place c = within c.self.inside.tuples c.self.inside.places c.args.self.now c.args.stream c.args.place c.get.result.now c.as_slice-places.result.now c.self.invariant c.self.view_is c.get.ensures c.as_slice-places.ensures c.requires

pub get-requires-2 : goal.get-requires-2
get-requires-2 c = below c.self.inside.tuples c.self.inside.places c.args.self.now c.args.stream c.args.place c.get.result.now c.as_slice-places.result.now c.self.invariant c.self.view_is c.get.ensures c.as_slice-places.ensures c.requires

pub returns : goal.returns
returns c =
    item_is c.self.inside.tuples c.self.inside.places c.args.self.now c.args.stream c.args.place c.get.result.now c.as_slice-places.result.now c.self.invariant c.self.view_is c.get.ensures c.as_slice-places.ensures c.requires c.get-2.result.now c.get-2.ensures
