use Rattle.std.proofs.Common.{◌≡◌, ◌<◌, ◌≤◌, [], List, sym, subst, length, get_or, set, map, arith}
use Rattle.std.specs.List.{All}
use Rattle.event_types.specs.Order.{sorted, tuple_cmp}
use Rattle.event_types.specs.Tuple.{TupleView}
use Rattle.event_types.proofs.SortLemmas.{sorted_few}
use Rattle.epoch_draft.specs.Made.{placed}
use Rattle.epoch_draft.proofs.Lists.{on_ok}
use Rattle.epoch_draft.proofs.MadeLemmas.{below_got, ordered_is, placed_length}
use Rattle.epoch_draft.proofs.made.Made.put_one_in_order.Goals as goal

-- fewer than two are in order
pub returns-then-len-lt2 : goal.returns-then-len-lt2
returns-then-len-lt2 c =
    let items = c.self.inside.tuples in
    let lists = c.self.inside.places in
    let places = c.get_mut-places.result.now in
    let got = c.get_mut-places.ensures.value in
    let many = placed_length items places (below_got items lists c.args.stream places c.self.invariant got) in
    let few : length (placed items places) ≤ 1 = let len = c.len.ensures in let lt = c.if-len-lt2.true in omega (arith, many, len, lt) in
    ordered_is items lists c.args.self.now c.args.stream places places c.self.view_is got (sorted_few tuple_cmp (placed items places) few)

pub put_places_in_order-requires : goal.put_places_in_order-requires
put_places_in_order-requires c =
    let places = c.get_mut-places.result.now in
    subst (λ (ts : List TupleView). All (λ place. place < length ts) places) (sym c.as_slice.ensures) (below_got c.self.inside.tuples c.self.inside.places c.args.stream places c.self.invariant c.get_mut-places.ensures.value)

pub returns : goal.returns
returns c =
    let items = c.self.inside.tuples in
    let lists = c.self.inside.places in
    let s = c.args.stream in
    let now = c.args.self.now in
    let places = c.get_mut-places.result.now in
    let new = c.put_places_in_order.new.places in
    on_ok c.put_places_in_order.result (placed c.as_slice.result.now new ≡ sorted (placed c.as_slice.result.now places)) (map (placed items) (set lists s new) ≡ set now s (sorted (get_or now s [])))
    (λ ordered. ordered_is items lists now s places new c.self.view_is c.get_mut-places.ensures.value (subst (λ (ts : List TupleView). placed ts new ≡ sorted (placed ts places)) c.as_slice.ensures ordered)) c.put_places_in_order.ensures.ordered
