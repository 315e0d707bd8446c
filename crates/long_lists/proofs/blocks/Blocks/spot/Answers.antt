use Rattle.std.proofs.Common.{◌<◌, ◌≤◌, ◌-◌, ◌/◌, ◌%◌, length, sym, subst}
use Rattle.std.specs.List.{sum}
use Rattle.long_lists.specs.Blocks.{IsPlaceIn, joined}
use Rattle.long_lists.proofs.BlocksLemmas.{found_place, full_place, last_place}
use Rattle.long_lists.proofs.blocks.Blocks.spot.Goals as goal

pub returns-then-block-self : goal.returns-then-block-self
returns-then-block-self g c =
    subst (λ blocks. IsPlaceIn blocks c.args.place (c.args.place / 64) (c.args.place % 64)) c.self.view_is
    (full_place c.self.inside.closed c.self.inside.lengths c.self.inside.full c.self.inside.last c.self.invariant c.args.place c.if-block-self.true)

pub returns-then-place-closed : goal.returns-then-place-closed
returns-then-place-closed g c =
    subst (λ blocks. IsPlaceIn blocks c.args.place c.find.result.block c.find.result.offset) c.self.view_is
    (found_place c.self.inside.closed c.self.inside.lengths c.self.inside.full c.self.inside.last c.self.invariant c.args.place c.find.result.block c.find.result.offset c.find.ensures)

pub returns : goal.returns
returns g c =
    let closed = c.self.inside.closed in
    let lengths = c.self.inside.lengths in
    let place = c.args.place in
    let late : sum lengths ≤ place = subst (λ n. n ≤ place) c.sum-closed.ensures c.if-place-closed.false in
    let within = subst (λ blocks. place < length (joined blocks)) (sym c.self.view_is) c.requires in
    subst (λ block. IsPlaceIn c.args.self.now place block (place - c.sum-closed.result)) (sym c.len.ensures)
    (subst (λ before. IsPlaceIn c.args.self.now place (length closed) (place - before)) (sym c.sum-closed.ensures)
    (subst (λ blocks. IsPlaceIn blocks place (length closed) (place - sum lengths)) c.self.view_is (last_place closed lengths c.self.inside.full c.self.inside.last c.self.invariant place late within)))
