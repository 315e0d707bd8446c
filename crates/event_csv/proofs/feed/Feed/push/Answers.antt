use Rattle.std.proofs.Common.{◌∙◌, ◌+◌, ◌<◌, ◌^◌, length, sym, subst}
use Rattle.event_csv.specs.Fed.{Fed, line_feeds_so_far}
use Rattle.event_csv.proofs.PlaceFacts.{IsPlace-append}
use Rattle.event_csv.proofs.feed.Feed.push.Goals as goal

pub invariant_of-self-2 : goal.invariant_of-self-2
invariant_of-self-2 c =
    let HasRoom : Fed → Type 0 = λ fed. line_feeds_so_far fed + length c.args.piece.now < 2 ^ 64 in
    let room = subst HasRoom (sym c.compact.ensures ∙ sym c.self.view_is) c.requires in
    rw c.in_ok-extend_from_slice.ensures.items (IsPlace-append c.self.inside.bytes.items c.args.piece.now c.self.inside.place c.self.invariant room)
