use Rattle.std.proofs.Common.{subst, sym}
use Rattle.automaton.specs.Changes.{RemovesEnd}
use Rattle.automaton.specs.States.{Net}
use Rattle.prefix_merge.specs.Holders.{StandsAt}
use Rattle.prefix_merge.proofs.BucketLemmas.{buckets_endless}
use Rattle.prefix_merge.proofs.ComingLemmas.{end_left}
use Rattle.prefix_merge.proofs.FreeLemmas.{free_kept}
use Rattle.prefix_merge.proofs.MovedLemmas.{holders_less, moved_told}
use Rattle.prefix_merge.proofs.ReadingLemmas.{readers_changed}
use Rattle.prefix_merge.proofs.indexed.Indexed.remove_end.Goals as goal

-- the end that has moved was noted
pub note_moved-requires : goal.note_moved-requires
note_moved-requires c =
    let old = c.self.inside.network in
    let had = subst (λ (net : Net). StandsAt net c.args.number c.args.spot) (sym c.self.view_is) c.requires in
    moved_told c.args.spot old c.remove_end.new.self c.remove_end.ensures c.self.inside.holders c.forget.new.holders c.args.number c.self.invariant.1 had c.forget.ensures c.number_there-moved.result c.number_there-moved.ensures

-- the others stand where the table tells
pub invariant_of-self : goal.invariant_of-self
invariant_of-self c =
    let old = c.self.inside.network in
    let new = c.remove_end.new.self in
    let had = subst (λ (net : Net). StandsAt net c.args.number c.args.spot) (sym c.self.view_is) c.requires in (
      buckets_endless c.self.inside.buckets c.args.spot.state c.args.spot.place old new c.self.invariant.0 c.remove_end.ensures,
      holders_less c.args.spot old new c.remove_end.ensures c.self.inside.holders c.forget.new.holders c.args.number c.self.invariant.1 had c.forget.ensures c.note_moved.new.holders c.number_there-moved.result c.number_there-moved.ensures c.note_moved.ensures,
      readers_changed c.without_end.result (RemovesEnd c.args.spot.state c.args.spot.place old) new c.remove_end.ensures c.without_end.ensures,
      free_kept c.self.inside.free old c.self.invariant.3 new (end_left c.args.spot.state c.args.spot.place old new c.remove_end.ensures),
    )
