use Rattle.std.proofs.Common.{◌≡◌, ◌∙◌, ap, length, sym, subst, true, ℕ}
use Rattle.std.specs.Prelude.{Some}
use Rattle.automaton.specs.Changes.{AddsEnd}
use Rattle.automaton.specs.States.{Net, ends_at, is_used}
use Rattle.prefix_merge.specs.Buckets.{AreInBuckets}
use Rattle.prefix_merge.specs.Holders.{AreHolders, TellsOf}
use Rattle.prefix_merge.specs.Merging.{HasEnd}
use Rattle.prefix_merge.specs.Places.{AreFree}
use Rattle.prefix_merge.proofs.BucketLemmas.{buckets_end, failed, succeeded}
use Rattle.prefix_merge.proofs.FreeLemmas.{end_stays}
use Rattle.prefix_merge.proofs.HolderLemmas.{holders_back, holders_more}
use Rattle.prefix_merge.proofs.ReadingLemmas.{no_readers, readers_changed}
use Rattle.prefix_merge.proofs.indexed.Indexed.add_end.Goals as goal

-- it couldn't be added, and its state was forgotten again
pub invariant_of-self-then-is_err : goal.invariant_of-self-then-is_err
invariant_of-self-then-is_err c =
    let net = c.self.inside.network in
    let same = failed c.add_end-added.result (sym c.is_err.ensures.value ∙ c.if-is_err.true) c.add_end-added.ensures.kept in
    let fresh = subst (λ (net : Net). HasEnd net c.args.end.number → ⊥) (sym c.self.view_is) c.requires.new in (
      subst (AreInBuckets c.self.inside.buckets) (sym same) c.self.invariant.0,
      subst (AreHolders c.forget.new.holders) (sym same)
          (holders_back c.self.inside.holders c.note.new.holders c.forget.new.holders c.args.end.number (record { state = c.args.state; place = c.len-place.result }) net c.self.invariant.1 fresh (c.in_ok-note.ensures {u = tt}).ok c.forget.ensures),
      no_readers c.take.new.self c.add_end-added.new.self c.take.ensures.after,
      subst (AreFree c.self.inside.free) (sym same) c.self.invariant.3,
    )

-- it was added
pub invariant_of-self-else-is_err : goal.invariant_of-self-else-is_err
invariant_of-self-else-is_err c =
    let net = c.self.inside.network in
    let added = succeeded c.add_end-added.result (sym c.is_err.ensures.value ∙ c.if-is_err.false) c.add_end-added.ensures.added in
    let fresh = subst (λ (net : Net). HasEnd net c.args.end.number → ⊥) (sym c.self.view_is) c.requires.new in
    let used = subst (λ (net : Net). is_used net c.args.state ≡ true) (sym c.self.view_is) c.requires.used in
    let place_is : c.len-place.result ≡ length (ends_at net c.args.state) = c.len-place.ensures ∙ ap length c.ends.ensures in
    let told = subst (λ (place : ℕ). TellsOf c.args.end.number (Some (record { state = c.args.state; place = place })) c.self.inside.holders c.note.new.holders) place_is (c.in_ok-note.ensures {u = tt}).ok in (
      buckets_end c.self.inside.buckets c.args.state c.args.end net c.add_end-added.new.self c.self.invariant.0 added,
      holders_more c.args.state c.args.end net c.add_end-added.new.self used added c.self.inside.holders c.note.new.holders c.self.invariant.1 fresh told,
      readers_changed c.with_end-readers.result (AddsEnd c.args.state c.args.end net) c.add_end-added.new.self added c.with_end-readers.ensures,
      end_stays c.self.inside.free net c.self.invariant.3 c.args.state c.args.end c.add_end-added.new.self added,
    )
