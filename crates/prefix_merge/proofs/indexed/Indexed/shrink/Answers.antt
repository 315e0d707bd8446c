use Rattle.std.proofs.Common.{◌≡◌, ◌-◌, ◌<◌, false, ap, length, take, subst, sym}
use Rattle.std.specs.Prelude.{IfSome, is_some}
use Rattle.automaton.specs.States.{Net, is_used}
use Rattle.prefix_merge.specs.Buckets.{AreInBuckets}
use Rattle.prefix_merge.specs.Holders.{AreHolders}
use Rattle.prefix_merge.specs.Places.{AreFree}
use Rattle.prefix_merge.proofs.BucketLemmas.{buckets_shrunk, short_states}
use Rattle.prefix_merge.proofs.FreeLemmas.{free_kept}
use Rattle.prefix_merge.proofs.HolderLemmas.{holders_same, short_ends}
use Rattle.prefix_merge.proofs.ReadingLemmas.{readers_short}
use Rattle.stream_readers.specs.Readers.{AreReadersOf}
use Rattle.prefix_merge.proofs.indexed.Indexed.shrink.Goals as goal

pub invariant_of-self : goal.invariant_of-self
invariant_of-self c =
    let old = c.self.inside.network in
    let some = subst (λ (net : Net). 0 < length net) (sym c.self.view_is) c.requires.some in
    let free = subst (λ (net : Net). is_used net (length net - 1) ≡ false) (sym c.self.view_is) c.requires.free in (
      subst (AreInBuckets c.self.inside.buckets) (sym c.shrink.ensures) (buckets_shrunk c.self.inside.buckets old c.self.invariant.0 some free),
      subst (AreHolders c.self.inside.holders) (sym c.shrink.ensures) (holders_same c.self.inside.holders old (take (length old - 1) old) (short_ends old some free) c.self.invariant.1),
      subst (λ (net : Net). IfSome c.self.inside.readers (AreReadersOf net)) (sym c.shrink.ensures) (readers_short c.self.inside.readers old some free c.self.invariant.2),
      subst (AreFree c.self.inside.free) (sym c.shrink.ensures) (free_kept c.self.inside.free old c.self.invariant.3 (take (length old - 1) old) (λ n. ap is_some (short_states old some free n))),
    )
