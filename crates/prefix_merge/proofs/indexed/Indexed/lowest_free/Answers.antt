use Rattle.std.proofs.Common.{subst, sym}
use Rattle.automaton.specs.States.{Net}
use Rattle.prefix_merge.specs.Merging.{IsLowestFree}
use Rattle.prefix_merge.proofs.FreeLemmas.{next_is}
use Rattle.prefix_merge.proofs.indexed.Indexed.lowest_free.Goals as goal

-- none that is listed is free
pub returns-in-None : goal.returns-in-None
returns-in-None c =
    let none = next_is c.self.inside.free c.self.inside.network c.self.invariant.3 c.in-None.ensures.none in
    subst (λ (net : Net). IsLowestFree net c.len.result) c.self.view_is (subst (IsLowestFree c.self.inside.network) (sym c.len.ensures) none)
