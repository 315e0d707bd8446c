use Rattle.std.proofs.Common.{[], sym, subst}
use Rattle.static_index.specs.Ids.{AreApart}
use Rattle.static_index.proofs.ApartLemmas.{none_apart}
use Rattle.static_index.proofs.ids.Ids.new.Goals as goal

pub invariant_of-result : goal.invariant_of-result
invariant_of-result c = subst (λ ids. AreApart ids []) (sym c.new.ensures.items) none_apart
