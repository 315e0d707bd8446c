use Rattle.std.proofs.Common.{◌≡◌, ◌∙◌, sym, ap, subst}
use Rattle.std.specs.Prelude.{Some, slice_get}
use Rattle.catalogue.specs.Catalogued.{Catalogued}
use Rattle.catalogue.specs.Tables.{IsHeld}
use Rattle.catalogue.proofs.StandingLemmas.{birth_at}
use Rattle.catalogue.proofs.accepted.Catalogue.birth_of.Goals as goal

-- the query's birth stands at its place
pub returns : goal.returns
returns c =
    let held : IsHeld c.args.self.now c.self.inside.chains.lines c.self.inside.chains.shares c.self.inside.reads = subst (λ (v : Catalogued). IsHeld v c.self.inside.chains.lines c.self.inside.chains.shares c.self.inside.reads) c.self.view_is c.self.invariant.held in
    let there : slice_get c.args.self.now.published c.place.result ≡ Some c.get.result.now = ap (λ (v : Catalogued). slice_get v.published c.place.result) (sym c.self.view_is) ∙ c.get.ensures in
    birth_at c.args.self.now held.stands c.args.query c.place.result c.place.ensures.value c.place.ensures.within c.get.result.now there
