use Rattle.std.proofs.Common.{◌≡◌, ◌∙◌, ◌<◌, length, sym, ap, subst}
use Rattle.std.specs.Prelude.{Some, slice_get}
use Rattle.catalogue.specs.Catalogued.{Catalogued}
use Rattle.catalogue.specs.Tables.{IsHeld}
use Rattle.catalogue.proofs.StandingLemmas.{expression_at, expression_small}
use Rattle.catalogue.proofs.accepted.Catalogue.expr.Goals as goal

-- each query that is worked on has an expression
pub get-requires : goal.get-requires
get-requires c =
    let held : IsHeld c.args.self.now c.self.inside.chains.lines c.self.inside.chains.shares c.self.inside.reads = subst (λ (v : Catalogued). IsHeld v c.self.inside.chains.lines c.self.inside.chains.shares c.self.inside.reads) c.self.view_is c.self.invariant.held in
    subst (λ (v : Catalogued). c.place.result < length v.expressions) (sym c.self.view_is) (expression_small c.args.self.now held.stands c.args.query c.place.result c.place.ensures.value c.place.ensures.within)

pub returns : goal.returns
returns c =
    let held : IsHeld c.args.self.now c.self.inside.chains.lines c.self.inside.chains.shares c.self.inside.reads = subst (λ (v : Catalogued). IsHeld v c.self.inside.chains.lines c.self.inside.chains.shares c.self.inside.reads) c.self.view_is c.self.invariant.held in
    let there : slice_get c.args.self.now.expressions c.place.result ≡ Some c.get.result.now = ap (λ (v : Catalogued). slice_get v.expressions c.place.result) (sym c.self.view_is) ∙ c.get.ensures in
    expression_at c.args.self.now held.stands c.args.query c.place.result c.place.ensures.value c.place.ensures.within c.get.result.now there
