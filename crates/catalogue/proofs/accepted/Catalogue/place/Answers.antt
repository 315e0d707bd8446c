use Rattle.std.proofs.Common.{◌∙◌, ap, arith, length}
use Rattle.std.specs.Prelude.{◌==◌}
use Rattle.std.specs.List.{position_or_len}
use Rattle.catalogue.specs.Catalogued.{Catalogued}
use Rattle.catalogue.proofs.accepted.Catalogue.place.Goals as goal

pub place_of-requires : goal.place_of-requires
place_of-requires c = omega (arith, c.requires, ap (λ (v : Catalogued). length v.order) c.self.view_is)

pub returns-clause-value : goal.returns-clause-value
returns-clause-value c = c.place_of.ensures.value ∙ ap (λ (v : Catalogued). position_or_len (λ other. c.args.query == other) v.order) c.self.view_is

pub returns-clause-within : goal.returns-clause-within
returns-clause-within c = omega (arith, c.place_of.ensures.within, ap (λ (v : Catalogued). length v.order) c.self.view_is)
