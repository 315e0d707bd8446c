use Rattle.std.proofs.Common.{◌≡◌, ◌∙◌, sym}
use Rattle.stream_schema.specs.Schema.{Attr, place_of}
use Rattle.stream_schema.proofs.NameLemmas.{absent-from_none, named-at, none-from_absent, within-at}
use Rattle.stream_schema.proofs.schema.Schema.find.Goals as goal

pub returns-clause-found : goal.returns-clause-found
returns-clause-found c =
    let value : c.first_place.result ≡ place_of c.args.name.now c.args.self.now = cc in
    named-at (λ (a : Attr). a.name) c.args.name.now c.args.self.now c.first_place.result value

pub returns-clause-within : goal.returns-clause-within
returns-clause-within c =
    let value : c.first_place.result ≡ place_of c.args.name.now c.args.self.now = cc in
    within-at (λ (a : Attr). a.name) c.args.name.now c.args.self.now c.first_place.result value

pub returns-clause-absent : goal.returns-clause-absent
returns-clause-absent c =
    let value : c.first_place.result ≡ place_of c.args.name.now c.args.self.now = cc in (
      λ none. absent-from_none (λ (a : Attr). a.name) c.args.name.now c.args.self.now (sym value ∙ none),
      λ absent. value ∙ none-from_absent (λ (a : Attr). a.name) c.args.name.now c.args.self.now absent,
    )
