use Rattle.std.proofs.Common.{◌≡◌, ◌≢◌, ◌∙◌, ◌<◌, sym, ap, subst}
use Rattle.std.specs.Prelude.{◌==◌, AllPairs, Contains, None, Some, position, slice_get}
use Rattle.stream_schema.specs.Streams.{stream_names}
use Rattle.catalogue.specs.declared.numbering.Published.{Published}
use Rattle.catalogue.specs.Catalogued.{Catalogued}
use Rattle.catalogue.specs.Tables.{IsHeld}
use Rattle.catalogue.proofs.FoundLemmas.{first_named, has_name, no_publisher, no_stream}
use Rattle.catalogue.proofs.LeftProgramLemmas.{published_rise}
use Rattle.catalogue.proofs.accepted.Catalogue.query_of.Goals as goal

-- no stream has the name
pub returns-in-None-clause-none : goal.returns-in-None-clause-none
returns-in-None-clause-none c =
    let held : IsHeld c.args.self.now c.self.inside.chains.lines c.self.inside.chains.shares c.self.inside.reads = subst (λ (v : Catalogued). IsHeld v c.self.inside.chains.lines c.self.inside.chains.shares c.self.inside.reads) c.self.view_is c.self.invariant.held in
    no_stream c.args.self.now held.stands c.args.name.now (λ has. c.find.ensures.absent.0 c.in-None.is (subst (λ (v : Catalogued). Contains (stream_names v.streams) c.args.name.now) (sym c.self.view_is) has))

-- later queries publish greater streams
pub publisher-requires : goal.publisher-requires
publisher-requires c =
    let held : IsHeld c.args.self.now c.self.inside.chains.lines c.self.inside.chains.shares c.self.inside.reads = subst (λ (v : Catalogued). IsHeld v c.self.inside.chains.lines c.self.inside.chains.shares c.self.inside.reads) c.self.view_is c.self.invariant.held in
    subst (AllPairs (λ (earlier : Published) (later : Published). earlier.stream < later.stream)) (ap (λ (v : Catalogued). v.published) (sym c.self.view_is)) (published_rise c.args.self.now held.stands)

-- a stream has it that no query publishes
pub returns-in-None-publisher-clause-none : goal.returns-in-None-publisher-clause-none
returns-in-None-publisher-clause-none c =
    let held : IsHeld c.args.self.now c.self.inside.chains.lines c.self.inside.chains.shares c.self.inside.reads = subst (λ (v : Catalogued). IsHeld v c.self.inside.chains.lines c.self.inside.chains.shares c.self.inside.reads) c.self.view_is c.self.invariant.held in
    let there : slice_get (stream_names c.args.self.now.streams) c.in-Some.stream ≡ Some c.args.name.now = ap (λ (v : Catalogued). slice_get (stream_names v.streams) c.in-Some.stream) (sym c.self.view_is) ∙ c.in-Some.ensures.found in
    let distinct : AllPairs (λ x y. x ≢ y) (stream_names c.args.self.now.streams) = subst (λ (v : Catalogued). AllPairs (λ x y. x ≢ y) (stream_names v.streams)) c.self.view_is c.in-Some.ensures.distinct in
    let found : position (λ (q : Published). q.stream == c.in-Some.stream) c.args.self.now.published ≡ None = (λ t. position (λ (q : Published). q.stream == c.in-Some.stream) ((ap (λ (v : Catalogued). v.published) (sym c.self.view_is)) t)) ∙ sym c.publisher.ensures ∙ c.in-None-publisher.is in
    no_publisher c.args.self.now held.stands c.args.name.now c.in-Some.stream there distinct found

-- the query that publishes it has the name
pub returns-in-Some-publisher-clause-found : goal.returns-in-Some-publisher-clause-found
returns-in-Some-publisher-clause-found c =
    let held : IsHeld c.args.self.now c.self.inside.chains.lines c.self.inside.chains.shares c.self.inside.reads = subst (λ (v : Catalogued). IsHeld v c.self.inside.chains.lines c.self.inside.chains.shares c.self.inside.reads) c.self.view_is c.self.invariant.held in
    let there : slice_get (stream_names c.args.self.now.streams) c.in-Some.stream ≡ Some c.args.name.now = ap (λ (v : Catalogued). slice_get (stream_names v.streams) c.in-Some.stream) (sym c.self.view_is) ∙ c.in-Some.ensures.found in
    let distinct : AllPairs (λ x y. x ≢ y) (stream_names c.args.self.now.streams) = subst (λ (v : Catalogued). AllPairs (λ x y. x ≢ y) (stream_names v.streams)) c.self.view_is c.in-Some.ensures.distinct in
    let found : position (λ (q : Published). q.stream == c.in-Some.stream) c.args.self.now.published ≡ Some c.in-Some-publisher.place = (λ t. position (λ (q : Published). q.stream == c.in-Some.stream) ((ap (λ (v : Catalogued). v.published) (sym c.self.view_is)) t)) ∙ sym c.publisher.ensures ∙ c.in-Some-publisher.is in
    let here : slice_get c.args.self.now.order c.in-Some-publisher.place ≡ Some c.get.result = ap (λ (v : Catalogued). slice_get v.order c.in-Some-publisher.place) (sym c.self.view_is) ∙ c.get.ensures.value in
    has_name c.args.self.now held.stands c.args.name.now c.in-Some.stream there distinct c.in-Some-publisher.place c.get.result found here

pub returns-in-Some-publisher-clause-first : goal.returns-in-Some-publisher-clause-first
returns-in-Some-publisher-clause-first c =
    let held : IsHeld c.args.self.now c.self.inside.chains.lines c.self.inside.chains.shares c.self.inside.reads = subst (λ (v : Catalogued). IsHeld v c.self.inside.chains.lines c.self.inside.chains.shares c.self.inside.reads) c.self.view_is c.self.invariant.held in
    let there : slice_get (stream_names c.args.self.now.streams) c.in-Some.stream ≡ Some c.args.name.now = ap (λ (v : Catalogued). slice_get (stream_names v.streams) c.in-Some.stream) (sym c.self.view_is) ∙ c.in-Some.ensures.found in
    let distinct : AllPairs (λ x y. x ≢ y) (stream_names c.args.self.now.streams) = subst (λ (v : Catalogued). AllPairs (λ x y. x ≢ y) (stream_names v.streams)) c.self.view_is c.in-Some.ensures.distinct in
    let found : position (λ (q : Published). q.stream == c.in-Some.stream) c.args.self.now.published ≡ Some c.in-Some-publisher.place = (λ t. position (λ (q : Published). q.stream == c.in-Some.stream) ((ap (λ (v : Catalogued). v.published) (sym c.self.view_is)) t)) ∙ sym c.publisher.ensures ∙ c.in-Some-publisher.is in
    let here : slice_get c.args.self.now.order c.in-Some-publisher.place ≡ Some c.get.result = ap (λ (v : Catalogued). slice_get v.order c.in-Some-publisher.place) (sym c.self.view_is) ∙ c.get.ensures.value in
    first_named c.args.self.now held.stands c.args.name.now c.in-Some.stream there distinct c.in-Some-publisher.place c.get.result found here
