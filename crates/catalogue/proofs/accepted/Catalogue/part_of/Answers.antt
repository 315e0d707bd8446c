use Rattle.std.proofs.Common.{subst}
use Rattle.catalogue.specs.Catalogued.{Catalogued}
use Rattle.catalogue.specs.Tables.{IsHeld}
use Rattle.catalogue.proofs.ShareLemmas.{lines_within, part_is, streams_within}
use Rattle.catalogue.proofs.accepted.Catalogue.part_of.Goals as goal

-- each query has its share
pub span_at-lines-requires : goal.span_at-lines-requires
span_at-lines-requires c =
    let held : IsHeld c.args.self.now c.self.inside.chains.lines c.self.inside.chains.shares c.self.inside.reads = subst (λ (v : Catalogued). IsHeld v c.self.inside.chains.lines c.self.inside.chains.shares c.self.inside.reads) c.self.view_is c.self.invariant.held in
    lines_within c.args.self.now held.stands c.args.query c.requires c.place-place.result c.place-place.ensures.value c.self.inside.chains.shares held.shared

pub span_at-streams-requires : goal.span_at-streams-requires
span_at-streams-requires c =
    let held : IsHeld c.args.self.now c.self.inside.chains.lines c.self.inside.chains.shares c.self.inside.reads = subst (λ (v : Catalogued). IsHeld v c.self.inside.chains.lines c.self.inside.chains.shares c.self.inside.reads) c.self.view_is c.self.invariant.held in
    streams_within c.args.self.now held.stands c.args.query c.requires c.place-place.result c.place-place.ensures.value c.self.inside.chains.shares held.shared

-- these are its lines and streams
pub returns : goal.returns
returns c =
    let held : IsHeld c.args.self.now c.self.inside.chains.lines c.self.inside.chains.shares c.self.inside.reads = subst (λ (v : Catalogued). IsHeld v c.self.inside.chains.lines c.self.inside.chains.shares c.self.inside.reads) c.self.view_is c.self.invariant.held in
    part_is c.args.self.now held.stands c.args.query c.requires c.place-place.result c.place-place.ensures.value c.self.inside.chains.shares held.shared c.span_at-lines.result.first c.span_at-lines.result.end c.span_at-streams.result.first c.span_at-streams.result.end c.span_at-lines.ensures.first c.span_at-lines.ensures.end c.span_at-streams.ensures.first c.span_at-streams.ensures.end
