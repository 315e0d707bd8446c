use Rattle.std.proofs.Common.{◌∙◌, ◌+◌, ◌<◌, arith, drop, map, refl, sym, ap, ◌∷◌, subst}
use Rattle.std.proofs.lemmas.List.{drop_more}
use Rattle.scalar_expr.proofs.ListLemmas.{All_read}
use Rattle.derivations.specs.DerivedPrograms.{derived_declared, derived_in_turn}
use Rattle.derivations.specs.HeardLines.{events_of}
use Rattle.derivations.specs.Queries.{query_of}
use Rattle.derivations.specs.declared.publishing.Query.{Query}
use Rattle.derivations.proofs.PublishLemmas.{IsLeft, all_left, left_after, next_suits}
use Rattle.derivations.proofs.publishing.derive_streams.Goals as goal

-- before the first query publishes, all are left
pub loop-query-init : goal.loop-query-init
loop-query-init g c =
    all_left c.args.declared c.args.count (events_of c.args.history.now) c.in_ok-streams.streams
    c.in_ok-streams.ensures
    c.args.queries.now c.requires.declared c.requires.suited

-- the next query may be worked out
pub publish-requires-clause-suits : goal.publish-requires-clause-suits
publish-requires-clause-suits g c =
    let whole = derived_in_turn c.args.declared (derived_declared c.args.declared (events_of c.args.history.now)) (map query_of c.args.queries.now) in
    let within : c.query-item.result.stream < c.args.count = All_read (λ (query : Query). query.stream < c.args.count) c.args.queries.now c.args.queries.now refl c.requires.within c.loop-query.query-index c.query-item.result (omega arith) c.query-item.is in
    let parts = drop_more c.args.queries.now c.loop-query.query-index c.query-item.result (omega arith) ∙ ap (λ (query : Query). query ∷ drop (c.loop-query.query-index + 1) c.args.queries.now) (sym c.query-item.is) in
    next_suits c.args.declared c.args.count whole c.loop-query.streams c.query-item.result (drop (c.loop-query.query-index + 1) c.args.queries.now) within
    (subst (IsLeft c.args.declared c.args.count whole c.loop-query.streams) parts c.loop-query.invariant)

-- once it is published the others are left
pub loop-query-preserved : goal.loop-query-preserved
loop-query-preserved g c =
    let whole = derived_in_turn c.args.declared (derived_declared c.args.declared (events_of c.args.history.now)) (map query_of c.args.queries.now) in
    let parts = drop_more c.args.queries.now c.loop-query.query-index c.query-item.result (omega arith) ∙ ap (λ (query : Query). query ∷ drop (c.loop-query.query-index + 1) c.args.queries.now) (sym c.query-item.is) in
    left_after c.args.declared c.args.count whole c.loop-query.streams c.publish.new.streams c.query-item.result (drop (c.loop-query.query-index + 1) c.args.queries.now)
    c.in_ok-publish.ensures.ok c.in_ok-publish.ensures.count (subst (IsLeft c.args.declared c.args.count whole c.loop-query.streams) parts c.loop-query.invariant)
