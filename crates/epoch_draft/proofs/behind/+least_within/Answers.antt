use Rattle.std.proofs.Common.{◌≡◌, ◌∙◌, ◌-◌, sym, ap, subst, flat_map, arith}
use Rattle.std.specs.Prelude.{IsTrue}
use Rattle.std.specs.List.{All}
use Rattle.std.proofs.lemmas.List.Elements.{All-get_or}
use Rattle.automaton.specs.States.{edges_at, ends_at, is_used}
use Rattle.stream_readers.proofs.TargetLemmas.{edges_used}
use Rattle.epoch_draft.specs.BirthLists.{births_of, births_within, least_with}
use Rattle.epoch_draft.proofs.LeastLemmas.{least_append, least_done, least_more, within_more}
use Rattle.epoch_draft.proofs.behind.+least_within.Goals as goal

-- an edge leads to a state, and is one hop
pub least_within-least-requires : goal.least_within-least-requires
least_within-least-requires t c =
    let net = c.args.network.now in
    let items = c.as_slice-next-items.result.now in
    let edges : items ≡ edges_at net c.args.state = c.as_slice-next-items.ensures ∙ c.edges.ensures in (
      omega (arith, c.decreases, c.if-hops-eq0.false),
      (
        All-get_or (λ k. IsTrue (is_used net k)) items c.loop-next.next-index 0 c.loop-next-test.true (subst (All (λ k. IsTrue (is_used net k))) (sym edges) (edges_used net c.requires.network c.args.state)),
        c.requires.network,
      ),
    )

pub loop-next-preserved : goal.loop-next-preserved
loop-next-preserved t c =
    least_more (births_within c.args.network.now (c.args.hops - 1)) c.as_slice-next-items.result.now c.loop-next.next-index 0 c.loop-next.least c.least_within-least.result
    (least_with c.least_at-least.result (flat_map (births_within c.args.network.now (c.args.hops - 1)) c.as_slice-next-items.result.now)) c.loop-next-test.true c.least_within-least.ensures c.loop-next.invariant

pub returns : goal.returns
returns t c =
    let net = c.args.network.now in
    let f = births_within net (c.args.hops - 1) in
    let items = c.as_slice-next-items.result.now in
    let edges : items ≡ edges_at net c.args.state = c.as_slice-next-items.ensures ∙ c.edges.ensures in
    let ends : c.as_slice.result.now ≡ ends_at net c.args.state = c.as_slice.ensures ∙ c.ends.ensures in
    least_done f items c.loop-next.next-index c.loop-next.least (least_with c.least_at-least.result (flat_map f items)) (omega (arith, c.loop-next-test.false)) c.loop-next.invariant
    ∙ (λ i. least_with (c.least_at-least.ensures i) (flat_map f (edges i)))
    ∙ (λ i. least_with (least_with c.args.least (births_of (ends i))) (flat_map f (edges_at net c.args.state)))
    ∙ sym (least_append c.args.least (births_of (ends_at net c.args.state)) (flat_map f (edges_at net c.args.state)))
    ∙ ap (least_with c.args.least) (within_more net c.args.hops c.args.state (omega (arith, c.if-hops-eq0.false)))
