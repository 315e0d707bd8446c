use Rattle.std.proofs.Common.{◌∙◌, sym, ap, ℕ, ◌++◌, ◌∷◌, [], List, get_or, filter, take, append_assoc}
use Rattle.std.proofs.lemmas.List.{take_all, take_more}
use Rattle.std.proofs.lemmas.List.Elements.{filter-append}
use Rattle.stream_readers.specs.Finding.{is_found_by}
use Rattle.stream_readers.proofs.key_readers.add_met.Goals as goal

-- one state more
pub loop-state-preserved : goal.loop-state-preserved
loop-state-preserved c =
    let states = c.args.states.now in
    let i = c.loop-state.state-index in
    let met = is_found_by c.args.network.now c.args.stream c.args.tuple.now c.args.attribute in
    c.in_ok-add_if_met.ensures ∙ ap (λ (ns : List ℕ). ns ++ filter met (get_or states i 0 ∷ [])) c.loop-state.invariant ∙ append_assoc c.args.waits.now (filter met (take i states)) (filter met (get_or states i 0 ∷ []))
    ∙ ap (λ (ns : List ℕ). c.args.waits.now ++ ns) (sym (ap (filter met) (take_more states i 0 c.loop-state-test.true) ∙ filter-append met (take i states) (get_or states i 0 ∷ [])))

pub returns : goal.returns
returns c =
    let met = is_found_by c.args.network.now c.args.stream c.args.tuple.now c.args.attribute in
    c.loop-state.invariant ∙ ap (λ (ns : List ℕ). c.args.waits.now ++ filter met ns) (take_all c.loop-state.state-index c.args.states.now c.loop-state-test.false)
