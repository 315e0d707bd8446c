use Rattle.std.proofs.Common.{◌∙◌, ◌∷◌, ◌++◌, [], ℕ, get_or, sym, ap, arith}
use Rattle.std.proofs.lemmas.List.FromFn.{map-range_with_len_more}
use Rattle.std.proofs.lemmas.Option.{get_or_from_slice_get}
use Rattle.work_order.specs.declared.turns.Turn.{Turn}
use Rattle.work_order.specs.Turns.{first_turns}
use Rattle.work_order.proofs.turns.turns_of.Goals as goal

-- one turn more is there
pub loop-own-preserved : goal.loop-own-preserved
loop-own-preserved c =
    let own : ℕ = c.loop-own.own in
    let turn : ℕ → Turn = λ n. record { own = own; other = n } in
    c.in_ok-add.ensures.ok ∙ ap (λ turns. turns ++ turn c.get-other.result.now ∷ []) c.loop-own.invariant
    ∙ sym (map-range_with_len_more (λ (k : ℕ). record { own = k; other = get_or c.args.others.now k 0 }) 0 own own (omega arith) ∙ ap (λ n. first_turns c.args.others.now own ++ turn n ∷ []) (get_or_from_slice_get c.args.others.now own c.get-other.result.now 0 c.get-other.ensures))
