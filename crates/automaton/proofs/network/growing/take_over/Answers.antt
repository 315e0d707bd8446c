use Rattle.std.proofs.Common.{◌∙◌, ◌<◌, ◌++◌, ap, subst, arith}
use Rattle.std.specs.Prelude.{option_to_list}
use Rattle.automaton.proofs.TakingLemmas.{taken_inside, taken_last}
use Rattle.automaton.proofs.network.growing.take_over.Goals as goal

-- the last item takes the place
pub returns-then-place-len : goal.returns-then-place-len
returns-then-place-len g c =
    taken_inside c.args.place c.args.items.now c.pop.new.self c.in-Some.last (c.pop.ensures.items ∙ ap (λ o. c.pop.new.self ++ option_to_list o) c.in-Some.is) (subst (λ n. c.args.place < n) c.len.ensures c.if-place-len.true)

-- the place was that of the last one
pub returns-else-place-len : goal.returns-else-place-len
returns-else-place-len g c =
    taken_last c.args.place c.args.items.now c.pop.new.self c.in-Some.last (c.pop.ensures.items ∙ ap (λ o. c.pop.new.self ++ option_to_list o) c.in-Some.is) (let past = c.if-place-len.false in let is = c.len.ensures in omega (arith, past, is)) c.requires
