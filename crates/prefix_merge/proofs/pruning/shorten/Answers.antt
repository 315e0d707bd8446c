use Rattle.std.proofs.Common.{◌≡◌, ◌∙◌, ◌-◌, ap, sym, length, arith, false}
use Rattle.std.proofs.lemmas.List.{length-take}
use Rattle.automaton.specs.States.{Net, is_used, state_at}
use Rattle.prefix_merge.proofs.BucketLemmas.{short_states}
use Rattle.prefix_merge.proofs.pruning.shorten.Goals as goal

-- a place less, which no state has
pub loop-places-preserved : goal.loop-places-preserved
loop-places-preserved c =
    let net = c.loop-places.network in
    let before = c.loop-places.invariant in
    let last : c.loop-places.places - 1 ≡ length net - 1 = ap (λ n. n - 1) before.counted in
    let free : is_used net (length net - 1) ≡ false = ap (is_used net) (sym last) ∙ ap (λ (n : Net). is_used n (c.loop-places.places - 1)) (sym c.network.ensures) ∙ sym (c.if-not-used.ensures {u = tt}) in
    let shorter : length c.shrink.new.self ≡ length net - 1 = ap length c.shrink.ensures ∙ (let taken = length-take (length net - 1) net in omega (arith, taken)) in
    record {
      same = λ number. ap (λ (n : Net). state_at n number) c.shrink.ensures ∙ short_states net (omega (arith, before.counted, c.loop-places-test.true)) free number ∙ before.same number;
      counted = last ∙ sym shorter;
      shorter = let le = before.shorter in omega (arith, shorter, le);
    }
