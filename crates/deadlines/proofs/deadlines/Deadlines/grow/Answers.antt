use Rattle.std.proofs.Common.{◌≡◌, ◌∙◌, sym, ap, subst, suc, ◌+◌, ◌-◌, ◌/◌, ◌^◌, ◌++◌, length, replicate, set, take, arith}
use Rattle.std.proofs.lemmas.List.{length-drop, length-take-le}
use Rattle.deadlines.specs.Tournament.{AreFree, leaves_of}
use Rattle.deadlines.proofs.TournamentLemmas.{less_free, more_taken, next_written}
use Rattle.deadlines.proofs.deadlines.Deadlines.grow.Goals as goal

-- the leaves that come were free, and the others still are
pub invariant_of-self : goal.invariant_of-self
invariant_of-self c =
    let leaves = leaves_of c.self.inside.nodes.items in
    let sum = c.in-Some.ensures.1 in
    let long = length-drop (length c.self.inside.nodes.items / 2) c.self.inside.nodes.items in
    let size : c.len.result ≡ length c.self.inside.nodes.items = c.len.ensures ∙ c.self.inside.nodes.ok.0 in
    (c.self.invariant.0, (let fit = c.if-places-len.true in omega (arith, fit, long, size)), subst (λ places. AreFree places leaves) (sym sum) (less_free leaves c.self.inside.places c.args.more c.self.invariant.2))

pub returns-then-places-len-clause-ok : goal.returns-then-places-len-clause-ok
returns-then-places-len-clause-ok c =
    let leaves = leaves_of c.self.inside.nodes.items in
    let sum = c.in-Some.ensures.1 in
    let long = length-drop (length c.self.inside.nodes.items / 2) c.self.inside.nodes.items in
    let size : c.len.result ≡ length c.self.inside.nodes.items = c.len.ensures ∙ c.self.inside.nodes.ok.0 in
    ap (λ places. take places leaves) sum
    ∙ more_taken leaves c.self.inside.places c.args.more (let fit = c.if-places-len.true in omega (arith, fit, long, size, sum)) c.self.invariant.2
    ∙ ap (λ deadlines. deadlines ++ replicate c.args.more (2 ^ 128 - 1)) c.self.view_is

pub loop-place-preserved : goal.loop-place-preserved
loop-place-preserved c =
    let xs = c.args.self.now in
    let place = c.loop-place.place in
    let rest = c.in-Some.places - (place + 1) in
    let many : length xs ≡ c.self.inside.places = sym (ap length c.self.view_is) ∙ length-take-le c.self.inside.places (leaves_of c.self.inside.nodes.items) c.self.invariant.1 in
    let count : c.in-Some.places - place ≡ suc rest = omega (arith, c.loop-place-test.true, c.in-Some.ensures) in
    let next : suc place ≡ place + 1 = omega arith in
    c.set.ensures ∙ ap (λ ys. set ys place c.get.result) (c.loop-place.invariant ∙ ap (λ n. take place xs ++ replicate n (2 ^ 128 - 1)) count)
    ∙ next_written xs place rest 0 (2 ^ 128 - 1) c.get.result (omega (arith, many, c.loop-place-test.true)) c.get.ensures
    ∙ ap (λ n. take n xs ++ replicate rest (2 ^ 128 - 1)) next
