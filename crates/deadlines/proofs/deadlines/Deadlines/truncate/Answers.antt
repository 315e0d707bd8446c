use Rattle.std.proofs.Common.{◌≡◌, ◌∙◌, ap, sym, subst, ◌≤◌, ◌++◌, ◌-◌, ◌^◌, drop, length, replicate, take, arith}
use Rattle.std.proofs.Math.Seq.{take-append_seam}
use Rattle.std.proofs.lemmas.List.{length-take-le, take-take, with_items_is}
use Rattle.deadlines.specs.Tournament.{AreFree, IsTournament, leaves_of}
use Rattle.deadlines.proofs.TournamentLemmas.{free_after}
use Rattle.deadlines.proofs.deadlines.Deadlines.truncate.Goals as goal

-- the leaves that were places are free too
pub invariant_of-self : goal.invariant_of-self
invariant_of-self c =
    let old = leaves_of c.self.inside.nodes.items in
    let new = leaves_of c.fill_leaves.new.nodes in
    let places = c.self.inside.places in
    let there : places ≤ length old = c.self.invariant.1 in
    let many : length new ≡ length old = c.fill_leaves.ensures.as_many ∙ ap (λ nodes. length (leaves_of nodes)) c.deref_mut.ensures.value in
    let had : length c.args.self.now ≡ places = ap length (sym c.self.view_is) ∙ length-take-le places old there in
    let few : c.args.places ≤ places = (let within = c.requires in omega (arith, within, had)) in
    let filled = c.fill_leaves.ensures.filled ∙ ap (λ nodes. take c.args.places (leaves_of nodes) ++ replicate (places - c.args.places) (2 ^ 128 - 1)) c.deref_mut.ensures.value in
    let others = c.fill_leaves.ensures.others ∙ ap (λ nodes. drop places (leaves_of nodes)) c.deref_mut.ensures.value in
    let free = free_after old new c.args.places places few there many filled others c.self.invariant.2 in
    subst (λ nodes. IsTournament nodes × c.args.places ≤ length (leaves_of nodes) × AreFree c.args.places (leaves_of nodes))
    (sym (with_items_is c.self.inside.nodes c.fill_leaves.new.nodes (c.fill_leaves.auto.nodes ∙ c.deref_mut.ensures.len)))
    (c.fill_leaves.ensures.tournament, omega (arith, few, there, many), free)

-- the first of the deadlines are as they were
pub returns : goal.returns
returns c =
    let old = leaves_of c.self.inside.nodes.items in
    let new = leaves_of c.fill_leaves.new.nodes in
    let places = c.self.inside.places in
    let there : places ≤ length old = c.self.invariant.1 in
    let had : length c.args.self.now ≡ places = ap length (sym c.self.view_is) ∙ length-take-le places old there in
    let few : c.args.places ≤ places = (let within = c.requires in omega (arith, within, had)) in
    let front : length (take c.args.places old) ≡ c.args.places = length-take-le c.args.places old (omega (arith, few, there)) in
    let filled = c.fill_leaves.ensures.filled ∙ ap (λ nodes. take c.args.places (leaves_of nodes) ++ replicate (places - c.args.places) (2 ^ 128 - 1)) c.deref_mut.ensures.value in
    ap (λ nodes. take c.args.places (leaves_of nodes)) (with_items_is c.self.inside.nodes c.fill_leaves.new.nodes (c.fill_leaves.auto.nodes ∙ c.deref_mut.ensures.len))
    ∙ sym (take-take c.args.places places new few) ∙ ap (take c.args.places) filled
    ∙ ap (λ n. take n (take c.args.places old ++ replicate (places - c.args.places) (2 ^ 128 - 1))) (sym front)
    ∙ take-append_seam (take c.args.places old) (replicate (places - c.args.places) (2 ^ 128 - 1))
    ∙ sym (take-take c.args.places places old few) ∙ ap (take c.args.places) c.self.view_is
