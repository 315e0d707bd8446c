use Rattle.std.proofs.Common.{◌≡◌, ◌∙◌, ap, sym, ℕ, List, [], ◌++◌, take, drop, arith}
use Rattle.std.proofs.Math.ListN.{drop_of_length-le}
use Rattle.std.proofs.lemmas.List.{append-nil}
use Rattle.static_index.specs.Table.{meets}
use Rattle.static_index.proofs.NarrowLemmas.{after_none, passed, passing_after, taken}
use Rattle.static_index.proofs.narrowing.narrow.Goals as goal

pub places-preserved-then-keeps : goal.places-preserved-then-keeps
places-preserved-then-keeps c = record {
  whole =
      taken (meets c.args.entries.now c.args.asked c.args.event.now) c.places.last c.places.found c.places.kept c.places.place c.get-id.result.now c.get-id.ensures (sym c.is_kept-keeps.ensures ∙ c.if-keeps.true) c.places.invariant.behind
      ∙ c.places.invariant.whole;
  behind = let le = c.places.invariant.behind in omega (arith, le);
}

pub places-preserved : goal.places-preserved
places-preserved c = record {
  whole =
      passed (meets c.args.entries.now c.args.asked c.args.event.now) c.places.last (take c.places.kept c.places.found) c.places.found c.places.place c.get-id.result.now c.get-id.ensures (sym c.is_kept-keeps.ensures ∙ c.if-keeps.false)
      ∙ c.places.invariant.whole;
  behind = let le = c.places.invariant.behind in omega (arith, le);
}

-- what the loop keeps is what passes
pub returns : goal.returns
returns c =
    let test = meets c.args.entries.now c.args.asked c.args.event.now in
    let none : drop c.places.place c.places.found ≡ [] = drop_of_length-le c.places.found {i = c.places.place} (omega (arith, c.len.ensures, c.places-test.false)) in
    c.truncate.ensures
    ∙ sym (append-nil (take c.places.kept c.places.found))
    ∙ ap (λ (rest : List ℕ). take c.places.kept c.places.found ++ passing_after test c.places.last rest) (sym none)
    ∙ c.places.invariant.whole
    ∙ after_none test c.args.found.now
