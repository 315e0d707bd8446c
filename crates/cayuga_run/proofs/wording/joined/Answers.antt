use Rattle.std.proofs.Common.{◌∙◌, ap, codes, map, List, ℕ}
use Rattle.std.specs.List.{join_by}
use Rattle.std.proofs.lemmas.List.{take_all}
use Rattle.cayuga_run.proofs.WordingLemmas.{join_by-map}
use Rattle.cayuga_run.proofs.wording.joined.Goals as goal

-- all names stand in the list that is joined
pub returns : goal.returns
returns c =
    c.in_ok-join.ensures.ok ∙ join_by-map (λ text. text.now) (codes ", ") c.deref.result.now
    ∙ ap (join_by (λ (name : List ℕ). name) (codes ", ")) (ap (map (λ text. text.now)) c.deref.ensures.value ∙ c.loop-name.invariant ∙ take_all c.loop-name.name-index c.as_slice-name-items.result.now c.loop-name-test.false ∙ c.as_slice-name-items.ensures)
