use Rattle.std.proofs.Common.{◌∙◌, sym, subst, ◌<◌, ◌≡◌, ◌⊎◌, ℕ, length, get_or, List, []}
use Rattle.std.specs.Prelude.{Contains}
use Rattle.std.specs.List.{All}
use Rattle.epoch_draft.proofs.DraftLemmas.{cleared_fits}
use Rattle.epoch_draft.proofs.MarkLemmas.{all_below}
use Rattle.epoch_draft.proofs.draft.Draft.clear.Goals as goal

-- the streams that have tuples are due
pub clear-requires : goal.clear-requires
clear-requires c =
    let old = c.args.self.now in record {
      streams = subst (λ (m : ℕ). All (λ n. n < m) c.as_slice.result.now) (c.requires.due_below) (all_below old.due c.requires.due c.as_slice.result.now c.as_slice.ensures);
      others = λ s. subst (λ (ns : List ℕ). (get_or old.made s [] ≡ []) ⊎ Contains ns s) (sym c.as_slice.ensures) (c.requires.due_all s);
    }

-- the states that have beads are reached
pub clear_chains-requires : goal.clear_chains-requires
clear_chains-requires c =
    let old = c.args.self.now in record {
      numbers = subst (λ (m : ℕ). All (λ n. n < m) c.as_slice-2.result.now) (c.requires.reached_below) (all_below old.reached c.requires.reached c.as_slice-2.result.now c.as_slice-2.ensures);
      others = λ n. subst (λ (ns : List ℕ). (get_or old.beads n [] ≡ []) ⊎ Contains ns n) (sym c.as_slice-2.ensures) (c.requires.reached_all n);
    }

-- nothing is left
pub returns-clause-fits : goal.returns-clause-fits
returns-clause-fits c =
    let old = c.args.self.now in
    cleared_fits (length old.made) (length old.beads) _ c.clear.ensures.as_many c.clear_chains.ensures.as_many c.clear-2.ensures.are (c.clear-2.ensures.as_many ∙ c.requires.due_below) c.clear-3.ensures.are (c.clear-3.ensures.as_many ∙ c.requires.reached_below)
    c.clear.ensures.empty c.clear_chains.ensures.empty
