use Rattle.std.proofs.Common.{◌≡◌, ◌∙◌, ◌⊎◌, inl, inr, [], ℕ, ap, sym, get_or}
use Rattle.std.specs.Prelude.{Contains}
use Rattle.epoch_draft.proofs.MadeLemmas.{below_at, empty_below, empty_seen, none_placed, placed_at}
use Rattle.epoch_draft.proofs.made.Made.clear.Goals as goal

pub clear_short_lists-requires-clause-others : goal.clear_short_lists-requires-clause-others
clear_short_lists-requires-clause-others c = λ s. go s (c.requires.others s)
  where
    go : (s : ℕ) → (get_or c.args.self.now s [] ≡ []) ⊎ Contains c.args.streams.now s → (get_or c.self.inside.places s [] ≡ []) ⊎ Contains c.args.streams.now s
    go s (inr there) = inr there
    go s (inl none) =
        let items = c.self.inside.tuples in
        let lists = c.self.inside.places in inl (none_placed items (get_or lists s []) (below_at items lists s c.self.invariant) (sym (placed_at items lists s) ∙ ap (λ xss. get_or xss s []) c.self.view_is ∙ none))

pub invariant_of-self : goal.invariant_of-self
invariant_of-self c = empty_below c.empty.new.tuples c.clear_short_lists.new.lists c.clear_short_lists.ensures.empty

pub returns-clause-empty : goal.returns-clause-empty
returns-clause-empty c = λ s. empty_seen c.empty.new.tuples c.clear_short_lists.new.lists s (c.clear_short_lists.ensures.empty s)
