use Rattle.std.proofs.Common.{◌≡◌, ◌∙◌, ap, sym, ℕ, List, [], get_or}
use Rattle.epoch_draft.proofs.Lists.{taken_default}
use Rattle.epoch_draft.proofs.MadeLemmas.{below_at, empty_below, empty_seen, none_placed, placed_at}
use Rattle.epoch_draft.proofs.made.Made.fit.Goals as goal

-- no stream has places
none_there : (c : goal.After-lengthen_short_lists) → (s : ℕ) → get_or c.lengthen_short_lists.new.lists s [] ≡ []
none_there c s =
    let items = c.self.inside.tuples in
    let lists = c.self.inside.places in
    c.lengthen_short_lists.ensures.more.same s ∙ ap (λ (ls : List (List ℕ)). get_or ls s []) c.truncate.ensures
    ∙ taken_default [] c.args.streams lists (λ k. none_placed items (get_or lists k []) (below_at items lists k c.self.invariant) (sym (placed_at items lists k) ∙ ap (λ xss. get_or xss k []) c.self.view_is ∙ c.requires k)) s

pub invariant_of-self : goal.invariant_of-self
invariant_of-self c = empty_below c.self.inside.tuples c.lengthen_short_lists.new.lists (none_there c)

pub returns-clause-empty : goal.returns-clause-empty
returns-clause-empty c = λ s. empty_seen c.self.inside.tuples c.lengthen_short_lists.new.lists s (none_there c s)
