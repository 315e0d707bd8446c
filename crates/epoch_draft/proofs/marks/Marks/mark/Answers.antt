use Rattle.std.proofs.Common.{◌∙◌, sym, subst, false, ℕ, List}
use Rattle.std.specs.Prelude.{Contains}
use Rattle.std.proofs.lemmas.List.Elements.{Contains-push}
use Rattle.std.proofs.lemmas.Option.{get_or_from_slice_get}
use Rattle.epoch_draft.proofs.MarkLemmas.{mark_more}
use Rattle.epoch_draft.proofs.marks.Marks.mark.Goals as goal

-- one number more is marked
pub returns-in-Ok-clause-more : goal.returns-in-Ok-clause-more
returns-in-Ok-clause-more c =
    mark_more c.args.self.now c.args.number c.push.new.self c.requires.marks c.requires.number (get_or_from_slice_get c.args.self.now.flags c.args.number c.get.result.now false c.get.ensures ∙ c.if-get.false) c.in-Ok.ensures.ok

pub returns-in-Ok-clause-marked : goal.returns-in-Ok-clause-marked
returns-in-Ok-clause-marked c = subst (λ (ns : List ℕ). Contains ns c.args.number) (sym c.in-Ok.ensures.ok) (Contains-push c.args.self.now.numbers c.args.number)
