use Rattle.std.proofs.lemmas.List.Elements.{All-contains_itself}
use Rattle.epoch_draft.proofs.agenda.plan.Goals as goal

-- where no stream is due, what was planned still is
pub returns-then-is_empty-clause-kept : goal.returns-then-is_empty-clause-kept
returns-then-is_empty-clause-kept c = All-contains_itself c.args.agenda.now.entries
