use Rattle.std.proofs.Common.{Bor, List, ℕ}
use Rattle.event_csv.proofs.QuickFacts.{some-first}
use Rattle.event_csv.proofs.QuoteFacts.{some-quoted}
use Rattle.event_csv.proofs.front.take_field.Goals as goal

pub returns-in-Some : goal.returns-in-Some
returns-in-Some c = some-quoted (λ (t : Bor (List ℕ)). t.now) c.args.text.now c.in-Some.behind.now c.take_quoted.result c.in-Some.ensures c.take_quoted.ensures

pub returns-in-None : goal.returns-in-None
returns-in-None c = some-first c.args.text.now c.take_rest.result c.in-None.ensures c.take_rest.ensures
