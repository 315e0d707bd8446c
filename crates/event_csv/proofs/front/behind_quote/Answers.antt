use Rattle.std.proofs.lemmas.List.{take_rest}
use Rattle.event_csv.proofs.QuoteFacts.{quote-first}
use Rattle.event_csv.proofs.front.behind_quote.Goals as goal

pub returns-then-text-eq34 : goal.returns-then-text-eq34
returns-then-text-eq34 c = rw (take_rest c.args.text.now 1) (quote-first c.args.text.now c.if-text-gt0.true c.if-text-eq34.true)
