use Rattle.std.specs.Prelude.{string_bytes}
use Rattle.event_csv.proofs.QuoteFacts.{some-quoted, some-whole}
use Rattle.event_csv.proofs.quotes.take_any.Goals as goal

pub returns-in-Some : goal.returns-in-Some
returns-in-Some c = some-quoted string_bytes c.args.text.now c.in-Some.behind.now c.take_any_quoted.result c.in-Some.ensures c.take_any_quoted.ensures

pub returns-in-None : goal.returns-in-None
returns-in-None c = some-whole string_bytes c.args.text.now c.take_end.result c.in-None.ensures (rw c.new.ensures.bytes at c.take_end.ensures)
