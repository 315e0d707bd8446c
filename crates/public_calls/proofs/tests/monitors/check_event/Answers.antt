use Rattle.std.proofs.Common.{rules}
use Rattle.public_calls.proofs.tests.monitors.check_event.Goals as goal

pub returns : goal.returns
returns g c = record {
  kinds = c.get-kinds.result.now;
  known = search rules;
  declared = search rules;
  of_kinds = search rules;
}
