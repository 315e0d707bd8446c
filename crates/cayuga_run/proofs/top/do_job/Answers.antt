use Rattle.std.proofs.Common.{ap, Some}
use Rattle.cayuga_run.proofs.top.do_job.Goals as goal

-- a load is in range
pub load-requires-clause-seed : goal.load-requires-clause-seed
load-requires-clause-seed g c = (c.requires.in_range c.in-Load.seed c.in-Load.events (ap Some c.in-Load.is)).0

pub load-requires-clause-some : goal.load-requires-clause-some
load-requires-clause-some g c = (c.requires.in_range c.in-Load.seed c.in-Load.events (ap Some c.in-Load.is)).1

pub load-requires-clause-few : goal.load-requires-clause-few
load-requires-clause-few g c = (c.requires.in_range c.in-Load.seed c.in-Load.events (ap Some c.in-Load.is)).2
