use Rattle.std.proofs.Common.{◌∙◌}
use Rattle.catalogue.proofs.NumberedLemmas.{hidden_all, hidden_more}
use Rattle.catalogue.proofs.numbering.hide_up_to.Goals as goal

-- one hidden stream more
pub loop-preserved : goal.loop-preserved
loop-preserved c = c.in_ok-hide.ensures.ok ∙ hidden_more c.args.streams.now c.loop.streams c.args.many c.loop.counter c.requires.there c.loop.auto.counter c.loop.invariant

-- up to the last one
pub returns : goal.returns
returns c = hidden_all c.args.streams.now c.loop.streams c.args.many c.loop.counter c.args.end (c.loop.auto.counter-end c.requires.up) c.loop-test.false c.loop.invariant
