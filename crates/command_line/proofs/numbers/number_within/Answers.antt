use Rattle.command_line.proofs.RangeLemmas.{unparsed}
use Rattle.command_line.proofs.numbers.number_within.Goals as goal

-- more digits than a number of 64 bits has
pub returns-in-Err : goal.returns-in-Err
returns-in-Err c = let fits = c.ranges.most.fits in unparsed c.args.least c.args.most c.args.word.now c.in-Err.field-0 fits c.in-Err.ensures.value.0
