use Rattle.birth_laws.proofs.BornLemmas.{plain_chain, unborn_chain}
use Rattle.birth_laws.proofs.born_lines_are_the_lines.Goals as goal

pub returns : goal.returns
returns c program = (plain_chain program.order, unborn_chain program.order)
