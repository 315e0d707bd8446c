use Rattle.std.proofs.Common.{◌∙◌, ◌==◌, ap, arith, false, set}
use Rattle.std.proofs.lemmas.List.{map-set}
use Rattle.long_lists.specs.Free.{are_one}
use Rattle.long_lists.proofs.FreeLemmas.{set_fits}
use Rattle.long_lists.proofs.free_numbers.FreeNumbers.take.Goals as goal

pub set-requires-clause-fits : goal.set-requires-clause-fits
set-requires-clause-fits c = set_fits c.self.inside.ones c.self.invariant c.args.number 0 (omega arith)

pub returns : goal.returns
returns c =
    ap are_one c.set.ensures ∙ map-set (λ one. one == 1) c.self.inside.ones c.args.number 0
    ∙ ap (λ numbers. set numbers c.args.number false) c.self.view_is
