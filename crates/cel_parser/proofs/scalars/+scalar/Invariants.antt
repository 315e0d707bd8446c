use Rattle.cel_parser.proofs.scalars.+scalar.Given as goal

abbrev pub decreases-go_on_product : goal.decreases-go_on_product
decreases-go_on_product l = l.fuel

abbrev pub decreases-go_on_scalar : goal.decreases-go_on_scalar
decreases-go_on_scalar l = l.fuel

abbrev pub decreases-read_factor : goal.decreases-read_factor
decreases-read_factor l = l.fuel

abbrev pub decreases-read_product : goal.decreases-read_product
decreases-read_product l = l.fuel

abbrev pub decreases-read_scalar : goal.decreases-read_scalar
decreases-read_scalar l = l.fuel

abbrev pub decreases-read_two : goal.decreases-read_two
decreases-read_two l = l.fuel
