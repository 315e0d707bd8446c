use Rattle.cel_parser.proofs.predicates.+predicate.Given as goal

abbrev pub decreases-go_on_conjunction : goal.decreases-go_on_conjunction
decreases-go_on_conjunction l = l.fuel

abbrev pub decreases-go_on_predicate : goal.decreases-go_on_predicate
decreases-go_on_predicate l = l.fuel

abbrev pub decreases-read_conjunction : goal.decreases-read_conjunction
decreases-read_conjunction l = l.fuel

abbrev pub decreases-read_negation : goal.decreases-read_negation
decreases-read_negation l = l.fuel

abbrev pub decreases-read_predicate : goal.decreases-read_predicate
decreases-read_predicate l = l.fuel

abbrev pub decreases-read_primary : goal.decreases-read_primary
decreases-read_primary l = l.fuel
