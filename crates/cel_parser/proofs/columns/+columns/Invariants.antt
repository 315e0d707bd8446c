use Rattle.cel_parser.proofs.columns.+columns.Given as goal

abbrev pub decreases-go_on_columns : goal.decreases-go_on_columns
decreases-go_on_columns l = l.fuel

abbrev pub decreases-more_columns : goal.decreases-more_columns
decreases-more_columns l = l.fuel
