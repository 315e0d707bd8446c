use Rattle.cel_parser.proofs.items.+items.Given as goal

abbrev pub decreases-go_on_items : goal.decreases-go_on_items
decreases-go_on_items l = l.fuel

abbrev pub decreases-more_items : goal.decreases-more_items
decreases-more_items l = l.fuel
