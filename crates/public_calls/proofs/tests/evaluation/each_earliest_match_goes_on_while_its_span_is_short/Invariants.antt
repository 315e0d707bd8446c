use Rattle.public_calls.proofs.tests.evaluation.each_earliest_match_goes_on_while_its_span_is_short.Given as goal

abbrev pub ghosts-evaluated : goal.ghosts-evaluated
ghosts-evaluated g a = record { name = a.blank.name; parts = a.blank.parts }
