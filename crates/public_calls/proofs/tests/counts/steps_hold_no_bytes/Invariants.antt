use Rattle.public_calls.proofs.tests.counts.steps_hold_no_bytes.Given as goal

abbrev pub ghosts-size_after_two_ticks : goal.ghosts-size_after_two_ticks
ghosts-size_after_two_ticks g a = record { name = a.blank.name; parts = a.blank.parts }
