use Rattle.public_calls.proofs.tests.monitors.Monitor.close.Given as goal

abbrev pub ghosts-close : goal.ghosts-close
ghosts-close g a = record { name = a.blank.name; parts = a.blank.parts }
