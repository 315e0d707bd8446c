use Rattle.public_calls.proofs.tests.derived.derive.Given as goal

abbrev pub ghosts-checked : goal.ghosts-checked
ghosts-checked g a = record { name = a.blank.name; parts = a.blank.parts }
