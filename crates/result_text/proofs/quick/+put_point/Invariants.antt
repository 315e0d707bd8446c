use Rattle.result_text.proofs.quick.+put_point.Given as goal

-- the places that are left
abbrev pub decreases-put_point : goal.decreases-put_point
decreases-put_point l = l.places
