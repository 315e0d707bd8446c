use Rattle.result_text.proofs.decimals.+append_point.Given as goal

-- the places that are left
abbrev pub decreases-append_point : goal.decreases-append_point
decreases-append_point l = l.places
