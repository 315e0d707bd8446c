-- Derivations of the program as terms, without where they lie in memory.
use Rattle.derivations.specs.Derivation.{Derivation, listed}
use Rattle.derivations.specs.Derivation as the
use Rattle.derivations.specs.declared.deriv.Deriv.{Deriv, fold-Deriv}
use Rattle.derivations.specs.declared.deriv.Deriv.TheOpen.{Deriv-F}

-- one level, where the derivations inside are seen as terms
abbrev pub derivation_step : Deriv-F Derivation → Derivation
derivation_step (Deriv-F.Event place) = the.Event place
derivation_step (Deriv-F.Query by) = the.Query by.value
derivation_step (Deriv-F.Left by) = the.Left by.value
derivation_step (Deriv-F.Right by) = the.Right by.value
derivation_step (Deriv-F.Next by next_by) = the.Next by.value next_by.value
derivation_step (Deriv-F.Fold by all_by) = the.Fold by.value (listed all_by)

-- the derivation as a term
abbrev pub derivation_of : Deriv → Derivation
derivation_of = fold-Deriv Derivation derivation_step
