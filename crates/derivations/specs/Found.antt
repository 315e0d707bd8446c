-- What an expression gives, as its tuples. No public clause cites this.
use Rattle.std.specs.Prelude.{List}
use Rattle.derivations.specs.DerivedTuples.{DerivedTuple}
use Rattle.derivations.specs.declared.found.Found.{Found}
use Rattle.derivations.specs.declared.found.Found.TheVariants.{There, Made}

-- the tuples that stand in a stream, or those that were made
abbrev pub tuples_found : Found → List DerivedTuple
tuples_found (There tuples) = tuples.now
tuples_found (Made tuples) = tuples
