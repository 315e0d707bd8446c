-- The command is one whose matches are exact.
use Rattle.std.proofs.Common.{◌≡◌, ◌≢◌, inl, inr, true, refl, List, [], ◌∷◌, Option, Some, None, ap}
use Rattle.std.specs.Option.{IsSomeAnd}
use Rattle.clap.specs.Faults.{is_simple_and_free}
use Rattle.clap.specs.Simple.{is_simple}
use Rattle.clap.specs.Kinds.{HasKind, Kinds}
use Rattle.clap.specs.Values.{kind_of}
use Rattle.clap.specs.Walk.{Row}
use Rattle.clap.specs.declared.error.Error.{Error}
use Rattle.clap.specs.declared.error.kind.ErrorKind.TheVariants as kind
use Rattle.clap.proofs.OnLiterals.{clap_on_literals}
use Rattle.command_line.specs.Command.{the_command}
use Rattle.command_line.specs.Table.{rows_without}

-- clap decides about the command by its words alone
pub the_command-is_free : is_simple_and_free the_command ≡ true
unfolding the_command clap_on_literals
the_command-is_free = refl

-- clap says what it finds for the command
pub the_command-is_simple : is_simple the_command ≡ true
unfolding the_command clap_on_literals
the_command-is_simple = refl

-- an error that is not of memory comes only where some kind of error may
pub some-kind : (kinds : Kinds) (error : Error) → HasKind kinds error → kind_of error ≢ kind.OutOfMemory → kinds ≢ []
some-kind kinds error (inl memory) other none = other memory
some-kind kinds error (inr among) other none = rw none at among

-- an option that holds this value
pub some-value : {X : Type 0} (o : Option X) (x : X) → IsSomeAnd o (λ y. y ≡ x) → o ≡ Some x
some-value None x h = absurd h
some-value (Some y) x h = ap Some h

-- words of no kind of fault have their rows
pub rows_without-none : (kinds : Kinds) (found rows : List Row) → kinds ≡ [] → found ≡ rows → Some found ≡ rows_without kinds rows
rows_without-none kinds found rows none same = rw none (ap Some same)

-- words of some kind of fault have none
pub rows_without-some : (kinds : Kinds) (rows : List Row) → kinds ≢ [] → None ≡ rows_without kinds rows
rows_without-some [] rows some = absurd (some refl)
rows_without-some (kind ∷ kinds) rows some = refl
