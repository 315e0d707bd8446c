-- Words that begin with no hyphen, and the flag among them.
use Rattle.std.specs.Prelude.{◌≡◌, ◌==◌, Bool, true, false, not, List, [], ◌∷◌, ◌++◌, None, codes}
use Rattle.std.specs.List.{list_all}
use Rattle.clap.specs.Walk.{Text}
use Rattle.command_line.specs.Table.{job, job_by}

-- the word begins with no hyphen
abbrev pub is_plain : Text → Bool
is_plain [] = true
is_plain (byte ∷ bytes) = not (byte == 45)

-- an action alone is no job
abbrev pub NoValueIsNoJob : Type 0
NoValueIsNoJob = (action : Text) → is_plain action ≡ true → job (action ∷ []) ≡ None

-- an action with one value is the job of the table
abbrev pub OneValueIsJob : Type 0
OneValueIsJob = (action value : Text) → is_plain action ≡ true → is_plain value ≡ true → job (action ∷ value ∷ []) ≡ job_by false action (value ∷ [])

-- an action with two values is the job of the table
abbrev pub TwoValuesAreJob : Type 0
TwoValuesAreJob = (action first second : Text) → is_plain action ≡ true → is_plain first ≡ true → is_plain second ≡ true
    → job (action ∷ first ∷ second ∷ []) ≡ job_by false action (first ∷ second ∷ [])

-- the flag with an action and two values is that of the table, wherever it stands among them
abbrev pub FlaggedValuesAreJob : Type 0
FlaggedValuesAreJob = (action first second : Text) (before after : List Text) → is_plain action ≡ true → is_plain first ≡ true → is_plain second ≡ true
    → before ++ after ≡ action ∷ first ∷ second ∷ [] → job (before ++ codes "--stats" ∷ after) ≡ job_by true action (first ∷ second ∷ [])

-- the flag twice is no job, where the words before it and between begin with no hyphen, whatever words follow
abbrev pub TwoFlagsAreNoJob : Type 0
TwoFlagsAreNoJob = (before between after : List Text) → list_all is_plain before ≡ true → list_all is_plain between ≡ true
    → job (before ++ codes "--stats" ∷ between ++ codes "--stats" ∷ after) ≡ None
