-- The jobs of an action and its values, where none of them begins with a hyphen, and with the flag among them.
use Rattle.std.proofs.Common.{◌≡◌, ◌∙◌, ℕ, true, List, [], ◌∷◌, None, ap, ap₂, refl}
use Rattle.std.specs.Prelude.{codes, fold, is_some, option_and_then}
use Rattle.clap.specs.Faults.{check_fault, defaults_fault, entered_fault, settle_fault, step_fault, turn_fault, walk_fault}
use Rattle.clap.specs.Kinds.{Kinds, or_else}
use Rattle.clap.specs.Simple.{Shape, built, entered}
use Rattle.clap.specs.Walk.{Held, Rule, Text, Waiting, Walk, arg_by_index, arg_by_long, finished, idle, long_met, nothing_held, positional, settled, to_positional, value, walk_from, walked}
use Rattle.clap.proofs.OnLiterals.{clap_on_literals}
use Rattle.command_line.specs.Command.{the_command}
use Rattle.command_line.specs.Plain.{FlaggedValuesAreJob, NoValueIsNoJob, OneValueIsJob, TwoValuesAreJob, is_plain}
use Rattle.command_line.specs.Table.{job, job_by, job_found, rows_taken, rows_without}
use Rattle.command_line.proofs.PlainLemmas.{is_ready, standing, turn_fault-plain, walked-plain}

-- the command, built
abbrev pub shape : Shape
shape = (built the_command).top

-- the rules by which words are read
abbrev pub rules : List Rule
rules = shape.rules

-- the walk before all words
abbrev pub start : Walk
start = walk_from nothing_held

-- the walk behind one word more, which goes to the positional
abbrev taken : Walk → Text → Walk
taken w word = to_positional rules (arg_by_index rules w.position) word w w.held

-- the faults behind a walk
abbrev pub faults_behind : Walk → Kinds
faults_behind end =
    or_else (entered_fault (built the_command) end.stopped)
    (or_else (settle_fault rules shape.args_override_self end.held)
    (or_else (defaults_fault (settled rules end.held).rows rules)
    (check_fault shape (finished rules end.held) (is_some (entered (built the_command) end.stopped)))))

-- the walk goes over the words to its end with no fault
record Runs (w : Walk) (words : List Text) (end : Walk) : Type 0 where
  walks : fold (walked rules []) w words ≡ end
  no_fault : walk_fault shape [] w words ≡ []

-- the job of words over which the walk has no fault
job-by_run : (words : List Text) (end : Walk) → Runs start words end → job words ≡ option_and_then job_found (rows_without (faults_behind end) (finished rules end.held))
unfolding the_command rows_taken
job-by_run words end runs =
    ap₂ (λ (k : Kinds) (w : Walk). option_and_then job_found (rows_without (or_else k (faults_behind w)) (finished rules w.held))) runs.no_fault runs.walks

-- over no word
run-end : (w : Walk) → Runs w [] w
unfolding clap_on_literals
run-end w = record { walks = refl; no_fault = refl }

-- over a word and those behind it
run-step : (w next end : Walk) (word : Text) (words : List Text) → walked rules [] w word ≡ next → turn_fault shape [] w word ≡ [] → Runs next words end → Runs w (word ∷ words) end
unfolding clap_on_literals
run-step w next end word words goes none runs = record {
  walks = ap (λ (v : Walk). fold (walked rules []) v words) goes ∙ runs.walks;
  no_fault = ap₂ (λ (k : Kinds) (v : Walk). or_else k (walk_fault shape [] v words)) none goes ∙ runs.no_fault;
}

-- over a word that begins with no hyphen
run-word : (h : Held) (waiting : Waiting) (position : ℕ) (end : Walk) (word : Text) (words : List Text) → is_ready waiting ≡ true → step_fault shape position h value ≡ [] → is_plain word ≡ true
    → Runs (taken (standing h waiting position) word) words end → Runs (standing h waiting position) (word ∷ words) end
run-word h waiting position end word words ready free plain runs =
    run-step (standing h waiting position) (taken (standing h waiting position) word) end word words
    (walked-plain rules h waiting position word ready plain) (turn_fault-plain shape h waiting position word ready plain ∙ free) runs

-- an action alone
pub job-no_value : NoValueIsNoJob
unfolding the_command clap_on_literals
job-no_value action plain = job-by_run (action ∷ []) (taken start action) (run-word nothing_held idle 1 (taken start action) action [] refl refl plain (run-end (taken start action)))

-- an action with one value
pub job-one_value : OneValueIsJob
unfolding the_command clap_on_literals
job-one_value action word plain word_plain =
    let one = taken start action in
    let two = taken one word in
    job-by_run (action ∷ word ∷ []) two
    (run-word nothing_held idle 1 two action (word ∷ []) refl refl plain (run-word one.held idle 2 two word [] refl refl word_plain (run-end two)))

-- an action with two values
pub job-two_values : TwoValuesAreJob
unfolding the_command clap_on_literals
job-two_values action first second plain first_plain second_plain =
    let one = taken start action in
    let two = taken one first in
    let three = taken two second in
    job-by_run (action ∷ first ∷ second ∷ []) three
    (run-word nothing_held idle 1 three action (first ∷ second ∷ []) refl refl plain
    (run-word one.held idle 2 three first (second ∷ []) refl refl first_plain
    (run-word two.held positional 2 three second [] refl refl second_plain (run-end three))))

-- the flag
abbrev pub flag : Text
flag = codes "--stats"

-- the walk behind it
abbrev pub flagged : Walk → Walk
flagged w = standing (long_met rules (arg_by_long rules (codes "stats")) None w.held).0 idle w.position

-- an action with two values, and the flag at each place among them
module _ (action first second : Text) (plain : is_plain action ≡ true) (first_plain : is_plain first ≡ true) (second_plain : is_plain second ≡ true) where
  flag-first : job (flag ∷ action ∷ first ∷ second ∷ []) ≡ job_by true action (first ∷ second ∷ [])
  unfolding the_command clap_on_literals
  flag-first =
      let zero = flagged start in
      let one = taken zero action in
      let two = taken one first in
      let three = taken two second in
      job-by_run (flag ∷ action ∷ first ∷ second ∷ []) three
      (run-step start zero three flag (action ∷ first ∷ second ∷ []) refl refl
      (run-word zero.held idle 1 three action (first ∷ second ∷ []) refl refl plain
      (run-word one.held idle 2 three first (second ∷ []) refl refl first_plain
      (run-word two.held positional 2 three second [] refl refl second_plain (run-end three)))))

  flag-second : job (action ∷ flag ∷ first ∷ second ∷ []) ≡ job_by true action (first ∷ second ∷ [])
  unfolding the_command clap_on_literals
  flag-second =
      let one = taken start action in
      let met = flagged one in
      let two = taken met first in
      let three = taken two second in
      job-by_run (action ∷ flag ∷ first ∷ second ∷ []) three
      (run-word nothing_held idle 1 three action (flag ∷ first ∷ second ∷ []) refl refl plain
      (run-step one met three flag (first ∷ second ∷ []) refl refl
      (run-word met.held idle 2 three first (second ∷ []) refl refl first_plain
      (run-word two.held positional 2 three second [] refl refl second_plain (run-end three)))))

  flag-third : job (action ∷ first ∷ flag ∷ second ∷ []) ≡ job_by true action (first ∷ second ∷ [])
  unfolding the_command clap_on_literals
  flag-third =
      let one = taken start action in
      let two = taken one first in
      let met = flagged two in
      let three = taken met second in
      job-by_run (action ∷ first ∷ flag ∷ second ∷ []) three
      (run-word nothing_held idle 1 three action (first ∷ flag ∷ second ∷ []) refl refl plain
      (run-word one.held idle 2 three first (flag ∷ second ∷ []) refl refl first_plain
      (run-step two met three flag (second ∷ []) refl refl
      (run-word met.held idle 2 three second [] refl refl second_plain (run-end three)))))

  flag-last : job (action ∷ first ∷ second ∷ flag ∷ []) ≡ job_by true action (first ∷ second ∷ [])
  unfolding the_command clap_on_literals
  flag-last =
      let one = taken start action in
      let two = taken one first in
      let three = taken two second in
      let met = flagged three in
      job-by_run (action ∷ first ∷ second ∷ flag ∷ []) met
      (run-word nothing_held idle 1 met action (first ∷ second ∷ flag ∷ []) refl refl plain
      (run-word one.held idle 2 met first (second ∷ flag ∷ []) refl refl first_plain
      (run-word two.held positional 2 met second (flag ∷ []) refl refl second_plain
      (run-step three met met flag [] refl refl (run-end met)))))

-- by the words before the flag
pub job-flagged : FlaggedValuesAreJob
job-flagged action first second [] after p q r same = rw same (flag-first action first second p q r)
job-flagged action first second (a ∷ []) after p q r same =
    let a_is : a ≡ action = cc in
    let rest : after ≡ first ∷ second ∷ [] = cc in
    rw (a_is, rest) (flag-second action first second p q r)
job-flagged action first second (a ∷ b ∷ []) after p q r same =
    let a_is : a ≡ action = cc in
    let b_is : b ≡ first = cc in
    let rest : after ≡ second ∷ [] = cc in
    rw (a_is, b_is, rest) (flag-third action first second p q r)
job-flagged action first second (a ∷ b ∷ c ∷ []) after p q r same =
    let a_is : a ≡ action = cc in
    let b_is : b ≡ first = cc in
    let c_is : c ≡ second = cc in
    let rest : after ≡ [] = cc in
    rw (a_is, b_is, c_is, rest) (flag-last action first second p q r)
job-flagged action first second (a ∷ b ∷ c ∷ d ∷ more) after p q r same = cc
