-- The flag given twice.
use Rattle.std.proofs.Common.{◌≡◌, ◌≢◌, ◌∙◌, ℕ, Bool, true, false, List, [], ◌∷◌, ◌++◌, Option, Some, None, ap, ap₂, cond, sym, refl, inl, inr, subst, ◌==◌}
use Rattle.std.specs.Prelude.{codes, fold, option_and_then, ◌||◌, ◌&&◌}
use Rattle.std.specs.List.{list_all}
use Rattle.std.specs.Str.{bytes_eq}
use Rattle.std.proofs.lemmas.Bool.{and_parts, cond_both, or_cases, or_from, or_left, or_right}
use Rattle.std.proofs.lemmas.List.Folds.{list_any-append}
use Rattle.std.proofs.lemmas.List.Sums.{fold-append}
use Rattle.std.proofs.lemmas.Slice.Eq.{bytes_eq-Decides}
use Rattle.clap.specs.Faults.{settle_fault, turn_fault, walk_fault}
use Rattle.clap.specs.Kinds.{Kinds, or_else}
use Rattle.clap.specs.Walk.{Held, Row, Rule, Text, Waiting, Walk, arg_by_id, arg_by_index, at_row, finished, more_values, reading_by, values_or_missing, with_values, without, has_row, idle, is_multiple, is_pending, positional, settled, settled_rows, takes_several, to_positional, used, used_by_id, walked}
use Rattle.clap.specs.declared.error.kind.ErrorKind.TheVariants as kind
use Rattle.std.specs.Option.{option_map_or}
use Rattle.clap.specs.Simple.{filled, with_index}
use Rattle.clap.specs.declared.builder.value_parser.Reading.{Reading}
use Rattle.clap.specs.declared.parser.matches.ValueSource.{ValueSource}
use Rattle.clap.specs.declared.parser.matches.ValueSource.TheVariants.{CommandLine}
use Rattle.clap.proofs.OnLiterals.{clap_on_literals}
use Rattle.command_line.specs.Command.{action_rule, stats_rule, the_command, values_rule}
use Rattle.command_line.specs.Plain.{TwoFlagsAreNoJob, is_plain}
use Rattle.command_line.specs.Table.{job, job_found, rows_taken}
use Rattle.command_line.proofs.CommandLemmas.{rows_without-some}
use Rattle.command_line.proofs.JobLemmas.{faults_behind, flag, flagged, rules, shape, start}
use Rattle.command_line.proofs.PlainLemmas.{is_ready, standing, walked-plain}

-- the rows have one of the flag
abbrev has_flag : List Row → Bool
has_flag rows = has_row (codes "stats") rows

-- a change of another argument's row keeps it
at_row-keeps : (id : Text) (change : Row → List Row) (missing rows : List Row) → bytes_eq id (codes "stats") ≡ false → has_flag rows ≡ true → has_flag (at_row id change missing rows) ≡ true
at_row-keeps id change missing [] other has = cc
at_row-keeps id change missing (r ∷ rs) other has =
    cond_both (bytes_eq r.id id) (change r ++ rs) (r ∷ at_row id change missing rs) (λ (rows : List Row). has_flag rows ≡ true)
    (λ hit.
    let same : r.id ≡ id = (bytes_eq-Decides r.id id).0 hit in
    let elsewhere : bytes_eq r.id (codes "stats") ≡ false = ap (λ (name : Text). bytes_eq name (codes "stats")) same ∙ other in
    let behind : has_flag rs ≡ true = sym (ap (λ (b : Bool). b || has_flag rs) elsewhere) ∙ has in
    list_any-append (λ (row : Row). bytes_eq row.id (codes "stats")) (change r) rs ∙ or_right (has_flag (change r)) (has_flag rs) behind)
    (λ miss. elim (or_cases (bytes_eq r.id (codes "stats")) (has_flag rs) has) [
      | inl here ↦ or_left (bytes_eq r.id (codes "stats")) (has_flag (at_row id change missing rs)) here
      | inr behind ↦ or_right (bytes_eq r.id (codes "stats")) (has_flag (at_row id change missing rs)) (at_row-keeps id change missing rs other behind)
    ])

-- a row that is written stands there
at_row-has : (id : Text) (change : Row → List Row) (missing rows : List Row) → has_row id missing ≡ true → ((r : Row) → bytes_eq r.id id ≡ true → has_row id (change r) ≡ true)
    → has_row id (at_row id change missing rows) ≡ true
at_row-has id change missing [] new written = new
at_row-has id change missing (r ∷ rs) new written =
    cond_both (bytes_eq r.id id) (change r ++ rs) (r ∷ at_row id change missing rs) (λ (rows : List Row). has_row id rows ≡ true)
    (λ hit. list_any-append (λ (row : Row). bytes_eq row.id id) (change r) rs ∙ or_left (has_row id (change r)) (has_row id rs) (written r hit))
    (λ miss. or_right (bytes_eq r.id id) (has_row id (at_row id change missing rs)) (at_row-has id change missing rs new written))

-- values that are written for an argument
values-has : (id : Text) (how : Reading) (source : ValueSource) (values : List Text) (rows : List Row) → bytes_eq id id ≡ true → has_row id (with_values id how source values rows) ≡ true
values-has id how source values rows itself =
    at_row-has id (more_values source values) (record { id = id; values = values; count = None; source = Some source; reading = how } ∷ []) rows
    (or_left (bytes_eq id id) false itself) (λ r hit. or_left (bytes_eq r.id id) false hit)

-- those of another argument keep the flag's row
values-keep : (id : Text) (how : Reading) (source : ValueSource) (values : List Text) (rows : List Row) → bytes_eq id (codes "stats") ≡ false → has_flag rows ≡ true → has_flag (with_values id how source values rows) ≡ true
values-keep id how source values rows other has =
    at_row-keeps id (more_values source values) (record { id = id; values = values; count = None; source = Some source; reading = how } ∷ []) rows other has

-- the arguments, built
abbrev stats_built : Rule
stats_built = with_index 1 (filled stats_rule)

abbrev action_built : Rule
action_built = with_index 1 (filled action_rule)

abbrev values_built : Rule
values_built = with_index 2 (filled values_rule)

-- a use of the flag writes its row
flag-used : (values : List Text) (rows : List Row) → has_flag (used stats_built values rows) ≡ true
flag-used values rows = values-has (codes "stats") (reading_by stats_built) CommandLine (values_or_missing stats_built values) (without (codes "stats") rows) refl

-- a use of any argument keeps the flag's row
used-keeps : (id : Text) (values : List Text) (rows : List Row) → has_flag rows ≡ true → has_flag (used_by_id (arg_by_id rules id) values rows) ≡ true
unfolding the_command clap_on_literals
used-keeps id values rows has = by (bytes_eq (codes "stats") id) (bytes_eq (codes "action") id) (bytes_eq (codes "values") id)
  where
    by : (is_flag is_action is_values : Bool) → has_flag (used_by_id (cond is_flag (Some stats_built) (cond is_action (Some action_built) (cond is_values (Some values_built) None))) values rows) ≡ true
    by true is_action is_values = flag-used values rows
    by false true is_values =
        values-keep (codes "action") (reading_by action_built) CommandLine (values_or_missing action_built values) (without (codes "action") rows) refl
        (at_row-keeps (codes "action") (λ r. []) [] rows refl has)
    by false false true = values-keep (codes "values") (reading_by values_built) CommandLine (values_or_missing values_built values) rows refl has
    by false false false = has

-- the use of what is pending keeps it
settled-keeps : (h : Held) → has_flag h.rows ≡ true → has_flag (settled rules h).rows ≡ true
settled-keeps h has = by h.pending
  where
    by : (pending : Option (Text × List Text)) → has_flag (settled_rows rules pending h.rows) ≡ true
    by None = has
    by (Some p) = used-keeps p.0 p.1 h.rows has

-- the walk stands where it takes a word or a flag
record Stands (w : Walk) : Type 0 where
  ready : is_ready w.waiting ≡ true
  led : w.is_trailing ≡ false
  going : w.stopped ≡ None

-- the walk stands, and if the flag's row was there it is there
record Keeps (old new : Walk) : Type 0 where
  stands : Stands new
  keeps : has_flag old.held.rows ≡ true → has_flag new.held.rows ≡ true

-- a word for a positional
taken-keeps : (w : Walk) (word : Text) (argument : Option Rule) → (found : (a : Rule) → argument ≡ Some a → a.trailing_var_arg ≡ false) → Stands w → Keeps w (to_positional rules argument word w w.held)
taken-keeps w word None found stands = record { stands = record { ready = stands.ready; led = stands.led; going = stands.going }; keeps = λ has. has }
taken-keeps w word (Some a) found stands = record {
  stands = record {
    ready = cond_both (is_multiple a) positional idle (λ (waiting : Waiting). is_ready waiting ≡ true) (λ yes. refl) (λ no. refl);
    led = or_from w.is_trailing a.trailing_var_arg stands.led (found a refl);
    going = refl;
  };
  keeps = λ has. cond_both (is_pending a w.held.pending && takes_several a) w.held (settled rules w.held) (λ (h : Held). has_flag h.rows ≡ true) (λ yes. has) (λ no. settled-keeps w.held has);
}

-- no argument makes what follows it values
found-open : (position : ℕ) (a : Rule) → arg_by_index rules position ≡ Some a → a.trailing_var_arg ≡ false
unfolding the_command clap_on_literals
found-open position a found = by (1 == position) (2 == position) found
  where
    by : (is_action is_values : Bool) → cond is_action (arg_by_index rules 1) (cond is_values (arg_by_index rules 2) None) ≡ Some a → a.trailing_var_arg ≡ false
    by true is_values found = ap (λ (o : Option Rule). option_map_or (λ r. r.trailing_var_arg) o false) (sym found)
    by false true found = ap (λ (o : Option Rule). option_map_or (λ r. r.trailing_var_arg) o false) (sym found)
    by false false found = absurd cc

-- it has nothing else that could differ
stands-at : (w : Walk) → Stands w → w ≡ standing w.held w.waiting w.position
stands-at w stands = ap₂ (λ (led : Bool) (stopped : Option (Text × List Text)). record w { is_trailing = led; stopped = stopped }) stands.led stands.going

-- a word that begins with no hyphen
word-keeps : (w : Walk) (word : Text) → Stands w → is_plain word ≡ true → Keeps w (walked rules [] w word)
word-keeps w word stands plain =
    let at = stands-at w stands in
    let goes : walked rules [] w word ≡ to_positional rules (arg_by_index rules w.position) word w w.held =
    ap (λ (v : Walk). walked rules [] v word) at ∙ walked-plain rules w.held w.waiting w.position word stands.ready plain
    ∙ ap (λ (v : Walk). to_positional rules (arg_by_index rules w.position) word v w.held) (sym at) in
    subst (Keeps w) (sym goes) (taken-keeps w word (arg_by_index rules w.position) (found-open w.position) stands)

-- words that begin with no hyphen, by induction on them
words-keep : (words : List Text) (w : Walk) → Stands w → list_all is_plain words ≡ true → Keeps w (fold (walked rules []) w words)
words-keep [] w stands plain = record { stands = stands; keeps = λ has. has }
words-keep (word ∷ words) w stands plain =
    let both = and_parts (is_plain word) (list_all is_plain words) plain in
    let one = word-keeps w word stands both.0 in
    let rest = words-keep words (walked rules [] w word) one.stands both.1 in
    record { stands = rest.stands; keeps = λ has. rest.keeps (one.keeps has) }

-- over the flag
flag-walked : (h : Held) (waiting : Waiting) (position : ℕ) → is_ready waiting ≡ true → walked rules [] (standing h waiting position) flag ≡ flagged (standing h waiting position)
unfolding the_command clap_on_literals
flag-walked h idle position ready = refl
flag-walked h positional position ready = refl
flag-walked h waiting position ready = absurd cc

-- there it has its row
flag-has : (w : Walk) → has_flag (flagged w).held.rows ≡ true
unfolding the_command clap_on_literals
flag-has w = flag-used [] (settled rules w.held).rows

-- where one of two steps fails, both together do
or_else-first : (first second : Kinds) → first ≢ [] → or_else first second ≢ []
or_else-first [] second some = absurd (some refl)
or_else-first (kind ∷ kinds) second some = some

or_else-second : (first second : Kinds) → second ≢ [] → or_else first second ≢ []
or_else-second [] second some = some
or_else-second (kind ∷ kinds) second some = λ none. cc

abbrev conflict : Kinds
conflict = kind.ArgumentConflict ∷ []

-- a second flag conflicts with the first
flag-conflict : (h : Held) (waiting : Waiting) (position : ℕ) → is_ready waiting ≡ true → has_flag (settled rules h).rows ≡ true → turn_fault shape [] (standing h waiting position) flag ≢ []
unfolding the_command clap_on_literals
flag-conflict h waiting position ready has = by waiting ready
  where
    repeated : or_else (cond (has_flag (settled rules h).rows && true) conflict []) [] ≢ []
    repeated = subst (λ (b : Bool). or_else (cond (b && true) conflict []) [] ≢ []) (sym has) (λ none. cc)

    by : (waiting : Waiting) → is_ready waiting ≡ true → turn_fault shape [] (standing h waiting position) flag ≢ []
    by idle ready = or_else-first _ [] (or_else-second (settle_fault rules false h) _ repeated)
    by positional ready = or_else-first _ [] (or_else-second (settle_fault rules false h) _ repeated)
    by waiting ready = absurd cc

-- a fault of one word is one of the walk
walk_fault-at : (words : List Text) (word : Text) (after : List Text) (w : Walk) → turn_fault shape [] (fold (walked rules []) w words) word ≢ [] → walk_fault shape [] w (words ++ word ∷ after) ≢ []
unfolding clap_on_literals
walk_fault-at [] word after w some = or_else-first (turn_fault shape [] w word) (walk_fault shape [] (walked rules [] w word) after) some
walk_fault-at (x ∷ words) word after w some =
    or_else-second (turn_fault shape [] w x) (walk_fault shape [] (walked rules [] w x) (words ++ word ∷ after)) (walk_fault-at words word after (walked rules [] w x) some)

-- words over which the walk has a fault are no job
job-no_walk : (words : List Text) → walk_fault shape [] start words ≢ [] → job words ≡ None
unfolding the_command rows_taken
job-no_walk words some =
    let end : Walk = fold (walked rules []) start words in
    ap (option_and_then job_found) (sym (rows_without-some (or_else (walk_fault shape [] start words) (faults_behind end)) (finished rules end.held) (or_else-first (walk_fault shape [] start words) (faults_behind end) some)))

-- up to the second flag the walk stands, with a row of the first
pub job-two_flags : TwoFlagsAreNoJob
job-two_flags before between after before_plain between_plain =
    let one : Walk = fold (walked rules []) start before in
    let two : Walk = flagged one in
    let end : Walk = fold (walked rules []) two between in
    let first = (words-keep before start (record { ready = refl; led = refl; going = refl }) before_plain).stands in
    let met : walked rules [] one flag ≡ two = ap (λ (w : Walk). walked rules [] w flag) (stands-at one first) ∙ flag-walked one.held one.waiting one.position first.ready in
    let second = words-keep between two (record { ready = refl; led = refl; going = refl }) between_plain in
    let walks : fold (walked rules []) start (before ++ flag ∷ between) ≡ end =
    fold-append (walked rules []) start before (flag ∷ between) ∙ ap (λ (w : Walk). fold (walked rules []) w between) met in
    let fault = flag-conflict end.held end.waiting end.position second.stands.ready (settled-keeps end.held (second.keeps (flag-has one))) in
    job-no_walk ((before ++ flag ∷ between) ++ flag ∷ after) (walk_fault-at (before ++ flag ∷ between) flag after start
    (subst (λ (w : Walk). turn_fault shape [] w flag ≢ []) (sym (walks ∙ stands-at end second.stands)) fault))
