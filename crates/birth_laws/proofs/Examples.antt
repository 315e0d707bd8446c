-- Examples of lines with births, each worked out by hand. No contract cites them.
use Rattle.std.proofs.Common.{◌≡◌, refl, ℕ, List, [], ◌∷◌, map}
use Rattle.std.specs.Prelude.{codes, None, Option, Some}
use Rattle.event_types.specs.declared.comparison.Cmp.TheVariants as cmp
use Rattle.semantics.specs.Denotation.{Streams}
use Rattle.semantics.specs.Expressions.{Read, Filter, Next}
use Rattle.semantics.specs.Histories.{Event as TheEvent}
use Rattle.semantics.specs.Programs.{Program, Query, declared_streams, env}
use Rattle.semantics.specs.Scalars.{Event, Test}
use Rattle.semantics.proofs.Examples.{number, tuple, pair, rises}
use Rattle.epoch_laws.specs.InstanceFlow.{completed_after}
use Rattle.splitter.specs.Chains.{work_order}
use Rattle.birth_laws.specs.BornChains.{born_lines}

-- STREAM S (a INT);
-- SELECT * FROM S NEXT {$2.a > $1.a} S PUBLISH All;
-- and with a birth
-- SELECT * FROM S NEXT {$2.a > $1.a} (FILTER {a > 6} S) PUBLISH Late;
abbrev all : Query
all = record { name = codes "All"; stream = 1; hidden = 3; expr = Next rises (Read 0) (Read 0); birth = None }

abbrev late : Option ℕ → Query
late birth = record { name = codes "Late"; stream = 2; hidden = 3; expr = Next rises (Read 0) (Filter (Test (Event 0) cmp.Gt (number 6) ∷ []) (Read 0)); birth = birth }

abbrev program : Option ℕ → Program
program birth = record { declared = 1; queries = all ∷ late birth ∷ []; order = all ∷ late birth ∷ [] }

abbrev heard : ℕ → ℕ → TheEvent
heard n time = record { stream = 0; tuple = tuple n time time }

abbrev history : List TheEvent
history = heard 5 1 ∷ heard 7 2 ∷ heard 8 3 ∷ heard 9 4 ∷ []

abbrev streams : Option ℕ → Streams
streams birth = completed_after (born_lines (program birth)) (work_order (program birth)) (declared_streams 1 history)

-- the query that was there from the start has all pairs
all_pairs : map (streams (Some 2)) (1 ∷ []) ≡ (pair 5 7 1 2 ∷ pair 7 8 2 3 ∷ pair 8 9 3 4 ∷ []) ∷ []
all_pairs = refl

-- born at 2, the other has the pair that began at 3 alone, and its hidden stream only what is detected after 2
late_pairs : map (streams (Some 2)) (2 ∷ 3 ∷ []) ≡ (pair 8 9 3 4 ∷ []) ∷ (tuple 8 3 3 ∷ tuple 9 4 4 ∷ []) ∷ []
late_pairs = refl

-- without a birth it has those of 1 and 2 too
unborn_pairs : map (streams None) (2 ∷ 3 ∷ []) ≡ (pair 5 7 1 2 ∷ pair 7 8 2 3 ∷ pair 8 9 3 4 ∷ []) ∷ (tuple 7 2 2 ∷ tuple 8 3 3 ∷ tuple 9 4 4 ∷ []) ∷ []
unborn_pairs = refl

-- the program says the same
program_says_so : map (env (program (Some 2)) history) (1 ∷ 2 ∷ []) ≡ map (streams (Some 2)) (1 ∷ 2 ∷ [])
program_says_so = refl
