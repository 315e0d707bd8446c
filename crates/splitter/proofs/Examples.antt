-- Examples of the lines of expressions, worked out by hand. No contract cites them.
use Rattle.std.proofs.Common.{◌≡◌, refl, ℕ, pos, List, [], ◌∷◌}
use Rattle.std.specs.Prelude.{None}
use Rattle.event_types.specs.declared.comparison.Cmp.TheVariants as cmp
use Rattle.event_types.specs.declared.value.Value.TheVariants as value
use Rattle.semantics.specs.Expressions.{Filter, Next, Read, Select}
use Rattle.semantics.specs.Scalars.{Event, Lit, Pr, Test}
use Rattle.automaton.specs.declared.line.Hop.{Hop}
use Rattle.automaton.specs.declared.step.Stage.TheVariants.{Keep}
use Rattle.splitter.specs.Splitting.{split_lines}

-- a hop on which nothing is tested
abbrev hop : ℕ → Hop
hop stream = record { step = []; wait = record { stream = stream; choose = []; fold = None } }

-- a NEXT on the right of a NEXT is published on the first hidden stream, by a line that stands before the one that waits on it
nested_right_side_is_hidden
    : split_lines (Next [] (Read 0) (Next [] (Read 1) (Read 2))) 3 4
    ≡ record { root = 1; hops = hop 2 ∷ []; last = []; out = 4 } ∷ record { root = 0; hops = hop 4 ∷ []; last = []; out = 3 } ∷ []
nested_right_side_is_hidden = refl

-- the first attribute is below 5
abbrev below_five : List Pr
below_five = Test (Event 0) cmp.Lt (Lit (value.Int (pos 5))) ∷ []

-- a projection that changes nothing is dropped, and the conditions around it are one
conditions_around_the_identity_are_one_stage
    : split_lines (Filter below_five (Select (record { width = 1; parts = Event 0 ∷ [] }) (Filter below_five (Read 0)))) 3 4 ≡ record { root = 0; hops = []; last = Keep below_five ∷ []; out = 3 } ∷ []
conditions_around_the_identity_are_one_stage = refl
