-- Lines of a network with and without their births.
use Rattle.std.proofs.Common.{◌≡◌, ◌∙◌, sym, ap, refl, subst, length, List, map}
use Rattle.std.specs.Prelude.{None}
use Rattle.std.specs.List.{All}
use Rattle.std.proofs.lemmas.List.{length-map}
use Rattle.std.proofs.lemmas.List.Elements.{All-contains, All-map}
use Rattle.instances.specs.Alive.{alive}
use Rattle.instances.specs.Bounds.{alive_instances}
use Rattle.instances.specs.declared.instance.Instance.{Instance}
use Rattle.instances.proofs.BirthLemmas.{began_unborn}
use Rattle.std.proofs.lemmas.Simd.{map-map}
use Rattle.automaton.specs.NetworkLines.{ArePrefixes, Ending, HasLines}
use Rattle.automaton.specs.States.{Net}
use Rattle.automaton.specs.declared.line.Line.{Line}
use Rattle.epoch_laws.specs.BornLines.{BornLine, HasBornLines, born_by, lines_in, unborn}
use Rattle.epoch_laws.specs.Histories.{streams_over}
use Rattle.epoch_laws.specs.InstanceFlow.{waiting_instances}
use Rattle.epoch_laws.specs.Standing.{last_time, next_time}
use Rattle.epoch_laws.proofs.InstanceEpochs.{instances_wait}
use Rattle.epoch_laws.proofs.Lists.{every}
use Rattle.epoch_laws.proofs.StoresStandFor.{alive_bindings}
use Rattle.epoch_engine.specs.Laws.{UnbornAreCounted}

-- the lines of endings with their births, without them
pub born_ended : (endings : List Ending) → lines_in (map born_by endings) ≡ map (λ (e : Ending). e.line) endings
born_ended endings = map-map (λ (b : BornLine). b.line) born_by endings

-- a network has its lines with their births without them too
abbrev pub plain_lines : (net : Net) (lines : List BornLine) → HasBornLines net lines → HasLines net (lines_in lines)
plain_lines net lines has = (has.0, has.1, sym (born_ended has.0) ∙ ap lines_in has.2, has.3)

-- lines of a network have births
pub their_births : (net : Net) (lines : List Line) → HasLines net lines → (born : List BornLine) × HasBornLines net born × (lines_in born ≡ lines)
their_births net lines has = (map born_by has.0, (has.0, has.1, refl, subst (ArePrefixes net) (sym same) has.3), same)
  where
    same : lines_in (map born_by has.0) ≡ lines
    same = born_ended has.0 ∙ has.2

-- no line that is taken without a birth has one
pub all_unborn : (lines : List Line) → All (λ (b : BornLine). b.birth ≡ None) (map unborn lines)
all_unborn lines = All-map (λ (b : BornLine). b.birth ≡ None) unborn lines (every (λ (l : Line). (unborn l).birth ≡ None) (λ l. refl) lines)

-- so of such lines those are counted that wait and are alive
pub unborn_are_counted : UnbornAreCounted
unborn_are_counted lines order history p h count counted =
    let time = next_time (last_time history) in
    let env = streams_over (map unborn lines) order history in
    let waits = waiting_instances env p h in
    counted None (record { no_later = λ birth read. tt; is_one = λ birth read. (read.0, read.1, read.2, read.3, All-contains (λ (b : BornLine). b.birth ≡ None) (map unborn lines) read.0 (all_unborn lines) read.2) })
    ∙ ap (λ xs. length (alive_instances time h.wait.choose xs)) (began_unborn waits)
    ∙ sym (length-map (alive_instances time h.wait.choose waits) (λ (i : Instance). i.tuple))
    ∙ ap length (alive_bindings time h.wait.choose waits ∙ ap (alive time h.wait.choose) (instances_wait env p h))
