-- Streams of lines with births that are made in the order of work.
use Rattle.std.proofs.Common.{◌≡◌, ◌∙◌, sym, ap, refl, ℕ, ◌==◌, false, cond, List, [], ◌∷◌, map, subst}
use Rattle.std.specs.List.{All, filter}
use Rattle.std.proofs.lemmas.List.Elements.{All-nil, All-cons, All-head, All-tail, All-weaker}
use Rattle.std.proofs.lemmas.Bool.{or_parts}
use Rattle.event_types.proofs.NumberLemmas.{self_equal}
use Rattle.semantics.specs.Denotation.{Streams}
use Rattle.semantics.specs.Programs.{with_stream}
use Rattle.semantics.proofs.ListLemmas.{filter-map}
use Rattle.semantics.proofs.ReportLemmas.{flat_map_same}
use Rattle.automaton.specs.Flow.{entering}
use Rattle.automaton.specs.Prefixes.{Prefix, Root, After, extended}
use Rattle.automaton.specs.Waits.{chosen}
use Rattle.automaton.specs.Work.{IsInOrder, ReadsNone, is_in}
use Rattle.automaton.specs.declared.line.Hop.{Hop}
use Rattle.automaton.specs.declared.line.Line.{Line}
use Rattle.epoch_laws.specs.Births.{passing_after}
use Rattle.epoch_laws.specs.BornLines.{BornLine, lines_in}
use Rattle.epoch_laws.specs.InstanceFlow.{completed_after, derived_after, each, flow_instances, given_after}
use Rattle.epoch_laws.specs.Instances.{begins}
use Rattle.epoch_laws.proofs.Lists.{map_all}

-- what holds of the lines of a stream holds of them with their births
pub of_lines : (Q : Line → Type 0) (lines : List BornLine) (s : ℕ) → All Q (filter (λ l. l.out == s) (lines_in lines)) → All (λ (b : BornLine). Q b.line) (filter (λ (b : BornLine). b.line.out == s) lines)
of_lines Q lines s all =
    map_all Q (λ (b : BornLine). b.line) (filter (λ (b : BornLine). b.line.out == s) lines)
    (subst (λ ls. All Q ls) (filter-map (λ (l : Line). l.out == s) (λ (b : BornLine). b.line) lines) all)

-- streams that are not worked on stay
pub completed_other : (lines : List BornLine) (order : List ℕ) (streams : Streams) (stream : ℕ) → is_in order stream ≡ false → completed_after lines order streams stream ≡ streams stream
completed_other lines [] streams stream e = refl
completed_other lines (n ∷ order) streams stream e =
    let parts = or_parts (stream == n) (is_in order stream) e in
    completed_other lines order (with_stream streams n (derived_after lines streams n)) stream parts.1 ∙ ap (λ b. cond b (derived_after lines streams n) (streams stream)) parts.0

-- lines that read the same give the same
module _ (streams others : Streams) where
  flow_alike : (prefix : Prefix) (hops : List Hop) → flow_instances streams prefix ≡ flow_instances others prefix → All (λ (hop : Hop). streams hop.wait.stream ≡ others hop.wait.stream) hops
      → flow_instances streams (extended prefix hops) ≡ flow_instances others (extended prefix hops)
  flow_alike prefix [] same all = same
  flow_alike prefix (hop ∷ hops) same all =
      let here = All-head (λ (h : Hop). streams h.wait.stream ≡ others h.wait.stream) hop hops all in
      flow_alike (After prefix hop) hops (λ i. each (λ ts. chosen hop.wait.choose hop.wait.fold (here i) (entering hop ts)) (same i)) (All-tail (λ (h : Hop). streams h.wait.stream ≡ others h.wait.stream) hop hops all)

  given_alike : (b : BornLine) → streams b.line.root ≡ others b.line.root → All (λ (hop : Hop). streams hop.wait.stream ≡ others hop.wait.stream) b.line.hops → given_after streams b ≡ given_after others b
  given_alike b root hops = ap (passing_after b.line.last b.birth) (flow_alike (Root b.line.root) b.line.hops (ap (map begins) root) hops)

-- in an order each stream is what the lines derive
pub streams_derived : (lines : List BornLine) (order : List ℕ) (streams : Streams) → IsInOrder (lines_in lines) order
    → All (λ stream. completed_after lines order streams stream ≡ derived_after lines (completed_after lines order streams) stream) order
streams_derived lines [] streams ordered = All-nil (λ stream. streams stream ≡ derived_after lines streams stream)
streams_derived lines (stream ∷ order) streams ordered =
    All-cons (λ n. completed_after lines (stream ∷ order) streams n ≡ derived_after lines (completed_after lines (stream ∷ order) streams) n) stream order head
    (streams_derived lines order (with_stream streams stream (derived_after lines streams stream)) ordered.2)
  where
    one : (b : BornLine) → ReadsNone (stream ∷ order) b.line → given_after streams b ≡ given_after (completed_after lines (stream ∷ order) streams) b
    one b reads =
        sym (given_alike (completed_after lines (stream ∷ order) streams) streams b (completed_other lines (stream ∷ order) streams b.line.root reads.root)
        (All-weaker (λ (hop : Hop). is_in (stream ∷ order) hop.wait.stream ≡ false) (λ (hop : Hop). completed_after lines (stream ∷ order) streams hop.wait.stream ≡ streams hop.wait.stream)
        (λ hop e. completed_other lines (stream ∷ order) streams hop.wait.stream e) b.line.hops reads.hops))

    head : completed_after lines (stream ∷ order) streams stream ≡ derived_after lines (completed_after lines (stream ∷ order) streams) stream
    head =
        completed_other lines order (with_stream streams stream (derived_after lines streams stream)) stream ordered.1
        ∙ ap (λ b. cond b (derived_after lines streams stream) (streams stream)) (self_equal stream)
        ∙ flat_map_same (given_after streams) (given_after (completed_after lines (stream ∷ order) streams)) (filter (λ (b : BornLine). b.line.out == stream) lines)
        (All-weaker (λ (b : BornLine). ReadsNone (stream ∷ order) b.line) (λ b. given_after streams b ≡ given_after (completed_after lines (stream ∷ order) streams) b) one (filter (λ (b : BornLine). b.line.out == stream) lines)
        (of_lines (ReadsNone (stream ∷ order)) lines stream ordered.0))
