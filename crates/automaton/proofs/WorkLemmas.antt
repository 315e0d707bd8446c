-- Streams that are made in the order of work.
use Rattle.std.proofs.Common.{◌≡◌, ◌∙◌, sym, ap, refl, ℕ, ◌==◌, false, cond, List, [], ◌∷◌}
use Rattle.std.specs.List.{All, filter, filter_map}
use Rattle.std.proofs.lemmas.List.Elements.{All-nil, All-cons, All-head, All-tail, All-weaker}
use Rattle.semantics.specs.Denotation.{Streams}
use Rattle.semantics.specs.Programs.{with_stream}
use Rattle.automaton.specs.declared.line.Hop.{Hop}
use Rattle.automaton.specs.declared.line.Line.{Line}
use Rattle.automaton.specs.Flow.{derived, entering, flow, given}
use Rattle.automaton.specs.Prefixes.{Prefix, Root, After, extended}
use Rattle.automaton.specs.Steps.{pass}
use Rattle.automaton.specs.Waits.{chosen}
use Rattle.automaton.specs.Work.{IsInOrder, ReadsNone, completed, is_in}
use Rattle.event_types.proofs.NumberLemmas.{self_equal}
use Rattle.std.proofs.lemmas.Bool.{or_parts}
use Rattle.semantics.proofs.ReportLemmas.{flat_map_same}

-- streams that are not worked on stay
pub completed_other : (lines : List Line) (order : List ℕ) (streams : Streams) (stream : ℕ) → is_in order stream ≡ false → completed lines order streams stream ≡ streams stream
completed_other lines [] streams stream e = refl
completed_other lines (n ∷ order) streams stream e =
    let parts = or_parts (stream == n) (is_in order stream) e in
    completed_other lines order (with_stream streams n (derived lines streams n)) stream parts.1 ∙ ap (λ b. cond b (derived lines streams n) (streams stream)) parts.0

-- lines that read the same give the same
module _ (streams others : Streams) where
  flow_alike : (prefix : Prefix) (hops : List Hop) → flow streams prefix ≡ flow others prefix → All (λ hop. streams hop.wait.stream ≡ others hop.wait.stream) hops → flow streams (extended prefix hops) ≡ flow others (extended prefix hops)
  flow_alike prefix [] same all = same
  flow_alike prefix (hop ∷ hops) same all =
      let here = All-head (λ h. streams h.wait.stream ≡ others h.wait.stream) hop hops all in
      flow_alike (After prefix hop) hops (λ i. chosen hop.wait.choose hop.wait.fold (here i) (entering hop (same i))) (All-tail (λ h. streams h.wait.stream ≡ others h.wait.stream) hop hops all)

  -- a line gives the same over streams that agree on what it reads
  pub given_alike : (line : Line) → streams line.root ≡ others line.root → All (λ hop. streams hop.wait.stream ≡ others hop.wait.stream) line.hops → given streams line ≡ given others line
  given_alike line root hops = ap (filter_map (pass line.last)) (flow_alike (Root line.root) line.hops root hops)

-- in an order each stream is what the lines derive
pub streams_derived : (lines : List Line) (order : List ℕ) (streams : Streams) → IsInOrder lines order → All (λ stream. completed lines order streams stream ≡ derived lines (completed lines order streams) stream) order
streams_derived lines [] streams ordered = All-nil (λ stream. streams stream ≡ derived lines streams stream)
streams_derived lines (stream ∷ order) streams ordered =
    All-cons (λ n. completed lines (stream ∷ order) streams n ≡ derived lines (completed lines (stream ∷ order) streams) n) stream order head
    (streams_derived lines order (with_stream streams stream (derived lines streams stream)) ordered.2)
  where
    one : (line : Line) → ReadsNone (stream ∷ order) line → given streams line ≡ given (completed lines (stream ∷ order) streams) line
    one line reads =
        sym (given_alike (completed lines (stream ∷ order) streams) streams line (completed_other lines (stream ∷ order) streams line.root reads.root)
        (All-weaker (λ hop. is_in (stream ∷ order) hop.wait.stream ≡ false) (λ hop. completed lines (stream ∷ order) streams hop.wait.stream ≡ streams hop.wait.stream)
        (λ hop e. completed_other lines (stream ∷ order) streams hop.wait.stream e) line.hops reads.hops))

    head : completed lines (stream ∷ order) streams stream ≡ derived lines (completed lines (stream ∷ order) streams) stream
    head =
        completed_other lines order (with_stream streams stream (derived lines streams stream)) stream ordered.1
        ∙ ap (λ b. cond b (derived lines streams stream) (streams stream)) (self_equal stream)
        ∙ flat_map_same (given streams) (given (completed lines (stream ∷ order) streams)) (filter (λ line. line.out == stream) lines)
        (All-weaker (ReadsNone (stream ∷ order)) (λ line. given streams line ≡ given (completed lines (stream ∷ order) streams) line) one (filter (λ line. line.out == stream) lines) ordered.0)
