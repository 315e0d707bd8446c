-- The streams of lines, which are made in the order of work (CIDR 2007, resubscription).
use Rattle.std.specs.Prelude.{◌≡◌, ⊤, ℕ, ◌==◌, Bool, false, List, [], ◌∷◌}
use Rattle.std.specs.List.{All, filter, list_any}
use Rattle.semantics.specs.Denotation.{Streams}
use Rattle.semantics.specs.Programs.{with_stream}
use Rattle.automaton.specs.declared.line.Line.{Line}
use Rattle.automaton.specs.Flow.{derived}

-- the streams with each derived stream, made in this order: what its lines give over the streams before it
abbrev pub completed : List Line → List ℕ → Streams → Streams
completed lines [] streams = streams
completed lines (stream ∷ order) streams = completed lines order (with_stream streams stream (derived lines streams stream))

-- whether a stream is one of these
abbrev pub is_in : List ℕ → ℕ → Bool
is_in numbers stream = list_any (λ number. stream == number) numbers

-- a line neither begins in one of these streams nor waits on one
pub record ReadsNone (numbers : List ℕ) (line : Line) : Type 0 where
  pub root : is_in numbers line.root ≡ false
  pub hops : All (λ hop. is_in numbers hop.wait.stream ≡ false) line.hops

-- each stream stands in the order once, after every stream of the order that its lines read
abbrev pub IsInOrder : List Line → List ℕ → Type 0
IsInOrder lines [] = ⊤
IsInOrder lines (stream ∷ order) = All (ReadsNone (stream ∷ order)) (filter (λ line. line.out == stream) lines) × (is_in order stream ≡ false) × IsInOrder lines order

-- in the order of work each derived stream is what its lines give over all the streams
abbrev pub StreamsAreDerived : Type 0
StreamsAreDerived =
    (lines : List Line) (order : List ℕ) (streams : Streams) → IsInOrder lines order
    → All (λ stream. completed lines order streams stream ≡ derived lines (completed lines order streams) stream) order
