-- Laws over the lines of an expression.
use Rattle.std.specs.Prelude.{◌≡◌, ◌≢◌, ℕ, ◌-◌, ◌<◌, false, List, [], ◌∷◌, ◌++◌}
use Rattle.std.specs.List.{All, range_with_len}
use Rattle.semantics.specs.Denotation.{Streams, denote}
use Rattle.semantics.specs.Expressions.{Ex}
use Rattle.semantics.specs.Reading.{ReadsOnly}
use Rattle.automaton.specs.declared.line.Line.{Line}
use Rattle.automaton.specs.Work.{IsInOrder, ReadsNone, completed, is_in}
use Rattle.splitter.specs.Splitting.{parts_of, split_lines}
use Rattle.splitter.specs.Widths.{MeetWidths}

-- the hidden streams of an expression, in the order of work
abbrev pub hidden_streams : Ex → ℕ → List ℕ
hidden_streams e next = range_with_len next ((parts_of e next).next - next)

-- the streams that the lines of an expression publish, in the order of work: the hidden ones, and then its own
abbrev pub split_order : Ex → ℕ → ℕ → List ℕ
split_order e out next = hidden_streams e next ++ out ∷ []

-- the expression doesn't read the stream that it publishes, and hidden streams get numbers above that stream and all that it reads
pub record IsApart (e : Ex) (out next : ℕ) : Type 0 where
  pub unread : ReadsOnly (λ stream. stream ≢ out) e
  pub above : out < next
  pub fresh : ReadsOnly (λ stream. stream < next) e

-- the lines of an expression are in the order of work
abbrev pub LinesAreInOrder : Type 0
LinesAreInOrder = (e : Ex) (out next : ℕ) → IsApart e out next → IsInOrder (split_lines e out next) (split_order e out next)

-- they publish on the stream exactly what the expression denotes, and change no stream but this one and the hidden ones
abbrev pub LinesMeanTheirExpression : Type 0
LinesMeanTheirExpression =
    (e : Ex) (out next : ℕ) (streams : Streams) → IsApart e out next → MeetWidths e streams
    → (completed (split_lines e out next) (split_order e out next) streams out ≡ denote e streams)
    × ((stream : ℕ) → is_in (split_order e out next) stream ≡ false → completed (split_lines e out next) (split_order e out next) streams stream ≡ streams stream)

-- other lines neither publish nor read these streams, and none of them is worked on there
pub record AreUnused (lines : List Line) (order numbers : List ℕ) : Type 0 where
  pub unread : All (ReadsNone numbers) lines
  pub unpublished : All (λ line. is_in numbers line.out ≡ false) lines
  pub apart : All (λ stream. is_in numbers stream ≡ false) order

-- where they come to other lines that don't use their streams, the lines stay in the order of work, publish what the expression denotes over the streams of the others, and leave those as they were
abbrev pub AddedLinesMeanTheirExpression : Type 0
AddedLinesMeanTheirExpression =
    (lines : List Line) (order : List ℕ) (e : Ex) (out next : ℕ) (streams : Streams) → IsApart e out next → AreUnused lines order (split_order e out next)
    → (IsInOrder lines order → IsInOrder (lines ++ split_lines e out next) (order ++ split_order e out next))
    × (MeetWidths e (completed lines order streams) → completed (lines ++ split_lines e out next) (order ++ split_order e out next) streams out ≡ denote e (completed lines order streams))
    × ((stream : ℕ) → is_in (split_order e out next) stream ≡ false
    → completed (lines ++ split_lines e out next) (order ++ split_order e out next) streams stream ≡ completed lines order streams stream)
