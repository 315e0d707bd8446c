-- Lines that come to other lines.
use Rattle.std.specs.Prelude.{◌≡◌, ℕ, false, List, ◌++◌}
use Rattle.std.specs.List.{All}
use Rattle.semantics.specs.Denotation.{Streams}
use Rattle.automaton.specs.declared.line.Line.{Line}
use Rattle.automaton.specs.Work.{IsInOrder, ReadsNone, completed, is_in}

-- the new lines publish new streams, which no old line reads or publishes
pub record AreFresh (lines : List Line) (order : List ℕ) (others : List Line) (more : List ℕ) : Type 0 where
  pub unread : All (ReadsNone more) lines
  pub outs : All (λ line. is_in more line.out ≡ false) lines
  pub others_outs : All (λ line. is_in order line.out ≡ false) others
  pub apart : All (λ stream. is_in more stream ≡ false) order

-- with fresh lines behind them, lines in the order of work stay so
abbrev pub AddedInOrder : Type 0
AddedInOrder =
    (lines : List Line) (order : List ℕ) (others : List Line) (more : List ℕ) → IsInOrder lines order → IsInOrder others more → AreFresh lines order others more
    → IsInOrder (lines ++ others) (order ++ more)

-- fresh lines change no other stream
abbrev pub AddedSame : Type 0
AddedSame =
    (lines : List Line) (order : List ℕ) (others : List Line) (more : List ℕ) (streams : Streams) → AreFresh lines order others more
    → (stream : ℕ) → is_in more stream ≡ false → completed (lines ++ others) (order ++ more) streams stream ≡ completed lines order streams stream

-- the new streams are made as by the fresh lines alone, over the streams that the old lines made
abbrev pub AddedAlone : Type 0
AddedAlone =
    (lines : List Line) (order : List ℕ) (others : List Line) (more : List ℕ) (streams : Streams) → AreFresh lines order others more
    → completed (lines ++ others) (order ++ more) streams ≡ completed others more (completed lines order streams)
