-- The lines of an expression.
use Rattle.std.specs.Prelude.{ℕ, ◌+◌, List, [], ◌∷◌, ◌++◌, map, Some, None}
use Rattle.semantics.specs.Expressions.{Ex, Read, Filter, Select, Union, Next, Fold}
use Rattle.automaton.specs.declared.step.Stage.{Stage}
use Rattle.automaton.specs.declared.step.Stage.TheVariants.{Keep, Make}
use Rattle.automaton.specs.declared.wait.Wait.{Wait}
use Rattle.automaton.specs.declared.line.Line.{Line}
use Rattle.splitter.specs.declared.open.Open.{Open}
use Rattle.splitter.specs.Stages.{staged}

-- the lines of an expression that don't say yet which stream they publish, the lines of its hidden streams, and the next number for one
pub record Parts : Type 0 where
  pub open_lines : List Open
  pub hidden : List Line
  pub next : ℕ

-- the line with one more stage in its last step
abbrev pub with_stage : Stage → Open → Open
with_stage stage line = record { root = line.root; hops = line.hops; last = staged line.last stage }

-- the line with one more hop: its last step leads to the wait
abbrev pub with_hop : Wait → Open → Open
with_hop wait line = record { root = line.root; hops = line.hops ++ record { step = line.last; wait = wait } ∷ []; last = [] }

-- the line, which publishes this stream
abbrev pub published_on : ℕ → Open → Line
published_on out line = record { root = line.root; hops = line.hops; last = line.last; out = out }

-- the stream on which the right side of a NEXT or FOLD is waited for, its hidden lines, and the next number
pub record RightSide : Type 0 where
  pub stream : ℕ
  pub hidden : List Line
  pub next : ℕ

-- a right side that reads a stream is waited for on it; another is published on the next hidden stream, behind those within it
abbrev pub right_side_of : Ex → Parts → RightSide
right_side_of (Read stream) right = record { stream = stream; hidden = []; next = right.next }
right_side_of f right = record { stream = right.next; hidden = right.hidden ++ map (published_on right.next) right.open_lines; next = right.next + 1 }

-- the left side's lines with a wait on the right side's stream
abbrev pub waiting_on : (ℕ → Wait) → Parts → RightSide → Parts
waiting_on wait left source = record { open_lines = map (with_hop (wait source.stream)) left.open_lines; hidden = left.hidden ++ source.hidden; next = source.next }

-- the lines of an expression, where hidden streams have the numbers from one on (CIDR 2007, resubscription; the numbers are this project's profile)
abbrev pub parts_of : Ex → ℕ → Parts
parts_of (Read stream) next = record { open_lines = record { root = stream; hops = []; last = [] } ∷ []; hidden = []; next = next }
parts_of (Filter p e) next = let inner = parts_of e next in record { open_lines = map (with_stage (Keep p)) inner.open_lines; hidden = inner.hidden; next = inner.next }
parts_of (Select m e) next = let inner = parts_of e next in record { open_lines = map (with_stage (Make m)) inner.open_lines; hidden = inner.hidden; next = inner.next }
parts_of (Union e f) next =
    let left = parts_of e next in
    let right = parts_of f left.next in record { open_lines = left.open_lines ++ right.open_lines; hidden = left.hidden ++ right.hidden; next = right.next }
parts_of (Next p e f) next =
    let left = parts_of e next in waiting_on (λ stream. record { stream = stream; choose = p; fold = None }) left (right_side_of f (parts_of f left.next))
parts_of (Fold p q m e f) next =
    let left = parts_of e next in waiting_on (λ stream. record { stream = stream; choose = p; fold = Some (record { on = q; set = m }) }) left (right_side_of f (parts_of f left.next))

-- the lines that publish an expression on a stream: those of hidden streams stand before those that read them
abbrev pub split_lines : Ex → ℕ → ℕ → List Line
split_lines e out next = let parts = parts_of e next in parts.hidden ++ map (published_on out) parts.open_lines
