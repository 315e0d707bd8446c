-- Projections that meet tuples of their width.
use Rattle.std.specs.Prelude.{◌≡◌, ⊤, length}
use Rattle.std.specs.List.{All}
use Rattle.semantics.specs.Denotation.{Streams, denote}
use Rattle.semantics.specs.Expressions.{Ex, Read, Filter, Select, Union, Next, Fold}

-- each projection of a SELECT in the expression meets tuples of its width alone
abbrev pub MeetWidths : Ex → Streams → Type 0
MeetWidths (Read stream) streams = ⊤
MeetWidths (Filter p e) streams = MeetWidths e streams
MeetWidths (Select m e) streams = MeetWidths e streams × All (λ tuple. length tuple.vals ≡ m.width) (denote e streams)
MeetWidths (Union e f) streams = MeetWidths e streams × MeetWidths f streams
MeetWidths (Next p e f) streams = MeetWidths e streams × MeetWidths f streams
MeetWidths (Fold p q m e f) streams = MeetWidths e streams × MeetWidths f streams
