-- Targets of which one leaves.
use Rattle.std.specs.Prelude.{◌==◌, not, if◌then◌else◌, ℕ, List, Option, Some, None}
use Rattle.std.specs.Option.{option_and_then}
use Rattle.stream_readers.specs.Filing.{Filed, filed_under}
use Rattle.stream_readers.specs.declared.leaving.Gone.{Gone}
use Rattle.stream_readers.specs.declared.leaving.Gone.TheVariants as leaving
use Rattle.stream_readers.specs.declared.leaving.GoneEnd.{GoneEnd}
use Rattle.stream_readers.specs.declared.target.EndPlace.{EndPlace}
use Rattle.stream_readers.specs.declared.target.Target.{Target}
use Rattle.stream_readers.specs.declared.target.Target.TheVariants as target

-- an end at another place of its state
abbrev pub end_with : ℕ → EndPlace → Target
end_with place end = target.End (record { state = end.state; place = place; passes = end.passes })

-- what an end is once one has left: nothing if it is that one; and the last one of the state from which one left has its place
abbrev pub moved_end : GoneEnd → EndPlace → Option Target
moved_end left end =
    if not (end.state == left.state) then Some (target.End end)
    else if end.place == left.place then None else Some (end_with (if end.place == left.last then left.place else end.place) end)

-- what a target is once one has left
abbrev pub moved : Gone → Target → Option Target
moved (leaving.Edge left) (target.Edge state) = if state == left then None else Some (target.Edge state)
moved (leaving.Edge left) (target.End end) = Some (target.End end)
moved (leaving.End left) (target.Edge state) = Some (target.Edge state)
moved (leaving.End left) (target.End end) = moved_end left end

-- what a place has once a target has left
abbrev pub moved_in : Gone → Option Target → Option Target
moved_in gone slot = option_and_then (moved gone) slot

-- what stays of a filed target once one has left
abbrev pub left_by : Gone → Filed → List Filed
left_by gone one = filed_under one.parts (moved gone one.target)
