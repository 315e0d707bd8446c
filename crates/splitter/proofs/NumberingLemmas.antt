-- The numbers of hidden streams.
use Rattle.std.proofs.Common.{ℕ, ◌^◌, ◌≤◌, arith}
use Rattle.semantics.specs.Expressions.{Ex, Read, Filter, Select, Union, Next, Fold}
use Rattle.splitter.specs.Room.{HasRoom}
use Rattle.splitter.specs.Splitting.{Parts, parts_of, right_side_of}

-- a right side takes no number back
pub source_up : (e : Ex) (right : Parts) → right.next ≤ (right_side_of e right).next
source_up (Read stream) right = omega arith
source_up e right = omega arith

-- nor does an expression
pub parts_up : (e : Ex) (next : ℕ) → next ≤ (parts_of e next).next
parts_up (Read stream) next = omega arith
parts_up (Filter p e) next = parts_up e next
parts_up (Select m e) next = parts_up e next
parts_up (Union e f) next = omega (arith, parts_up e next, parts_up f (parts_of e next).next)
parts_up (Next p e f) next = omega (arith, parts_up e next, parts_up f (parts_of e next).next, source_up f (parts_of f (parts_of e next).next))
parts_up (Fold p q m e f) next = omega (arith, parts_up e next, parts_up f (parts_of e next).next, source_up f (parts_of f (parts_of e next).next))

-- where there is room at the end there is room for each
pub room_for : (e : Ex) (next : ℕ) → (parts_of e next).next ≤ 2 ^ 64 → HasRoom e next
room_for (Read stream) next room = tt
room_for (Filter p e) next room = room_for e next room
room_for (Select m e) next room = room_for e next room
room_for (Union e f) next room = (room_for e next (omega (arith, parts_up f (parts_of e next).next)), room_for f (parts_of e next).next room)
room_for (Next p e f) next room = (
  room_for e next (omega (arith, parts_up f (parts_of e next).next, source_up f (parts_of f (parts_of e next).next))),
  room_for f (parts_of e next).next (omega (arith, source_up f (parts_of f (parts_of e next).next))),
  room,
)
room_for (Fold p q m e f) next room = (
  room_for e next (omega (arith, parts_up f (parts_of e next).next, source_up f (parts_of f (parts_of e next).next))),
  room_for f (parts_of e next).next (omega (arith, source_up f (parts_of f (parts_of e next).next))),
  room,
)
