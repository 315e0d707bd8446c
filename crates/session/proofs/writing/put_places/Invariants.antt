use Rattle.std.proofs.Common.{◌≡◌, ℕ, List, ◌++◌, take}
use Rattle.std.specs.List.{flat_map}
use Rattle.semantics.specs.Report.{line}
use Rattle.epoch_draft.specs.Made.{placed}
use Rattle.result_text.specs.Front.{front_of}
use Rattle.result_text.specs.Tails.{AreIn}
use Rattle.session.proofs.writing.put_places.Given as goal

-- the lines of the tuples at the places so far were put, and the tails of the last ones stand among the tails
abbrev pub invariant-loop-place : goal.invariant-loop-place
invariant-loop-place l = record {
  put : (name : List ℕ) → l.front ≡ front_of name → l.rows ≡ l.initial.rows ++ flat_map (line name) (placed l.tuples (take l.place-index l.places));
  lately : AreIn l.tails l.tuples l.lately;
}
