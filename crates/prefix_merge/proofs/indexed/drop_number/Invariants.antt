use Rattle.std.proofs.Common.{◌≡◌, take}
use Rattle.prefix_merge.proofs.BucketLemmas.{copies}
use Rattle.prefix_merge.proofs.indexed.drop_number.Given as goal

-- all numbers are there, and none so far is the one
abbrev pub invariant-loop-place : goal.invariant-loop-place
invariant-loop-place l = record { all : l.numbers ≡ l.initial.numbers; none : copies l.number (take l.place l.numbers) ≡ 0 }
