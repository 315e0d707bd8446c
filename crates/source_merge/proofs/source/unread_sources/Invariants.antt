use Rattle.std.proofs.Common.{◌≡◌, replicate}
use Rattle.source_merge.specs.Sources.{unread}
use Rattle.source_merge.proofs.source.unread_sources.Given as goal

-- so many of them are there
abbrev pub invariant-loop-number : goal.invariant-loop-number
invariant-loop-number l = l.sources ≡ replicate l.number unread
