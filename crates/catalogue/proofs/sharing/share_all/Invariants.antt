use Rattle.std.proofs.Common.{◌≡◌, take, []}
use Rattle.catalogue.specs.Catalogued.{queries_of}
use Rattle.catalogue.specs.Sharing.{shares_of}
use Rattle.catalogue.proofs.sharing.share_all.Given as goal

-- the shares so far
abbrev pub invariant-loop-place : goal.invariant-loop-place
invariant-loop-place l = l.shares ≡ shares_of (take l.place (queries_of [] l.published l.expressions))
