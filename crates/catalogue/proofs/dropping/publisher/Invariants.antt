use Rattle.std.proofs.Common.{◌-◌}
use Rattle.catalogue.specs.declared.numbering.Published.{Published}
use Rattle.catalogue.proofs.HalvingLemmas.{IsBetween}
use Rattle.catalogue.proofs.dropping.publisher.Given as goal

-- the stream is found between both places, if at all
abbrev pub invariant-loop-first : goal.invariant-loop-first
invariant-loop-first l = IsBetween (λ (query : Published). query.stream) l.published l.fn.stream l.first l.end

abbrev pub decreases-loop-first : goal.decreases-loop-first
decreases-loop-first l = l.end - l.first
