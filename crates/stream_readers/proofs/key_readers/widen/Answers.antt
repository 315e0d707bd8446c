use Rattle.std.proofs.Common.{◌∙◌, ap, refl, [], List, get_or, length, arith, ◌∷◌, ◌++◌}
use Rattle.std.proofs.lemmas.List.{length-append}
use Rattle.binding_index.specs.Leads.{Entries}
use Rattle.stream_readers.proofs.KeyTableLemmas.{default_more}
use Rattle.stream_readers.proofs.key_readers.widen.Goals as goal

pub loop-alloc-init : goal.loop-alloc-init
loop-alloc-init c = λ place. refl

pub loop-alloc-smaller : goal.loop-alloc-smaller
loop-alloc-smaller c = let more = ap length c.in_ok-add.ensures.ok ∙ length-append c.loop-alloc.directories (c.new.result ∷ []) in omega (arith, more)

-- one more, by which no key leads anywhere
pub loop-alloc-preserved : goal.loop-alloc-preserved
loop-alloc-preserved c = λ place.
    ap (λ (ds : List Entries). get_or ds place []) (c.in_ok-add.ensures.ok ∙ ap (λ (d : Entries). c.loop-alloc.directories ++ d ∷ []) c.new.ensures)
    ∙ default_more [] c.loop-alloc.directories place ∙ c.loop-alloc.invariant place

pub returns-in_err-add-clause-same : goal.returns-in_err-add-clause-same
returns-in_err-add-clause-same c = λ place. ap (λ (ds : List Entries). get_or ds place []) c.in_err-add.ensures.kept ∙ c.loop-alloc.invariant place
