use Rattle.std.proofs.Common.{◌∙◌, ap, sym, subst, length, ◌∷◌, []}
use Rattle.std.proofs.lemmas.Result.{on_ok_weaker}
use Rattle.stream_readers.specs.Changing.{Files}
use Rattle.stream_readers.specs.Targets.{end_by}
use Rattle.stream_readers.specs.Ways.{first_parts}
use Rattle.stream_readers.specs.declared.target.Target.{Target}
use Rattle.stream_readers.proofs.PartedLemmas.{end_comes, no_end_comes}
use Rattle.stream_readers.proofs.filing.file_end.Goals as goal

-- the state isn't a root
pub returns-in_default : goal.returns-in_default
returns-in_default c = λ new adds. no_end_comes c.args.network.now new c.places.ensures.network c.args.state c.args.end.now c.requires.used adds c.args.readers.now (sym c.in_default.is ∙ c.root.ensures) c.requires.readers

-- it is
pub returns : goal.returns
returns c =
    let old = c.args.network.now in
    let at = c.len-place.ensures ∙ ap length c.ends.ensures in
    on_ok_weaker c.file_target.result
    (λ files new adds.
    end_comes old new c.places.ensures.network c.args.state c.args.end.now c.requires.used adds c.in-Some.stream c.args.readers.now c.file_target.new.readers (sym c.in-Some.is ∙ c.root.ensures)
    (subst (λ n. Files c.in-Some.stream (record { target = end_by c.args.state n c.args.end.now.step; parts = first_parts c.args.end.now.step } ∷ []) c.args.readers.now c.file_target.new.readers) at
    (subst (λ (t : Target). Files c.in-Some.stream (record { target = t; parts = first_parts c.args.end.now.step } ∷ []) c.args.readers.now c.file_target.new.readers) c.end_by-target.ensures files)) c.requires.readers)
    c.file_target.ensures
