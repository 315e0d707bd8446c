use Rattle.std.proofs.Common.{◌∙◌, ap, Contains, subst}
use Rattle.std.proofs.lemmas.Result.{on_ok_weaker}
use Rattle.static_index.specs.Headings.{label_of}
use Rattle.static_index.specs.Tables.{filed_ids}
use Rattle.static_index.proofs.filing.Filing.file.Goals as goal

pub returns-else-is_err-clause-ok : goal.returns-else-is_err-clause-ok
returns-else-is_err-clause-ok c =
    on_ok_weaker c.file-filed.result (λ second. record {
      covers = c.requires;
      first = subst (λ o. Contains (filed_ids c.file.new.self o) c.args.id) c.heading_of.ensures c.in_ok-file.ensures.ok;
      choice = subst (λ o. Contains (filed_ids c.file-filed.new.self o) c.args.id) (c.heading_of-2.ensures ∙ ap (label_of c.args.entry.now.parts) c.deref.ensures) second;
    }) c.file-filed.ensures.ok
