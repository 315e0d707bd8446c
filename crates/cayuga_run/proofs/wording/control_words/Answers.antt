use Rattle.std.proofs.Common.{◌∙◌, ◌++◌, ap, codes, sym}
use Rattle.cayuga_run.specs.Wording.{control_words}
use Rattle.cayuga_run.proofs.wording.control_words.Goals as goal

-- the query is read by another
pub returns-in_ok-format-in-InUse : goal.returns-in_ok-format-in-InUse
returns-in_ok-format-in-InUse c =
    let name = c.as_str-name-in-InUse.ensures in
    let reader = c.as_str-reader.ensures in
    c.in_ok-format-in-InUse.ensures.ok ∙ (λ i. name i ++ (codes " is read by " ++ reader i)) ∙ sym (ap control_words c.in-InUse.is)
