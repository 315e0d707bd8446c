use Rattle.std.proofs.Common.{◌∙◌, ap, refl, sym, subst, Some, Contains}
use Rattle.std.specs.Option.{IsSome}
use Rattle.std.specs.BTreeMap.{get, is_at}
use Rattle.std.specs.Map.{lookup}
use Rattle.std.specs.Ordering.{nat_cmp}
use Rattle.std.proofs.lemmas.Result.{on_ok_weaker}
use Rattle.static_index.specs.Headings.{attr_of, label}
use Rattle.static_index.specs.Tables.{ids_in_column}
use Rattle.static_index.specs.declared.tables.Tables.{Tables}
use Rattle.static_index.proofs.BucketLemmas.{kept_by, nat_exact}
use Rattle.static_index.proofs.TablesLemmas.{filed_kept}
use Rattle.static_index.proofs.tables.Tables.file_under.Goals as goal

pub returns-in-Some-clause-kept : goal.returns-in-Some-clause-kept
returns-in-Some-clause-kept c = λ other n has.
    let old = c.args.self.now in
    let columns = c.get_mut.follows.lender c.put.new.self in
    let new : Tables = record { rest = old.rest; columns = columns } in
    let was = c.in-Some.ensures.value in
    let step = (c.get_mut.follows.holds c.put.new.self).3 (subst IsSome was refl) in
    filed_kept old new n (λ h. h)
    (λ asked. kept_by (λ x y. is_at (nat_cmp x) y) nat_exact (λ o. ids_in_column o asked) (get nat_cmp old.columns) (get nat_cmp columns) c.attr_under-attr.result (Some c.put.new.self) step.0 n
    (λ there. c.put.ensures.kept asked n (subst (λ o. Contains (ids_in_column o asked) n) (sym was) there)) (attr_of asked)) other has

pub returns-in_err-put-clause-kept : goal.returns-in_err-put-clause-kept
returns-in_err-put-clause-kept c = λ other n has.
    let old = c.args.self.now in
    let same = c.get_mut.follows.holds-at-none in
    let new : Tables = record { rest = old.rest; columns = c.get_mut.follows.lender-at-none } in
    filed_kept old new n (λ h. h) (λ asked h. subst (λ m. Contains (ids_in_column (get nat_cmp m (attr_of asked)) asked) n) (sym same) h) other has

pub returns-in_err-insert-clause-kept : goal.returns-in_err-insert-clause-kept
returns-in_err-insert-clause-kept c = λ other n has.
    let old = c.args.self.now in
    let same = c.get_mut.follows.holds-at-none in
    let new : Tables = record { rest = old.rest; columns = c.insert.new.self } in
    filed_kept old new n (λ h. h)
    (λ asked h. subst (λ es. Contains (ids_in_column (lookup (is_at (nat_cmp (attr_of asked))) es) asked) n) (sym c.in_err-insert.ensures.err) (subst (λ m. Contains (ids_in_column (get nat_cmp m (attr_of asked)) asked) n) (sym same) h))
    other has

pub returns-in-Some-clause-ok : goal.returns-in-Some-clause-ok
returns-in-Some-clause-ok c =
    let columns = c.get_mut.follows.lender c.put.new.self in
    let step = (c.get_mut.follows.holds c.put.new.self).3 (subst IsSome c.in-Some.ensures.value refl) in
    on_ok_weaker c.put.result
    (λ has. subst (λ o. Contains (ids_in_column o (label c.args.heading)) c.args.id) (sym (ap (get nat_cmp columns) (sym c.attr_under-attr.ensures) ∙ step.1)) has)
    c.put.ensures.ok
