use Rattle.std.proofs.Common.{refl, sym, subst, Some, Contains}
use Rattle.std.specs.Option.{IsSome}
use Rattle.std.specs.BTreeMap.{get, is_at}
use Rattle.std.specs.Ordering.{nat_cmp}
use Rattle.static_index.specs.Headings.{attr_of}
use Rattle.static_index.specs.Tables.{ids_in_column}
use Rattle.static_index.specs.declared.tables.Tables.{Tables}
use Rattle.static_index.proofs.BucketLemmas.{kept_by, nat_exact}
use Rattle.static_index.proofs.TablesLemmas.{filed_kept}
use Rattle.static_index.proofs.IdLemmas.{others_stay}
use Rattle.static_index.proofs.tables.Tables.forget.Goals as goal

pub returns-in-None : goal.returns-in-None
returns-in-None c = λ other n apart has.
    let new : Tables = record { rest = c.take_out.new.self; columns = c.args.self.now.columns } in
    filed_kept c.args.self.now new n (others_stay _ _ c.take_out.ensures n apart) (λ label h. h) other has

pub returns-in-Some-get_mut : goal.returns-in-Some-get_mut
returns-in-Some-get_mut c = λ other n apart has.
    let old = c.args.self.now in
    let columns = c.get_mut.follows.lender c.take.new.self in
    let new : Tables = record { rest = old.rest; columns = columns } in
    let was = c.in-Some-get_mut.ensures.value in
    let step = (c.get_mut.follows.holds c.take.new.self).3 (subst IsSome was refl) in
    filed_kept old new n (λ h. h)
    (λ label. kept_by (λ x y. is_at (nat_cmp x) y) nat_exact (λ o. ids_in_column o label) (get nat_cmp old.columns) (get nat_cmp columns) _ (Some c.take.new.self) step.0 n
    (λ there. c.take.ensures label n apart (subst (λ o. Contains (ids_in_column o label) n) (sym was) there)) (attr_of label)) other has
