use Rattle.std.proofs.Common.{◌∙◌, ap, sym, subst, ℕ}
use Rattle.std.specs.List.{All}
use Rattle.static_index.specs.Choosing.{IsBest}
use Rattle.static_index.specs.Conditions.{Condition, with_condition}
use Rattle.static_index.specs.Filing.{IsFiled}
use Rattle.static_index.specs.FixedParts.{fixed_parts}
use Rattle.static_index.specs.Table.{conditions_of}
use Rattle.static_index.specs.declared.entry.Choice.{Choice}
use Rattle.static_index.specs.declared.entry.Entry.{Entry}
use Rattle.static_index.proofs.EntryLemmas.{no_entry}
use Rattle.static_index.proofs.KeepsLemmas.{All-insert, apart_all, refiled}
use Rattle.static_index.proofs.TableLemmas.{conditions_of-insert}
use Rattle.static_index.proofs.index.StaticIndex.add.Goals as goal

-- no condition has the id
pub insert-requires : goal.insert-requires
insert-requires c = no_entry c.args.id c.self.inside.entries (rw c.self.view_is c.requires)

pub invariant_of-self : goal.invariant_of-self
invariant_of-self c =
    let old = c.self.inside.filing in
    let entries = c.self.inside.entries in
    record {
      ordered = c.self.invariant.ordered;
      filed =
          refiled old c.file.new.self c.args.id entries c.file.ensures.kept
          (apart_all (λ (e : ℕ × Entry). IsFiled old e.0 e.1) c.args.id entries (rw c.self.view_is c.requires) c.self.invariant.filed);
      best = c.self.invariant.best;
    }

pub invariant_of-self-in-Ok : goal.invariant_of-self-in-Ok
invariant_of-self-in-Ok c =
    let old = c.self.inside.filing in
    let new = c.file.new.self in
    let entries = c.self.inside.entries in
    let entry : Entry = record { parts = c.new-parts.result; choice = c.in_ok-choice.choice } in
    let others = refiled old new c.args.id entries c.file.ensures.kept
    (apart_all (λ (e : ℕ × Entry). IsFiled old e.0 e.1) c.args.id entries (rw c.self.view_is c.requires) c.self.invariant.filed) in
    let best = subst (λ (choice : Choice). IsBest choice c.new-parts.result) (sym c.in_ok-choice.ensures.ok) c.choose.ensures.best in
    record {
      ordered = c.in-Ok.ensures.ordered;
      filed = subst (All (λ (e : ℕ × Entry). IsFiled new e.0 e.1)) (sym c.in-Ok.ensures.ok) (All-insert (λ (e : ℕ × Entry). IsFiled new e.0 e.1) c.args.id entry entries c.in_ok-file.ensures.ok others);
      best =
          subst (All (λ (e : ℕ × Entry). IsBest e.1.choice.value e.1.parts)) (sym c.in-Ok.ensures.ok)
          (All-insert (λ (e : ℕ × Entry). IsBest e.1.choice.value e.1.parts) c.args.id entry entries best c.self.invariant.best);
    }

pub invariant_of-self-in-Err : goal.invariant_of-self-in-Err
invariant_of-self-in-Err c =
    let old = c.self.inside.filing in
    let mid = c.file.new.self in
    let new = c.forget.new.self in
    let entries = c.self.inside.entries in
    let others = refiled old mid c.args.id entries c.file.ensures.kept
    (apart_all (λ (e : ℕ × Entry). IsFiled old e.0 e.1) c.args.id entries (rw c.self.view_is c.requires) c.self.invariant.filed) in
    let left = refiled mid new c.args.id entries c.forget.ensures (apart_all (λ (e : ℕ × Entry). IsFiled mid e.0 e.1) c.args.id entries (rw c.self.view_is c.requires) others) in
    record {
      ordered = c.in-Err.ensures.ordered;
      filed = subst (All (λ (e : ℕ × Entry). IsFiled new e.0 e.1)) (sym c.in-Err.ensures.kept) left;
      best = subst (All (λ (e : ℕ × Entry). IsBest e.1.choice.value e.1.parts)) (sym c.in-Err.ensures.kept) c.self.invariant.best;
    }

pub returns-in-Ok-clause-ok : goal.returns-in-Ok-clause-ok
returns-in-Ok-clause-ok c =
    let one : Condition = record { id = c.args.id; parts = fixed_parts c.args.condition.now } in
    let entry : Entry = record { parts = c.new-parts.result; choice = c.in_ok-choice.choice } in
    ap conditions_of c.in-Ok.ensures.ok
    ∙ conditions_of-insert c.args.id entry c.self.inside.entries (rw c.self.view_is c.requires)
    ∙ ap (λ parts. with_condition (record { id = c.args.id; parts = parts }) (conditions_of c.self.inside.entries)) (c.new-parts.ensures ∙ c.in_ok-copy_fixed.ensures)
    ∙ ap (with_condition one) c.self.view_is
