use Rattle.std.proofs.Common.{◌≢◌, ◌∙◌, ap, sym, subst, ℕ}
use Rattle.std.specs.List.{All}
use Rattle.std.proofs.lemmas.List.Elements.{All-weaker}
use Rattle.static_index.specs.Choosing.{IsBest}
use Rattle.static_index.specs.Conditions.{without}
use Rattle.static_index.specs.Filing.{IsFiled}
use Rattle.static_index.specs.Table.{conditions_of}
use Rattle.static_index.specs.declared.entry.Entry.{Entry}
use Rattle.static_index.proofs.KeepsLemmas.{apart_removed, refiled}
use Rattle.static_index.proofs.TableLemmas.{conditions_of-remove}
use Rattle.static_index.proofs.index.StaticIndex.remove.Goals as goal

pub invariant_of-self : goal.invariant_of-self
invariant_of-self c =
    let old = c.self.inside.filing in
    let new = c.forget.new.self in
    let left = refiled old new c.args.id _ c.forget.ensures (apart_removed (λ (e : ℕ × Entry). IsFiled old e.0 e.1) c.args.id c.self.inside.entries c.self.invariant.ordered c.self.invariant.filed) in
    record {
      ordered = c.in-Some.ensures.ordered;
      filed = subst (All (λ (e : ℕ × Entry). IsFiled new e.0 e.1)) (sym c.in-Some.ensures.others) left;
      best =
          subst (All (λ (e : ℕ × Entry). IsBest e.1.choice.value e.1.parts)) (sym c.in-Some.ensures.others)
          (All-weaker (λ (e : ℕ × Entry). (e.0 ≢ c.args.id) × IsBest e.1.choice.value e.1.parts) (λ e. IsBest e.1.choice.value e.1.parts) (λ e h. h.1) _
          (apart_removed (λ (e : ℕ × Entry). IsBest e.1.choice.value e.1.parts) c.args.id c.self.inside.entries c.self.invariant.ordered c.self.invariant.best));
    }

pub invariant_of-self-in_default : goal.invariant_of-self-in_default
invariant_of-self-in_default c =
    let old = c.self.inside.filing in
    let left = All-weaker (λ (e : ℕ × Entry). (e.0 ≢ c.args.id) × IsFiled old e.0 e.1) (λ e. IsFiled old e.0 e.1) (λ e h. h.1) _
    (apart_removed (λ (e : ℕ × Entry). IsFiled old e.0 e.1) c.args.id c.self.inside.entries c.self.invariant.ordered c.self.invariant.filed) in
    record {
      ordered = c.in_default.ensures.ordered;
      filed = subst (All (λ (e : ℕ × Entry). IsFiled old e.0 e.1)) (sym c.in_default.ensures.others) left;
      best =
          subst (All (λ (e : ℕ × Entry). IsBest e.1.choice.value e.1.parts)) (sym c.in_default.ensures.others)
          (All-weaker (λ (e : ℕ × Entry). (e.0 ≢ c.args.id) × IsBest e.1.choice.value e.1.parts) (λ e. IsBest e.1.choice.value e.1.parts) (λ e h. h.1) _
          (apart_removed (λ (e : ℕ × Entry). IsBest e.1.choice.value e.1.parts) c.args.id c.self.inside.entries c.self.invariant.ordered c.self.invariant.best));
    }

pub returns-in-Some : goal.returns-in-Some
returns-in-Some c = ap conditions_of c.in-Some.ensures.others ∙ conditions_of-remove c.args.id c.self.inside.entries c.self.invariant.ordered ∙ ap (without c.args.id) c.self.view_is

pub returns-in_default : goal.returns-in_default
returns-in_default c = ap conditions_of c.in_default.ensures.others ∙ conditions_of-remove c.args.id c.self.inside.entries c.self.invariant.ordered ∙ ap (without c.args.id) c.self.view_is
