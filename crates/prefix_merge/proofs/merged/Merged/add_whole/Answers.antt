use Rattle.std.proofs.Common.{◌≡◌, ℕ, subst, sym}
use Rattle.std.specs.Prelude.{Some}
use Rattle.automaton.specs.States.{Net, root_at}
use Rattle.automaton.specs.declared.network.End.{End}
use Rattle.prefix_merge.specs.Coming.{ListsCome}
use Rattle.prefix_merge.specs.Growth.{Plants}
use Rattle.prefix_merge.specs.Insertion.{Inserts}
use Rattle.prefix_merge.specs.Merging.{HasEnd}
use Rattle.prefix_merge.proofs.InsertionLemmas.{grown_whole, line_inserted, line_kept, table_more}
use Rattle.prefix_merge.proofs.merged.Merged.add_whole.Goals as goal

-- the line has come
pub invariant_of-self-in-Ok : goal.invariant_of-self-in-Ok
invariant_of-self-in-Ok c =
    let old = c.self.inside.network in
    let keeps = c.self.invariant in
    let fresh = subst (λ (net : Net). HasEnd net c.args.end.number → ⊥) (sym c.self.view_is) c.requires.end in
    let no_root = subst (λ (net : Net). (n : ℕ) → root_at net n ≡ Some c.args.line.now.root → ⊥) (sym c.self.view_is) c.requires.root in
    let planted = subst (λ (end : End). Plants c.lowest_free-number.result c.args.line.now end old c.plant.new.network) c.requires.is c.in-Ok.ensures.planted in
    let grown = grown_whole old c.plant.new.network planted.0 c.args.line.now c.lowest_free-number.result c.args.end.number c.args.end.birth keeps.network keeps.merged keeps.last no_root c.lowest_free-number.ensures planted.1 planted.2 in
    let roots = table_more c.self.inside.roots c.insert.new.self old planted.0 c.args.line.now.root c.lowest_free-number.result keeps.roots no_root c.lowest_free-number.ensures.free planted.1 c.in_ok-insert.ensures.updates.0 in
    line_kept c.insert.new.self old planted.0 c.plant.new.network c.args.line.now c.args.end.number c.args.end.birth grown fresh roots keeps.numbers

pub returns-in-Ok-clause-inserted : goal.returns-in-Ok-clause-inserted
returns-in-Ok-clause-inserted c =
    let old = c.self.inside.network in
    let keeps = c.self.invariant in
    let fresh = subst (λ (net : Net). HasEnd net c.args.end.number → ⊥) (sym c.self.view_is) c.requires.end in
    let no_root = subst (λ (net : Net). (n : ℕ) → root_at net n ≡ Some c.args.line.now.root → ⊥) (sym c.self.view_is) c.requires.root in
    let planted = subst (λ (end : End). Plants c.lowest_free-number.result c.args.line.now end old c.plant.new.network) c.requires.is c.in-Ok.ensures.planted in
    let grown = grown_whole old c.plant.new.network planted.0 c.args.line.now c.lowest_free-number.result c.args.end.number c.args.end.birth keeps.network keeps.merged keeps.last no_root c.lowest_free-number.ensures planted.1 planted.2 in
    subst (λ (net : Net). Inserts c.args.line.now c.args.end.number c.args.end.birth net c.plant.new.network) c.self.view_is (line_inserted old planted.0 c.plant.new.network c.args.line.now c.args.end.number c.args.end.birth grown fresh)

-- its states are listed
pub returns-in-Ok-clause-came : goal.returns-in-Ok-clause-came
returns-in-Ok-clause-came c = subst (λ (net : Net). ListsCome net c.plant.new.network c.args.came.now c.plant.new.came) c.self.view_is c.in-Ok.ensures.came
