use Rattle.std.proofs.Common.{subst}
use Rattle.automaton.specs.States.{Net}
use Rattle.automaton.proofs.ChangeLemmas.{removes_end_network}
use Rattle.prefix_merge.specs.Coming.{NotesLeft}
use Rattle.prefix_merge.specs.Removal.{Removes}
use Rattle.prefix_merge.proofs.ComingLemmas.{end_left, left_twice, none_left}
use Rattle.prefix_merge.proofs.RemovalLemmas.{end_pruning, line_removed, middle_table, numbers_kept, state_used}
use Rattle.prefix_merge.proofs.ShortLemmas.{merged_short, network_short, numbers_short, removed_short, table_short, used_short}
use Rattle.prefix_merge.proofs.merged.Merged.remove.Goals as goal

-- it is a network still
pub prune-requires-clause-network : goal.prune-requires-clause-network
prune-requires-clause-network c = removes_end_network c.holder-spot.result.state c.holder-spot.result.place c.self.inside.network c.remove_end.new.self c.remove_end.ensures c.self.invariant.network

-- the states that are left are used
pub invariant_of-self : goal.invariant_of-self
invariant_of-self c =
    let keeps = c.self.invariant in
    let holds = c.holder-spot.ensures.there in
    let old = c.self.inside.network in
    let middle = c.remove_end.new.self in
    let state = c.holder-spot.result.state in
    let at = c.holder-spot.result.place in
    let used = state_used old middle state at c.args.end keeps.network keeps.merged keeps.numbers holds c.remove_end.ensures in
    let place = keeps.network.places state used in
    let pruning = end_pruning old middle state at c.args.end keeps.network keeps.merged keeps.numbers holds c.remove_end.ensures place.0 place.1 in
    let pruned = c.prune.ensures.pruned middle place.0 pruning in
    let whole = c.prune.new.network in
    let short = c.shorten.new.network in
    let shortened = c.shorten.ensures in
    record {
      network = network_short whole short shortened pruned.left.network;
      merged = merged_short whole short shortened pruned.merged;
      numbers = numbers_short whole short shortened (numbers_kept old middle state at c.args.end keeps.network keeps.merged keeps.numbers holds c.remove_end.ensures whole pruned);
      roots = table_short whole short shortened c.prune.new.roots (c.prune.ensures.roots (middle_table old middle state at c.args.end keeps.network keeps.merged keeps.numbers holds c.remove_end.ensures c.self.inside.roots keeps.roots));
      last = shortened.last;
    }

-- the line has left
pub returns-clause-removed : goal.returns-clause-removed
returns-clause-removed c =
    let keeps = c.self.invariant in
    let holds = c.holder-spot.ensures.there in
    let old = c.self.inside.network in
    let middle = c.remove_end.new.self in
    let state = c.holder-spot.result.state in
    let at = c.holder-spot.result.place in
    let used = state_used old middle state at c.args.end keeps.network keeps.merged keeps.numbers holds c.remove_end.ensures in
    let place = keeps.network.places state used in
    let pruning = end_pruning old middle state at c.args.end keeps.network keeps.merged keeps.numbers holds c.remove_end.ensures place.0 place.1 in
    let pruned = c.prune.ensures.pruned middle place.0 pruning in
    subst (λ (net : Net). Removes c.args.end net c.shorten.new.network) c.self.view_is
    (removed_short c.prune.new.network c.shorten.new.network c.shorten.ensures c.args.end old (line_removed old middle state at c.args.end keeps.network keeps.merged keeps.numbers holds c.remove_end.ensures c.prune.new.network pruned c.holder-spot.ensures.only))

-- the states that left are noted
pub returns-clause-left : goal.returns-clause-left
returns-clause-left c =
    let old = c.self.inside.network in
    let middle = c.remove_end.new.self in
    let whole = c.prune.new.network in
    let short = c.shorten.new.network in
    let before = c.args.left.now in
    let after = c.prune.new.left in
    subst (λ (net : Net). NotesLeft net short before after) c.self.view_is
    (left_twice old middle short before before after (none_left old middle before (end_left c.holder-spot.result.state c.holder-spot.result.place old middle c.remove_end.ensures))
    (left_twice middle whole short before after after c.prune.ensures.left (none_left whole short after (used_short whole short c.shorten.ensures))))
