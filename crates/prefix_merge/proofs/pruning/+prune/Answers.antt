use Rattle.std.proofs.Common.{◌≡◌, ◌∙◌, ℕ, [], arith, refl, subst, sym}
use Rattle.automaton.specs.States.{Net, before_at, edges_at, ends_at, root_at}
use Rattle.automaton.proofs.ClearedLemmas.{removes_state_network}
use Rattle.prefix_merge.specs.Pruning.{IsWanted}
use Rattle.prefix_merge.proofs.ComingLemmas.{left_twice, none_left, one_left}
use Rattle.prefix_merge.proofs.PruningLemmas.{before_stays, goes_on, root_pruned, table_less, wanted_pruned}
use Rattle.prefix_merge.proofs.pruning.+prune.Goals as goal

-- neither an edge nor an end is at the state
abbrev IsLast : ℕ → Net → Type 0
IsLast tip net = (edges_at net tip ≡ []) × (ends_at net tip ≡ [])

-- the state is wanted
pub returns-then-is_wanted-clause-pruned : goal.returns-then-is_wanted-clause-pruned
returns-then-is_wanted-clause-pruned t c = λ whole prefix pruning.
    wanted_pruned whole prefix c.args.tip c.args.network.now (subst (λ (net : Net). IsWanted net c.args.tip) c.network-states.ensures (c.is_wanted.ensures.wanted c.if-is_wanted.true)) pruning

-- there is a state less, and the one before stays
pub prune-requires : goal.prune-requires
prune-requires t c =
    let none = subst (IsLast c.args.tip) c.network-states.ensures (c.is_wanted.ensures.unwanted c.if-is_wanted.false) in
    let told = subst (λ (net : Net). before_at net c.args.tip ≡ c.before-before.result) c.network-states.ensures (sym c.before-before.ensures) in (
      omega (arith, c.remove_state.ensures.fewer),
      (
        before_stays c.args.network.now c.remove_state.new.self c.args.tip c.in-Some.before c.requires.network none.0 c.remove_state.ensures (told ∙ c.in-Some.is),
        removes_state_network c.args.tip c.args.network.now c.remove_state.new.self c.remove_state.ensures none.0 c.requires.network,
      ),
    )

-- the rest is pruned from the state before
pub returns-in-Some-clause-pruned : goal.returns-in-Some-clause-pruned
returns-in-Some-clause-pruned t c = λ whole prefix pruning.
    (let none = subst (IsLast c.args.tip) c.network-states.ensures (c.is_wanted.ensures.unwanted c.if-is_wanted.false) in
    let told = subst (λ (net : Net). before_at net c.args.tip ≡ c.before-before.result) c.network-states.ensures (sym c.before-before.ensures) in
    goes_on whole prefix c.args.tip c.in-Some.before c.args.network.now c.remove_state.new.self c.prune.new.network c.prune.ensures.pruned pruning c.remove_state.ensures none.0 none.1 (told ∙ c.in-Some.is))

pub returns-in-Some-clause-roots : goal.returns-in-Some-clause-roots
returns-in-Some-clause-roots t c = λ is.
    (let none = subst (IsLast c.args.tip) c.network-states.ensures (c.is_wanted.ensures.unwanted c.if-is_wanted.false) in
    let root = subst (λ (net : Net). c.root.result ≡ root_at net c.args.tip) c.network-states.ensures c.root.ensures in
    c.prune.ensures.roots (table_less c.args.roots.now c.forget.new.roots c.args.network.now c.remove_state.new.self c.args.tip c.root.result c.requires.network none.0 c.remove_state.ensures root c.forget.ensures is))

-- a root state was the last
pub returns-in-None-clause-pruned : goal.returns-in-None-clause-pruned
returns-in-None-clause-pruned t c = λ whole prefix pruning.
    (let none = subst (IsLast c.args.tip) c.network-states.ensures (c.is_wanted.ensures.unwanted c.if-is_wanted.false) in
    let told = subst (λ (net : Net). before_at net c.args.tip ≡ c.before-before.result) c.network-states.ensures (sym c.before-before.ensures) in
    root_pruned whole prefix c.args.tip c.args.network.now c.remove_state.new.self pruning c.remove_state.ensures none.0 none.1 (told ∙ c.in-None.is))

-- no state leaves
pub returns-then-is_wanted-clause-left : goal.returns-then-is_wanted-clause-left
returns-then-is_wanted-clause-left t c = none_left c.args.network.now c.args.network.now c.args.left.now (λ n. refl)

-- a state leaves, and then those before it
pub returns-in-Some-clause-left : goal.returns-in-Some-clause-left
returns-in-Some-clause-left t c =
    left_twice c.args.network.now c.remove_state.new.self c.prune.new.network c.args.left.now c.note.new.self c.prune.new.left
    (one_left c.args.tip c.args.network.now c.remove_state.new.self c.args.left.now c.note.new.self c.remove_state.ensures c.note.ensures.noted c.note.ensures.kept) c.prune.ensures.left

-- it was the last
pub returns-in-None-clause-left : goal.returns-in-None-clause-left
returns-in-None-clause-left t c = one_left c.args.tip c.args.network.now c.remove_state.new.self c.args.left.now c.note.new.self c.remove_state.ensures c.note.ensures.noted c.note.ensures.kept
