use Rattle.std.proofs.Common.{◌<◌, subst, ℕ, inl, length, sym, arith}
use Rattle.std.specs.List.{All}
use Rattle.automaton.specs.States.{Net}
use Rattle.epoch_draft.specs.Agenda.{AreTurns}
use Rattle.epoch_draft.proofs.AgendaLemmas.{below_more}
use Rattle.epoch_engine.proofs.EngineLemmas.{order_below, order_once, outs_below}
use Rattle.epoch_engine.proofs.PrintedLemmas.{none_longer, none_told}
use Rattle.epoch_engine.proofs.plan.Plan.make.Goals as goal

-- derived streams have kinds
pub make-requires-clause-below : goal.make-requires-clause-below
make-requires-clause-below c = subst (λ (m : ℕ). All (λ s. s < m) c.args.layout.order) (sym c.len-streams.ensures) (order_below c.args.merged c.args.layout c.requires)

-- and each stands once in the order
pub make-requires-clause-once : goal.make-requires-clause-once
make-requires-clause-once c = order_once c.args.merged c.args.layout c.requires

-- printed streams have kinds
pub arrange-requires-clause-below : goal.arrange-requires-clause-below
arrange-requires-clause-below c =
    let room = c.in_ok-grow.ensures.long in
    let kinds = c.len-streams.ensures in
    below_more (length c.args.layout.kinds) (length c.grow.new.self.turns.given) c.args.layout.outs (omega (arith, room, kinds)) (outs_below c.args.merged c.args.layout c.requires)

-- no stream has a turn yet
pub arrange-requires-clause-others : goal.arrange-requires-clause-others
arrange-requires-clause-others c = λ s. inl (none_longer c.new-prints.result.turns c.grow.new.self.turns c.grow.ensures.more c.new-prints.ensures s)

pub arrange-requires-clause-before : goal.arrange-requires-clause-before
arrange-requires-clause-before c = λ once. none_told c.grow.new.self.turns (none_longer c.new-prints.result.turns c.grow.new.self.turns c.grow.ensures.more c.new-prints.ensures)

-- all is that of the network and the layout
pub returns-clause-is : goal.returns-clause-is
returns-clause-is c =
    let kinds = c.len-streams.ensures in
    let net = c.network-network.ensures.value in
    let layout = c.args.layout in
    record {
      printed = c.requires.2.printed;
      turns =
          subst (λ (n : Net). AreTurns n layout.order (length layout.kinds) c.in_ok-turns.turns) net
          (subst (λ (streams : ℕ). AreTurns c.network-network.result.now layout.order streams c.in_ok-turns.turns) kinds c.in_ok-turns.ensures);
      prints = record {
        many = (let room = c.in_ok-grow.ensures.long in let same = c.arrange.ensures.as_many in omega (arith, room, kinds, same));
        others = c.arrange.ensures.others;
        in_turn = c.arrange.ensures.told;
      };
    }
