use Rattle.std.proofs.Common.{◌≡◌, ◌∙◌, ◌⊎◌, inl, inr, sym, ℕ, true, false, [], get_or, length, arith}
use Rattle.std.specs.Prelude.{Contains}
use Rattle.std.proofs.lemmas.Bool.{true≢false}
use Rattle.epoch_draft.proofs.AgendaLemmas.{below_more}
use Rattle.epoch_draft.proofs.Lists.{none_in}
use Rattle.epoch_engine.proofs.EngineLemmas.{outs_below}
use Rattle.epoch_engine.proofs.plan.Plan.leave.Goals as goal

-- there is room for those that are printed
pub leave-requires-clause-below : goal.leave-requires-clause-below
leave-requires-clause-below c =
    let plan = c.args.self.now in
    below_more (length plan.layout.kinds) (length plan.prints.turns.given) plan.layout.outs c.requires.room.prints (outs_below plan.merged plan.layout c.requires.fits)

-- no state came, and so all that are there are told
pub returns-clause-is : goal.returns-clause-is
returns-clause-is c =
    let room = c.requires.room in
    record {
      printed = c.requires.fits.2.printed;
      turns = record {
        many_turns = room.turns;
        many_read = room.read;
        in_turn = c.requires.worked;
        unread = λ s lt down n reads. absurd (by_read s n down (c.requires.read n s reads lt));
      };
      prints = record {
        many = (let many = room.prints in let same = c.leave.ensures.as_many in omega (arith, many, same));
        others = c.leave.ensures.others;
        in_turn = c.leave.ensures.told;
      };
    }
  where
    by_read : (s n : ℕ) → get_or c.args.self.now.turns.read s false ≡ false → (get_or c.args.self.now.turns.read s false ≡ true) ⊎ Contains [] n → ⊥
    by_read s n down (inl up) = true≢false (sym up ∙ down)
    by_read s n down (inr came) = none_in n came
