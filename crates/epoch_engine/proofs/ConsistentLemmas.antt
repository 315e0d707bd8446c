-- What holds of every engine that was made.
use Rattle.std.specs.Prelude.{ℕ, List, Option}
use Rattle.binding_index.specs.declared.store.Store.{Store}
use Rattle.epoch_engine.specs.Running.{IsRunning}
use Rattle.epoch_engine.specs.WorkLaws.{IsConsistent}
use Rattle.epoch_engine.specs.declared.epoch.Epoch.{Epoch}
use Rattle.epoch_engine.specs.declared.plan.Plan.{Plan}
use Rattle.epoch_engine.proofs.EngineLemmas.{view_of}

-- an engine whose parts fit one another
pub consistent : (plan : Plan) (stores : List (Option Store)) (epoch : Epoch) (closed_time : Option ℕ) → IsRunning plan stores epoch → IsConsistent (view_of plan stores epoch closed_time)
consistent plan stores epoch closed_time running = record { network = running.can_draw.network; underived = running.can_draw.underived }
