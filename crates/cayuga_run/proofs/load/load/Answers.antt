use Rattle.std.proofs.Common.{List, subst, sym, ℕ}
use Rattle.catalogue.specs.Judgement.{Judged}
use Rattle.load_texts.specs.QueryText.{query_text}
use Rattle.cayuga_run.specs.Accepting.{IsAcceptedWith}
use Rattle.cayuga_run.specs.LoadOutcome.{IsSummary}
use Rattle.cayuga_run.specs.Works.{Load}
use Rattle.cayuga_run.proofs.BlamingLemmas.{blames_nothing, load_tells_none}
use Rattle.cayuga_run.proofs.SummaryLemmas.{load_stops, load_writes}
use Rattle.cayuga_run.proofs.load.load.Goals as goal

-- the line was made
pub returns-in-Ok-clause-outcome : goal.returns-in-Ok-clause-outcome
returns-in-Ok-clause-outcome g c =
    let told = g.H.Host.told in
    let load : Load = record { seed = c.args.seed; events = c.args.events } in
    load_writes load c.as_str.result.now (told c.args.host.now) (told c.write_text.new.host) c.write_text.result
    (subst (λ (line : List ℕ). IsAcceptedWith (query_text c.args.events) (λ (j : Judged). IsSummary j load line)) (sym c.as_str.ensures.value) c.in-Ok.ensures.summed) c.write_text.ensures.writes

-- there is none
pub returns-in-Err-clause-outcome : goal.returns-in-Err-clause-outcome
returns-in-Err-clause-outcome g c =
    let load : Load = record { seed = c.args.seed; events = c.args.events } in
    load_stops load (g.H.Host.told c.args.host.now) c.in-Err.status c.in-Err.ensures.fails

pub returns-in-Err-clause-blames : goal.returns-in-Err-clause-blames
returns-in-Err-clause-blames g c =
    let load : Load = record { seed = c.args.seed; events = c.args.events } in
    blames_nothing (g.H.Host.told c.args.host.now) c.in-Err.status (load_tells_none load c.in-Err.status c.in-Err.ensures.fails)
