-- The counts of a session.
use Rattle.std.proofs.Common.{◌≡◌, ◌∙◌, ap, sym, subst, ℕ, ◌+◌, ◌-◌, ◌<◌, ◌^◌, List, length, min, arith}
use Rattle.std.specs.Prelude.{count_by, is_some, sum_by}
use Rattle.semantics.specs.Histories.{Event}
use Rattle.automaton.specs.States.{root_in}
use Rattle.prefix_merge.specs.Counts.{CountsPlain, CountsStates}
use Rattle.prefix_merge.specs.Laws.{ListsStates}
use Rattle.prefix_merge.proofs.CountLemmas.{states_are_listed}
use Rattle.prefix_merge.proofs.RootLemmas.{plain_few}
use Rattle.splitter.specs.Chains.{lines_of, work_order}
use Rattle.epoch_laws.specs.Standing.{closed_part}
use Rattle.epoch_engine.specs.Counts.{CountsAlive, stored_in}
use Rattle.epoch_engine.specs.Trims.{Trims}
use Rattle.epoch_engine.specs.EngineView as engine
use Rattle.epoch_engine.proofs.TrimLemmas.{trimmed_is_counted, trimmed_stands}
use Rattle.catalogue.specs.Catalogued.{Catalogued}
use Rattle.catalogue.specs.Standing.{IsLayoutOver}
use Rattle.event_csv.specs.Fed.{Fed}
use Rattle.session.specs.declared.work.Work.{Work}
use Rattle.session.specs.SessionView.{SessionStandsFor, TrimsEngine, SessionView, WorksFor, program_in}
use Rattle.courses.specs.Course.{Course}
use Rattle.courses.specs.QuerySet.{QuerySet}
use Rattle.session.specs.Standing.{IsGoing}
use Rattle.session.proofs.PlanLemmas.{at_one_still}
use Rattle.birth_laws.specs.BornChains.{born_lines}
use Rattle.birth_laws.proofs.BornLemmas.{plain_chain}
use Rattle.automaton.specs.NetworkLines.{HasLines}
use Rattle.epoch_engine.proofs.BornLemmas.{plain_lines}

module _ (session : SessionView) (history : List Event) (works : WorksFor session history) where
  -- the distinct prefixes of the lines
  listed : ListsStates session.engine.network (lines_of (program_in session))
  listed = states_are_listed session.engine.network (lines_of (program_in session)) works.engine.merged (subst (HasLines session.engine.network) (plain_chain (program_in session).order) (plain_lines session.engine.network (born_lines (program_in session)) works.engine.serves.has_lines))

  -- the states of the network are as many
  pub states_counted : (states : ℕ) → states ≡ count_by is_some session.engine.network → CountsStates (lines_of (program_in session)) states
  states_counted states same = record { distinct = listed.distinct; are = listed.are; value = same ∙ listed.states }

  -- the root states and the hops are as many as the plain network has states
  pub plain_counted : sum_by (λ line. 1 + length line.hops) (lines_of (program_in session)) < 2 ^ 64
      → (roots hops plain : ℕ) → roots ≡ count_by (λ slot. is_some (root_in slot)) session.engine.network → hops ≡ min (sum_by (λ line. length line.hops) (lines_of (program_in session))) (2 ^ 64 - 1)
      → plain ≡ min (roots + hops) (2 ^ 64 - 1) → CountsPlain (lines_of (program_in session)) plain
  plain_counted few roots hops plain some all both = record {
    distinct = listed.distinct;
    are = listed.are;
    value =
        let here = some ∙ listed.roots in
        let small = plain_few (lines_of (program_in session)) listed.distinct listed.are few in omega (arith, here, all, both, small);
  }

module _ (old new : SessionView) (trims : TrimsEngine old new) where
  abbrev mid : SessionView
  mid = record old { engine = new.engine }

  -- it is the session with the new engine
  mid_is : mid ≡ new
  mid_is = λ i. record { catalogue = sym trims.catalogue i; engine = new.engine; limit = sym trims.limit i; feed = sym trims.feed i; fed = sym trims.fed i; ended = sym trims.ended i }

  module _ (history : List Event) (works : WorksFor old history) where
    -- what is stored then are the bindings that wait and are alive
    pub alive_counted : (live : ℕ) → live ≡ min (stored_in new.engine) (2 ^ 64 - 1)
        → CountsAlive (born_lines (program_in old)) (work_order (program_in old)) (closed_part old.engine.time history) live
    alive_counted live same =
        let program = program_in old in
        let counted = trimmed_is_counted old.engine new.engine (born_lines program) history works.engine trims.engine in
        subst (λ n. CountsAlive (born_lines program) (work_order program) (closed_part old.engine.time history) n) (sym same)
        (subst (λ order. CountsAlive (born_lines program) order (closed_part old.engine.time history) (min (stored_in new.engine) (2 ^ 64 - 1))) works.layout.order counted)

    mid_works : WorksFor mid history
    mid_works = record {
      layout = subst (IsLayoutOver old.catalogue.streams (program_in old)) (sym trims.engine.plan.layout) works.layout;
      engine = trimmed_stands.stands old.engine new.engine (born_lines (program_in old)) history works.engine trims.engine;
    }

    -- the engine works for the same events
    pub works_still : WorksFor new history
    works_still = subst (λ s. WorksFor s history) mid_is mid_works

  -- the session stands for the same text
  pub stands_still : (set : QuerySet) (past : Course) (text : List ℕ) → SessionStandsFor old set past text → SessionStandsFor new set past text
  stands_still set past text stands =
      subst (λ s. SessionStandsFor s set past text) mid_is (record {
        going = stands.going;
        within = stands.within;
        sound = stands.sound;
        none_refused = stands.none_refused;
        heard = record {
          holds = stands.heard.holds;
          at_one = at_one_still old.catalogue old.engine new.engine trims.engine.plan stands.heard.at_one;
          declared = stands.heard.declared;
          works = mid_works _ stands.heard.works;
          opened = ap is_some trims.engine.times.time ∙ stands.heard.opened;
        };
        counted = stands.counted;
        feed = stands.feed;
      })

-- the work may go on with purged stores
pub going_still : (c : Catalogued) (limit : ℕ) (feed : Fed) (fed : ℕ) (work : Work) (now : engine.EngineView) → Trims work.engine now → IsGoing c limit feed fed work → IsGoing c limit feed fed (record work { engine = now })
going_still c limit feed fed work now trims going = record {
  at_work = record {
    in_order = going.at_work.in_order;
    at_one = at_one_still c work.engine now trims.plan going.at_work.at_one;
    born = going.at_work.born;
    fronts = going.at_work.fronts;
    few = going.at_work.few;
  };
  none_owed = going.none_owed;
  within = going.within;
  counted = going.counted;
  part = going.part;
}
