-- The code by which the logic stores what contracts see of a session. No public clause names this.
use Rattle.std.specs.Prelude.{ℕ, Bool, refl}
use Rattle.std.specs.Coded.{Coded, code_by, coded×, coded_bool, coded_ℕ}
use Rattle.catalogue.specs.Catalogued.{Catalogued, catalogued_code}
use Rattle.epoch_engine.specs.ViewCode.{view_code}
use Rattle.epoch_engine.specs.EngineView as engine
use Rattle.event_csv.specs.Fed.{Fed}
use Rattle.event_csv.specs.contracts.feed.Feed as feed
use Rattle.session.specs.SessionView.{SessionView}

abbrev Parts : Type 0
Parts = (Catalogued × engine.EngineView) × (Fed × (ℕ × (ℕ × Bool)))

-- a session is stored as pairs of its parts
abbrev pub session_code : Coded SessionView
session_code =
    code_by Parts (coded× (coded× catalogued_code view_code) (coded× feed.the_row.coded (coded× coded_ℕ (coded× coded_ℕ coded_bool))))
    (λ s. ((s.catalogue, s.engine), (s.feed, (s.limit, (s.fed, s.ended)))))
    (λ p. record { catalogue = p.0.0; engine = p.0.1; feed = p.1.0; limit = p.1.1.0; fed = p.1.1.1.0; ended = p.1.1.1.1 }) (λ _. refl)
