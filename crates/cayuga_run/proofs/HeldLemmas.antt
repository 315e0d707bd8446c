-- A catalogue that was loaded holds the queries that its text was judged to be.
use Rattle.std.proofs.Common.{◌≡◌, ◌∙◌, sym, ap, subst, []}
use Rattle.catalogue.specs.Catalogued.{Catalogued}
use Rattle.catalogue.specs.Holding.{IsAsLoaded, judged_in}
use Rattle.catalogue.proofs.HoldingLemmas.{loaded_holds}
use Rattle.courses.specs.QuerySet.{QuerySet, set_in, set_of}
use Rattle.courses.proofs.SetLemmas.{loaded_is}
use Rattle.session.specs.SessionView.{SessionStandsFor, SessionView}

-- the set of a catalogue is that of what its text was judged to be
pub set_held : (c : Catalogued) → IsAsLoaded c → set_in c ≡ set_of (judged_in c)
set_held c known = loaded_is (judged_in c) c (loaded_holds known.text c known.loaded)

-- so a session of it stands for these queries, where it stands for those of the catalogue
pub stands_held : (c : Catalogued) (session : SessionView) → IsAsLoaded c → session.catalogue ≡ c → SessionStandsFor session (set_in c) [] [] → SessionStandsFor session (set_of (judged_in session.catalogue)) [] []
stands_held c session known same stands = subst (λ (set : QuerySet). SessionStandsFor session set [] []) (set_held c known ∙ ap (λ k. set_of (judged_in k)) (sym same)) stands
