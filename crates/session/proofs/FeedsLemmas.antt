-- What a session makes of more bytes, and of the end of the text.
use Rattle.std.proofs.Common.{◌≡◌, ◌∙◌, sym, ap, refl, subst, ℕ, ◌+◌, ◌-◌, ◌<◌, ◌≤◌, true, false, List, ◌++◌, [], length, min, take, None, Result, Ok, Err, length-append, append-nil, arith}
use Rattle.std.specs.Result.{OnOk, is_err}
use Rattle.std.proofs.lemmas.List.{length-take, take_min}
use Rattle.std.proofs.Math.Seq.{take-length}
use Rattle.cay_host.specs.Output.{Wrote}
use Rattle.cay_host.specs.Told.{Told}
use Rattle.epoch_engine.specs.EngineStandsFor as engines
use Rattle.birth_laws.specs.BornChains.{born_lines}
use Rattle.event_csv.specs.Fed.{Fed, IsPart, fed_more, unread_lines}
use Rattle.catalogue.specs.Catalogued.{Catalogued, program_in}
use Rattle.courses.specs.Course.{Course, Moment, events_in}
use Rattle.courses.specs.QuerySet.{QuerySet}
use Rattle.session.specs.declared.fault.SessionFault.{SessionFault}
use Rattle.session.specs.declared.fault.SessionFault.TheVariants as fault
use Rattle.session.specs.declared.work.Work.{Work}
use Rattle.session.specs.Feeds.{Feeds, Finishes, StopsAt, StopsAtPiece}
use Rattle.session.specs.ForEachHistory.{HearsAll, HearsToEnd}
use Rattle.session.specs.WroteFront.{Beyond}
use Rattle.session.specs.SessionView.{HasFinished, SessionStandsFor, SessionView, heard_of, moment_of, refused_of, report_of}
use Rattle.session.specs.Standing.{IsAtWork, IsThrough, StandsFor}
use Rattle.session.specs.HandsOutSomeLines.{HandsOutSomeLines}
use Rattle.session.specs.Owes.{Stage, StoppedBy, Stops}
use Rattle.session.proofs.PlanLemmas.{laid_over}
use Rattle.session.proofs.ReadingLemmas.{same_left}
use Rattle.session.proofs.SessionLemmas.{cut_within, done_at, events_on, events_so_far, given_more, later, moment_on, now_at, stops_at}
use Rattle.session.proofs.OwesLemmas.{ends_same}

-- what holds of a value, where there is one
pub of_ok : {T E P : Type 0} (r : Result T E) → is_err r ≡ false → OnOk r P → P
of_ok (Ok x) e p = p
of_ok (Err x) e p = cc

-- where no more bytes came, those within the limit are all
pub all_within : (limit fed : ℕ) (piece within : List ℕ) → within ≡ take (limit - fed) piece → length piece ≤ length within → within ≡ piece
all_within limit fed piece within cut h =
    let size : length within ≡ min (limit - fed) (length piece) = ap length cut ∙ length-take (limit - fed) piece in
    let short : min (limit - fed) (length piece) ≡ length piece = omega (arith, size, h) in
    cut ∙ sym (take_min (limit - fed) piece) ∙ ap (λ n. take n piece) short ∙ take-length piece

-- the bytes within the limit don't pass it
pub fits_within : (session : SessionView) (set : QuerySet) (past : Course) (text : List ℕ) → SessionStandsFor session set past text → (piece within : List ℕ) → within ≡ take (session.limit - session.fed) piece → length text + length within ≤ session.limit
fits_within session set past text stands piece within cut =
    let size : length within ≡ min (session.limit - session.fed) (length piece) = ap length cut ∙ length-take (session.limit - session.fed) piece in
    let counted = stands.counted in
    let fits = stands.within in
    omega (arith, size, counted, fits)

module _ (session : SessionView) (set : QuerySet) (past : Course) (text : List ℕ) (stands : SessionStandsFor session set past text)
    (stage : Stage) (at : stage.moment ≡ now_at session set past text stands) (heard : stage.history ≡ events_so_far session set past text stands) (none_owed : stage.rows ≡ []) (a b : Told) where
  module _ (piece within : List ℕ) (cut : within ≡ take (session.limit - session.fed) piece) where
    -- the bytes within the limit
    cut_is : text ++ within ≡ take session.limit (text ++ piece)
    cut_is =
        let counted = stands.counted in
        ap (λ bytes. text ++ bytes) (cut ∙ ap (λ n. take (session.limit - n) piece) counted) ∙ sym (cut_within text piece session.limit stands.within)

    -- the work on them stopped
    pub stops_at_piece : (stop : SessionFault) → Stops false (later session set past text stands within false) stage a b stop → StopsAtPiece session set past text piece a b stop
    stops_at_piece (fault.Refused refusal) stops =
        subst (λ t. StopsAt set past text t false a b (fault.Refused refusal)) cut_is (stops_at session set past text stands within false stage at heard none_owed a b (fault.Refused refusal) stops)
    stops_at_piece (fault.TooMuch limit) stops = absurd stops
    stops_at_piece fault.WriteFault stops = subst (λ t. StopsAt set past text t false a b fault.WriteFault) cut_is (stops_at session set past text stands within false stage at heard none_owed a b fault.WriteFault stops)
    stops_at_piece fault.Memory stops = subst (λ t. StopsAt set past text t false a b fault.Memory) cut_is (stops_at session set past text stands within false stage at heard none_owed a b fault.Memory stops)

    -- it was done, and more bytes came
    pub too_much : length within < length piece → StoppedBy false (later session set past text stands within false) stage a b (Ok tt) → StopsAtPiece session set past text piece a b (fault.TooMuch session.limit)
    too_much fewer ends =
        let done = done_at session set past text stands within false stage at heard none_owed a b ends.0 ends.1 in
        let size : length within ≡ min (session.limit - session.fed) (length piece) = ap length cut ∙ length-take (session.limit - session.fed) piece in
        let counted = stands.counted in
        let fits = stands.within in
        let long = length-append text piece in (
          refl,
          omega (arith, size, fewer, counted, fits, long),
          ap (λ t. refused_of set past t false) (sym cut_is) ∙ done.0,
          subst (λ t. Beyond Wrote (report_of set past text false) (report_of set past t false) a b) cut_is done.1,
        )

  module _ (d : Catalogued) where
    module _ (piece : List ℕ) (within : length text + length piece ≤ session.limit) (worked : Work) (feed : Fed) where
      abbrev fed_session : SessionView
      fed_session = record session { catalogue = d; engine = worked.engine; feed = feed; fed = session.fed + length piece; ended = false }

      -- it was done, and the session stands for the longer text
      pub feeds : HandsOutSomeLines (fed_more session.feed piece) feed → IsPart feed → IsAtWork d worked
          → StoppedBy false (later session set past text stands piece false) stage a b (Ok tt)
          → HearsAll (later session set past text stands piece false) (now_at session set past text stands) (events_so_far session set past text stands) d worked.engine
          → Feeds fed_session set past text piece a b
      feeds gone part at_work ends hears =
          let done = done_at session set past text stands piece false stage at heard none_owed a b ends.0 ends.1 in
          let moment = moment_on session set past text stands piece false ∙ hears.moment in
          let standing_for = subst (λ h. StandsFor d h worked.engine) (sym (events_on session set past text stands piece false)) hears.stands in
          record {
            stands = record {
              going = refl;
              within = rw (length-append text piece) within;
              sound = stands.sound;
              none_refused = done.0;
              heard = record {
                holds = ap (λ (m : Moment). m.set) (sym moment);
                at_one = at_work.at_one;
                declared = standing_for.declared;
                works = record { layout = laid_over d worked.engine at_work.in_order at_work.at_one; engine = standing_for.engine };
                opened = ap (λ (m : Moment). m.is_open) (sym moment);
              };
              counted = ap (λ n. n + length piece) stands.counted ∙ sym (length-append text piece);
              feed = given_more text piece session.feed feed stands.feed gone part;
            };
            wrote = done.1;
          }

    module _ (worked : Work) where
      abbrev finished_session : SessionView
      finished_session = record session { catalogue = d; engine = worked.engine; ended = true }

      -- the session works for all that was heard
      has_finished : IsThrough d worked.engine → HearsToEnd (later session set past text stands [] true) (now_at session set past text stands) (events_so_far session set past text stands) d worked.engine → HasFinished finished_session set past text
      has_finished through hears =
          let whole : heard_of set past (text ++ []) true ≡ heard_of set past text true = ap (λ t. heard_of set past t true) (append-nil text) in
          record {
            holds = sym hears.set ∙ ap (λ (m : Moment). m.set) (sym (moment_on session set past text stands [] true)) ∙ ap (λ c. (moment_of set c).set) whole;
            at_one = through.at_one;
            works = record {
              layout = laid_over d worked.engine through.in_order through.at_one;
              engine = subst (engines.EngineStandsFor worked.engine (born_lines (program_in d))) (sym (events_on session set past text stands [] true) ∙ ap events_in whole) hears.stands.engine;
            };
            none_open = through.none_open;
          }

      -- the text has ended
      pub finishes : (end : Result (Unit {0}) SessionFault) → StoppedBy true (unread_lines session.feed true) stage a b end → OnOk end (IsThrough d worked.engine)
          → OnOk end (HearsToEnd (unread_lines session.feed true) (now_at session set past text stands) (events_so_far session set past text stands) d worked.engine)
          → Finishes finished_session set past text a b end
      finishes end ends through hears = cases end (ends_same true (unread_lines session.feed true) (later session set past text stands [] true) stage a b end (same_left session.feed true) ends) through hears
        where
          cases : (end : Result (Unit {0}) SessionFault) → StoppedBy true (later session set past text stands [] true) stage a b end → OnOk end (IsThrough d worked.engine)
              → OnOk end (HearsToEnd (unread_lines session.feed true) (now_at session set past text stands) (events_so_far session set past text stands) d worked.engine)
              → Finishes finished_session set past text a b end
          cases (Ok done) ends through hears =
              let at_end = subst (λ t. (refused_of set past t true ≡ None) × Beyond Wrote (report_of set past text false) (report_of set past t true) a b) (append-nil text)
              (done_at session set past text stands [] true stage at heard none_owed a b ends.0 ends.1) in
              (at_end.0, at_end.1, has_finished through (subst (λ ls. HearsToEnd ls (now_at session set past text stands) (events_so_far session set past text stands) d worked.engine) (sym (same_left session.feed true)) hears))
          cases (Err stop) ends through hears = subst (λ t. StopsAt set past text t true a b stop) (append-nil text) (stops_at session set past text stands [] true stage at heard none_owed a b stop ends)
