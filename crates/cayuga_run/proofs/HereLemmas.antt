-- What each piece of the events of an explaining leaves of their hearing.
use Rattle.std.proofs.Common.{◌≡◌, ◌∙◌, sym, ap, refl, subst, ℕ, ◌+◌, ◌-◌, ◌<◌, ◌≤◌, List, [], ◌++◌, Bool, Option, Some, None, false, true, length, take, length-append, length-take, append-nil, arith}
use Rattle.std.proofs.lemmas.List.{take_all}
use Rattle.std.specs.Io.KnownBytes.{prepend_known}
use Rattle.cay_host.specs.declared.call.Call.TheVariants as call
use Rattle.cay_host.specs.declared.side.Side.TheVariants.{Events}
use Rattle.cay_host.specs.Calls.{FailedLast}
use Rattle.cay_host.specs.Faults.{Rose}
use Rattle.cay_host.specs.HostLaws.{SameButRead-refl, SameButRead-trans, prepend_known-append}
use Rattle.cay_host.specs.Input.{SameButRead, Took}
use Rattle.cay_host.specs.Told.{Told}
use Rattle.catalogue.specs.Catalogued.{Catalogued}
use Rattle.catalogue.specs.Holding.{IsAsLoaded, judged_in}
use Rattle.stream_schema.specs.Streams.{Entry}
use Rattle.derivations.specs.declared.history.Heard.{Heard}
use Rattle.courses.specs.declared.refusal.Refusal.{Refusal}
use Rattle.courses.specs.declared.refusal.Refusal.TheVariants.{HasFault, HasControlFault, IsOutOfOrder}
use Rattle.courses.specs.EventLines.{readings_here, refused}
use Rattle.courses.specs.QuerySet.{QuerySet, set_of}
use Rattle.explanation.specs.declared.fault.HearFault.{HearFault}
use Rattle.explanation.specs.declared.fault.HearFault.TheVariants as fault
use Rattle.explanation.specs.HearingView.{HasHeard, HearsAll, HearingView, StopsLast, StopsWithin}
use Rattle.explanation.specs.HeardLines.{numbered_events}
use Rattle.explanation.proofs.HearingLemmas.{heard_refused}
use Rattle.cayuga_run.specs.declared.status.Status.TheVariants.{Done, ReadFault}
use Rattle.cayuga_run.specs.Blaming.{BlamesHost, failed_call}
use Rattle.cayuga_run.specs.HearingHere.{HearsEvents, HearsToEnd, RefusedHere, status_here}
use Rattle.cayuga_run.specs.HearingHere as heard
use Rattle.cayuga_run.specs.Here.{refused_here}
use Rattle.cayuga_run.specs.Reading.{StopsInPieceHere}
use Rattle.cayuga_run.proofs.BlamingLemmas.{SameFaults, blames_none}
use Rattle.cayuga_run.proofs.HeldLemmas.{set_held}
use Rattle.cayuga_run.proofs.HearingLemmas.{front_of_none}

-- the streams of a catalogue that was loaded
pub streams_held : (c : Catalogued) → IsAsLoaded c → c.streams ≡ (set_of (judged_in c)).streams
streams_held c known = ap (λ (set : QuerySet). set.streams) (set_held c known)

-- so many bytes of the events were taken and heard
pub record HasHeardHere (streams : List Entry) (limit taken : ℕ) (hearing : HearingView) (old now : Told) : Type 0 where
  pub bytes : List ℕ
  pub counted : length bytes ≡ taken
  pub stands : HasHeard streams bytes hearing
  pub most : hearing.limit ≡ limit
  pub front : old.left Events ≡ prepend_known bytes (now.left Events)
  pub same : SameButRead Events old now
  pub quiet : now.read_faults ≡ old.read_faults
  pub last : FailedLast None old now

-- nothing was read yet
pub none_here : (streams : List Entry) (limit : ℕ) (hearing : HearingView) (told : Told) → HasHeard streams [] hearing → hearing.limit ≡ limit → HasHeardHere streams limit 0 hearing told told
none_here streams limit hearing told stands most = record {
  bytes = [];
  counted = refl;
  stands = stands;
  most = most;
  front = front_of_none (told.left Events);
  same = SameButRead-refl Events told;
  quiet = refl;
  last = λ before. before;
}

-- the bytes that were heard are within the limit
pub within_here : {streams : List Entry} {limit taken : ℕ} {hearing : HearingView} {old now : Told} → HasHeardHere streams limit taken hearing old now → taken ≤ limit
within_here h = let within = h.stands.within in let most = h.most in let counted = h.counted in omega (arith, within, most, counted)

module _ {c : Catalogued} {limit taken : ℕ} {hearing : HearingView} {old now next : Told} (known : IsAsLoaded c) (h : HasHeardHere c.streams limit taken hearing old now) (same : SameButRead Events now next) where
  -- reading more touches nothing else
  pub same_here : SameButRead Events old next
  same_here = SameButRead-trans h.same same

  -- what is refused over the streams of the catalogue is refused over those of the text
  refused_over : (text : List ℕ) (ended : Bool) (o : Option Refusal) → refused (readings_here c.streams text ended) ≡ o → refused_here (judged_in c) text ended ≡ o
  refused_over text ended o e = subst (λ (streams : List Entry). refused (readings_here streams text ended) ≡ o) (streams_held c known) e

  few : length h.bytes ≤ limit
  few = subst (λ n. length h.bytes ≤ n) h.most h.stands.within

  none_refused_yet : refused_here (judged_in c) h.bytes false ≡ None
  none_refused_yet = refused_over h.bytes false None (heard_refused c.streams h.bytes hearing h.stands)

  -- a read failed
  pub read_failed_here : next.left ≡ now.left → Rose now.read_faults next.read_faults → (history : List Heard) → HearsEvents (judged_in c) limit history old next (ReadFault Events)
  read_failed_here kept rose history = (
    refl,
    subst (λ n. Rose n next.read_faults) h.quiet rose,
    (
      h.bytes,
      few,
      record {
        front = h.front ∙ ap (λ f. prepend_known h.bytes (f Events)) (sym kept);
        refused = ap (λ text. refused_here (judged_in c) text false) (take_all limit h.bytes few) ∙ none_refused_yet;
      },
    ),
  )

  pub stops_at_read_here : next.left ≡ now.left → StopsInPieceHere (judged_in c) limit (old.left Events) (next.left Events)
  stops_at_read_here kept = record {
    heard = h.bytes;
    piece = [];
    front = h.front ∙ ap (λ bytes. prepend_known bytes (now.left Events)) (sym (append-nil h.bytes)) ∙ ap (λ f. prepend_known (h.bytes ++ []) (f Events)) (sym kept);
    within = few;
    none_refused = none_refused_yet;
    few = omega arith;
    most = let both = length-append h.bytes [] in let within = few in omega (arith, both, within);
  }

  pub blames_read_here : next.failed ≡ Some (call.Read Events) → BlamesHost old next (ReadFault Events)
  blames_read_here last = record {
    attach = λ other. same.attach_faults ∙ h.same.attach_faults;
    read = λ other. absurd (other Events refl);
    write = λ other. same.write_faults ∙ h.same.write_faults;
    last = last;
  }

  -- the refusal of a line, before the events end or there
  refuses_by : (history : List Heard) (refusal : Refusal) → RefusedHere (judged_in c) limit refusal old next → HearsEvents (judged_in c) limit history old next (status_here (fault.Refused refusal))
  refuses_by history (HasFault line why) r = r
  refuses_by history (HasControlFault line why) r = r
  refuses_by history (IsOutOfOrder line at seen) r = r

  -- a piece was read
  module _ (size : ℕ) (buffer piece : List ℕ) (is : piece ≡ take size buffer) (small : length buffer ≤ 65536) (room : length buffer ≤ limit - taken + 1) (took : Took size buffer (now.left Events) (next.left Events))
      (quiet : next.read_faults ≡ now.read_faults) (none : next.failed ≡ None) where
    front_here : old.left Events ≡ prepend_known (h.bytes ++ piece) (next.left Events)
    front_here =
        h.front ∙ ap (prepend_known h.bytes) (took.front ∙ ap (λ bytes. prepend_known bytes (next.left Events)) (sym is))
        ∙ prepend_known-append h.bytes piece (next.left Events)

    sized : length piece ≤ length buffer
    sized = let cut = length-take size buffer in let same_size = ap length is in omega (arith, cut, same_size)

    most_here : length (h.bytes ++ piece) ≤ limit + 1
    most_here =
        let size = sized in
        let both = length-append h.bytes piece in
        let counted = h.counted in
        let within = few in
        omega (arith, size, both, counted, within, room)

    pub stops_here : StopsInPieceHere (judged_in c) limit (old.left Events) (next.left Events)
    stops_here = record {
      heard = h.bytes;
      piece = piece;
      front = front_here;
      within = few;
      none_refused = none_refused_yet;
      few = let size = sized in omega (arith, size, small);
      most = most_here;
    }

    faults_here : SameFaults old next
    faults_here = record { attach = same.attach_faults ∙ h.same.attach_faults; read = quiet ∙ h.quiet; write = same.write_faults ∙ h.same.write_faults; last = λ before. none }

    -- no call failed
    pub blames_none_here : (why : HearFault) → BlamesHost old next (status_here why)
    blames_none_here why = blames_none (status_here why) (by_fault why) faults_here
      where
        by_fault : (why : HearFault) → failed_call (status_here why) ≡ None
        by_fault (fault.Refused (HasFault line why)) = refl
        by_fault (fault.Refused (HasControlFault line why)) = refl
        by_fault (fault.Refused (IsOutOfOrder line at seen)) = refl
        by_fault (fault.TooMuch most) = refl
        by_fault fault.Memory = refl

    pub blames_done_here : BlamesHost old next Done
    blames_done_here = blames_none Done refl faults_here

    -- it was heard
    pub heard_here : (more : HearingView) → length piece ≡ size → more.limit ≡ hearing.limit → HasHeard c.streams (h.bytes ++ piece) more → HasHeardHere c.streams limit (taken + size) more old next
    heard_here more sized keeps stands = record {
      bytes = h.bytes ++ piece;
      counted = let both = length-append h.bytes piece in let counted = h.counted in omega (arith, both, counted, sized);
      stands = stands;
      most = keeps ∙ h.most;
      front = front_here;
      same = same_here;
      quiet = quiet ∙ h.quiet;
      last = λ before. none;
    }

    -- or the hearing stopped in it
    pub stopped_here : (history : List Heard) (why : HearFault) → StopsWithin c.streams hearing.limit (h.bytes ++ piece) why → HearsEvents (judged_in c) limit history old next (status_here why)
    stopped_here history (fault.Refused refusal) e =
        refuses_by history refusal
        (heard.before {bytes = h.bytes ++ piece}
        (record { front = front_here; refused = refused_over (take limit (h.bytes ++ piece)) false (Some refusal) (subst (λ n. refused (readings_here c.streams (take n (h.bytes ++ piece)) false) ≡ Some refusal) h.most e) }))
    stopped_here history (fault.TooMuch most) e =
        let longer = subst (λ n. n < length (h.bytes ++ piece)) h.most e.1 in
        let fits = most_here in (
          e.0 ∙ h.most,
          (
            h.bytes ++ piece,
            omega (arith, longer, fits),
            record { front = front_here; refused = refused_over (take limit (h.bytes ++ piece)) false None (subst (λ n. refused (readings_here c.streams (take n (h.bytes ++ piece)) false) ≡ None) h.most e.2) },
          ),
        )
    stopped_here history fault.Memory e = tt

    -- the events have ended
    module _ (at_end : size ≡ 0) where
      ended_here : (refusal : Option Refusal) → refused (readings_here c.streams h.bytes true) ≡ refusal → HearsToEnd (judged_in c) limit h.bytes refusal old next
      ended_here refusal e = record {
        takes = record {
          front = front_here ∙ ap (λ bytes. prepend_known bytes (next.left Events)) (ap (λ bytes. h.bytes ++ bytes) (is ∙ ap (λ n. take n buffer) at_end) ∙ append-nil h.bytes);
          whole = λ _. (few, took.end at_end);
        };
        refused = refused_over h.bytes true refusal e;
      }

      -- and were heard
      pub all_here : (history : List Heard) → HearsAll c.streams h.bytes history → HearsEvents (judged_in c) limit history old next Done
      all_here history all =
          (h.bytes, ended_here None all.none_refused, all.events ∙ ap (λ (streams : List Entry). numbered_events (readings_here streams h.bytes true)) (streams_held c known))

      -- or their last line is refused
      pub last_refused_here : (history : List Heard) (why : HearFault) → StopsLast c.streams h.bytes why → HearsEvents (judged_in c) limit history old next (status_here why)
      last_refused_here history (fault.Refused refusal) e = refuses_by history refusal (heard.ended {bytes = h.bytes} (ended_here (Some refusal) e))
      last_refused_here history (fault.TooMuch most) e = absurd e
      last_refused_here history fault.Memory e = tt
