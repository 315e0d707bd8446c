-- What each piece of the events leaves of their hearing.
use Rattle.std.proofs.Common.{◌≡◌, ◌∙◌, sym, ap, refl, subst, ℕ, ◌+◌, ◌<◌, ◌≤◌, List, [], ◌++◌, Bool, Option, Some, None, IfSome, false, true, length, take, length-append, length-take, length-take-le, append_assoc, append-nil, arith, Ok, Err}
use Rattle.std.proofs.lemmas.List.{take_all, take-append-le}
use Rattle.std.specs.Io.KnownBytes.{prepend_known}
use Rattle.cay_host.specs.declared.call.Call.TheVariants as call
use Rattle.cay_host.specs.Calls.{FailedLast}
use Rattle.cay_host.specs.declared.side.Side.TheVariants.{Queries, Events}
use Rattle.cay_host.specs.Faults.{Rose}
use Rattle.cay_host.specs.Input.{SameButRead, Took}
use Rattle.cay_host.specs.Output.{SameButOutput, Wrote, WrotePart}
use Rattle.cay_host.specs.Told.{Told}
use Rattle.cay_host.proofs.OutputLemmas.{Wrote-nil}
use Rattle.event_csv.specs.Lines.{Line, lines, lines_from}
use Rattle.event_csv.proofs.LineFacts.{strip_bom-short}
use Rattle.courses.specs.declared.refusal.Refusal.{Refusal}
use Rattle.courses.specs.declared.refusal.Refusal.TheVariants.{HasFault, HasControlFault, IsOutOfOrder}
use Rattle.courses.specs.Heard.{closed_after}
use Rattle.courses.specs.QuerySet.{QuerySet}
use Rattle.courses.specs.Reports.{course_report, refused_in, report_of_closed}
use Rattle.session.specs.declared.fault.SessionFault.{SessionFault}
use Rattle.session.specs.declared.fault.SessionFault.TheVariants as fault
use Rattle.session.specs.Feeds.{BlamesWriting, Feeds, Finishes, StopsAt, StopsAtPiece, failed_write}
use Rattle.session.specs.WroteFront.{Beyond, WroteFront}
use Rattle.session.specs.SessionView.{HasFinished, SessionStandsFor, SessionView}
use Rattle.cayuga_run.specs.declared.status.Status.TheVariants.{Done, ReadFault}
use Rattle.cayuga_run.specs.Blaming.{BlamesHost}
use Rattle.cayuga_run.specs.HearingOutcome.{Hears, HearsAlone, HearsUpTo, TakesEvents, status_of}
use Rattle.cayuga_run.specs.StoppedWriting.{StoppedWriting}
use Rattle.cayuga_run.proofs.BlamingLemmas.{SameFaults, blames_none}
use Rattle.cayuga_run.proofs.WroteLemmas.{front_beyond, part_beyond, wrote_beyond}

-- what was read before the rest is in front of it
front_of_both : (front piece : List ℕ) (a b c : Option (List ℕ)) → a ≡ prepend_known front b → b ≡ prepend_known piece c → a ≡ prepend_known (front ++ piece) c
front_of_both front piece a b None e f = e ∙ ap (prepend_known front) f
front_of_both front piece a b (Some rest) e f = e ∙ ap (prepend_known front) f ∙ ap Some (sym (append_assoc front piece rest))

-- nothing in front is nothing more
pub front_of_none : (a : Option (List ℕ)) → a ≡ prepend_known [] a
front_of_none None = refl
front_of_none (Some rest) = refl

-- so many bytes of the events were taken and heard: the session stands for them, and the report of the epochs that they close was written
pub record HasHeard (set : QuerySet) (limit taken : ℕ) (session : SessionView) (old now : Told) : Type 0 where
  pub bytes : List ℕ
  pub counted : length bytes ≡ taken
  pub stands : SessionStandsFor session set [] bytes
  pub most : session.limit ≡ limit
  pub front : old.left Events ≡ prepend_known bytes (now.left Events)
  pub wrote : Wrote (report_of_closed set bytes false) old now
  pub alone : HearsAlone old now
  pub faults : SameFaults old now

-- one more piece was read than was heard
pub record HasTaken (set : QuerySet) (limit : ℕ) (bytes piece : List ℕ) (session : SessionView) (old now : Told) : Type 0 where
  pub stands : SessionStandsFor session set [] bytes
  pub most : session.limit ≡ limit
  pub few : length piece ≤ 65536
  pub front : old.left Events ≡ prepend_known (bytes ++ piece) (now.left Events)
  pub wrote : Wrote (report_of_closed set bytes false) old now
  pub alone : HearsAlone old now
  pub faults : SameFaults old now

-- no bytes close an epoch
pub nothing_closed : (set : QuerySet) → report_of_closed set [] false ≡ []
nothing_closed set =
    let none : lines [] false ≡ [] = ap (λ text. lines_from 0 false text false) (strip_bom-short [] (omega arith)) in
    ap (λ (found : List Line). course_report set (closed_after set [] found false)) none

-- nothing was read yet
unfoldable pub heard_none : (set : QuerySet) (limit : ℕ) (session : SessionView) (told : Told) → SessionStandsFor session set [] [] → session.limit ≡ limit → HasHeard set limit 0 session told told
heard_none set limit session told stands most = record {
  bytes = [];
  counted = refl;
  stands = stands;
  most = most;
  front = front_of_none (told.left Events);
  wrote = subst (λ t. Wrote t told told) (sym (nothing_closed set)) (Wrote-nil told);
  alone = record { attached = refl; queries = refl };
  faults = record { attach = refl; read = refl; write = refl; last = λ before. before };
}

-- the size of a piece
pub piece_is : {old new : Option (List ℕ)} (size : ℕ) (buffer rest : List ℕ) → Took size buffer old new → length (take size (buffer ++ rest)) ≡ size
piece_is size buffer rest took = ap length (take-append-le size buffer rest took.fits) ∙ length-take-le size buffer took.fits

-- the bytes that were heard are within the limit
pub heard_within : {set : QuerySet} {limit taken : ℕ} {session : SessionView} {old now : Told} → HasHeard set limit taken session old now → taken ≤ limit
heard_within h = let within = h.stands.within in let most = h.most in let counted = h.counted in omega (arith, within, most, counted)

module _ {set : QuerySet} {limit taken : ℕ} {session : SessionView} {old now next : Told} (h : HasHeard set limit taken session old now) where
  -- a piece was read to the front of a buffer
  pub taken_more : (size : ℕ) (buffer rest : List ℕ) → length buffer ≤ 65536 → Took size buffer (now.left Events) (next.left Events) → SameButRead Events now next → next.read_faults ≡ now.read_faults → next.failed ≡ None
      → HasTaken set limit h.bytes (take size (buffer ++ rest)) session old next
  taken_more size buffer rest room took same quiet none = record {
    stands = h.stands;
    most = h.most;
    few = let fits = took.fits in let size_is = length-take size (buffer ++ rest) in omega (arith, room, fits, size_is);
    front = front_of_both h.bytes (take size (buffer ++ rest)) (old.left Events) (now.left Events) (next.left Events) h.front
        (took.front ∙ ap (λ piece. prepend_known piece (next.left Events)) (sym (take-append-le size buffer rest took.fits)));
    wrote = record { written = same.written ∙ h.wrote.written; lines = same.lines ∙ h.wrote.lines };
    alone = record { attached = same.attached ∙ h.alone.attached; queries = ap (λ f. f Queries) same.others ∙ h.alone.queries };
    faults = record { attach = same.attach_faults ∙ h.faults.attach; read = quiet ∙ h.faults.read; write = same.write_faults ∙ h.faults.write; last = λ before. none };
  }

  -- a read failed
  pub read_failed : next.left ≡ now.left → Rose now.read_faults next.read_faults → SameButRead Events now next → Hears set limit session old next (ReadFault Events)
  read_failed kept rose same =
      let few = take_all limit h.bytes (subst (λ n. length h.bytes ≤ n) h.most h.stands.within) in (
        refl,
        subst (λ n. Rose n next.read_faults) h.faults.read rose,
        (
          h.bytes,
          subst (λ n. length h.bytes ≤ n) h.most h.stands.within,
          record {
            takes = record { front = h.front ∙ ap (λ f. prepend_known h.bytes (f Events)) (sym kept); whole = λ e. cc };
            refused = ap (λ t. refused_in set t false) few ∙ h.stands.none_refused;
            wrote = subst (λ t. Wrote (report_of_closed set t false) old next) (sym few) (record { written = same.written ∙ h.wrote.written; lines = same.lines ∙ h.wrote.lines });
          },
        ),
      )

  -- a read that failed is blamed on the events
  pub blames_read : SameButRead Events now next → next.failed ≡ Some (call.Read Events) → BlamesHost old next (ReadFault Events)
  blames_read same last = record {
    attach = λ other. same.attach_faults ∙ h.faults.attach;
    read = λ other. absurd (other Events refl);
    write = λ other. same.write_faults ∙ h.faults.write;
    last = last;
  }

  -- a read of the events touches nothing else
  pub alone_read : SameButRead Events now next → HearsAlone old next
  alone_read same = record { attached = same.attached ∙ h.alone.attached; queries = ap (λ f. f Queries) same.others ∙ h.alone.queries }

module _ {set : QuerySet} {limit : ℕ} {bytes piece : List ℕ} {session : SessionView} {old now next : Told} (t : HasTaken set limit bytes piece session old now) (same : SameButOutput now next) where
  -- nor does a write
  pub alone_written : HearsAlone old next
  alone_written = record { attached = same.attached ∙ t.alone.attached; queries = ap (λ f. f Queries) same.left ∙ t.alone.queries }

  -- the piece stands behind what was taken before
  pub front_written : old.left Events ≡ prepend_known (bytes ++ piece) (next.left Events)
  front_written = t.front ∙ ap (λ f. prepend_known (bytes ++ piece) (f Events)) (sym same.left)

  -- where no write fails, no count of faults rises
  pub same_faults : next.write_faults ≡ now.write_faults → FailedLast None now next → SameFaults old next
  same_faults quiet last = record { attach = same.attach_faults ∙ t.faults.attach; read = same.read_faults ∙ t.faults.read; write = quiet ∙ t.faults.write; last = λ before. last (t.faults.last before) }

  -- the piece was heard
  unfoldable pub heard_more : (after : SessionView) (taken size : ℕ) → length bytes ≡ taken → length piece ≡ size → Feeds after set [] bytes piece now next → after.limit ≡ session.limit → next.write_faults ≡ now.write_faults → FailedLast None now next
      → HasHeard set limit (taken + size) after old next
  heard_more after taken size counted sized feeds keeps quiet last = record {
    bytes = bytes ++ piece;
    counted = let both = length-append bytes piece in omega (arith, both, counted, sized);
    stands = feeds.stands;
    most = keeps ∙ t.most;
    front = front_written;
    wrote = wrote_beyond t.wrote feeds.wrote;
    alone = alone_written;
    faults = same_faults quiet last;
  }

  -- a fault ended the session
  pub blames_fault : (fault : SessionFault) → BlamesWriting (Err fault) now next → FailedLast (failed_write fault) now next → BlamesHost old next (status_of fault)
  blames_fault (fault.Refused (HasFault line why)) quiet last = blames_none _ refl (same_faults quiet last)
  blames_fault (fault.Refused (HasControlFault line why)) quiet last = blames_none _ refl (same_faults quiet last)
  blames_fault (fault.Refused (IsOutOfOrder line at seen)) quiet last = blames_none _ refl (same_faults quiet last)
  blames_fault (fault.TooMuch most) quiet last = blames_none _ refl (same_faults quiet last)
  blames_fault fault.WriteFault quiet last = record {
    attach = λ other. same.attach_faults ∙ t.faults.attach;
    read = λ other. same.read_faults ∙ t.faults.read;
    write = λ other. absurd (other refl);
    last = last;
  }
  blames_fault fault.Memory quiet last = blames_none _ refl (same_faults quiet last)

  module _ (text : List ℕ) (ended : Bool) (cut : text ≡ take limit (bytes ++ piece)) (all : ended ≡ true → (piece ≡ []) × IfSome (next.left Events) (λ rest. rest ≡ [])) where
    within_all : ended ≡ true → length (bytes ++ piece) ≤ limit
    within_all e =
        let both = length-append bytes piece in
        let none = ap length (all e).0 in
        let within = t.stands.within in
        let most = t.most in
        omega (arith, both, none, within, most)

    takes : TakesEvents limit (bytes ++ piece) ended old next
    takes = record { front = front_written; whole = λ e. (within_all e, (all e).1) }

    refusal_is : (o : Option Refusal) → refused_in set text ended ≡ o → refused_in set (take limit (bytes ++ piece)) ended ≡ o
    refusal_is o e = subst (λ x. refused_in set x ended ≡ o) cut e

    beyond : (W : List ℕ → Told → Told → Type 0) → Beyond W (report_of_closed set bytes false) (report_of_closed set text ended) now next
        → Beyond W (report_of_closed set bytes false) (report_of_closed set (take limit (bytes ++ piece)) ended) now next
    beyond W w =
        subst (λ x. Beyond W (report_of_closed set bytes false) (report_of_closed set x ended) now next) cut w

    heard_up_to : (o : Option Refusal) → refused_in set text ended ≡ o → Beyond Wrote (report_of_closed set bytes false) (report_of_closed set text ended) now next
        → HearsUpTo set limit (bytes ++ piece) ended o old next
    heard_up_to o e w = record { takes = takes; refused = refusal_is o e; wrote = wrote_beyond t.wrote (beyond Wrote w) }

    -- the write that failed came when the piece or the end of the events was heard
    stopped_writing : Beyond WrotePart (report_of_closed set bytes false) (report_of_closed set text ended) now next → StoppedWriting set limit (old.left Events) old next
    stopped_writing w = record {
      before = bytes;
      piece = piece;
      ended = ended;
      taken = front_written;
      within = subst (λ n. length bytes ≤ n) t.most t.stands.within;
      few = t.few;
      whole = λ e. all_taken (old.left Events) (next.left Events) (all e).0 (all e).1 front_written;
      wrote = part_beyond t.wrote (beyond WrotePart w);
    }
      where
        all_taken : (a b : Option (List ℕ)) → piece ≡ [] → IfSome b (λ rest. rest ≡ []) → a ≡ prepend_known (bytes ++ piece) b → IfSome a (λ x. x ≡ bytes)
        all_taken None b none nil e = tt
        all_taken (Some x) None none nil e = cc
        all_taken (Some x) (Some rest) none nil e =
            let whole : x ≡ (bytes ++ piece) ++ rest = cc in
            whole ∙ ap (λ r. (bytes ++ piece) ++ r) nil ∙ append-nil (bytes ++ piece) ∙ ap (λ p. bytes ++ p) none ∙ append-nil bytes

    stops : (after : SessionView) (fault : SessionFault) → StopsAt set [] bytes text ended now next fault → Hears set limit after old next (status_of fault)
    stops after (fault.Refused (HasFault line why)) s = record { bytes = bytes ++ piece; ended = ended; heard = heard_up_to (Some (HasFault line why)) s.0 s.1 }
    stops after (fault.Refused (HasControlFault line why)) s = record { bytes = bytes ++ piece; ended = ended; heard = heard_up_to (Some (HasControlFault line why)) s.0 s.1 }
    stops after (fault.Refused (IsOutOfOrder line at seen)) s = record { bytes = bytes ++ piece; ended = ended; heard = heard_up_to (Some (IsOutOfOrder line at seen)) s.0 s.1 }
    stops after (fault.TooMuch most) s = absurd s
    stops after fault.WriteFault s = (subst (λ n. Rose n next.write_faults) t.faults.write s.0, stopped_writing s.1)
    stops after fault.Memory s = record { bytes = bytes ++ piece; ended = ended; takes = takes; wrote = front_beyond t.wrote (beyond WroteFront s) }

  cut_within : take session.limit (bytes ++ piece) ≡ take limit (bytes ++ piece)
  cut_within = ap (λ n. take n (bytes ++ piece)) t.most

  -- why the session stopped at the piece, as the outcome
  pub stops_at_piece : length (bytes ++ piece) ≤ limit + 1 → (after : SessionView) (fault : SessionFault) → StopsAtPiece session set [] bytes piece now next fault → Hears set limit after old next (status_of fault)
  stops_at_piece room after (fault.TooMuch most) s = (
    s.0 ∙ t.most,
    (
      bytes ++ piece,
      (let past = subst (λ n. n < length (bytes ++ piece)) t.most s.1 in omega (arith, past, room)),
      heard_up_to (take session.limit (bytes ++ piece)) false cut_within (λ e. cc) None s.2 s.3,
    ),
  )
  stops_at_piece room after (fault.Refused refusal) s = stops (take session.limit (bytes ++ piece)) false cut_within (λ e. cc) after (fault.Refused refusal) s
  stops_at_piece room after fault.WriteFault s = stops (take session.limit (bytes ++ piece)) false cut_within (λ e. cc) after fault.WriteFault s
  stops_at_piece room after fault.Memory s = stops (take session.limit (bytes ++ piece)) false cut_within (λ e. cc) after fault.Memory s

  -- the text has ended
  module _ (none : piece ≡ []) (nil : IfSome (now.left Events) (λ rest. rest ≡ [])) where
    -- nothing is left after the write
    pub nil_after : IfSome (next.left Events) (λ rest. rest ≡ [])
    nil_after = subst (λ f. IfSome (f Events) (λ (rest : List ℕ). rest ≡ [])) (sym same.left) nil

    -- what was taken is within the limit
    pub cut_whole : bytes ≡ take limit (bytes ++ piece)
    cut_whole = sym (ap (λ p. take limit (bytes ++ p)) none ∙ ap (take limit) (append-nil bytes) ∙ take_all limit bytes (subst (λ n. length bytes ≤ n) t.most t.stands.within))

    -- a session that has finished has heard all
    pub hears_all : (after : SessionView) → Finishes after set [] bytes now next (Ok tt) → Hears set limit after old next Done
    hears_all after s = record {
      bytes = bytes ++ piece;
      heard = heard_up_to bytes true cut_whole (λ e. (none, nil_after)) None s.0 s.1;
      finished = subst (HasFinished after set []) (sym (ap (λ p. bytes ++ p) none ∙ append-nil bytes)) s.2;
    }

    -- one that stops at the end has its fault's status
    pub stops_at_end : (after : SessionView) (fault : SessionFault) → Finishes after set [] bytes now next (Err fault) → Hears set limit after old next (status_of fault)
    stops_at_end after fault s = stops bytes true cut_whole (λ e. (none, nil_after)) after fault s
