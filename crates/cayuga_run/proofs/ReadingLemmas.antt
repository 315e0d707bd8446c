-- How much of its files a job has read, from call to call.
use Rattle.std.proofs.Common.{◌≡◌, ◌∙◌, sym, ap, subst, ℕ, ◌+◌, ◌-◌, ◌≤◌, Bool, List, [], ◌++◌, Option, Some, None, IfSome, true, false, length, length-append, length-take, take, append-nil, arith}
use Rattle.std.specs.Io.KnownBytes.{prepend_known}
use Rattle.cay_host.specs.declared.side.Side.TheVariants.{Queries, Events}
use Rattle.cay_host.specs.Attaching.{Attaches, AttachFails}
use Rattle.cay_host.specs.Files.{file_of}
use Rattle.cay_host.specs.HostLaws.{prepend_known-append}
use Rattle.cay_host.specs.Input.{SameButRead, Took}
use Rattle.cay_host.specs.Output.{SameButOutput}
use Rattle.cay_host.specs.Told.{Told}
use Rattle.catalogue.specs.Judgement.{Accepts, Judged}
use Rattle.courses.specs.QuerySet.{QuerySet, set_of}
use Rattle.session.specs.SessionView.{SessionView}
use Rattle.cayuga_run.specs.Accepting.{IsAcceptedWith}
use Rattle.cayuga_run.specs.Begun.{HasAccepted}
use Rattle.cayuga_run.specs.HearingOutcome.{HearsAlone}
use Rattle.cayuga_run.specs.Reading.{ReadsBoth, ReadsNoEvents, ReadsQueries, StopsInPiece, TakesAtMost}
use Rattle.cayuga_run.proofs.HearingLemmas.{HasHeard, heard_within}
use Rattle.cayuga_run.proofs.RunLemmas.{HasQueries}

-- no side is both attached and not
pub both_ways : {P : Type 0} {b : Bool} → b ≡ true → b ≡ false → P
both_ways t f = absurd (let wrong : true ≡ false = sym t ∙ f in cc)

-- what was taken before a read, and what the read took
pub takes_more : {most : ℕ} {text now next : Option (List ℕ)} (bytes : List ℕ) (size : ℕ) (buffer : List ℕ)
    → text ≡ prepend_known bytes now → Took size buffer now next → length bytes + length buffer ≤ most → TakesAtMost most text next
takes_more {most} {text} {now} {next} bytes size buffer front took room = record {
  taken = bytes ++ take size buffer;
  few =
      let both = length-append bytes (take size buffer) in
      let cut = length-take size buffer in
      omega (arith, both, cut, room);
  front = front ∙ ap (prepend_known bytes) took.front ∙ prepend_known-append bytes (take size buffer) next;
}

-- what was taken, where a read took nothing
pub takes_no_more : {most : ℕ} {text now next : Option (List ℕ)} (bytes : List ℕ) → text ≡ prepend_known bytes now → next ≡ now → length bytes ≤ most → TakesAtMost most text next
takes_no_more bytes front kept few = record { taken = bytes; few = few; front = front ∙ ap (prepend_known bytes) (sym kept) }

-- the queries couldn't be attached
pub reads_nothing : (queries : List ℕ) (old new : Told) → AttachFails queries old new → old.attached Queries ≡ false → ReadsNoEvents queries old new
reads_nothing queries old new fails free = record {
  of_queries = record {
    unattached = λ e. ap (λ f. f Queries) fails.left;
    attached = λ e. both_ways e (ap (λ f. f Queries) fails.attached ∙ free);
  };
  of_events = ap (λ f. f Events) fails.left;
}

-- the queries were attached, and read
pub reads_queries : (queries : List ℕ) (old mid new : Told) → HasQueries queries old mid → SameButRead Queries mid new → TakesAtMost 1048577 (mid.left Queries) (new.left Queries)
    → ReadsNoEvents queries old new
reads_queries queries old mid new has kept takes = record {
  of_queries = record {
    unattached = λ e. both_ways (ap (λ f. f Queries) kept.attached ∙ has.attached) e;
    attached = λ e. subst (λ text. TakesAtMost 1048577 text (new.left Queries)) has.text takes;
  };
  of_events = ap (λ f. f Events) kept.others ∙ has.unread;
}

-- no more is read of the queries
pub queries_then : {queries : List ℕ} {a b c : Told} → ReadsQueries queries a b → c.attached Queries ≡ b.attached Queries → c.left Queries ≡ b.left Queries → ReadsQueries queries a c
queries_then {queries} {a} {b} {c} r attached left = record {
  unattached = λ e. left ∙ r.unattached (sym attached ∙ e);
  attached = λ e. subst (TakesAtMost 1048577 (file_of queries a.files)) (sym left) (r.attached (sym attached ∙ e));
}

-- a write reads nothing
pub reads_then_writes : {queries : List ℕ} {a b c : Told} → ReadsNoEvents queries a b → SameButOutput b c → ReadsNoEvents queries a c
reads_then_writes r same = record {
  of_queries = queries_then r.of_queries (ap (λ f. f Queries) same.attached) (ap (λ f. f Queries) same.left);
  of_events = ap (λ f. f Events) same.left ∙ r.of_events;
}

-- the events weren't attached
pub reads_no_events : {queries : List ℕ} {old new : Told} (events : List ℕ) (limit : ℕ) → ReadsNoEvents queries old new → new.attached Events ≡ false → ReadsBoth queries events limit old new
reads_no_events events limit r free = record {
  of_queries = r.of_queries;
  unattached = λ e. r.of_events;
  first = λ e. both_ways e free;
  attached = λ e. both_ways e free;
}

-- this is what an accepted text is accepted as
pub accepted_as : (file : Option (List ℕ)) (judged : Judged) (P : Judged → Type 0) → IfSome file (λ text. Accepts text judged) → P judged → IfSome file (λ text. IsAcceptedWith text P)
accepted_as None judged P accepts holds = tt
accepted_as (Some text) judged P accepts holds = record { judged = judged; accepts = accepts; holds = holds }

module _ {queries : List ℕ} {judged : Judged} {first before : Told} (events : List ℕ) (limit : ℕ) (has : HasAccepted queries judged first before) (r : ReadsQueries queries first before) where
  -- the queries were accepted, and the events couldn't be attached
  pub reads_before_events : {new : Told} → AttachFails events before new → before.attached Events ≡ false → ReadsBoth queries events limit first new
  reads_before_events {new} fails free =
      let unattached : new.attached Events ≡ false = ap (λ f. f Events) fails.attached ∙ free in
      record {
        of_queries = queries_then r (ap (λ f. f Queries) fails.attached) (ap (λ f. f Queries) fails.left);
        unattached = λ e. ap (λ f. f Events) fails.left ∙ has.events;
        first = λ e. both_ways e unattached;
        attached = λ e. both_ways e unattached;
      }

  -- the events were attached, and read
  pub reads_events : {mid new : Told} → Attaches Events events before mid → HearsAlone mid new → StopsInPiece (set_of judged) limit (mid.left Events) (new.left Events) → ReadsBoth queries events limit first new
  reads_events {mid} {new} attaches alone stops =
      let same_queries : new.left Queries ≡ before.left Queries = alone.queries ∙ ap (λ f. f Queries) attaches.left in
      let text : mid.left Events ≡ file_of events first.files = ap (λ f. f Events) attaches.left ∙ ap (file_of events) has.files in
      record {
        of_queries = queries_then r (ap (λ f. f Queries) alone.attached ∙ ap (λ f. f Queries) attaches.attached) same_queries;
        unattached = λ e. both_ways (ap (λ f. f Events) alone.attached ∙ ap (λ f. f Events) attaches.attached) e;
        first = λ e. subst (λ o. IfSome o (λ (rest : List ℕ). rest ≡ [])) (sym same_queries) has.read;
        attached = λ e. accepted_as (file_of queries first.files) judged (λ c. StopsInPiece (set_of c) limit (file_of events first.files) (new.left Events)) has.accepts
            (subst (λ t. StopsInPiece (set_of judged) limit t (new.left Events)) text stops);
      }

-- a write behind the hearing of the events reads nothing
pub alone_then_writes : {a b c : Told} → HearsAlone a b → SameButOutput b c → HearsAlone a c
alone_then_writes alone same = record { attached = same.attached ∙ alone.attached; queries = ap (λ f. f Queries) same.left ∙ alone.queries }

-- nor does it change what was taken of them
pub stops_then_writes : {set : QuerySet} {limit : ℕ} {text : Option (List ℕ)} {b c : Told} → StopsInPiece set limit text (b.left Events) → SameButOutput b c → StopsInPiece set limit text (c.left Events)
stops_then_writes {set} {limit} {text} stops same = subst (StopsInPiece set limit text) (sym (ap (λ f. f Events) same.left)) stops

module _ {set : QuerySet} {limit taken : ℕ} {session : SessionView} {old now : Told} (h : HasHeard set limit taken session old now) where
  -- one more piece was read
  pub stops_in_piece : {rest : Option (List ℕ)} (size : ℕ) (buffer : List ℕ) → length buffer ≤ 65536 → length buffer ≤ limit - taken + 1 → Took size buffer (now.left Events) rest → StopsInPiece set limit (old.left Events) rest
  stops_in_piece {rest} size buffer small room took =
      let cut = length-take size buffer in
      let within = heard_within h in
      let counted = h.counted in record {
        heard = h.bytes;
        piece = take size buffer;
        front = h.front ∙ ap (prepend_known h.bytes) took.front ∙ prepend_known-append h.bytes (take size buffer) rest;
        within = omega (arith, within, counted);
        none_refused = h.stands.none_refused;
        few = omega (arith, cut, small);
        most = let both = length-append h.bytes (take size buffer) in omega (arith, both, cut, within, counted, room);
      }

  -- no more was read
  pub stops_at_read : {rest : Option (List ℕ)} → rest ≡ now.left Events → StopsInPiece set limit (old.left Events) rest
  stops_at_read kept =
      let within = heard_within h in
      let counted = h.counted in record {
        heard = h.bytes;
        piece = [];
        front = h.front ∙ ap (λ bytes. prepend_known bytes (now.left Events)) (sym (append-nil h.bytes)) ∙ ap (prepend_known (h.bytes ++ [])) (sym kept);
        within = omega (arith, within, counted);
        none_refused = h.stands.none_refused;
        few = omega arith;
        most = let both = length-append h.bytes [] in omega (arith, both, within, counted);
      }
