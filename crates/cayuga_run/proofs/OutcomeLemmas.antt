-- From what was heard of the events to the outcome of the run.
use Rattle.std.proofs.Common.{◌≡◌, ◌∙◌, sym, ap, refl, subst, inl, ℕ, ◌+◌, ◌-◌, ◌<◌, ◌≤◌, List, [], ◌++◌, Bool, true, false, nat_le, Option, Some, None, IfSome, arith, length, take, length-append, append-nil}
use Rattle.std.proofs.lemmas.List.{take_all, take-append-le}
use Rattle.std.proofs.lemmas.Bool.{le-leb, leb-false, leb-true}
use Rattle.std.proofs.Math.Seq.{take-append-add}
use Rattle.std.specs.Io.KnownBytes.{prepend_known}
use Rattle.cay_host.specs.Attaching.{AttachFails, Attaches, SameButSides}
use Rattle.cay_host.specs.Files.{file_of, lacks}
use Rattle.cay_host.specs.declared.side.Side.TheVariants.{Queries, Events}
use Rattle.cay_host.specs.Faults.{Rose}
use Rattle.cay_host.specs.Output.{Wrote, KeepsOutput}
use Rattle.cay_host.specs.Told.{Told}
use Rattle.catalogue.specs.Judgement.{Verdict, Accepted, Accepts, Judged, Judges}
use Rattle.catalogue.proofs.VerdictLemmas.{one_verdict}
use Rattle.courses.specs.declared.refusal.Refusal.{Refusal}
use Rattle.courses.specs.QuerySet.{QuerySet, set_of}
use Rattle.courses.specs.Reports.{refused_in, report_of_closed}
use Rattle.courses.proofs.ClosedLemmas.{reports_grow}
use Rattle.session.specs.WroteFront.{WroteFront}
use Rattle.cayuga_run.specs.Accepting.{IsAcceptedWith}
use Rattle.cayuga_run.specs.Begun.{HasAccepted}
use Rattle.cayuga_run.specs.HearingOutcome.{HearsAlone, HearsFront, HearsRefused, HearsUpTo, TakesEvents}
use Rattle.cayuga_run.specs.RunOutcome.{AreThere, IsAttachFault, IsReadFault, AnswersRefusal, IsTooMuch, IsWriteFault, IsMemory, MemoryText, WritingStopped, is_whole}
use Rattle.cayuga_run.specs.StoppedWriting.{StoppedWriting}
use Rattle.cayuga_run.specs.Works.{Run}
use Rattle.cayuga_run.proofs.GrowingLemmas.{more_bytes}
use Rattle.cayuga_run.proofs.RunLemmas.{Wrote-after}
use Rattle.cayuga_run.proofs.WroteLemmas.{front_of_more}

-- the queries are accepted, the events are attached, and nothing was written
pub record IsRunReady (run : Run) (judged : Judged) (old mid : Told) : Type 0 where
  pub accept : IfSome (file_of run.queries old.files) (λ queries. Accepts queries judged)
  pub there : AreThere run old
  pub events : mid.left Events ≡ file_of run.events old.files
  pub read : IfSome (mid.left Queries) (λ rest. rest ≡ [])
  pub queries_attached : mid.attached Queries ≡ true
  pub events_attached : mid.attached Events ≡ true
  pub silent : KeepsOutput old mid
  pub read_faults : mid.read_faults ≡ old.read_faults
  pub write_faults : mid.write_faults ≡ old.write_faults

-- some text is accepted
is_accepted : (file : Option (List ℕ)) (judged : Judged) → IfSome file (λ t. Accepts t judged) → IfSome file (λ t. IsAcceptedWith t (λ c. Unit {0}))
is_accepted None judged h = tt
is_accepted (Some t) judged h = record { judged = judged; accepts = h; holds = tt }

-- the queries were accepted, and then the events attached
pub ready : (run : Run) (judged : Judged) (old accepted mid : Told) → HasAccepted run.queries judged old accepted → Attaches Events run.events accepted mid → SameButSides accepted mid → IsRunReady run judged old mid
ready run judged old accepted mid has attaches same = record {
  accept = has.accepts;
  there = record { queries = has.there; events = subst (λ files. lacks run.events files ≡ false) has.files attaches.there };
  events = ap (λ f. f Events) attaches.left ∙ ap (file_of run.events) has.files;
  read = subst (λ o. IfSome o (λ (rest : List ℕ). rest ≡ [])) (sym (ap (λ f. f Queries) attaches.left)) has.read;
  queries_attached = ap (λ f. f Queries) attaches.attached ∙ has.attached;
  events_attached = ap (λ f. f Events) attaches.attached;
  silent = record { written = same.written ∙ has.silent.written; lines = same.lines ∙ has.silent.lines };
  read_faults = same.read_faults ∙ has.read_faults;
  write_faults = same.write_faults ∙ has.write_faults;
}

-- the queries were accepted, and then the events couldn't be attached
pub not_ready : (run : Run) (judged : Judged) (old accepted new : Told) → HasAccepted run.queries judged old accepted → AttachFails run.events accepted new → SameButSides accepted new → accepted.attached Events ≡ false
    → IsAttachFault Events run old new
not_ready run judged old accepted new has fails same free = record {
  cause = λ there. subst (λ n. Rose n new.attach_faults) has.attach_faults (fails.cause (subst (λ files. lacks run.events files ≡ false) (sym has.files) there));
  stopped = (ap (λ f. f Queries) fails.attached ∙ has.attached, ap (λ f. f Events) fails.attached ∙ free);
  accepted = λ e. (has.there, is_accepted (file_of run.queries old.files) judged has.accepts);
  unread = ap (λ f. f Events) fails.left ∙ has.events;
  others = subst (λ o. IfSome o (λ (rest : List ℕ). rest ≡ [])) (sym (ap (λ f. f Queries) fails.left)) has.read;
  silent = record { written = same.written ∙ has.silent.written; lines = same.lines ∙ has.silent.lines };
}

-- the claims on both files, from a claim on what was read of them
pub of_both : (a b left : Option (List ℕ)) (judged : Judged) (x : List ℕ) (R : Judged → List ℕ → Type 0)
    → IfSome a (λ queries. Accepts queries judged) → b ≡ prepend_known x left → ((rest : List ℕ) → left ≡ Some rest → R judged (x ++ rest))
    → IfSome a (λ queries. IfSome b (λ events. IsAcceptedWith queries (λ c. R c events)))
of_both None b left judged x R qe be h = tt
of_both (Some q) b None judged x R qe be h = subst (λ o. IfSome o (λ events. IsAcceptedWith q (λ c. R c events))) (sym be) tt
of_both (Some q) b (Some rest) judged x R qe be h =
    subst (λ o. IfSome o (λ events. IsAcceptedWith q (λ c. R c events))) (sym be) (record { judged = judged; accepts = qe; holds = h rest refl })

-- the same of each verdict that the text has
of_verdict : (a b left : Option (List ℕ)) (judged : Judged) (x : List ℕ) (R : Verdict → List ℕ → Type 0)
    → IfSome a (λ queries. Accepts queries judged) → b ≡ prepend_known x left → ((rest : List ℕ) → left ≡ Some rest → R (Accepted judged) (x ++ rest))
    → IfSome a (λ queries. IfSome b (λ events. (v : Verdict) → Judges queries v → R v events))
of_verdict None b left judged x R qe be h = tt
of_verdict (Some q) b None judged x R qe be h = subst (λ o. IfSome o (λ events. (v : Verdict) → Judges q v → R v events)) (sym be) tt
of_verdict (Some q) b (Some rest) judged x R qe be h =
    subst (λ o. IfSome o (λ events. (v : Verdict) → Judges q v → R v events)) (sym be)
    (λ v says. subst (λ w. R w (x ++ rest)) (one_verdict q (Accepted judged) v qe says) (h rest refl))

-- at the end nothing is left
pub at_end : (o : Option (List ℕ)) (rest : List ℕ) → IfSome o (λ r. r ≡ []) → o ≡ Some rest → rest ≡ []
at_end None rest h e = cc
at_end (Some r) rest h e = cc

-- the front of two texts that are joined
pub take_of_both : (n : ℕ) (xs ys : List ℕ) → take n (xs ++ ys) ≡ take n xs ++ take (n - length xs) ys
take_of_both n xs ys = by (nat_le (length xs) n) refl
  where
    by : (b : Bool) → nat_le (length xs) n ≡ b → take n (xs ++ ys) ≡ take n xs ++ take (n - length xs) ys
    by true e =
        let few : length xs ≤ n = leb-true (length xs) n e in
        let sum : length xs + (n - length xs) ≡ n = omega (arith, few) in
        ap (λ m. take m (xs ++ ys)) (sym sum) ∙ take-append-add xs ys (n - length xs) ∙ ap (λ zs. zs ++ take (n - length xs) ys) (sym (take_all n xs few))
    by false e =
        let many : n ≤ length xs = omega (arith, leb-false (length xs) n e) in
        let none : n - length xs ≡ 0 = omega (arith, many) in
        take-append-le n xs ys many ∙ sym (append-nil (take n xs)) ∙ ap (λ m. take n xs ++ take m ys) (sym none)

-- how what was heard stands to the front of the file up to the limit: the text has ended, and it is that front; or the front goes on behind it
data Front (limit : ℕ) (bytes rest : List ℕ) : Bool → Type 0 where
  exact : take limit (bytes ++ rest) ≡ take limit bytes → is_whole limit (bytes ++ rest) ≡ true → Front limit bytes rest true
  grown : (more : List ℕ) → take limit (bytes ++ rest) ≡ take limit bytes ++ more → Front limit bytes rest false

front : (limit : ℕ) (bytes rest : List ℕ) (ended : Bool) → (ended ≡ true → (length bytes ≤ limit) × (rest ≡ [])) → Front limit bytes rest ended
front limit bytes rest true whole =
    let all : bytes ++ rest ≡ bytes = ap (λ r. bytes ++ r) (whole refl).1 ∙ append-nil bytes in
    exact (ap (take limit) all) (ap (is_whole limit) all ∙ le-leb (length bytes) limit (whole refl).0)
front limit bytes rest false whole = grown (take (limit - length bytes) rest) (take_of_both limit bytes rest)

-- where the events were taken so far
place : {limit : ℕ} {bytes : List ℕ} {ended : Bool} {mid new : Told} → TakesEvents limit bytes ended mid new → (rest : List ℕ) → new.left Events ≡ Some rest → Front limit bytes rest ended
place {limit} {bytes} {ended} {mid} {new} takes rest left = front limit bytes rest ended (λ e. ((takes.whole e).0, at_end (new.left Events) rest (takes.whole e).1 left))

module _ (set : QuerySet) (limit : ℕ) (bytes rest : List ℕ) where
  abbrev file : List ℕ
  file = take limit (bytes ++ rest)

  abbrev whole : Bool
  whole = is_whole limit (bytes ++ rest)

  -- a refused line is the refused line of the file, and the report before it is that of the file
  refused_front : (ended : Bool) (refusal : Refusal) → Front limit bytes rest ended → refused_in set (take limit bytes) ended ≡ Some refusal
      → (refused_in set file whole ≡ Some refusal) × (report_of_closed set (take limit bytes) ended ≡ report_of_closed set file whole)
  refused_front true refusal (exact e f) r =
      (ap (λ t. refused_in set t whole) e ∙ ap (refused_in set (take limit bytes)) f ∙ r, ap (report_of_closed set (take limit bytes)) (sym f) ∙ ap (λ t. report_of_closed set t whole) (sym e))
  refused_front false refusal (grown more e) r =
      let here = more_bytes set (take limit bytes) more whole refusal r in
      (ap (λ t. refused_in set t whole) e ∙ here.0, here.1 ∙ ap (λ t. report_of_closed set t whole) (sym e))

  -- the report of the file begins with that of what was heard
  report_front : (ended : Bool) → Front limit bytes rest ended → (more : List ℕ) × (report_of_closed set file whole ≡ report_of_closed set (take limit bytes) ended ++ more)
  report_front true (exact e f) = ([], ap (λ t. report_of_closed set t whole) e ∙ ap (report_of_closed set (take limit bytes)) f ∙ sym (append-nil _))
  report_front false (grown more e) =
      let here = reports_grow set (take limit bytes) more whole in
      (here.0, ap (λ t. report_of_closed set t whole) e ∙ here.1)

-- nothing is left of the queries
pub queries_read : {run : Run} {judged : Judged} {old mid new : Told} → IsRunReady run judged old mid → HearsAlone mid new → IfSome (new.left Queries) (λ rest. rest ≡ [])
queries_read r alone = subst (λ o. IfSome o (λ (rest : List ℕ). rest ≡ [])) (sym alone.queries) r.read

module _ {run : Run} {limit : ℕ} {judged : Judged} {old mid new : Told} (r : IsRunReady run judged old mid) where
  -- a refused line is the outcome of the run
  pub refused_after : (refusal : Refusal) → HearsRefused (set_of judged) limit refusal mid new → AnswersRefusal refusal run limit old new
  refused_after refusal h = record {
    there = r.there;
    text = of_both _ _ (new.left Events) judged h.bytes
        (λ c e. (refused_in (set_of c) (take limit e) (is_whole limit e) ≡ Some refusal) × Wrote (report_of_closed (set_of c) (take limit e) (is_whole limit e)) old new) r.accept (sym r.events ∙ h.heard.takes.front)
        (λ rest e. let here = refused_front (set_of judged) limit h.bytes rest h.ended refusal (place h.heard.takes rest e) h.heard.refused in
        (here.0, Wrote-after r.silent (subst (λ t. Wrote t mid new) here.1 h.heard.wrote)));
  }

  -- so is a write that failed
  pub write_fault_after : HearsAlone mid new → Rose mid.write_faults new.write_faults → StoppedWriting (set_of judged) limit (mid.left Events) mid new → IsWriteFault run limit old new
  write_fault_after alone rose s = record {
    cause = subst (λ n. Rose n new.write_faults) r.write_faults rose;
    there = r.there;
    others = queries_read r alone;
    text = of_both _ _ (new.left Events) judged (s.before ++ s.piece) (λ c e. WritingStopped run.stats (set_of c) limit e old new) r.accept (sym r.events ∙ s.taken)
        (λ rest e. inl (record {
          before = s.before;
          piece = s.piece;
          ended = s.ended;
          taken = ap (prepend_known (s.before ++ s.piece)) (sym e);
          within = s.within;
          few = s.few;
          whole = λ end. subst (λ o. IfSome o (λ text. text ≡ s.before)) (s.taken ∙ ap (prepend_known (s.before ++ s.piece)) e) (s.whole end);
          wrote = record {
            more = s.wrote.more;
            goes_on = s.wrote.goes_on;
            size = s.wrote.size;
            within = s.wrote.within;
            wrote = Wrote-after r.silent s.wrote.wrote;
          };
        }));
  }

  -- so is want of memory
  pub memory_after : HearsFront (set_of judged) limit mid new → IsMemory run limit old new
  memory_after h = record {
    text = of_verdict _ _ (new.left Events) judged h.bytes (λ v e. MemoryText v limit e old new) r.accept (sym r.events ∙ h.takes.front)
        (λ rest e. let here = report_front (set_of judged) limit h.bytes rest h.ended (place h.takes rest e) in
        let longer = subst (λ t. WroteFront t mid new) (sym here.1) (front_of_more here.0 h.wrote) in
        record { size = longer.size; within = longer.within; wrote = Wrote-after r.silent longer.wrote });
    no_queries = λ e. absurd (let wrong : true ≡ false = sym e ∙ r.there.queries in cc);
    no_events = λ e. absurd (let wrong : true ≡ false = sym e ∙ r.there.events in cc);
  }

  -- so are events past the limit
  pub too_much_after : (bytes : List ℕ) → length bytes ≡ limit + 1 → HearsUpTo (set_of judged) limit bytes false None mid new → IsTooMuch run limit old new
  too_much_after bytes long h = record {
    there = r.there;
    taken = record { taken = bytes; size = long; front = sym r.events ∙ h.takes.front };
    text = of_both _ _ (new.left Events) judged bytes
        (λ c e. (limit < length e) × (refused_in (set_of c) (take limit e) false ≡ None) × Wrote (report_of_closed (set_of c) (take limit e) false) old new) r.accept (sym r.events ∙ h.takes.front)
        (λ rest e.
        let enough : limit ≤ length bytes = omega (arith, long) in
        let size = length-append bytes rest in
        let cut = sym (take-append-le limit bytes rest enough) in (
          omega (arith, long, size),
          subst (λ t. refused_in (set_of judged) t false ≡ None) cut h.refused,
          Wrote-after r.silent (subst (λ t. Wrote (report_of_closed (set_of judged) t false) mid new) cut h.wrote),
        ));
  }

  -- so is a read that failed
  pub read_fault_after : HearsAlone mid new → Rose mid.read_faults new.read_faults → (bytes : List ℕ) → length bytes ≤ limit → HearsUpTo (set_of judged) limit bytes false None mid new → IsReadFault Events run limit old new
  read_fault_after alone rose bytes within h = record {
    cause = subst (λ n. Rose n new.read_faults) r.read_faults rose;
    attached = ap (λ f. f Events) alone.attached ∙ r.events_attached;
    queries = λ e. cc;
    events = λ _. record {
      there = r.there;
      others = queries_read r alone;
      text = of_both _ _ (new.left Events) judged bytes
          (λ c e. (taken : List ℕ) × (Some e ≡ prepend_known taken (new.left Events)) × (length taken ≤ limit) × (refused_in (set_of c) taken false ≡ None) × Wrote (report_of_closed (set_of c) taken false) old new) r.accept (sym r.events ∙ h.takes.front)
          (λ rest e.
          let few = take_all limit bytes within in (
            bytes,
            ap (prepend_known bytes) (sym e),
            within,
            ap (λ t. refused_in (set_of judged) t false) (sym few) ∙ h.refused,
            Wrote-after r.silent (subst (λ t. Wrote (report_of_closed (set_of judged) t false) mid new) few h.wrote),
          ));
    };
  }
