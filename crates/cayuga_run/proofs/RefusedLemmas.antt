-- The answers that the verdict on the query text allows.
use Rattle.std.proofs.Common.{◌≡◌, refl, subst, ℕ, ◌-◌, ◌^◌, ◌<◌, List, Option, Some, None, IfSome, arith}
use Rattle.cay_host.specs.Faults.{Rose}
use Rattle.catalogue.specs.declared.fault.QueryFault.{QueryFault}
use Rattle.catalogue.specs.Judgement.{Verdict, Accepted, Refused, Circle, Judges, Judged, Refuses, Circles}
use Rattle.catalogue.proofs.VerdictLemmas.{one_verdict}
use Rattle.cayuga_run.specs.declared.status.Status.{Status}
use Rattle.cayuga_run.specs.declared.status.Status.TheVariants.{BadQuery, Cycle}
use Rattle.cayuga_run.specs.Accepting.{IsAcceptedWith}
use Rattle.cayuga_run.specs.Expected.{AnswersRefused, IsUnlessFault}

-- a claim on what is there from another
pub for_some : {X : Type 0} (o : Option X) (P Q : X → Type 0) → ((x : X) → P x → Q x) → IfSome o P → IfSome o Q
for_some None P Q f h = tt
for_some (Some x) P Q f h = f x h

-- a claim on whatever is there
pub all_some : {X : Type 0} (o : Option X) {P : X → Type 0} → ((x : X) → P x) → IfSome o P
all_some None f = tt
all_some (Some x) f = f x

-- each verdict that the text has allows the status
abbrev pub Answered : Status → List ℕ → Type 0
Answered status text = (v : Verdict) → Judges text v → AnswersRefused v status

-- an accepted text has any answer
pub accepted_answers : (text : List ℕ) (status : Status) (P : Judged → Type 0) → IsAcceptedWith text P → Answered status text
accepted_answers text status P h v judged = subst (λ w. AnswersRefused w status) (one_verdict text (Accepted h.judged) v h.accepts judged) tt

-- an answer that any refusal allows
pub free_answers : (o : Option (List ℕ)) (status : Status) → ((asked : Status) → IsUnlessFault asked status) → IfSome o (Answered status)
free_answers None status f = tt
free_answers (Some q) status f = λ v judged. by_verdict v
  where
    by_verdict : (v : Verdict) → AnswersRefused v status
    by_verdict (Accepted judged) = tt
    by_verdict (Refused line why) = f (BadQuery line why)
    by_verdict (Circle names) = f (Cycle names)

-- a refused text has its refusal as the answer
pub refused_text : (file : Option (List ℕ)) (line : ℕ) (why : QueryFault) → IfSome file (λ q. Refuses q line why) → IfSome file (Answered (BadQuery line why))
refused_text file line why h =
    for_some file (λ q. Refuses q line why) (Answered (BadQuery line why))
    (λ q r v judged. subst (λ w. AnswersRefused w (BadQuery line why)) (one_verdict q (Refused line why) v r judged) refl) h

-- a cycle in the text is the answer
pub circle_text : (file : Option (List ℕ)) (names : List (List ℕ)) → IfSome file (λ q. Circles q names) → IfSome file (Answered (Cycle names))
circle_text file names h =
    for_some file (λ q. Circles q names) (Answered (Cycle names))
    (λ q c v judged. subst (λ w. AnswersRefused w (Cycle names)) (one_verdict q (Circle names) v c judged) refl) h

-- a count that didn't rise and is below its end
pub no_rise : (before now : ℕ) → Rose before now → now ≡ before → before < 2 ^ 64 - 1 → ⊥
no_rise before now r e b = omega (arith, r, e, b)
