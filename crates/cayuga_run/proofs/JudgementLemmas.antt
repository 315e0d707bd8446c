-- What one verdict of a query text entails.
use Rattle.std.proofs.Common.{◌≡◌, ◌∙◌, sym, ap, subst, ℕ, ◌+◌, ◌<◌, List, ◌++◌, length, take, count_by, arith}
use Rattle.std.proofs.lemmas.List.{take-append-le}
use Rattle.cel_lexer.specs.Bytes.{is_line_feed}
use Rattle.catalogue.specs.declared.fault.QueryFault.TheVariants.{TooLong}
use Rattle.catalogue.specs.Filing.{long, most_bytes}
use Rattle.catalogue.specs.Judgement.{Accepted, Accepts, Judged, Judges, Refused, Verdict, file}
use Rattle.catalogue.proofs.VerdictLemmas.{one_verdict}
use Rattle.cayuga_run.specs.Expected.{OneStatus, expected_of}

-- a run has at most one status
pub one_status : OneStatus
one_status limit queries events status other a b =
    a.value ∙ ap (λ v. expected_of v limit events) (one_verdict queries a.verdict b.verdict a.judged b.judged) ∙ sym b.value

-- the verdict on a text that is too long
abbrev too_long : List ℕ → Verdict
too_long front = Refused (count_by is_line_feed front + 1) TooLong

-- a text that is past the limit has the verdict of its first bytes, where these are past the limit too
pub past_limit : (bytes rest : List ℕ) (v : Verdict) → most_bytes < length bytes → most_bytes < length (bytes ++ rest) → Judges bytes v → Judges (bytes ++ rest) v
past_limit bytes rest v more longer judged =
    let cut : take most_bytes (bytes ++ rest) ≡ take most_bytes bytes = take-append-le most_bytes bytes rest (omega (arith, more)) in
    let first : Judges (bytes ++ rest) (too_long (take most_bytes bytes)) = subst (λ t. Judges (bytes ++ rest) (too_long t)) cut (file (long longer)) in
    subst (Judges (bytes ++ rest)) (one_verdict bytes (too_long (take most_bytes bytes)) v (file (long more)) judged) first

-- it isn't accepted
pub not_past : (bytes : List ℕ) (judged : Judged) → most_bytes < length bytes → Accepts bytes judged → ⊥
not_past bytes judged more accepts =
    let same : Accepted judged ≡ too_long (take most_bytes bytes) = one_verdict bytes (Accepted judged) (too_long (take most_bytes bytes)) accepts (file (long more)) in
    cc
