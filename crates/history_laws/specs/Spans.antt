-- Queries whose conditions limit how long their results span.
use Rattle.std.specs.Prelude.{◌≡◌, ◌⊎◌, ℕ, ◌<◌, ◌≤◌, pos, Bool, true, List, Contains}
use Rattle.std.specs.List.{All}
use Rattle.event_types.specs.declared.comparison.Cmp.TheVariants as cmp
use Rattle.event_types.specs.declared.value.Value.TheVariants as value
use Rattle.semantics.specs.Expressions.{Ex, Read, Filter, Select, Union, Next, Fold}
use Rattle.semantics.specs.Histories.{Event, heard_on}
use Rattle.semantics.specs.Programs.{Program}
use Rattle.semantics.specs.Results.{results}
use Rattle.semantics.specs.Scalars.{Pr, Test, Lit, Dur}
use Rattle.history_laws.specs.LateStarts.{SpansAtMost}

-- one part of the condition is that DUR is at most a number which is no greater than the span
abbrev pub LimitsSpan : ℕ → List Pr → Type 0
LimitsSpan span condition = (most : ℕ) × (most ≤ span) × Contains condition (Test Dur cmp.Le (Lit (value.Int (pos most))))

-- the expression is limited: a stream where it is said to be, FILTER where its condition limits the span or its side is limited, SELECT and UNION where their sides are, NEXT where its condition limits the span, and FOLD where one of its two does
abbrev pub IsLimited : ℕ → (ℕ → Bool) → Ex → Type 0
IsLimited span is_limited (Read stream) = is_limited stream ≡ true
IsLimited span is_limited (Filter p e) = LimitsSpan span p ⊎ IsLimited span is_limited e
IsLimited span is_limited (Select m e) = IsLimited span is_limited e
IsLimited span is_limited (Union e f) = IsLimited span is_limited e × IsLimited span is_limited f
IsLimited span is_limited (Next p e f) = LimitsSpan span p
IsLimited span is_limited (Fold p q m e f) = LimitsSpan span p ⊎ LimitsSpan span q

-- each query whose stream is limited has an expression that is
abbrev pub AreLimited : ℕ → (ℕ → Bool) → Program → Type 0
AreLimited span is_limited program = All (λ query. is_limited query.stream ≡ true → IsLimited span is_limited query.expr) program.order

-- the events of each declared stream that is limited span at most so much
abbrev pub HeardSpanAtMost : ℕ → (ℕ → Bool) → ℕ → List Event → Type 0
HeardSpanAtMost span is_limited declared history = (stream : ℕ) → stream < declared → is_limited stream ≡ true → All (SpansAtMost span) (heard_on history stream)

-- where these events span at most so much, and each query whose stream is limited has an expression that is, so do the results of each stream that is limited
abbrev pub LimitsBoundSpans : Type 0
LimitsBoundSpans =
    (program : Program) (history : List Event) (span : ℕ) (is_limited : ℕ → Bool) → HeardSpanAtMost span is_limited program.declared history → AreLimited span is_limited program
    → (stream time : ℕ) → is_limited stream ≡ true → All (SpansAtMost span) (results program history stream time)
