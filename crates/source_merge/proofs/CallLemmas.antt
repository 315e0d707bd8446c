-- What a merge gives, over every list of calls.
use Rattle.std.proofs.Common.{◌≡◌, ◌∙◌, sym, ap, refl, subst, ℕ, ◌≤◌, Bool, true, false, cond, List, [], ◌∷◌, ◌++◌, Option, Some, None, append_assoc, arith, length, length-append}
use Rattle.std.specs.Prelude.{IsPermutation, filter}
use Rattle.std.specs.Cmp.{IsTotalOrder}
use Rattle.std.specs.List.{All}
use Rattle.std.specs.Option.{unwrap_or}
use Rattle.std.specs.Ordering.{is_gt}
use Rattle.std.proofs.lemmas.Cmp.{on_total}
use Rattle.std.proofs.lemmas.Bool.{cond-false, cond-true, le-ltb, ltb-false}
use Rattle.std.proofs.lemmas.List.{append-nil}
use Rattle.std.proofs.lemmas.List.Elements.{All-cons, All-head, All-nil, All-tail, All-weaker, All-push, filter-append}
use Rattle.std.proofs.lemmas.List.Sorted.{IsPermutation-sym}
use Rattle.event_types.specs.Order.{put}
use Rattle.event_types.proofs.SortLemmas.{sort_permutes}
use Rattle.event_csv.specs.declared.event.Seen.{Seen}
use Rattle.source_merge.specs.declared.source.Source.{Source}
use Rattle.source_merge.specs.Calls.{GivesSettled, IsFront, MergeCall, Merged, after_call, after_calls, after_giving, after_taking, settled_of, unmerged}
use Rattle.source_merge.specs.Merging.{Merging, ending, first_below, next_given, past_first, ranked, taking}
use Rattle.source_merge.specs.Ranks.{NeverFall, Taken, in_order, rank_total, taken_cmp}
use Rattle.source_merge.specs.Sources.{bound, is_below, is_late, turn_in, watermark}
use Rattle.source_merge.proofs.RankLemmas.{greater_if_later, put_never_falls, put_past}
use Rattle.source_merge.proofs.SourceLemmas.{below_bound, below_with_end, below_with_time}

-- a time is below the watermark of a merge
abbrev is_below_mark : Merging → Taken → Bool
is_below_mark m t = is_below (watermark m.slack m.sources) t.0.at

-- in their order, the taken events are the given ones and then the held ones; those that were given are below the watermark; and the times of those that are held never fall
pub record IsInStep (m : Merged) : Type 0 where
  pub in_order : in_order m.taken ≡ m.given ++ m.now.held
  pub below : All (λ t. is_below_mark m.now t ≡ true) m.given
  pub rising : NeverFall m.now.held

in_step_at_first : (files slack : ℕ) → IsInStep (unmerged files slack)
in_step_at_first files slack = record { in_order = refl; below = All-nil _; rising = tt }

-- an event that isn't late is greater than those that were given
greater_than_given : (m : Merged) (seen : Seen) (turn : ℕ × Source) → turn_in m.now.sources ≡ Some turn → is_late m.now.slack turn.1 seen.tuple.at ≡ false → IsInStep m
    → All (λ g. is_gt (taken_cmp (ranked m.now.count turn.0 seen) g) ≡ true) m.given
greater_than_given m seen turn is timely step =
    let from = ltb-false seen.tuple.at (bound m.now.slack turn.1.greatest) timely in
    All-weaker (λ t. is_below_mark m.now t ≡ true) (λ g. is_gt (taken_cmp (ranked m.now.count turn.0 seen) g) ≡ true)
    (λ t below. greater_if_later (ranked m.now.count turn.0 seen) t (let lt = below_bound m.now.slack m.now.sources turn t.0.at is below in omega (arith, lt, from)))
    m.given step.below

-- after an event that isn't late
pub in_step_taking : (m : Merged) (seen : Seen) (turn : ℕ × Source) → turn_in m.now.sources ≡ Some turn → is_late m.now.slack turn.1 seen.tuple.at ≡ false → IsInStep m
    → IsInStep (record { now = taking m.now seen (Some turn); taken = ranked m.now.count turn.0 seen ∷ m.taken; given = m.given })
in_step_taking m seen turn is timely step = record {
  in_order =
      let x = ranked m.now.count turn.0 seen in
      ap (put taken_cmp x) step.in_order ∙ put_past x m.given m.now.held (greater_than_given m seen turn is timely step);
  below =
      All-weaker (λ t. is_below_mark m.now t ≡ true) (λ t. is_below_mark (taking m.now seen (Some turn)) t ≡ true)
      (λ t below. below_with_time m.now.slack m.now.sources turn seen.tuple.at t.0.at is below) m.given step.below;
  rising = put_never_falls (ranked m.now.count turn.0 seen) m.now.held step.rising;
}

-- after an event
in_step_taken : (m : Merged) (seen : Seen) (turn : Option (ℕ × Source)) → turn_in m.now.sources ≡ turn → IsInStep m → IsInStep (after_taking m seen turn)
in_step_taken m seen None is step = step
in_step_taken m seen (Some turn) is step = go (is_late m.now.slack turn.1 seen.tuple.at) refl
  where
    go : (late : Bool) → is_late m.now.slack turn.1 seen.tuple.at ≡ late
        → IsInStep (cond late m (record { now = taking m.now seen (Some turn); taken = ranked m.now.count turn.0 seen ∷ m.taken; given = m.given }))
    go true e = step
    go false e = in_step_taking m seen turn is e step

-- after the end of a file
pub in_step_ended : (m : Merged) (turn : Option (ℕ × Source)) → turn_in m.now.sources ≡ turn → IsInStep m → IsInStep (record { now = ending m.now turn; taken = m.taken; given = m.given })
in_step_ended m None is step = step
in_step_ended m (Some turn) is step = record {
  in_order = step.in_order;
  below =
      All-weaker (λ t. is_below_mark m.now t ≡ true) (λ t. is_below_mark (ending m.now (Some turn)) t ≡ true)
      (λ t below. below_with_end m.now.slack m.now.sources turn t.0.at is below) m.given step.below;
  rising = step.rising;
}

-- what is given is the first of the held events, and is below the watermark
pub record IsFirst (mark : Option ℕ) (held : List Taken) (t : Taken) : Type 0 where
  pub all : held ≡ t ∷ past_first mark held
  pub below : is_below mark t.0.at ≡ true

pub given_first : (mark : Option ℕ) (held : List Taken) (t : Taken) → first_below mark held ≡ Some t → IsFirst mark held t
given_first mark [] t is = absurd (none_some is)
  where
    none_some : None ≡ Some t → ⊥
    none_some h = cc
given_first mark (u ∷ held) t is = go (is_below mark u.0.at) refl is
  where
    go : (b : Bool) → is_below mark u.0.at ≡ b → cond b (Some u) None ≡ Some t → IsFirst mark (u ∷ held) t
    go true below e =
        let same : u ≡ t = ap (λ o. unwrap_or o t) e in
        record { all = ap (λ more. u ∷ more) (sym (cond-true (is_below mark u.0.at) held (u ∷ held) below)) ∙ ap (λ v. v ∷ past_first mark (u ∷ held)) same; below = ap (λ v. is_below mark v.0.at) (sym same) ∙ below }
    go false below e = absurd (none_some e)
      where
        none_some : None ≡ Some t → ⊥
        none_some h = cc

-- after an event was asked for
pub in_step_given : (m : Merged) (t : Option Taken) → next_given m.now ≡ t → IsInStep m → IsInStep (after_giving m t)
in_step_given m None is step = step
in_step_given m (Some t) is step =
    let first = given_first (watermark m.now.slack m.now.sources) m.now.held t is in
    let past = past_first (watermark m.now.slack m.now.sources) m.now.held in
    record {
      in_order = step.in_order ∙ ap (λ held. m.given ++ held) first.all ∙ sym (append_assoc m.given (t ∷ []) past);
      below = All-push (λ u. is_below_mark m.now u ≡ true) m.given t step.below first.below;
      rising = (subst NeverFall first.all step.rising).1;
    }

in_step_after : (m : Merged) (call : MergeCall) → IsInStep m → IsInStep (after_call m call)
in_step_after m (MergeCall.Takes seen) step = in_step_taken m seen (turn_in m.now.sources) refl step
in_step_after m MergeCall.Ends step = in_step_ended m (turn_in m.now.sources) refl step
in_step_after m MergeCall.Gives step = in_step_given m (next_given m.now) refl step

-- by induction on the calls
pub always_in_step : (calls : List MergeCall) (m : Merged) → IsInStep m → IsInStep (after_calls m calls)
always_in_step [] m step = step
always_in_step (call ∷ calls) m step = always_in_step calls (after_call m call) (in_step_after m call step)

-- where all are below the watermark, none is left out
all_kept : (p : Taken → Bool) (given : List Taken) → All (λ t. p t ≡ true) given → filter p given ≡ given
all_kept p [] all = refl
all_kept p (t ∷ given) all =
    cond-true (p t) (t ∷ filter p given) (filter p given) (All-head (λ t. p t ≡ true) t given all) ∙ ap (λ more. t ∷ more) (all_kept p given (All-tail (λ t. p t ≡ true) t given all))

none_kept : (p : Taken → Bool) (held : List Taken) → All (λ t. p t ≡ false) held → filter p held ≡ []
none_kept p [] all = refl
none_kept p (t ∷ held) all = cond-false (p t) (t ∷ filter p held) (filter p held) (All-head (λ t. p t ≡ false) t held all) ∙ none_kept p held (All-tail (λ t. p t ≡ false) t held all)

-- no later time is below the watermark where one isn't
not_below_later : (mark : Option ℕ) (at other : ℕ) → is_below mark at ≡ false → at ≤ other → is_below mark other ≡ false
not_below_later None at other e le = e
not_below_later (Some mark) at other e le = le-ltb other mark (let from = ltb-false at mark e in omega (arith, from, le))

-- where the first isn't below the watermark, none is
pub none_below : (mark : Option ℕ) (held : List Taken) → NeverFall held → first_below mark held ≡ None → All (λ t. is_below mark t.0.at ≡ false) held
none_below mark [] up is = All-nil _
none_below mark (t ∷ held) up is = go (is_below mark t.0.at) refl is
  where
    go : (b : Bool) → is_below mark t.0.at ≡ b → cond b (Some t) None ≡ None → All (λ t. is_below mark t.0.at ≡ false) (t ∷ held)
    go true below e = absurd (some_none e)
      where
        some_none : Some t ≡ None → ⊥
        some_none h = cc
    go false below e =
        All-cons (λ u. is_below mark u.0.at ≡ false) t held below (All-weaker (λ u. t.0.at ≤ u.0.at) (λ u. is_below mark u.0.at ≡ false) (λ u le. not_below_later mark t.0.at u.0.at below le) held up.0)

-- the settled events are the given ones, and then those of the held ones that are below the watermark
settled_is : (m : Merged) → IsInStep m → settled_of m ≡ m.given ++ filter (is_below_mark m.now) m.now.held
settled_is m step =
    ap (filter (is_below_mark m.now)) step.in_order ∙ filter-append (is_below_mark m.now) m.given m.now.held ∙ ap (λ front. front ++ filter (is_below_mark m.now) m.now.held) (all_kept (is_below_mark m.now) m.given step.below)

-- the event that is given next stands behind the given ones
next_is_next : (m : Merged) → IsInStep m → (t : Taken) → next_given m.now ≡ Some t → IsFront (m.given ++ t ∷ []) (settled_of m)
next_is_next m step t is =
    let past = past_first (watermark m.now.slack m.now.sources) m.now.held in
    let first = given_first (watermark m.now.slack m.now.sources) m.now.held t is in
    let kept = cond-true (is_below_mark m.now t) (t ∷ filter (is_below_mark m.now) past) (filter (is_below_mark m.now) past) first.below in record {
      more = filter (is_below_mark m.now) past;
      is =
          settled_is m step ∙ ap (λ held. m.given ++ filter (is_below_mark m.now) held) first.all ∙ ap (λ more. m.given ++ more) kept
          ∙ sym (append_assoc m.given (t ∷ []) (filter (is_below_mark m.now) past));
    }

-- a list with more behind it isn't the list
not_longer : (given : List Taken) (t : Taken) (more : List Taken) → given ≡ (given ++ t ∷ []) ++ more → ⊥
not_longer given t more e = omega (arith, ap length e, length-append (given ++ t ∷ []) more, length-append given (t ∷ []))

-- where all settled ones are given, none is given next
none_next : (m : Merged) → IsInStep m → m.given ≡ settled_of m → (next : Option Taken) → next_given m.now ≡ next → next_given m.now ≡ None
none_next m step all None is = is
none_next m step all (Some t) is = let front = next_is_next m step t is in absurd (not_longer m.given t front.more (all ∙ front.is))

pub gives_settled : (m : Merged) → IsInStep m → GivesSettled m
gives_settled m step = record {
  front = record { more = filter (is_below_mark m.now) m.now.held; is = settled_is m step };
  next = next_is_next m step;
  whole = (
    λ e. sym (settled_is m step ∙ ap (λ more. m.given ++ more) (none_kept (is_below_mark m.now) m.now.held (none_below (watermark m.now.slack m.now.sources) m.now.held step.rising e)) ∙ append-nil m.given),
    λ all. none_next m step all (next_given m.now) refl,
  );
}

-- the order of taken events is total
taken_total : IsTotalOrder taken_cmp
taken_total = on_total (λ t. t.0) rank_total

pub keeps_events : (m : Merged) → IsInStep m → IsPermutation m.taken (m.given ++ m.now.held)
keeps_events m step = subst (IsPermutation m.taken) step.in_order (IsPermutation-sym _ _ (sort_permutes taken_cmp taken_total m.taken))

pub calls_give_settled : (files slack : ℕ) (calls : List MergeCall) → GivesSettled (after_calls (unmerged files slack) calls)
calls_give_settled files slack calls = gives_settled (after_calls (unmerged files slack) calls) (always_in_step calls (unmerged files slack) (in_step_at_first files slack))

pub calls_keep_events : (files slack : ℕ) (calls : List MergeCall) → let m = after_calls (unmerged files slack) calls in IsPermutation m.taken (m.given ++ m.now.held)
calls_keep_events files slack calls = keeps_events (after_calls (unmerged files slack) calls) (always_in_step calls (unmerged files slack) (in_step_at_first files slack))
