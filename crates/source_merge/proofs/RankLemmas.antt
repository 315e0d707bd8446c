-- Events in the order of detection times, files and places.
use Rattle.std.proofs.Common.{◌≡◌, ◌∙◌, sym, ap, refl, ◌<◌, ◌≤◌, Bool, true, false, cond, List, [], ◌∷◌, ◌++◌, arith}
use Rattle.std.specs.declared.cmp.Ordering.{Ordering}
use Rattle.std.specs.declared.cmp.Ordering.TheVariants.{Less, Equal, Greater}
use Rattle.std.specs.Cmp.{nat_cmp_is, ranks}
use Rattle.std.specs.List.{All}
use Rattle.std.specs.Ordering.{MatchOrdering, is_gt, nat_cmp, ordering_then}
use Rattle.std.proofs.lemmas.List.Elements.{All-cons, All-head, All-tail, All-weaker}
use Rattle.std.proofs.lemmas.Map.Lookups.{exact_unsigned}
use Rattle.event_types.specs.Order.{put}
use Rattle.source_merge.specs.declared.rank.Rank.{Rank}
use Rattle.source_merge.specs.Ranks.{NeverFall, Taken, rank_cmp, taken_cmp}

-- what comes behind the detection times in the order
abbrev ties : Rank → Rank → Ordering
ties x y = ordering_then (nat_cmp x.file y.file) (nat_cmp x.place y.place)

-- an event of a later time is greater
pub greater_if_later : (x y : Taken) → y.0.at < x.0.at → is_gt (taken_cmp x y) ≡ true
greater_if_later x y lt = ap (λ o. is_gt (ordering_then o (ties x.0 y.0))) (sym (nat_cmp_is x.0.at y.0.at Greater lt))

-- one that is greater isn't of an earlier time
no_earlier_if_greater : (x y : Taken) → is_gt (taken_cmp x y) ≡ true → y.0.at ≤ x.0.at
no_earlier_if_greater x y = go (nat_cmp x.0.at y.0.at) (ranks x.0.at y.0.at)
  where
    go : (o : Ordering) → MatchOrdering o (x.0.at < y.0.at) (x.0.at ≡ y.0.at) (y.0.at < x.0.at) → is_gt (ordering_then o (ties x.0 y.0)) ≡ true → y.0.at ≤ x.0.at
    go Less r e = absurd (false_true e)
      where
        false_true : false ≡ true → ⊥
        false_true h = cc
    go Equal r e = omega (arith, r)
    go Greater r e = omega (arith, r)

-- one that isn't greater isn't of a later time
no_later_unless_greater : (x y : Taken) → is_gt (taken_cmp x y) ≡ false → x.0.at ≤ y.0.at
no_later_unless_greater x y = go (nat_cmp x.0.at y.0.at) (ranks x.0.at y.0.at)
  where
    go : (o : Ordering) → MatchOrdering o (x.0.at < y.0.at) (x.0.at ≡ y.0.at) (y.0.at < x.0.at) → is_gt (ordering_then o (ties x.0 y.0)) ≡ false → x.0.at ≤ y.0.at
    go Less r e = omega (arith, r)
    go Equal r e = omega (arith, r)
    go Greater r e = absurd (true_false e)
      where
        true_false : true ≡ false → ⊥
        true_false h = cc

-- an event that is greater than those before it is put behind them
pub put_past : (x : Taken) (given held : List Taken) → All (λ g. is_gt (taken_cmp x g) ≡ true) given → put taken_cmp x (given ++ held) ≡ given ++ put taken_cmp x held
put_past x [] held all = refl
put_past x (g ∷ given) held all =
    ap (λ b. cond b (g ∷ put taken_cmp x (given ++ held)) (x ∷ g ∷ (given ++ held))) (All-head (λ g. is_gt (taken_cmp x g) ≡ true) g given all)
    ∙ ap (λ rest. g ∷ rest) (put_past x given held (All-tail (λ g. is_gt (taken_cmp x g) ≡ true) g given all))

-- what holds of an event and of others holds of all of them in order
pub all_put : (P : Taken → Type 0) (x : Taken) (held : List Taken) → P x → All P held → All P (put taken_cmp x held)
all_put P x [] one all = All-cons P x [] one all
all_put P x (y ∷ held) one all = go (all_put P x held one (All-tail P y held all)) (is_gt (taken_cmp x y))
  where
    go : All P (put taken_cmp x held) → (b : Bool) → All P (cond b (y ∷ put taken_cmp x held) (x ∷ y ∷ held))
    go rest true = All-cons P y (put taken_cmp x held) (All-head P y held all) rest
    go rest false = All-cons P x (y ∷ held) one all

-- detection times that never fall do not where one more event is put in its place
pub put_never_falls : (x : Taken) (held : List Taken) → NeverFall held → NeverFall (put taken_cmp x held)
put_never_falls x [] up = (λ k d lt. absurd (omega (arith, lt)), tt)
put_never_falls x (y ∷ held) up = go (put_never_falls x held up.1) (is_gt (taken_cmp x y)) refl
  where
    go : NeverFall (put taken_cmp x held) → (b : Bool) → is_gt (taken_cmp x y) ≡ b → NeverFall (cond b (y ∷ put taken_cmp x held) (x ∷ y ∷ held))
    go rest true e = (all_put (λ u. y.0.at ≤ u.0.at) x held (no_earlier_if_greater x y e) up.0, rest)
    go rest false e =
        let first = no_later_unless_greater x y e in
        (All-cons (λ u. x.0.at ≤ u.0.at) y held first (All-weaker (λ u. y.0.at ≤ u.0.at) (λ u. x.0.at ≤ u.0.at) (λ u le. omega (arith, first, le)) held up.0), up)

-- ranks that tie have one place
pub one_place : (x y : Rank) → rank_cmp x y ≡ Equal → x.place ≡ y.place
one_place x y tied = exact_unsigned x.place y.place (go (nat_cmp x.at y.at) (nat_cmp x.file y.file) tied)
  where
    go : (a b : Ordering) → ordering_then a (ordering_then b (nat_cmp x.place y.place)) ≡ Equal → nat_cmp x.place y.place ≡ Equal
    go Less b e = cc
    go Greater b e = cc
    go Equal Less e = cc
    go Equal Greater e = cc
    go Equal Equal e = e
