-- What the indexes of a stream find.
use Rattle.std.proofs.Common.{◌≡◌, ◌∙◌, sym, ap, refl, subst, ℕ, Bool, true, false, not, cond, List, [], ◌∷◌, ◌++◌, map}
use Rattle.std.specs.Prelude.{Contains}
use Rattle.std.specs.List.{All, filter, flat_map}
use Rattle.std.specs.List.Sorted.{IsPermutation}
use Rattle.std.proofs.lemmas.Grind.{flat_map-append}
use Rattle.std.proofs.lemmas.List.Elements.{All-append, All-contains_itself, All-filter, All-head, All-map, All-nil, All-tail, All-weaker, filter_passes}
use Rattle.std.proofs.lemmas.List.Folds.{flat_map-map}
use Rattle.std.proofs.lemmas.List.Sorted.{All-permutation, IsPermutation-filter_both, IsPermutation-sym, IsPermutation-trans}
use Rattle.event_types.specs.Tuple.{TupleView}
use Rattle.scalar_expr.proofs.Bags.{flat_map_permuted, permuted_from, permuted_to}
use Rattle.automaton.specs.Networks.{IsNetwork}
use Rattle.automaton.specs.States.{Net}
use Rattle.static_index.specs.Conditions.{Condition, ids_of, matched}
use Rattle.static_index.specs.FixedParts.{all_hold}
use Rattle.static_index.proofs.LawLemmas.{matched_is_looked_up}
use Rattle.stream_readers.specs.Filing.{Filed, filed_to, targets_met, waiting_as}
use Rattle.stream_readers.specs.Finding.{FindsPlain, FindsWays, IsDeaf, IsSilent, plain_waits_on}
use Rattle.stream_readers.specs.Readers.{targets_on}
use Rattle.stream_readers.specs.Targets.{IsTarget, way_of}
use Rattle.stream_readers.specs.Ways.{MeetsParts, Way, is_state_looked_up, parts_at}
use Rattle.stream_readers.proofs.TargetLemmas.{deaf_state, met_target, silent_target, targets_there, targets_ways}

missed : (b : Bool) → not b ≡ true → b ≡ false
missed true is = absurd (cc)
missed false is = refl

every : {X : Type 0} (P : X → Type 0) → ((x : X) → P x) → (xs : List X) → All P xs
every P h xs = All-weaker (Contains xs) P (λ x there. h x) xs (All-contains_itself xs)

-- the way of a target that is filed
abbrev way_to : Net → Filed → List Way
way_to net one = way_of net one.target

-- what holds of the ways to those that pass a test
given : (net : Net) (test : Filed → Bool) (P : Way → Type 0) (filed : List Filed) → All (λ one. test one ≡ true → All P (way_to net one)) filed → All P (flat_map (way_of net) (map (λ one. one.target) (filter test filed)))
given net test P [] all = All-nil P
given net test P (one ∷ filed) all = go (given net test P filed (All-tail (λ (one : Filed). test one ≡ true → All P (way_to net one)) one filed all)) (test one) refl
  where
    go : All P (flat_map (way_of net) (map (λ (one : Filed). one.target) (filter test filed))) → (b : Bool) → test one ≡ b → All P (flat_map (way_of net) (map (λ (one : Filed). one.target) (cond b (one ∷ filter test filed) (filter test filed))))
    go rest true is = All-append P (way_to net one) (flat_map (way_of net) (map (λ (one : Filed). one.target) (filter test filed))) (All-head (λ (one : Filed). test one ≡ true → All P (way_to net one)) one filed all is) rest
    go rest false is = rest

-- the numbers of states whose fixed parts all hold
waits_met : (net : Net) (tuple : TupleView) (numbers : List ℕ) → matched tuple (map (waiting_as net) numbers) ≡ filter (λ n. all_hold tuple (parts_at net n)) numbers
waits_met net tuple [] = refl
waits_met net tuple (n ∷ numbers) = go (all_hold tuple (parts_at net n)) (waits_met net tuple numbers)
  where
    met : List Condition
    met = filter (λ (condition : Condition). all_hold tuple condition.parts) (map (waiting_as net) numbers)

    kept : List ℕ
    kept = filter (λ n. all_hold tuple (parts_at net n)) numbers

    go : (b : Bool) → ids_of met ≡ kept → ids_of (cond b (waiting_as net n ∷ met) met) ≡ cond b (n ∷ kept) kept
    go true rest = ap (λ ns. n ∷ ns) rest
    go false rest = rest

-- a tuple finds the targets of the roots of its stream on which it may get on
pub finds_ways : (net : Net) (stream : ℕ) (tuple : TupleView) (filed : List Filed) → IsNetwork net → IsPermutation filed (map (filed_to net) (targets_on net stream)) → FindsWays net stream tuple (targets_met tuple filed)
finds_ways net stream tuple filed network same = record {
  are = All-map (IsTarget net) (λ (one : Filed). one.target) (filter met filed) (All-filter met (λ one. IsTarget net one.target) filed (each (λ one. IsTarget net one.target) (targets_there net network stream)));
  others = ways (filter unmet filed);
  all =
      permuted_from (parts (filter met filed) (filter unmet filed))
      (permuted_to
      (IsPermutation-trans _ _ _ (flat_map_permuted (way_to net) (filter met filed ++ filter unmet filed) filed (IsPermutation-sym _ _ (IsPermutation-filter_both met unmet (λ one. refl) filed)))
      (flat_map_permuted (way_to net) filed (map (filed_to net) (targets_on net stream)) same))
      (flat_map-map (way_to net) (filed_to net) (targets_on net stream) ∙ targets_ways net stream));
  silent =
      given net unmet (IsSilent net tuple) filed
      (each (λ one. unmet one ≡ true → All (IsSilent net tuple) (way_to net one))
      (every (λ target. unmet (filed_to net target) ≡ true → All (IsSilent net tuple) (way_of net target)) (λ target is. silent_target net tuple target (missed (met (filed_to net target)) is)) (targets_on net stream)));
  met =
      given net met (MeetsParts net tuple) filed
      (each (λ one. met one ≡ true → All (MeetsParts net tuple) (way_to net one))
      (every (λ target. met (filed_to net target) ≡ true → All (MeetsParts net tuple) (way_of net target)) (λ target is. met_target net tuple target is) (targets_on net stream)));
}
  where
    met : Filed → Bool
    met one = all_hold tuple one.parts

    unmet : Filed → Bool
    unmet one = not (all_hold tuple one.parts)

    ways : List Filed → List Way
    ways some = flat_map (way_of net) (map (λ (one : Filed). one.target) some)

    -- what holds of the targets of the roots, as they are filed, holds of all that are filed
    each : (P : Filed → Type 0) → All (λ target. P (filed_to net target)) (targets_on net stream) → All P filed
    each P all = All-permutation P (map (filed_to net) (targets_on net stream)) filed (IsPermutation-sym filed (map (filed_to net) (targets_on net stream)) same) (All-map P (filed_to net) (targets_on net stream) all)

    parts : (some more : List Filed) → ways some ++ ways more ≡ flat_map (way_to net) (some ++ more)
    parts some more =
        ap (λ xs. xs ++ ways more) (flat_map-map (way_of net) (λ (one : Filed). one.target) some)
        ∙ ap (λ xs. flat_map (way_to net) some ++ xs) (flat_map-map (way_of net) (λ (one : Filed). one.target) more) ∙ sym (flat_map-append (way_to net) some more)

-- and the states that wait on the stream and may match it
pub finds_plain : (net : Net) (stream : ℕ) (tuple : TupleView) (conditions : List Condition) → conditions ≡ map (waiting_as net) (plain_waits_on net stream) → FindsPlain net stream tuple (matched tuple conditions)
finds_plain net stream tuple conditions same = record {
  others = filter unmet (plain_waits_on net stream);
  all =
      permuted_from (ap (λ ns. ns ++ filter unmet (plain_waits_on net stream)) found) (IsPermutation-sym (plain_waits_on net stream) (filter met (plain_waits_on net stream) ++ filter unmet (plain_waits_on net stream)) (IsPermutation-filter_both met unmet (λ n. refl) (plain_waits_on net stream)));
  deaf = All-weaker (λ n. unmet n ≡ true) (IsDeaf net tuple) (λ n is. deaf_state net tuple n (missed (met n) is)) (filter unmet (plain_waits_on net stream)) (filter_passes unmet (plain_waits_on net stream));
  looked_up =
      subst (All (λ n. is_state_looked_up net tuple n ≡ true)) (sym found)
      (All-weaker (λ n. met n ≡ true) (λ n. is_state_looked_up net tuple n ≡ true) (λ n is. matched_is_looked_up tuple (parts_at net n) is) (filter met (plain_waits_on net stream)) (filter_passes met (plain_waits_on net stream)));
}
  where
    met : ℕ → Bool
    met n = all_hold tuple (parts_at net n)

    unmet : ℕ → Bool
    unmet n = not (all_hold tuple (parts_at net n))

    found : matched tuple conditions ≡ filter met (plain_waits_on net stream)
    found = ap (matched tuple) same ∙ waits_met net tuple (plain_waits_on net stream)
