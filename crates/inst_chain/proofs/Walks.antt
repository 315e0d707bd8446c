-- What a caller needs who walks along a chain, keeps the values that pass a test and takes the others out.
use Rattle.std.proofs.Common.{◌≡◌, ◌∙◌, sym, ap, subst, ◌+◌, Bool, true, false, cond, drop, length, take, List, [], ◌∷◌, ◌++◌, append_assoc, arith}
use Rattle.std.specs.Prelude.{Option, Some, option_to_list}
use Rattle.std.specs.List.{All, filter}
use Rattle.std.proofs.lemmas.List.Elements.{All-nil, All-cons, All-head, All-tail, All-append, All-same}
use Rattle.inst_chain.specs.Heads.{head}

module _ {X : Type 0} where
  -- the walk goes on past a value that passes the test
  pub steps_on : (test : X → Bool) (passed here passed' here' kept : List X) (x : X) → Some x ≡ head here → test x ≡ true → here' ≡ drop 1 here → passed' ≡ passed ++ take 1 here
      → passed ++ filter test here ≡ kept → passed' ++ filter test here' ≡ kept
  steps_on test passed [] passed' here' kept x first passes rest before inv = absurd (cc)
  steps_on test passed (y ∷ ys) passed' here' kept x first passes rest before inv =
      (λ i. before i ++ filter test (rest i))
      ∙ append_assoc passed (y ∷ []) (filter test ys)
      ∙ ap (λ b. passed ++ cond b (y ∷ filter test ys) (filter test ys)) (sym same)
      ∙ inv
    where
      same : test y ≡ true
      same = let one : x ≡ y = cc in ap test (sym one) ∙ passes

  -- the walk takes a value out that fails it
  pub takes_out : (test : X → Bool) (passed here passed' here' kept : List X) (x : X) (taken : Option X) → Some x ≡ head here → test x ≡ false → taken ≡ head here → here ≡ option_to_list taken ++ here' → passed' ≡ passed
      → passed ++ filter test here ≡ kept → passed' ++ filter test here' ≡ kept
  takes_out test passed [] passed' here' kept x taken first fails is rest before inv = absurd (cc)
  takes_out test passed (y ∷ ys) passed' here' kept x taken first fails is rest before inv =
      (λ i. before i ++ filter test (sym tail i)) ∙ ap (λ b. passed ++ cond b (y ∷ filter test ys) (filter test ys)) (sym same) ∙ inv
    where
      same : test y ≡ false
      same = let one : x ≡ y = cc in ap test (sym one) ∙ fails

      whole : y ∷ ys ≡ y ∷ here'
      whole = rest ∙ ap (λ t. option_to_list t ++ here') is

      tail : ys ≡ here'
      tail = ap (drop 1) whole

  -- what holds of the value where the walk stands, and of those that it passed, holds of those that it passes next
  pub All_passed : (P : X → Type 0) (passed here passed' : List X) (x : X) → Some x ≡ head here → passed' ≡ passed ++ take 1 here → P x → All P passed → All P passed'
  All_passed P passed [] passed' x first before here_too all = absurd (cc)
  All_passed P passed (y ∷ ys) passed' x first before here_too all =
      All-same P passed' (passed ++ y ∷ []) before (All-append P passed (y ∷ []) all (All-cons P y [] (one (λ i. same i) here_too) (All-nil P)))
    where
      same : x ≡ y
      same = cc

      one : x ≡ y → P x → P y
      one e h = subst P e h

  -- what holds of all values ahead holds of the first, and of those behind it
  pub All_first : (P : X → Type 0) (here : List X) (x : X) → Some x ≡ head here → All P here → P x
  All_first P [] x first all = absurd (cc)
  All_first P (y ∷ ys) x first all = let same : y ≡ x = cc in subst P same (All-head P y ys all)

  -- what holds of all items holds of those behind the first
  pub All_behind : (P : X → Type 0) (here here' : List X) → here' ≡ drop 1 here → All P here → All P here'
  All_behind P [] here' e all = All-same P here' [] e all
  All_behind P (y ∷ ys) here' e all = All-same P here' ys e (All-tail P y ys all)

  -- the values ahead that are left after one was taken out
  pub rest_is : (here here' : List X) (x : X) (taken : Option X) → Some x ≡ head here → taken ≡ head here → here ≡ option_to_list taken ++ here' → here' ≡ drop 1 here
  rest_is [] here' x taken first is rest = absurd (cc)
  rest_is (y ∷ ys) here' x taken first is rest = sym (ap (drop 1) (rest ∙ ap (λ t. option_to_list t ++ here') is))

  -- one value fewer is ahead
  pub one_fewer : (here here' : List X) (x : X) → Some x ≡ head here → here' ≡ drop 1 here → length here ≡ length here' + 1
  one_fewer [] here' x first e = absurd (cc)
  one_fewer (y ∷ ys) here' x first e = let same : length here' ≡ length ys = ap length e in omega arith
