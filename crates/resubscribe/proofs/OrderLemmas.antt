-- What follows of an order: it is the only one, has each query once, and each after its reads.
use Rattle.std.proofs.Common.{◌≡◌, ◌≢◌, ◌∙◌, ℕ, zero, suc, ◌<◌, List, [], ◌∷◌, ◌++◌, true, false, ◌&&◌, length, get_or, take, refl, sym, ap, subst, inl, inr, arith, append_assoc, append-nil}
use Rattle.std.specs.Prelude.{Some, None, AllPairs, Contains}
use Rattle.std.specs.List.{All, list_all}
use Rattle.std.proofs.Math.Bool.{and-false}
use Rattle.std.proofs.lemmas.Bool.{cases_Bool, not-false}
use Rattle.std.proofs.lemmas.List.Elements.{All-contains, All-nil, All-push, All-weaker}
use Rattle.std.proofs.lemmas.List.Quantifiers.{all_pairs_push}
use Rattle.std.proofs.lemmas.List.Sums.{AllPass-from_list_all}
use Rattle.resubscribe.specs.Laws.{HasEachOnce, StandsAfterReads}
use Rattle.resubscribe.specs.Order.{IsOrder, TakesQuery, first_ready, first_untaken, is_among, is_ready, is_untaken, reads_of}
use Rattle.resubscribe.proofs.AmongLemmas.{Contains-from_among, apart}
use Rattle.resubscribe.proofs.FindLemmas.{find-none, found_below}
use Rattle.resubscribe.proofs.TakeLemmas.{untaken-from_ready}

-- what is taken one by one until none is ready is determined
pub taken_same : (reads : List (List ℕ)) (taken xs ys : List ℕ) → TakesQuery reads taken xs → first_ready reads (taken ++ xs) ≡ None → TakesQuery reads taken ys → first_ready reads (taken ++ ys) ≡ None → xs ≡ ys
taken_same reads taken [] [] h e k f = refl
taken_same reads taken [] (y ∷ ys) h e k f = let e' : first_ready reads taken ≡ None = ap (first_ready reads) (sym (append-nil taken)) ∙ e in let k' : first_ready reads taken ≡ Some y = k.0 in cc
taken_same reads taken (x ∷ xs) [] h e k f = let f' : first_ready reads taken ≡ None = ap (first_ready reads) (sym (append-nil taken)) ∙ f in let h' : first_ready reads taken ≡ Some x = h.0 in cc
taken_same reads taken (x ∷ xs) (y ∷ ys) h e k f =
    let h' : first_ready reads taken ≡ Some x = h.0 in
    let k' : first_ready reads taken ≡ Some y = k.0 in
    let same : x ≡ y = cc in
    let k'' : TakesQuery reads (taken ++ x ∷ []) ys = subst (λ (z : ℕ). TakesQuery reads (taken ++ z ∷ []) ys) (sym same) k.1 in
    let f' : first_ready reads ((taken ++ x ∷ []) ++ ys) ≡ None = ap (λ zs. first_ready reads zs) (append_assoc taken (x ∷ []) ys ∙ ap (λ z. taken ++ z ∷ ys) same) ∙ f in
    let e' : first_ready reads ((taken ++ x ∷ []) ++ xs) ≡ None = ap (first_ready reads) (append_assoc taken (x ∷ []) xs) ∙ e in
    let rest : xs ≡ ys = taken_same reads (taken ++ x ∷ []) xs ys h.1 e' k'' f' in
    cc

-- where none is left, none is ready
pub none_ready-from_none_left : (reads : List (List ℕ)) (taken : List ℕ) → first_untaken reads taken ≡ None → first_ready reads taken ≡ None
none_ready-from_none_left reads taken none =
    find-none (is_ready reads taken) 0 (length reads)
    (λ k low high. ap (λ b. b && list_all (is_among taken) (reads_of reads k)) (found_below (is_untaken taken) (length reads) None none k low (omega arith)))

-- what is ready is a query, isn't taken, and its reads are
pub ready_parts : (reads : List (List ℕ)) (taken : List ℕ) (q : ℕ) → first_ready reads taken ≡ Some q → (q < length reads) × (is_among taken q ≡ false) × (list_all (is_among taken) (reads_of reads q) ≡ true)
ready_parts reads taken q e =
    let first = found_below (is_ready reads taken) (length reads) (Some q) e in (
      first.1,
      untaken-from_ready reads taken q first.2,
      elim (cases_Bool (list_all (is_among taken) (reads_of reads q))) [
        | inl all ↦ all
        | inr some ↦ let unready : is_ready reads taken q ≡ false = ap (λ b. is_untaken taken q && b) some ∙ and-false (is_untaken taken q) in let ready : is_ready reads taken q ≡ true = first.2 in absurd cc
      ],
    )

-- taken queries stay distinct
takes-distinct : (reads : List (List ℕ)) (taken xs : List ℕ) → TakesQuery reads taken xs → AllPairs (λ x y. x ≢ y) taken → AllPairs (λ x y. x ≢ y) (taken ++ xs)
takes-distinct reads taken [] h was = subst (λ (zs : List ℕ). AllPairs (λ x y. x ≢ y) zs) (sym (append-nil taken)) was
takes-distinct reads taken (x ∷ xs) h was =
    subst (λ (zs : List ℕ). AllPairs (λ x y. x ≢ y) zs) (append_assoc taken (x ∷ []) xs)
    (takes-distinct reads (taken ++ x ∷ []) xs h.1 (all_pairs_push (λ x y. x ≢ y) taken x was (apart taken x (ready_parts reads taken x h.0).1)))

-- they are queries
takes-small : (reads : List (List ℕ)) (taken xs : List ℕ) → TakesQuery reads taken xs → All (λ q. q < length reads) taken → All (λ q. q < length reads) (taken ++ xs)
takes-small reads taken [] h was = subst (λ (zs : List ℕ). All (λ q. q < length reads) zs) (sym (append-nil taken)) was
takes-small reads taken (x ∷ xs) h was =
    subst (λ (zs : List ℕ). All (λ q. q < length reads) zs) (append_assoc taken (x ∷ []) xs)
    (takes-small reads (taken ++ x ∷ []) xs h.1 (All-push (λ q. q < length reads) taken x was (ready_parts reads taken x h.0).0))

-- an order has each query once
pub HasEachOnce-order : (reads : List (List ℕ)) (order : List ℕ) → IsOrder reads order → HasEachOnce reads order
HasEachOnce-order reads order is_order = record {
  distinct = takes-distinct reads [] order is_order.taken (λ i j d less within. absurd (omega arith));
  all = λ q. (
    λ there. All-contains (λ x. x < length reads) order q (takes-small reads [] order is_order.taken (All-nil (λ x. x < length reads))) there,
    λ small. Contains-from_among order q (not-false (is_among order q) (found_below (is_untaken order) (length reads) None is_order.none_left q (omega arith) small)),
  );
}

-- each stands after all that it reads
after : (reads : List (List ℕ)) (taken xs : List ℕ) → TakesQuery reads taken xs → (i : ℕ) → i < length xs → All (Contains (taken ++ take i xs)) (reads_of reads (get_or xs i 0))
after reads taken [] h i within = absurd (omega arith)
after reads taken (x ∷ xs) h zero within =
    subst (λ (zs : List ℕ). All (Contains zs) (reads_of reads x)) (sym (append-nil taken))
    (All-weaker (λ r. is_among taken r ≡ true) (Contains taken) (Contains-from_among taken) (reads_of reads x) (AllPass-from_list_all (is_among taken) (reads_of reads x) (ready_parts reads taken x h.0).2))
after reads taken (x ∷ xs) h (suc i) within =
    subst (λ (zs : List ℕ). All (Contains zs) (reads_of reads (get_or xs i 0))) (append_assoc taken (x ∷ []) (take i xs)) (after reads (taken ++ x ∷ []) xs h.1 i (omega arith))

-- in an order each query stands after all that it reads
pub StandsAfterReads-order : (reads : List (List ℕ)) (order : List ℕ) → IsOrder reads order → StandsAfterReads reads order
StandsAfterReads-order reads order is_order = after reads [] order is_order.taken

-- queries have one order
pub one_order : (reads : List (List ℕ)) (order other : List ℕ) → IsOrder reads order → IsOrder reads other → order ≡ other
one_order reads order other h k =
    taken_same reads [] order other h.taken (none_ready-from_none_left reads order h.none_left) k.taken (none_ready-from_none_left reads other k.none_left)
