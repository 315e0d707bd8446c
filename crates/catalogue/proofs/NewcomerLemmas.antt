-- Queries that come: no birth is later, and their streams are new.
use Rattle.std.proofs.Common.{◌≡◌, ◌∙◌, inl, inr, sym, ap, append-nil, subst, ℕ, ◌==◌, ◌||◌, false, List, [], ◌∷◌, ◌++◌, length, arith}
use Rattle.std.specs.Prelude.{IsTrue, Option, None, slice_get}
use Rattle.std.proofs.lemmas.Bool.{cases_lt}
use Rattle.std.proofs.lemmas.Grind.{flat_map-append}
use Rattle.std.proofs.lemmas.List.Folds.{list_any-append}
use Rattle.std.proofs.lemmas.Option.{slice_get_past}
use Rattle.automaton.specs.Work.{is_in}
use Rattle.semantics.specs.Programs.{Query}
use Rattle.splitter.specs.Chains.{chain_order, work_order}
use Rattle.splitter.specs.Laws.{split_order}
use Rattle.splitter.proofs.ChainLemmas.{not_worked}
use Rattle.catalogue.specs.Adding.{AddedQuery}
use Rattle.catalogue.specs.Catalogued.{Catalogued, work_in}
use Rattle.catalogue.specs.Coming.{HasCome, coming}
use Rattle.catalogue.specs.Newcomers.{NewcomersAreUnknown, NoneIsLatest}
use Rattle.catalogue.specs.Standing.{IsUpTo, StandsInOrder}

-- no birth is none
pub none_is_latest : NoneIsLatest
none_is_latest c unchanged k d inside = subst (λ birth. IsUpTo birth None) (sym (unchanged.unborn k d inside)) tt

module _ (old new : Catalogued) (added : AddedQuery) (birth : Option ℕ) (stands : StandsInOrder old) (stands_then : StandsInOrder new) (come : HasCome old added birth new) where
  abbrev query : Query
  query = coming old added birth

  abbrev own : List ℕ
  own = split_order query.expr query.stream query.hidden

  -- the streams of the query are worked on behind the others
  pub order_is : new.layout.order ≡ old.layout.order ++ own
  order_is =
      stands_then.laid.order ∙ ap work_order come.program ∙ flat_map-append (λ (q : Query). split_order q.expr q.stream q.hidden) (work_in old) (query ∷ [])
      ∙ ap (λ ns. chain_order (work_in old) ++ ns) (append-nil own) ∙ ap (λ ns. ns ++ own) (sym stands.laid.order)

  unknown : (stream : ℕ) → IsTrue (is_in new.layout.order stream) → is_in old.layout.order stream ≡ false → slice_get old.layout.kinds stream ≡ None
  unknown stream comes lacks = elim (cases_lt stream (length old.streams)) [
    | inl low ↦ absurd (let none : is_in own stream ≡ false = not_worked query (omega arith) stream low in
        let both : is_in new.layout.order stream ≡ (is_in old.layout.order stream || is_in own stream) = ap (λ ns. is_in ns stream) order_is ∙ list_any-append (λ n. stream == n) old.layout.order own in
        let gone : is_in new.layout.order stream ≡ false = both ∙ (λ i. lacks i || none i) in cc)
    | inr past ↦ slice_get_past old.layout.kinds stream (omega (arith, past, stands.laid.long))
  ]

-- a stream that comes into the order had no kinds
pub newcomers_are_unknown : NewcomersAreUnknown
newcomers_are_unknown old new added birth stands stands_then come = unknown old new added birth stands stands_then come
