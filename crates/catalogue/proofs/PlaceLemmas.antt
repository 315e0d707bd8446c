-- The statement at a place of a file, and the first one with a fault.
use Rattle.std.proofs.Common.{◌≡◌, ◌∙◌, ℕ, zero, suc, ◌+◌, ◌<◌, List, [], ◌∷◌, ◌++◌, length, get_or, take, map, cond, sym, ap, arith, below_more}
use Rattle.std.specs.Prelude.{Option, Some, None, slice_get}
use Rattle.std.proofs.lemmas.List.{get_or-map}
use Rattle.std.proofs.lemmas.Option.{get_or_from_slice_get}
use Rattle.cel_grammar.specs.Trees.{Statement}
use Rattle.catalogue.specs.declared.fault.QueryFault.{QueryFault}
use Rattle.catalogue.specs.First.{HaveNone}
use Rattle.catalogue.specs.Naming.{name_fault, name_fault_at, read_fault, read_fault_at}
use Rattle.catalogue.specs.Statements.{is_query, name_of, names_in, queries_in, query_names, reads_by}
use Rattle.catalogue.proofs.NameLemmas.{names_in-more, queries_in-more, query_names-more}

-- an item of a list is there in its images
pub slice_get-map : {X Y : Type 0} (f : X → Y) (xs : List X) (i : ℕ) (x : X) → slice_get xs i ≡ Some x → slice_get (map f xs) i ≡ Some (f x)
slice_get-map f [] i x e = cc
slice_get-map f (y ∷ xs) zero x e = let same : y ≡ x = cc in ap (λ z. Some (f z)) same
slice_get-map f (y ∷ xs) (suc i) x e = slice_get-map f xs i x e

-- a place with an item is within the list
pub slice_get-within : {X : Type 0} (xs : List X) (i : ℕ) (x : X) → slice_get xs i ≡ Some x → i < length xs
slice_get-within [] i x e = cc
slice_get-within (y ∷ xs) zero x e = omega arith
slice_get-within (y ∷ xs) (suc i) x e = let rest : i < length xs = slice_get-within xs i x e in omega arith

module _ (ss : List Statement) (place : ℕ) (s : Statement) (there : slice_get ss place ≡ Some s) where
  within : place < length ss
  within = slice_get-within ss place s there

  here : get_or ss place s ≡ s
  here = get_or_from_slice_get ss place s s there

  -- its name
  pub name-at : get_or (names_in ss) place [] ≡ name_of s
  name-at = get_or-map name_of ss place s [] within ∙ ap name_of here

  -- the names that it reads
  pub reads-at : get_or (map reads_by ss) place [] ≡ reads_by s
  reads-at = get_or-map reads_by ss place s [] within ∙ ap reads_by here

  -- the fault of its name, behind the names before it
  pub name_fault-at : (names : List (List ℕ)) (fault : Option QueryFault) → names ≡ take place (names_in ss) → fault ≡ name_fault names (name_of s) → name_fault_at ss place ≡ fault
  name_fault-at names fault before is = ap (λ name. name_fault (take place (names_in ss)) name) name-at ∙ ap (λ xs. name_fault xs (name_of s)) (sym before) ∙ sym is

  -- the fault of the names that it reads
  pub read_fault-at : (names : List (List ℕ)) (fault : Option QueryFault) → names ≡ names_in ss → fault ≡ read_fault names (reads_by s) → read_fault_at ss place ≡ fault
  read_fault-at names fault all is = ap (λ xs. read_fault (names_in ss) xs) reads-at ∙ ap (λ xs. read_fault xs (reads_by s)) (sym all) ∙ sym is

  -- the names so far, with its name
  pub names-with : take (place + 1) (names_in ss) ≡ take place (names_in ss) ++ name_of s ∷ []
  names-with = names_in-more ss place s within ∙ ap (λ z. take place (names_in ss) ++ name_of z ∷ []) here

  -- the names of the queries so far, with its name if it is one
  pub query_names-with : query_names (take (place + 1) ss) ≡ query_names (take place ss) ++ cond (is_query s) (name_of s ∷ []) []
  query_names-with = query_names-more ss place s within ∙ ap (λ z. query_names (take place ss) ++ cond (is_query z) (name_of z ∷ []) []) here

  -- the queries so far, with it
  pub queries-with : queries_in (take (place + 1) ss) ≡ queries_in (take place ss) ++ cond (is_query s) (s ∷ []) []
  queries-with = queries_in-more ss place s within ∙ ap (λ z. queries_in (take place ss) ++ cond (is_query z) (z ∷ []) []) here

-- one more statement without a fault
pub HaveNone-more : (f : ℕ → Option QueryFault) (place : ℕ) → HaveNone f place → f place ≡ None → HaveNone f (place + 1)
HaveNone-more f place before now = below_more _ _ before now
