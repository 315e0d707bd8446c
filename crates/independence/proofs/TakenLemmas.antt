-- The queries that control lines add and drop.
use Rattle.std.proofs.Common.{◌≡◌, ◌≢◌, ◌∙◌, ℕ, List, [], ◌∷◌, Bool, true, false, cond, refl, sym, ap, subst, inl, inr, arith}
use Rattle.std.specs.Prelude.{Option, Some, None, Contains, find}
use Rattle.std.specs.List.{All}
use Rattle.std.specs.List.Sorted.{IsPermutation}
use Rattle.std.proofs.lemmas.Bool.{cases_Bool}
use Rattle.std.proofs.lemmas.List.Elements.{All-cons, All-head, All-nil, All-weaker, Contains-append_right}
use Rattle.std.proofs.lemmas.List.Sorted.{All-permutation}
use Rattle.semantics.specs.Programs.{Program, Query}
use Rattle.semantics.specs.Reading.{ReadsOnly}
use Rattle.stream_schema.specs.Streams.{Entry, number_of, stream_names}
use Rattle.cel_parser.specs.OneQuery.{IsOneQuery}
use Rattle.cel_types.specs.Statements.{Queries}
use Rattle.catalogue.specs.Adding.{AddedQuery, JudgesAdded, Taken}
use Rattle.catalogue.specs.Adding as adding
use Rattle.catalogue.specs.Counting.{reads}
use Rattle.catalogue.specs.Naming.{name_fault}
use Rattle.catalogue.specs.Statements.{name_of}
use Rattle.catalogue.proofs.CountedLemmas.{unread}
use Rattle.catalogue.proofs.NamingLemmas.{new-name}
use Rattle.catalogue.proofs.StandLemmas.{Contains-map, among-there}
use Rattle.independence.proofs.OwnLemmas.{OwnNames, reads-own}
use Rattle.independence.proofs.PublishedLemmas.{contains-at}
use Rattle.independence.proofs.TableLemmas.{number-found}

-- a text adds this query over streams: it is one query, whose name is new, and typed over them
pub record IsTaken (streams : List Entry) (text : List ℕ) (added : AddedQuery) : Type 0 where
  pub line : ℕ
  pub one : IsOneQuery text added.statement line
  pub absent : number_of (name_of added.statement) streams ≡ None
  pub gives : Queries streams added.statement added.schema added.expr

-- a name without a fault is that of no stream
absent-from : (streams : List Entry) (name : List ℕ) → (found : Option ℕ) → number_of name streams ≡ found → name_fault (stream_names streams) name ≡ None → found ≡ None
absent-from streams name None is free = refl
absent-from streams name (Some n) is free =
    let (e, at, named) = number-found name streams n is in
    let stands : Contains (stream_names streams) name = subst (Contains (stream_names streams)) named (Contains-map (λ (z : Entry). z.name) streams e (contains-at streams n e at)) in
    let yes = among-there (stream_names streams) name stands in
    let no = new-name (stream_names streams) name free in absurd cc

pub taken-is : (streams : List Entry) (text : List ℕ) (added : AddedQuery) → JudgesAdded streams text (Taken added) → IsTaken streams text added
taken-is streams text _ (adding.one {s = s} {line = line} short is (adding.taken new reads gives)) = record { line = line; one = is; absent = absent-from streams (name_of s) (number_of (name_of s) streams) refl new; gives = gives }

-- its names are no retired streams'
pub taken-names : (streams : List Entry) (text : List ℕ) (added : AddedQuery) → IsTaken streams text added → OwnNames added.statement
taken-names streams text added is = All-head OwnNames added.statement [] (reads-own text (added.statement ∷ []) (is.line ∷ []) is.one.reads)

-- what is found passes, and stands there: by induction on the list
pub found-there : {X : Type 0} (p : X → Bool) (xs : List X) (x : X) → find p xs ≡ Some x → Contains xs x × (p x ≡ true)
found-there p [] x e = cc
found-there p (y ∷ ys) x e = elim (cases_Bool (p y)) [
  | inl here ↦ let both : Some y ≡ Some x = sym (ap (λ b. cond b (Some y) (find p ys)) here) ∙ e in let same : y ≡ x = cc in ((0, omega arith, same), ap p (sym same) ∙ here)
  | inr past ↦ let rest = found-there p ys x (sym (ap (λ b. cond b (Some y) (find p ys)) past) ∙ e) in (Contains-append_right (y ∷ []) ys x rest.0, rest.1)
]

-- where nothing is found, none passes: by induction on the list
none-found : {X : Type 0} (p : X → Bool) (xs : List X) → find p xs ≡ None → All (λ x. p x ≡ false) xs
none-found p [] e = All-nil (λ x. p x ≡ false)
none-found p (y ∷ ys) e = elim (cases_Bool (p y)) [
  | inl here ↦ let both = sym (ap (λ b. cond b (Some y) (find p ys)) here) ∙ e in absurd cc
  | inr past ↦ All-cons (λ x. p x ≡ false) y ys past (none-found p ys (sym (ap (λ b. cond b (Some y) (find p ys)) past) ∙ e))
]

-- where the stream of a query has no reader, none reads it
pub none-read : (program : Program) → IsPermutation program.queries program.order → (stream : ℕ) → find (λ (q : Query). reads stream q.expr) program.queries ≡ None → All (λ q. ReadsOnly (λ read. read ≢ stream) q.expr) program.order
none-read program same stream none =
    All-permutation (λ (q : Query). ReadsOnly (λ read. read ≢ stream) q.expr) program.queries program.order same
    (All-weaker (λ (q : Query). reads stream q.expr ≡ false) (λ (q : Query). ReadsOnly (λ read. read ≢ stream) q.expr) (λ q not_read. unread stream q.expr not_read) program.queries
    (none-found (λ (q : Query). reads stream q.expr) program.queries none))
