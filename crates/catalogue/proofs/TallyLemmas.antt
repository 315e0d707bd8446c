-- How often expressions read each stream.
use Rattle.std.proofs.Common.{◌≡◌, ◌≢◌, ◌∙◌, ℕ, ◌+◌, ◌-◌, ◌<◌, ◌≤◌, List, [], ◌∷◌, ◌++◌, Bool, cond, length, get_or, set, take, sym, ap, subst, inl, inr, arith, get_or-set_same, get_or-set_other}
use Rattle.std.specs.Prelude.{Some, slice_get}
use Rattle.std.specs.List.{All, remove}
use Rattle.std.proofs.lemmas.Bool.{cases_eq, cases_lt}
use Rattle.std.proofs.lemmas.List.{get_or_past}
use Rattle.std.proofs.lemmas.List.Elements.{All-cons, All-nil}
use Rattle.std.proofs.lemmas.List.Sums.{sum_by-cons, sum_by-remove, sum_by_more, sum_by_push}
use Rattle.std.proofs.lemmas.Option.{get_or_from_slice_get, slice_get_within}
use Rattle.event_types.proofs.NumberLemmas.{is_other, is_same, self_equal}
use Rattle.expressions.specs.declared.expression.Expr.{Expr}
use Rattle.expressions.specs.Views.{ex_of}
use Rattle.semantics.specs.Expressions.{Ex, Read, Filter, Select, Union, Next, Fold}
use Rattle.semantics.specs.Programs.{Query}
use Rattle.semantics.specs.Reading.{ReadsOnly}
use Rattle.stream_schema.specs.Streams.{Entry}
use Rattle.catalogue.specs.declared.numbering.Published.{Published}
use Rattle.catalogue.specs.Catalogued.{queries_of, query_of}
use Rattle.catalogue.specs.Tallies.{AddsReads, AreTallied, HaveReads, reads_all, reads_many}

-- a read of a stream is one of its own
pub own_read : (stream : ℕ) → reads_many stream (Read stream) ≡ 1
own_read stream = ap (λ (b : Bool). cond b 1 0) (self_equal stream)

-- and of no other
pub other_read : (stream other : ℕ) → stream ≢ other → reads_many other (Read stream) ≡ 0
other_read stream other apart = ap (λ (b : Bool). cond b 1 0) (is_other stream other apart)

-- a tally that is one less
pub tally_taken : (tallies : List ℕ) (stream tally : ℕ) → stream < length tallies → tally ≡ get_or tallies stream 0 → 1 ≤ tally → AddsReads (Read stream) (set tallies stream (tally - 1)) tallies
tally_taken tallies stream tally within is some = λ other. elim (cases_eq stream other) [
  | inl same ↦ subst (λ (o : ℕ). get_or tallies o 0 ≡ get_or (set tallies stream (tally - 1)) o 0 + reads_many o (Read stream)) same
      (let new : get_or (set tallies stream (tally - 1)) stream 0 ≡ tally - 1 = get_or-set_same tallies stream (tally - 1) 0 within in omega (arith, new, is, own_read stream, some))
  | inr apart ↦
      let new : get_or (set tallies stream (tally - 1)) other 0 ≡ get_or tallies other 0 = get_or-set_other tallies stream other (tally - 1) 0 (λ same. apart (sym same)) in
      omega (arith, new, other_read stream other apart)
]

-- a stream whose read is tallied has a tally
pub tally_there : (tallies : List ℕ) (stream : ℕ) → HaveReads (Read stream) tallies → (stream < length tallies) × (1 ≤ get_or tallies stream 0)
tally_there tallies stream have =
    let some : 1 ≤ get_or tallies stream 0 = omega (arith, have stream, own_read stream) in (
      elim (cases_lt stream (length tallies)) [
        | inl within ↦ within
        | inr past ↦ absurd (omega (arith, get_or_past tallies stream 0 past, some))
      ],
      some,
    )

-- where a stream has no tally it isn't read
pub unread_none : (stream : ℕ) (e : Ex) → reads_many stream e ≡ 0 → ReadsOnly (λ read. read ≢ stream) e
unread_none stream (Read read) none = λ same. let one : reads_many stream (Read read) ≡ 1 = ap (λ (b : Bool). cond b 1 0) (is_same read stream same) in absurd (omega (arith, one, none))
unread_none stream (Filter p x) none = unread_none stream x none
unread_none stream (Select m x) none = unread_none stream x none
unread_none stream (Union x y) none = (unread_none stream x (omega (arith, none)), unread_none stream y (omega (arith, none)))
unread_none stream (Next p x y) none = (unread_none stream x (omega (arith, none)), unread_none stream y (omega (arith, none)))
unread_none stream (Fold p q m x y) none = (unread_none stream x (omega (arith, none)), unread_none stream y (omega (arith, none)))

-- nor by any of the queries
pub all_unread : (stream : ℕ) (streams : List Entry) (published : List Published) (xs : List Expr) → reads_all stream xs ≡ 0 → All (λ query. ReadsOnly (λ read. read ≢ stream) query.expr) (queries_of streams published xs)
all_unread stream streams [] xs none = All-nil (λ (q : Query). ReadsOnly (λ read. read ≢ stream) q.expr)
all_unread stream streams (p ∷ published) [] none = All-nil (λ (q : Query). ReadsOnly (λ read. read ≢ stream) q.expr)
all_unread stream streams (p ∷ published) (x ∷ xs) none =
    let sum : reads_all stream (x ∷ xs) ≡ reads_many stream (ex_of x) + reads_all stream xs = sum_by-cons (λ (y : Expr). reads_many stream (ex_of y)) x xs in
    All-cons (λ (q : Query). ReadsOnly (λ read. read ≢ stream) q.expr) (query_of streams p x) (queries_of streams published xs) (unread_none stream (ex_of x) (omega (arith, sum, none))) (all_unread stream streams published xs (omega (arith, sum, none)))

-- the tallies with one expression more
pub tallied_more : (xs : List Expr) (old new : List ℕ) (x : Expr) → AreTallied xs old → AddsReads (ex_of x) old new → AreTallied (xs ++ x ∷ []) new
tallied_more xs old new x tallied adds = λ stream. omega (arith, tallied stream, adds stream, sum_by_push (λ (y : Expr). reads_many stream (ex_of y)) xs x)

-- and with one of the first more
pub tallied_next : (xs : List Expr) (place : ℕ) (old new : List ℕ) (x : Expr) → slice_get xs place ≡ Some x → AreTallied (take place xs) old → AddsReads (ex_of x) old new → AreTallied (take (place + 1) xs) new
tallied_next xs place old new x there tallied adds = λ stream.
    let here : get_or xs place x ≡ x = get_or_from_slice_get xs place x x there in
    let sum : reads_all stream (take (place + 1) xs) ≡ reads_all stream (take place xs) + reads_many stream (ex_of x) =
    sum_by_more (λ (y : Expr). reads_many stream (ex_of y)) xs place x (slice_get_within xs place x there) ∙ ap (λ (y : Expr). reads_all stream (take place xs) + reads_many stream (ex_of y)) here in
    omega (arith, tallied stream, adds stream, sum)

module _ (xs : List Expr) (place : ℕ) (x : Expr) (there : slice_get xs place ≡ Some x) (old : List ℕ) (tallied : AreTallied xs old) where
  without : (stream : ℕ) → reads_all stream (remove xs place) + reads_many stream (ex_of x) ≡ reads_all stream xs
  without stream =
      ap (λ (y : Expr). reads_all stream (remove xs place) + reads_many stream (ex_of y)) (sym (get_or_from_slice_get xs place x x there))
      ∙ sum_by-remove (λ (y : Expr). reads_many stream (ex_of y)) xs place x (slice_get_within xs place x there)

  -- the reads of each expression are in the tallies
  pub tallied_one : HaveReads (ex_of x) old
  tallied_one = λ stream. omega (arith, without stream, tallied stream)

  -- without them they are those of the others
  pub tallied_less : (new : List ℕ) → AddsReads (ex_of x) new old → AreTallied (remove xs place) new
  tallied_less new adds = λ stream. omega (arith, without stream, tallied stream, adds stream)
