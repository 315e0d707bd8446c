-- Tuples, open events and what waits are read from their bytes.
use Rattle.std.proofs.Common.{◌≡◌, ℕ, ◌≤◌, ltb, false, List, ◌++◌, Ok, refl, sym, ap, subst, ◌∙◌, append_assoc, arith}
use Rattle.std.proofs.lemmas.Bool.{ltb-false, le-ltb}
use Rattle.event_types.specs.Tuple.{TupleView}
use Rattle.snap_codec.specs.declared.fault.SnapFault.TheVariants.{BadByte}
use Rattle.snap_codec.specs.declared.image.Item.{Item}
use Rattle.snap_codec.specs.declared.image.Open.{Open}
use Rattle.snap_codec.specs.Fitting.{IsNumber}
use Rattle.snap_codec.specs.Reading.{◌>>=◌, item_at, list_at, number_at, open_at, place_in, spanned_at, tuple_at, value_at}
use Rattle.snap_codec.specs.Spelling.{item_bytes, list_bytes, number_bytes, open_bytes, tuple_bytes, value_bytes}
use Rattle.snap_codec.proofs.ListReads.{list_reads}
use Rattle.snap_codec.proofs.NumberLemmas.{number_reads}
use Rattle.snap_codec.proofs.Short.{ShortItem, ShortList, ShortOpen, ShortTuple, ShortValue}
use Rattle.snap_codec.proofs.Taking.{IsBytes, Reads, Takes, Takes-then, bind_ok, guard_ok, ok_is}
use Rattle.snap_codec.proofs.ValueLemmas.{value_reads}

-- the values of a tuple are read from their bytes
abbrev vals_reads : (total : ℕ) → Reads (list_bytes value_bytes) (ShortList ShortValue) (list_at value_at total)
vals_reads total = list_reads value_bytes ShortValue value_at value_reads total

-- what a tuple's values are taken as
record IsSpanned (from at : ℕ) (bytes : List ℕ) (tuple : TupleView) (rest : List ℕ) : Type 0 where
  same_from : tuple.from ≡ from
  same_at : tuple.at ≡ at
  in_order : from ≤ at
  vals : Takes bytes (list_bytes value_bytes tuple.vals) rest × ShortList ShortValue tuple.vals

spanned_takes : (place total from at : ℕ) (bytes : List ℕ) (tuple : TupleView) (rest : List ℕ) → IsBytes bytes → spanned_at place total from at bytes ≡ Ok (tuple, rest)
    → IsSpanned from at bytes tuple rest
unfolding spanned_at
spanned_takes place total from at bytes tuple rest fits e =
    let next = list_at value_at total bytes >>= λ vals. Ok (record { vals = vals.0; from = from; at = at }, vals.1) in
    let g = guard_ok (ltb at from) (BadByte place) next (Ok (tuple, rest)) (tuple, rest) refl e in
    let b = bind_ok (list_at value_at total bytes) (λ vals. Ok (record { vals = vals.0; from = from; at = at }, vals.1)) (tuple, rest) g.1 in
    let t = (vals_reads total).takes bytes b.0.0 b.0.1 fits b.1 in
    let made : TupleView × List ℕ = (record { vals = b.0.0; from = from; at = at }, b.0.1) in
    subst (λ (x : TupleView × List ℕ). IsSpanned from at bytes x.0 x.1) (ok_is made (tuple, rest) b.2) (record { same_from = refl; same_at = refl; in_order = ltb-false _ _ g.0; vals = t })

tuple_takes : (total : ℕ) (bytes : List ℕ) (tuple : TupleView) (rest : List ℕ) → IsBytes bytes → tuple_at total bytes ≡ Ok (tuple, rest) → Takes bytes (tuple_bytes tuple) rest × ShortTuple tuple
unfolding tuple_at
tuple_takes total bytes tuple rest fits e =
    let place = place_in total bytes in
    let a = bind_ok (number_at total bytes) (λ from. number_at total from.1 >>= λ at. spanned_at place total from.0 at.0 at.1) (tuple, rest) e in
    let b = bind_ok (number_at total a.0.1) (λ at. spanned_at place total a.0.0 at.0 at.1) (tuple, rest) a.2 in
    let t0 = (number_reads place).takes bytes a.0.0 a.0.1 fits a.1 in
    let t1 = (number_reads (place_in total a.0.1)).takes a.0.1 b.0.0 b.0.1 t0.0.rest_fits b.1 in
    let s = spanned_takes place total a.0.0 b.0.0 b.0.1 tuple rest t1.0.rest_fits b.2 in
    let e12 = Takes-then a.0.1 (number_bytes b.0.0) b.0.1 (list_bytes value_bytes tuple.vals) rest t1.0 s.vals.0 in
    let e02 = Takes-then bytes (number_bytes a.0.0) a.0.1 (number_bytes b.0.0 ++ list_bytes value_bytes tuple.vals) rest t0.0 e12 in
    let same : number_bytes a.0.0 ++ (number_bytes b.0.0 ++ list_bytes value_bytes tuple.vals) ≡ tuple_bytes tuple = λ i. number_bytes (sym s.same_from i) ++ (number_bytes (sym s.same_at i) ++ list_bytes value_bytes tuple.vals) in (
      subst (λ (text : List ℕ). Takes bytes text rest) same e02,
      record { from = subst IsNumber (sym s.same_from) t0.1; at = subst IsNumber (sym s.same_at) t1.1; in_order = omega (arith, s.same_from, s.same_at, s.in_order); vals = s.vals.1 },
    )

spanned_again : (place total : ℕ) (tuple : TupleView) (rest : List ℕ) → ShortTuple tuple → spanned_at place total tuple.from tuple.at (list_bytes value_bytes tuple.vals ++ rest) ≡ Ok (tuple, rest)
unfolding spanned_at
spanned_again place total tuple rest fits =
    let least : ltb tuple.at tuple.from ≡ false = le-ltb _ _ fits.in_order in
    rw (least, (vals_reads total).again tuple.vals rest fits.vals) refl

tuple_again : (total : ℕ) (tuple : TupleView) (rest : List ℕ) → ShortTuple tuple → tuple_at total (tuple_bytes tuple ++ rest) ≡ Ok (tuple, rest)
unfolding tuple_at
tuple_again total tuple rest fits =
    let vals = list_bytes value_bytes tuple.vals ++ rest in
    let behind = number_bytes tuple.at ++ vals in
    let all = number_bytes tuple.from ++ behind in
    let regrouped : tuple_bytes tuple ++ rest ≡ all = append_assoc (number_bytes tuple.from) (number_bytes tuple.at ++ list_bytes value_bytes tuple.vals) rest ∙ ap (λ (x : List ℕ). number_bytes tuple.from ++ x) (append_assoc (number_bytes tuple.at) (list_bytes value_bytes tuple.vals) rest) in
    ap (tuple_at total) regrouped
    ∙ rw ((number_reads (place_in total all)).again tuple.from behind fits.from, (number_reads (place_in total behind)).again tuple.at vals fits.at) (spanned_again (place_in total all) total tuple rest fits)

-- a tuple is read from its bytes
pub tuple_reads : (total : ℕ) → Reads tuple_bytes ShortTuple (tuple_at total)
tuple_reads total = record { takes = tuple_takes total; again = tuple_again total }

open_takes : (total : ℕ) (bytes : List ℕ) (event : Open) (rest : List ℕ) → IsBytes bytes → open_at total bytes ≡ Ok (event, rest) → Takes bytes (open_bytes event) rest × ShortOpen event
unfolding open_at
open_takes total bytes event rest fits e =
    let a = bind_ok (number_at total bytes) (λ place. tuple_at total place.1 >>= λ tuple. Ok (record { place = place.0; tuple = tuple.0 }, tuple.1)) (event, rest) e in
    let b = bind_ok (tuple_at total a.0.1) (λ tuple. Ok (record { place = a.0.0; tuple = tuple.0 }, tuple.1)) (event, rest) a.2 in
    let t0 = (number_reads (place_in total bytes)).takes bytes a.0.0 a.0.1 fits a.1 in
    let t1 = (tuple_reads total).takes a.0.1 b.0.0 b.0.1 t0.0.rest_fits b.1 in
    let both = Takes-then bytes (number_bytes a.0.0) a.0.1 (tuple_bytes b.0.0) b.0.1 t0.0 t1.0 in
    let made : Open × List ℕ = (record { place = a.0.0; tuple = b.0.0 }, b.0.1) in
    subst (λ (x : Open × List ℕ). Takes bytes (open_bytes x.0) x.1 × ShortOpen x.0) (ok_is made (event, rest) b.2) (both, (t0.1, t1.1))

open_again : (total : ℕ) (event : Open) (rest : List ℕ) → ShortOpen event → open_at total (open_bytes event ++ rest) ≡ Ok (event, rest)
unfolding open_at
open_again total event rest fits =
    let behind = tuple_bytes event.tuple ++ rest in
    let regrouped : open_bytes event ++ rest ≡ number_bytes event.place ++ behind = append_assoc (number_bytes event.place) (tuple_bytes event.tuple) rest in
    ap (open_at total) regrouped ∙ rw ((number_reads (place_in total (number_bytes event.place ++ behind))).again event.place behind fits.0, (tuple_reads total).again event.tuple rest fits.1) refl

-- an open event is read from its bytes
pub open_reads : (total : ℕ) → Reads open_bytes ShortOpen (open_at total)
open_reads total = record { takes = open_takes total; again = open_again total }

item_takes : (total : ℕ) (bytes : List ℕ) (item : Item) (rest : List ℕ) → IsBytes bytes → item_at total bytes ≡ Ok (item, rest) → Takes bytes (item_bytes item) rest × ShortItem item
unfolding item_at
item_takes total bytes item rest fits e =
    let a = bind_ok (number_at total bytes) (λ first. tuple_at total first.1 >>= λ tuple. Ok (record { first = first.0; tuple = tuple.0 }, tuple.1)) (item, rest) e in
    let b = bind_ok (tuple_at total a.0.1) (λ tuple. Ok (record { first = a.0.0; tuple = tuple.0 }, tuple.1)) (item, rest) a.2 in
    let t0 = (number_reads (place_in total bytes)).takes bytes a.0.0 a.0.1 fits a.1 in
    let t1 = (tuple_reads total).takes a.0.1 b.0.0 b.0.1 t0.0.rest_fits b.1 in
    let both = Takes-then bytes (number_bytes a.0.0) a.0.1 (tuple_bytes b.0.0) b.0.1 t0.0 t1.0 in
    let made : Item × List ℕ = (record { first = a.0.0; tuple = b.0.0 }, b.0.1) in
    subst (λ (x : Item × List ℕ). Takes bytes (item_bytes x.0) x.1 × ShortItem x.0) (ok_is made (item, rest) b.2) (both, (t0.1, t1.1))

item_again : (total : ℕ) (item : Item) (rest : List ℕ) → ShortItem item → item_at total (item_bytes item ++ rest) ≡ Ok (item, rest)
unfolding item_at
item_again total item rest fits =
    let behind = tuple_bytes item.tuple ++ rest in
    let regrouped : item_bytes item ++ rest ≡ number_bytes item.first ++ behind = append_assoc (number_bytes item.first) (tuple_bytes item.tuple) rest in
    ap (item_at total) regrouped ∙ rw ((number_reads (place_in total (number_bytes item.first ++ behind))).again item.first behind fits.0, (tuple_reads total).again item.tuple rest fits.1) refl

-- what waits is read from its bytes
pub item_reads : (total : ℕ) → Reads item_bytes ShortItem (item_at total)
item_reads total = record { takes = item_takes total; again = item_again total }
