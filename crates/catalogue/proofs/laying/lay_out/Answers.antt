use Rattle.std.proofs.Common.{◌≡◌, ◌∙◌, ℕ, ◌+◌, ◌-◌, ◌<◌, ◌^◌, length, map, refl, sym, ap, subst, arith}
use Rattle.std.proofs.lemmas.List.{length-map}
use Rattle.std.specs.List.{All}
use Rattle.expressions.specs.Views.{ex_of}
use Rattle.splitter.specs.Chains.{chain_end}
use Rattle.splitter.specs.Work.{work_of}
use Rattle.catalogue.specs.Parts.{parts_of}
use Rattle.catalogue.proofs.ChainedLemmas.{work_room}
use Rattle.catalogue.proofs.HeldLemmas.{order_numbers, sizes}
use Rattle.catalogue.proofs.LaidLemmas.{all_few, declared_many, each_numbered, published_are}
use Rattle.catalogue.proofs.LoadedLemmas.{from_many}
use Rattle.catalogue.proofs.ShareLemmas.{published_ahead}
use Rattle.catalogue.proofs.laying.lay_out.Goals as goal

-- there are as many statements as declared streams and queries
pub overflow_sub-declared : goal.overflow_sub-declared
overflow_sub-declared c =
    let sum = sizes (parts_of c.args.file.now c.args.typed.now.streams c.args.typed.now.order c.args.typed.now.expressions) c.requires.accepted in
    let size : c.size.result ≡ length c.args.file.now.statements = c.size.ensures.value in
    let queries : c.len.result ≡ length c.args.typed.now.order = c.len.ensures in
    omega (arith, sum, size, queries)

-- the numbers are those of queries
pub places_in-requires : goal.places_in-requires
places_in-requires c = order_numbers (parts_of c.args.file.now c.args.typed.now.streams c.args.typed.now.order c.args.typed.now.expressions) c.requires.accepted

pub of-requires : goal.of-requires
of-requires c = order_numbers (parts_of c.args.file.now c.args.typed.now.streams c.args.typed.now.order c.args.typed.now.expressions) c.requires.accepted

-- numbers are left for hidden streams
pub number_all-requires-clause-room : goal.number_all-requires-clause-room
number_all-requires-clause-room c =
    let declared = declared_many c.args.file.now c.args.typed.now c.requires.accepted c.requires.typed (c.size.result - c.len.result) c.size.result c.len.result c.size.ensures.value c.len.ensures refl in
    subst (λ (n : ℕ). chain_end (work_of n c.args.typed.now.expressions) n < 2 ^ 64) (sym declared)
    (work_room (parts_of c.args.file.now c.args.typed.now.streams c.args.typed.now.order c.args.typed.now.expressions) c.requires.accepted c.requires.typed c.in_ok-places.places c.in_ok-places.ensures)

-- and for the streams of the statements
pub number_all-requires-clause-given : goal.number_all-requires-clause-given
number_all-requires-clause-given c =
    let sum = sizes (parts_of c.args.file.now c.args.typed.now.streams c.args.typed.now.order c.args.typed.now.expressions) c.requires.accepted in
    let size : c.size.result ≡ length c.args.file.now.statements = c.size.ensures.value in
    let queries : c.len.result ≡ length c.args.typed.now.order = c.len.ensures in
    omega (arith, sum, size, queries, c.requires.typed, c.size.type_inv)

-- each query has what it publishes
pub share_all-requires-clause-typed : goal.share_all-requires-clause-typed
share_all-requires-clause-typed c =
    let declared : ℕ = c.size.result - c.len.result in
    ap length c.in_ok-published.ensures ∙ from_many declared (declared + length c.args.typed.now.expressions) c.args.typed.now.expressions

pub share_all-requires-clause-ahead : goal.share_all-requires-clause-ahead
share_all-requires-clause-ahead c =
    let declared : ℕ = c.size.result - c.len.result in
    subst (All (λ query. query.stream < query.hidden)) (sym c.in_ok-published.ensures)
    (published_ahead declared (declared + length c.args.typed.now.expressions) (map ex_of c.args.typed.now.expressions) (omega (arith, length-map c.args.typed.now.expressions ex_of)))

-- numbers are left for the hidden streams of each
pub share_all-requires-clause-numbers : goal.share_all-requires-clause-numbers
share_all-requires-clause-numbers c =
    let declared = declared_many c.args.file.now c.args.typed.now c.requires.accepted c.requires.typed (c.size.result - c.len.result) c.size.result c.len.result c.size.ensures.value c.len.ensures refl in
    each_numbered c.args.file.now c.args.typed.now c.requires.accepted c.requires.typed c.requires.there c.in_ok-chains.chains c.in_ok-chains.ensures c.in_ok-published.published
    (published_are c.args.file.now c.args.typed.now c.requires.accepted c.requires.typed (c.size.result - c.len.result) c.in_ok-published.published declared c.in_ok-published.ensures)

-- and all lines are few
pub share_all-requires-clause-few : goal.share_all-requires-clause-few
share_all-requires-clause-few c =
    all_few c.args.file.now c.args.typed.now c.requires.accepted c.requires.typed c.requires.there c.in_ok-chains.chains c.in_ok-chains.ensures

-- so all is laid out
pub returns : goal.returns
returns c =
    let declared = declared_many c.args.file.now c.args.typed.now c.requires.accepted c.requires.typed (c.size.result - c.len.result) c.size.result c.len.result c.size.ensures.value c.len.ensures refl in
    record {
      declared = declared;
      ordered = c.in_ok-order.ensures;
      chained = c.in_ok-chains.ensures;
      published = published_are c.args.file.now c.args.typed.now c.requires.accepted c.requires.typed (c.size.result - c.len.result) c.in_ok-published.published declared c.in_ok-published.ensures;
      shared = c.in_ok-shares.ensures;
      tallied = c.in_ok-reads.ensures;
    }
