use Rattle.std.proofs.Common.{◌≡◌, ◌∙◌, ◌++◌, ◌∷◌, [], map, sym, ap, append_assoc, take, length, arith}
use Rattle.std.specs.List.{range_with_len}
use Rattle.std.proofs.lemmas.List.{map-append, take_all}
use Rattle.std.proofs.lemmas.List.FromFn.{map-range_with_len_more}
use Rattle.semantics.specs.Scalars.{Event}
use Rattle.scalar_expr.specs.Views.{sc_of}
use Rattle.stream_schema.proofs.JoinLemmas.{attr-at}
use Rattle.cel_types.specs.Items.{attr}
use Rattle.cel_types.proofs.MakeLemmas.{extends-all}
use Rattle.cel_types.proofs.SplitLemmas.{take-at}
use Rattle.cel_types.proofs.items.add_all.Goals as goal

pub loop-place-preserved : goal.loop-place-preserved
loop-place-preserved c =
    let schema = c.args.schema.now in
    let place = c.loop-place.place in
    let was = c.args.made.now in
    let one = attr c.name.result.now c.kind.result in
    let there = attr-at schema place c.name.result.now c.kind.result c.name.ensures c.kind.ensures in
    let put = c.in_ok-add_one.ensures in
    record {
      attributes =
          put.attributes ∙ ap (λ front. front ++ one ∷ []) c.loop-place.invariant.attributes ∙ append_assoc was.attributes (take place schema) (one ∷ [])
          ∙ ap (λ more. was.attributes ++ more) (sym (take-at schema place one there));
      terms =
          ap (map sc_of) put.terms ∙ map-append sc_of c.loop-place.made.terms _ ∙ ap (λ front. front ++ Event place ∷ []) c.loop-place.invariant.terms
          ∙ append_assoc (map sc_of was.terms) (map Event (range_with_len 0 place)) (Event place ∷ []) ∙ ap (λ more. map sc_of was.terms ++ more) (sym (map-range_with_len_more Event 0 place place (omega arith)));
    }

pub returns-clause-ok : goal.returns-clause-ok
returns-clause-ok c =
    let schema = c.args.schema.now in
    let place = c.loop-place.place in
    let end : place ≡ length schema = omega arith in
    let attributes = c.loop-place.invariant.attributes ∙ ap (λ more. c.args.made.now.attributes ++ more) (take_all place schema (omega arith)) in
    let terms = c.loop-place.invariant.terms ∙ ap (λ count. map sc_of c.args.made.now.terms ++ map Event (range_with_len 0 count)) end in
    extends-all c.in_default.ensures attributes terms
