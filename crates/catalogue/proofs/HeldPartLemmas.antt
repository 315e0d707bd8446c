-- The lines and the queries of a catalogue as a query comes and is taken back.
use Rattle.std.proofs.Common.{◌≡◌, ◌∙◌, ℕ, List, [], ◌∷◌, ◌++◌, ◌-◌, length, take, get_or, sym, ap, subst, arith}
use Rattle.std.specs.Prelude.{Some, slice_get}
use Rattle.std.proofs.Math.Seq.{get_or-append_seam, take-append_seam}
use Rattle.std.proofs.lemmas.List.{length_push}
use Rattle.std.proofs.lemmas.Option.{get_or_from_slice_get}
use Rattle.expressions.specs.declared.expression.Expr.{Expr}
use Rattle.stream_schema.specs.Streams.{Entry}
use Rattle.cel_parser.specs.Filed.{Filed}
use Rattle.catalogue.specs.declared.adding.Added.{Added}
use Rattle.catalogue.specs.declared.held_lines.Before.{Before}
use Rattle.catalogue.specs.declared.held_lines.HeldLines.{HeldLines}
use Rattle.catalogue.specs.declared.held_queries.HeldQueries.{HeldQueries}
use Rattle.catalogue.specs.declared.numbering.Published.{Published}
use Rattle.catalogue.specs.Catalogued.{Catalogued}
use Rattle.catalogue.specs.HeldParts.{first_held, first_queries, sizes_held, with_last, with_lines}
use Rattle.catalogue.specs.Tables.{IsHeld, IsKept}
use Rattle.catalogue.specs.Tallies.{StayTallied}

-- what was put behind others is taken back
pub taken_back : {X : Type 0} (xs whole more : List X) (many : ℕ) → whole ≡ xs ++ more → many ≡ length xs → take many whole ≡ xs
taken_back xs whole more many whole_is many_is = (λ i. take (many_is i) (whole_is i)) ∙ take-append_seam xs more

-- what was put last stands there
pub last_is : {X : Type 0} (xs whole : List X) (x there : X) (many : ℕ) → whole ≡ xs ++ x ∷ [] → many ≡ length xs → slice_get whole many ≡ Some there → there ≡ x
last_is xs whole x there many whole_is many_is is = sym (get_or_from_slice_get whole many there x is) ∙ (λ i. get_or (whole_is i) (many_is i) x) ∙ get_or-append_seam xs x [] x

-- lines that were put are taken back
pub lines_back : (held : HeldLines) (before : Before) → before ≡ sizes_held held → length held.shares.streams ≡ length held.shares.lines → (whole : HeldLines) (told : Added) → whole ≡ with_lines held told → first_held whole before ≡ held
lines_back held before is even whole told whole_is =
    let first = taken_back held.lines whole.lines told.lines before.lines (ap (λ (h : HeldLines). h.lines) whole_is) (ap (λ (b : Before). b.lines) is) in
    let ends = taken_back held.ends whole.ends told.ends before.ends (ap (λ (h : HeldLines). h.ends) whole_is) (ap (λ (b : Before). b.ends) is) in
    let lines = taken_back held.shares.lines whole.shares.lines (length told.lines ∷ []) before.shares (ap (λ (h : HeldLines). h.shares.lines) whole_is) (ap (λ (b : Before). b.shares) is) in
    let streams = taken_back held.shares.streams whole.shares.streams (length told.growth.order ∷ []) before.shares (ap (λ (h : HeldLines). h.shares.streams) whole_is) (ap (λ (b : Before). b.shares) is ∙ sym even) in
    let worked = taken_back held.layout.order whole.layout.order told.growth.order before.sizes.worked (ap (λ (h : HeldLines). h.layout.order) whole_is) (ap (λ (b : Before). b.sizes.worked) is) in
    let printed = taken_back held.layout.outs whole.layout.outs told.growth.outs before.sizes.printed (ap (λ (h : HeldLines). h.layout.outs) whole_is) (ap (λ (b : Before). b.sizes.printed) is) in
    let typed = taken_back held.layout.kinds whole.layout.kinds told.growth.kinds before.sizes.all (ap (λ (h : HeldLines). h.layout.kinds) whole_is) (ap (λ (b : Before). b.sizes.all) is) in
    λ i. record { lines = first i; ends = ends i; shares = record { lines = lines i; streams = streams i }; layout = record { order = worked i; outs = printed i; kinds = typed i } }

-- a query that was put is taken back
pub queries_back : (work whole : HeldQueries) (publication : Published) (x : Expr) → whole ≡ with_last work publication x → length work.published ≡ length work.order → length work.expressions ≡ length work.order → first_queries whole (length whole.order - 1) ≡ work
queries_back work whole publication x whole_is published expressions =
    let order_is : whole.order ≡ work.order ++ length work.order ∷ [] = ap (λ (w : HeldQueries). w.order) whole_is in
    let queries : ℕ = length whole.order - 1 in
    let many : queries ≡ length work.order = omega (arith, ap length order_is, length_push work.order (length work.order)) in
    let order_back = taken_back work.order whole.order (length work.order ∷ []) queries order_is many in
    let published_back = taken_back work.published whole.published (publication ∷ []) queries (ap (λ (w : HeldQueries). w.published) whole_is) (many ∙ sym published) in
    let expressions_back = taken_back work.expressions whole.expressions (x ∷ []) queries (ap (λ (w : HeldQueries). w.expressions) whole_is) (many ∙ sym expressions) in
    λ i. record { order = order_back i; published = published_back i; expressions = expressions_back i }

-- the catalogue of these parts
abbrev pub view_of : Filed → ℕ → List Entry → HeldQueries → HeldLines → ℕ → Catalogued
view_of file declared streams work chains next_end = record {
  file = file;
  declared = declared;
  streams = streams;
  order = work.order;
  published = work.published;
  expressions = work.expressions;
  ends = chains.ends;
  next_end = next_end;
  layout = chains.layout;
}

-- a catalogue is kept whose parts are what they were
pub kept_back : (file : Filed) (declared : ℕ) (streams : List Entry) (work : HeldQueries) (chains : HeldLines) (next_end : ℕ) (reads : List ℕ) (size : ℕ)
    → IsKept (view_of file declared streams work chains next_end) chains.lines chains.shares reads size → (now_streams : List Entry) (now_work : HeldQueries) (now_chains : HeldLines) (now_reads : List ℕ)
    → now_streams ≡ streams → now_work ≡ work → now_chains ≡ chains → StayTallied reads now_reads → IsKept (view_of file declared now_streams now_work now_chains next_end) now_chains.lines now_chains.shares now_reads size
kept_back file declared streams work chains next_end reads size kept now_streams now_work now_chains now_reads streams_are work_is chains_are stay =
    let held = kept.held in
    let tallied : IsHeld (view_of file declared streams work chains next_end) chains.lines chains.shares now_reads = record { stands = held.stands; lines_are = held.lines_are; shared = held.shared; tallied = λ stream. stay stream ∙ held.tallied stream } in
    let still : IsKept (view_of file declared streams work chains next_end) chains.lines chains.shares now_reads size = record { held = tallied; sized = kept.sized } in
    subst (λ (s : List Entry × HeldQueries × HeldLines). IsKept (view_of file declared s.0 s.1 s.2 next_end) s.2.lines s.2.shares now_reads size) (λ i. (sym streams_are i, sym work_is i, sym chains_are i)) still
