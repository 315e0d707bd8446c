-- A catalogue that is loaded from a query text stands in order.
use Rattle.std.proofs.Common.{◌≡◌, ◌∙◌, ℕ, zero, suc, ◌+◌, ◌-◌, ◌<◌, ◌≤◌, ◌^◌, List, [], ◌∷◌, ◌++◌, true, false, length, get_or, map, refl, sym, ap, subst, inl, inr, arith, append_assoc}
use Rattle.std.specs.Prelude.{◌==◌, ◌↔◌, AllPairs, Contains, Some, slice_get, None}
use Rattle.std.specs.List.{All, position_or_len, range_with_len}
use Rattle.std.proofs.Math.Seq.{get_or-append_seam}
use Rattle.std.proofs.lemmas.Bool.{cases_lt}
use Rattle.std.proofs.lemmas.List.{get_or_append_left, get_or-append_right, get_or-map, length-append, length-map, length_push, map-append}
use Rattle.std.proofs.lemmas.List.Elements.{All-cons, All-nil}
use Rattle.std.proofs.lemmas.List.FromFn.{get_or-map-range_with_len, get_or-range_with_len, length-range_with_len}
use Rattle.std.proofs.lemmas.Option.{get_or_from_slice_get, slice_get-get_or, slice_get_within}
use Rattle.event_types.specs.declared.kind.Kind.{Kind}
use Rattle.automaton.specs.declared.layout.Layout.{Layout}
use Rattle.expressions.specs.declared.expression.Expr.{Expr}
use Rattle.expressions.specs.Views.{ex_of}
use Rattle.semantics.specs.Expressions.{Read}
use Rattle.semantics.specs.Programs.{IsUnborn, Program, Query}
use Rattle.splitter.specs.Chains.{chain_end, end_of, hidden_end, lines_of}
use Rattle.splitter.specs.Layouts.{IsLayoutOf}
use Rattle.splitter.specs.ProgramLaws.{IsWideProgram}
use Rattle.splitter.specs.Splitting as split
use Rattle.splitter.proofs.FewLemmas.{size}
use Rattle.splitter.proofs.NumberedLemmas.{AreNumbered}
use Rattle.splitter.proofs.NumberingLemmas.{parts_up}
use Rattle.stream_schema.specs.Schema.{kinds_of}
use Rattle.stream_schema.specs.Streams.{AreThere, Entry, IsRetired, hidden_entries, hidden_entry, schemas_of, stream_names}
use Rattle.cel_grammar.specs.Views.{statement_of}
use Rattle.cel_types.specs.SourceLaws.{kinds_in}
use Rattle.catalogue.specs.Catalogued.{Catalogued, program_in, queries_of, work_in}
use Rattle.catalogue.specs.Changes.{streams_there}
use Rattle.catalogue.specs.Chained.{kinds_of_each}
use Rattle.catalogue.specs.Judgement.{program_of}
use Rattle.catalogue.specs.Loaded.{HoldsJudged, IsUnchanged}
use Rattle.catalogue.specs.Parts.{IsAccepted, Parts, judged_of, published_from, queries_by}
use Rattle.catalogue.specs.Standing.{AreEnds, IsKnown, IsLayoutOver, IsUpTo, StandsInOrder}
use Rattle.catalogue.proofs.ChainedLemmas.{all_count, kinds_mapped}
use Rattle.catalogue.proofs.ChangeLemmas.{programs_keep_kinds}
use Rattle.catalogue.proofs.FewLemmas.{lines_few}
use Rattle.catalogue.proofs.HeldLemmas.{order_numbers, queries_long}
use Rattle.catalogue.proofs.PartLemmas.{stream_by, streams_reach}
use Rattle.catalogue.proofs.PermutationLemmas.{from_range, range_apart, to_range}
use Rattle.catalogue.proofs.ProgramLemmas.{accepted_are_wide_programs, declared_are_told}
use Rattle.catalogue.proofs.TurnLemmas.{kinds_before, numbered}

-- queries have the names of the streams that they publish behind others, by induction on them
named_by : (front more rest : List Entry) (number hidden : ℕ) (xs : List Expr) → number ≡ length front → length xs ≤ length more
    → queries_of (front ++ (more ++ rest)) (published_from number hidden (map ex_of xs)) xs ≡ queries_by number hidden more xs
named_by front [] rest number hidden [] here reach = refl
named_by front [] rest number hidden (x ∷ xs) here reach = absurd (omega (arith, reach))
named_by front (s ∷ more) rest number hidden [] here reach = refl
named_by front (s ∷ more) rest number hidden (x ∷ xs) here reach =
    let next = (split.parts_of (ex_of x) hidden).next in
    let names : stream_names (front ++ s ∷ (more ++ rest)) ≡ stream_names front ++ s.name ∷ stream_names (more ++ rest) = map-append (λ (e : Entry). e.name) front (s ∷ (more ++ rest)) in
    let long : length (stream_names front) ≡ length front = length-map front (λ e. e.name) in
    let name_is : get_or (stream_names (front ++ s ∷ (more ++ rest))) number [] ≡ s.name =
    (λ i. get_or (names i) ((here ∙ sym long) i) []) ∙ get_or-append_seam (stream_names front) s.name (stream_names (more ++ rest)) [] in
    let moved : (front ++ s ∷ []) ++ (more ++ rest) ≡ front ++ s ∷ (more ++ rest) = append_assoc front (s ∷ []) (more ++ rest) in
    let later : queries_of ((front ++ s ∷ []) ++ (more ++ rest)) (published_from (number + 1) next (map ex_of xs)) xs ≡ queries_by (number + 1) next more xs =
    named_by (front ++ s ∷ []) more rest (number + 1) next xs (omega (arith, here, length_push front s)) (omega (arith, reach)) in
    (λ i. record { name = name_is i; stream = number; hidden = hidden; expr = ex_of x; birth = None } ∷ queries_of (front ++ s ∷ (more ++ rest)) (published_from (number + 1) next (map ex_of xs)) xs)
    ∙ ap (λ qs. record { name = s.name; stream = number; hidden = hidden; expr = ex_of x; birth = None } ∷ qs) (ap (λ es. queries_of es (published_from (number + 1) next (map ex_of xs)) xs) (sym moved) ∙ later)

-- as many publications as expressions
pub from_many : (number hidden : ℕ) (xs : List Expr) → length (published_from number hidden (map ex_of xs)) ≡ length xs
from_many number hidden [] = refl
from_many number hidden (x ∷ xs) = let rest = from_many (number + 1) (split.parts_of (ex_of x) hidden).next xs in omega (arith, rest)

-- none of the queries has a birth
none_born : (number hidden : ℕ) (streams : List Entry) (xs : List Expr) → All IsUnborn (queries_by number hidden streams xs)
none_born number hidden [] xs = All-nil IsUnborn
none_born number hidden (s ∷ streams) [] = All-nil IsUnborn
none_born number hidden (s ∷ streams) (x ∷ xs) =
    let next = (split.parts_of (ex_of x) hidden).next in
    All-cons IsUnborn (record { name = s.name; stream = number; hidden = hidden; expr = ex_of x; birth = None }) (queries_by (number + 1) next streams xs) refl (none_born (number + 1) next streams xs)

-- so births ascend
unborn_ascend : (order : List Query) → All IsUnborn order → AllPairs (λ earlier later. IsUpTo earlier.birth later.birth) order
unborn_ascend order unborn i j d before within = subst (λ birth. IsUpTo birth (get_or order j d).birth) (sym (unborn i d (omega arith))) tt

-- their streams have the next numbers
streams_by : (number hidden : ℕ) (streams : List Entry) (xs : List Expr) → map (λ (q : Query). q.stream) (queries_by number hidden streams xs) ≡ range_with_len number (length (queries_by number hidden streams xs))
streams_by number hidden [] xs = refl
streams_by number hidden (s ∷ streams) [] = refl
streams_by number hidden (s ∷ streams) (x ∷ xs) = ap (λ ns. number ∷ ns) (streams_by (number + 1) (split.parts_of (ex_of x) hidden).next streams xs)

-- the next numbers come to the first ones
pub range_on : (first a b : ℕ) → range_with_len first a ++ range_with_len (first + a) b ≡ range_with_len first (a + b)
range_on first zero b =
    let e : first + 0 ≡ first = omega arith in
    let f : b ≡ 0 + b = omega arith in λ i. range_with_len (e i) (f i)
range_on first (suc a) b =
    let e : first + suc a ≡ first + 1 + a = omega arith in
    let f : suc (a + b) ≡ suc a + b = omega arith in
    ap (λ ns. first ∷ ns) (ap (λ n. range_with_len (first + 1) a ++ range_with_len n b) e ∙ range_on (first + 1) a b) ∙ ap (range_with_len first) f

-- the hidden streams of each end below the end of all, by induction on the queries
end_up : (number hidden next : ℕ) (order : List Query) → AreNumbered number hidden order → next ≤ hidden → next ≤ chain_end order next
end_up number hidden next [] h low = omega arith
end_up number hidden next (query ∷ order) h low =
    let end = hidden_end query in
    let is : end ≡ (split.parts_of query.expr hidden).next = ap (λ n. (split.parts_of query.expr n).next) h.1 in
    let up : hidden ≤ (split.parts_of query.expr hidden).next = parts_up query.expr hidden in
    let rest : end ≤ chain_end order end = end_up (number + 1) (split.parts_of query.expr hidden).next end order h.2 (omega arith) in omega (arith, low, rest, up, is)

ends_within : (number hidden next : ℕ) (order : List Query) → AreNumbered number hidden order → All (λ query. hidden_end query ≤ chain_end order next) order
ends_within number hidden next [] h = All-nil (λ query. hidden_end query ≤ next)
ends_within number hidden next (query ∷ order) h =
    let end = hidden_end query in
    let is : end ≡ (split.parts_of query.expr hidden).next = ap (λ n. (split.parts_of query.expr n).next) h.1 in
    All-cons (λ (q : Query). hidden_end q ≤ chain_end order end) query order (end_up (number + 1) (split.parts_of query.expr hidden).next end order h.2 (omega (arith, is)))
    (ends_within (number + 1) (split.parts_of query.expr hidden).next end order h.2)

module _ (c : Parts) (accepted : IsAccepted c) (typed : length c.expressions ≡ length c.order) (layout : Layout) (laid : IsLayoutOf (program_of (judged_of c)) (kinds_of_each (judged_of c).streams) layout) where
  abbrev program : Program
  program = program_of (judged_of c)

  abbrev all : List Entry
  all = c.declared ++ c.published

  abbrev hidden : List Entry
  hidden = hidden_entries (length all) (end_of program - length all)

  abbrev many_lines : ℕ
  many_lines = length (lines_of program)

  -- the catalogue of the parts
  abbrev pub loaded_of : Catalogued
  loaded_of = record {
    file = c.file;
    declared = length c.declared;
    streams = all ++ hidden;
    order = c.order;
    published = published_from (length c.declared) (length c.file.statements) (map ex_of c.expressions);
    expressions = c.expressions;
    ends = range_with_len 0 many_lines;
    next_end = many_lines;
    layout = layout;
  }

  work_is : work_in loaded_of ≡ program.order
  work_is =
      let reach = streams_reach (length c.declared) (length c.file.statements) c.published c.expressions in
      ap (λ es. queries_of es (published_from (length c.declared) (length c.file.statements) (map ex_of c.expressions)) c.expressions) (append_assoc c.declared c.published hidden)
      ∙ named_by c.declared c.published hidden (length c.declared) (length c.file.statements) c.expressions refl (omega (arith, reach, typed, queries_long c accepted))

  -- it has the same program
  pub program_is : program_in loaded_of ≡ program
  program_is = λ i. record {
    declared = length c.declared;
    queries = map (λ number. get_or (work_is i) (position_or_len (λ other. number == other) c.order) (record { name = []; stream = 0; hidden = 0; expr = Read 0; birth = None })) (range_with_len 0 (length c.order));
    order = work_is i;
  }

  -- each stream is that of a declaration or of a query
  long : length all ≡ length c.declared + length c.order
  long = all_count accepted.accepts.publishes

  hidden_many : length hidden ≡ end_of program - length all
  hidden_many = length-map (range_with_len (length all) (end_of program - length all)) hidden_entry ∙ length-range_with_len (length all) (end_of program - length all)

  lists_many : length (kinds_of_each all) ≡ length all
  lists_many = length-map (schemas_of all) kinds_of ∙ length-map all (λ s. s.schema)

  end_reach : length all ≤ end_of program
  end_reach = let kinds = ap length laid.kinds_are ∙ length-append (kinds_of_each all) laid.hidden in omega (arith, kinds, laid.all_kinds, lists_many)

  whole : length (all ++ hidden) ≡ end_of program
  whole = omega (arith, length-append all hidden, hidden_many, end_reach)

  alike : (stream : ℕ) → stream < length all → kinds_in all stream ≡ kinds_in (all ++ hidden) stream
  alike stream below = kinds_before all hidden (all ++ hidden) refl stream below

  streams_below : All (λ query. query.stream < length all) program.order
  streams_below k d inside =
      let is = stream_by (length c.declared) (length c.file.statements) c.published c.expressions k d inside in omega (arith, is, inside, long, queries_long c accepted)

  wide : IsWideProgram (kinds_in (all ++ hidden)) program
  wide = programs_keep_kinds (kinds_in all) (kinds_in (all ++ hidden)) program (length all) alike streams_below (accepted_are_wide_programs accepted.text (judged_of c) accepted.accepts)

  -- a stream behind the others is hidden
  hidden_at : (stream : ℕ) (d : Entry) → length all ≤ stream → stream < length (all ++ hidden) → get_or (all ++ hidden) stream d ≡ hidden_entry stream
  hidden_at stream d past within =
      let place = stream - length all in
      let small : place < end_of program - length all = omega (arith, past, within, whole) in
      get_or-append_right all hidden (length all) stream d refl past ∙ get_or-map-range_with_len hidden_entry (length all) (end_of program - length all) place stream d small (omega (arith, past))

  told : (stream : ℕ) (entry : Entry) → slice_get (all ++ hidden) stream ≡ Some entry → (entry.declared ≡ true) ↔ (stream < length c.declared)
  told stream entry there =
      let within : stream < length (all ++ hidden) = slice_get_within (all ++ hidden) stream entry there in
      let own : get_or (all ++ hidden) stream entry ≡ entry = get_or_from_slice_get (all ++ hidden) stream entry entry there in
      elim (cases_lt stream (length all)) [
        | inl front ↦
            declared_are_told accepted.text (judged_of c) accepted.accepts stream entry (slice_get-get_or all stream entry front ∙ ap Some (sym (get_or_append_left all hidden entry stream front) ∙ own))
        | inr past ↦
            let other : entry.declared ≡ false = ap (λ (e : Entry). e.declared) (sym own ∙ hidden_at stream entry past within) in
            ((λ is. absurd cc), (λ less. absurd (omega (arith, less, past, long))))
      ]

  -- the streams of the program are all but the hidden ones
  there_are : streams_there program ≡ range_with_len 0 (length all)
  there_are =
      let start : length c.declared ≡ 0 + length c.declared = omega arith in
      ap (λ ns. range_with_len 0 (length c.declared) ++ ns)
      (streams_by (length c.declared) (length c.file.statements) c.published c.expressions ∙ ap (λ n. range_with_len n (length (queries_by (length c.declared) (length c.file.statements) c.published c.expressions))) start)
      ∙ range_on 0 (length c.declared) (length (queries_by (length c.declared) (length c.file.statements) c.published c.expressions))
      ∙ ap (range_with_len 0) (let many = queries_long c accepted in omega (arith, many, long))

  module _ (there : AreThere all) where
    name_at : (stream : ℕ) → stream < length all → slice_get (stream_names (all ++ hidden)) stream ≡ slice_get (stream_names all) stream
    name_at stream below =
        let names : stream_names (all ++ hidden) ≡ stream_names all ++ stream_names hidden = map-append (λ (e : Entry). e.name) all hidden in
        let inside : stream < length (stream_names all) = omega (arith, below, length-map all (λ (e : Entry). e.name)) in
        let inside_all : stream < length (stream_names all ++ stream_names hidden) = omega (arith, inside, length-append (stream_names all) (stream_names hidden)) in
        ap (λ ns. slice_get ns stream) names ∙ slice_get-get_or (stream_names all ++ stream_names hidden) stream [] inside_all
        ∙ ap Some (get_or_append_left (stream_names all) (stream_names hidden) [] stream inside) ∙ sym (slice_get-get_or (stream_names all) stream [] inside)

    hidden_retired : (stream : ℕ) → length all ≤ stream → stream < length (all ++ hidden) → IsRetired (all ++ hidden) stream
    hidden_retired stream past within =
        slice_get-get_or (stream_names (all ++ hidden)) stream [] (omega (arith, within, length-map (all ++ hidden) (λ (e : Entry). e.name)))
        ∙ ap Some (get_or-map (λ (e : Entry). e.name) (all ++ hidden) stream (hidden_entry stream) [] within ∙ ap (λ (e : Entry). e.name) (hidden_at stream (hidden_entry stream) past within))

    known : (stream : ℕ) → Contains (streams_there program) stream ↔ IsKnown (all ++ hidden) stream
    known stream = (
      (λ has.
          let below : stream < length all = from_range (length all) stream (subst (λ ns. Contains ns stream) there_are has) in
          record { within = omega (arith, below, length-append all hidden); named = λ retired. there stream (sym (name_at stream below) ∙ retired) }),
      (λ is. elim (cases_lt stream (length all)) [
        | inl below ↦ subst (λ ns. Contains ns stream) (sym there_are) (to_range (length all) stream below)
        | inr past ↦ absurd (is.named (hidden_retired stream past is.within))
      ]),
    )

    kinds_at : (stream : ℕ) → stream < length all → slice_get layout.kinds stream ≡ Some (kinds_in (all ++ hidden) stream)
    kinds_at stream below =
        let inside : stream < length (kinds_of_each all) = omega (arith, below, lists_many) in
        let inside_all : stream < length layout.kinds = omega (arith, below, end_reach, laid.all_kinds) in
        slice_get-get_or layout.kinds stream [] inside_all
        ∙ ap Some (ap (λ (ks : List (List Kind)). get_or ks stream []) laid.kinds_are ∙ get_or_append_left (kinds_of_each all) laid.hidden [] stream inside ∙ kinds_mapped (schemas_of all) stream ∙ alike stream below)

    -- the layout is one over its streams
    laid_over : IsLayoutOver (all ++ hidden) program layout
    laid_over = record {
      order = laid.order;
      outs = laid.outs;
      long = laid.all_kinds ∙ sym whole;
      kinds = subst (All (λ stream. slice_get layout.kinds stream ≡ Some (kinds_in (all ++ hidden) stream))) (sym there_are)
          (λ k d inside.
          let small : k < length all = subst (λ n. k < n) (length-range_with_len 0 (length all)) inside in
          let number : get_or (range_with_len 0 (length all)) k d ≡ 0 + k = get_or-range_with_len 0 (length all) k d small in
          kinds_at (get_or (range_with_len 0 (length all)) k d) (omega (arith, number, small)));
      fits = laid.fits;
    }

    ended : AreEnds (lines_of program) (range_with_len 0 many_lines) many_lines
    ended = record {
      as_many = length-range_with_len 0 many_lines;
      distinct = range_apart many_lines;
      below = λ k d inside.
          let small : k < many_lines = subst (λ n. k < n) (length-range_with_len 0 many_lines) inside in
          let number : get_or (range_with_len 0 many_lines) k d ≡ 0 + k = get_or-range_with_len 0 many_lines k d small in omega (arith, number, small);
    }

    unborn : All IsUnborn program.order
    unborn = none_born (length c.declared) (length c.file.statements) c.published c.expressions

    within : All (λ query. hidden_end query ≤ length (all ++ hidden)) program.order
    within = subst (λ n. All (λ (q : Query). hidden_end q ≤ n) program.order) (sym whole) (ends_within (length c.declared) (length c.file.statements) (length c.declared) program.order
        (subst (λ n. AreNumbered (length c.declared) n program.order) (length-map c.file.statements statement_of) (numbered accepted.accepts.publishes)))

    -- it stands in order
    pub loaded_stands : StandsInOrder loaded_of
    loaded_stands = record {
      wide = subst (IsWideProgram (kinds_in (all ++ hidden))) (sym program_is) wide;
      told = told;
      known = subst (λ (p : Program). (stream : ℕ) → Contains (streams_there p) stream ↔ IsKnown (all ++ hidden) stream) (sym program_is) known;
      publish = from_many (length c.declared) (length c.file.statements) c.expressions ∙ typed;
      express = typed;
      numbered = order_numbers c accepted;
      born = subst (AllPairs (λ earlier later. IsUpTo earlier.birth later.birth)) (sym work_is) (unborn_ascend program.order unborn);
      ended = subst (λ (p : Program). AreEnds (lines_of p) (range_with_len 0 many_lines) many_lines) (sym program_is) ended;
      within = subst (All (λ query. hidden_end query ≤ length (all ++ hidden))) (sym work_is) within;
      laid = subst (λ (p : Program). IsLayoutOver (all ++ hidden) p layout) (sym program_is) laid_over;
      few = subst (λ (p : Program). size (lines_of p) < 2 ^ 64) (sym program_is) (lines_few c accepted);
    }

  -- it holds what the text was judged to be
  pub loaded_holds : HoldsJudged (judged_of c) loaded_of
  loaded_holds = record { statements = refl; lines = refl; streams = refl; order = refl; program = program_is }

  -- and no query came or left
  pub loaded_unchanged : IsUnchanged loaded_of
  loaded_unchanged = record {
    unborn = subst (All IsUnborn) (sym work_is) (none_born (length c.declared) (length c.file.statements) c.published c.expressions);
    ends = ap (λ (p : Program). range_with_len 0 (length (lines_of p))) (sym program_is);
    next = sym (length-range_with_len 0 many_lines);
  }
