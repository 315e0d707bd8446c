-- A catalogue is made of what is laid out of the queries of an accepted file.
use Rattle.std.proofs.Common.{◌≡◌, ◌∙◌, ℕ, ◌+◌, ◌-◌, ◌<◌, ◌≤◌, ◌^◌, List, [], ◌++◌, length, map, sym, ap, subst, arith}
use Rattle.std.specs.List.{All, range_with_len}
use Rattle.std.proofs.lemmas.List.{length-append, length-map}
use Rattle.expressions.specs.Views.{ex_of}
use Rattle.semantics.specs.Programs.{Query}
use Rattle.splitter.specs.Chains.{end_of, lines_of}
use Rattle.splitter.specs.declared.chains.Chains.{Chains}
use Rattle.stream_schema.specs.Schema.{kinds_of}
use Rattle.stream_schema.specs.Streams.{AreThere, hidden_entries, schemas_of}
use Rattle.cel_parser.specs.Filed.{Filed}
use Rattle.catalogue.specs.declared.held_lines.HeldLines.{HeldLines}
use Rattle.catalogue.specs.declared.held_queries.HeldQueries.{HeldQueries}
use Rattle.catalogue.specs.declared.laying.Held.{Held}
use Rattle.catalogue.specs.declared.laying.Laid.{Laid}
use Rattle.catalogue.specs.declared.laying.Typed.{Typed}
use Rattle.catalogue.specs.declared.numbering.Published.{Published}
use Rattle.catalogue.specs.Catalogued.{Catalogued, program_in, queries_of}
use Rattle.catalogue.specs.Chained.{AreChained, kinds_of_each}
use Rattle.catalogue.specs.Counting.{lines_all}
use Rattle.catalogue.specs.Judgement.{program_of}
use Rattle.catalogue.specs.Laid.{AreLaid, IsHeldOf}
use Rattle.catalogue.specs.Loaded.{HoldsJudged, IsUnchanged}
use Rattle.catalogue.specs.Numbering.{HasNumbers}
use Rattle.catalogue.specs.Parts.{IsAccepted, Parts, judged_of, parts_of, published_from}
use Rattle.catalogue.specs.Sharing.{shares_of}
use Rattle.catalogue.specs.Standing.{StandsInOrder}
use Rattle.catalogue.specs.Tables.{IsHeld, IsKept}
use Rattle.catalogue.proofs.ChainedLemmas.{many_streams, streams_whole}
use Rattle.catalogue.proofs.CountedLemmas.{chain_count, lines_most}
use Rattle.catalogue.proofs.FewLemmas.{lines_few, numbers_left}
use Rattle.catalogue.proofs.HeldLemmas.{sizes}
use Rattle.catalogue.proofs.LeftStreamsLemmas.{all_numbered}
use Rattle.catalogue.proofs.LoadedLemmas.{loaded_holds, loaded_of, loaded_stands, loaded_unchanged, program_is}
use Rattle.catalogue.proofs.ShareLemmas.{shares_unnamed}
use Rattle.catalogue.proofs.SizeLemmas.{size}

module _ (file : Filed) (given : Typed) (accepted : IsAccepted (parts_of file given.streams given.order given.expressions)) (typed : length given.expressions ≡ length given.order) where
  abbrev parts : Parts
  parts = parts_of file given.streams given.order given.expressions

  whole : parts.declared ++ parts.published ≡ given.streams
  whole = streams_whole (length file.statements - length given.order) given.streams

  -- as many streams are declared as statements are no queries
  pub declared_many : (declared size queries : ℕ) → size ≡ length file.statements → queries ≡ length given.order → declared ≡ size - queries → declared ≡ length parts.declared
  declared_many declared size queries size_is queries_are is = omega (arith, is, size_is, queries_are, sizes parts accepted)

  -- what is published has numbers behind them
  pub published_are : (declared : ℕ) (published : List Published) → declared ≡ length parts.declared → published ≡ published_from declared (declared + length given.expressions) (map ex_of given.expressions)
      → published ≡ published_from (length parts.declared) (length file.statements) (map ex_of given.expressions)
  published_are declared published is published_is =
      let behind : declared + length given.expressions ≡ length file.statements = omega (arith, is, sizes parts accepted, typed) in
      published_is ∙ (λ i. published_from (is i) (behind i) (map ex_of given.expressions))

  module _ (there : AreThere given.streams) (chains : Chains) (chained : AreChained parts chains) where
    abbrev loaded : Catalogued
    loaded = loaded_of parts accepted typed chains.layout chained.layout

    stands : StandsInOrder loaded
    stands = loaded_stands parts accepted typed chains.layout chained.layout (subst AreThere (sym whole) there)

    -- numbers are left for the hidden streams of each query
    pub each_numbered : (published : List Published) → published ≡ published_from (length parts.declared) (length file.statements) (map ex_of given.expressions)
        → All (λ query. HasNumbers query.expr query.hidden) (queries_of [] published given.expressions)
    each_numbered published is =
        let few : length loaded.streams < 2 ^ 64 = omega (arith, stands.laid.long, chained.layout.all_kinds, numbers_left parts accepted) in
        subst (λ (ps : List Published). All (λ (q : Query). HasNumbers q.expr q.hidden) (queries_of [] ps given.expressions)) (sym is)
        (all_numbered loaded.streams [] loaded.published given.expressions (length loaded.streams) few stands.within)

    -- and all lines are few
    pub all_few : lines_all given.expressions < 2 ^ 64
    all_few = omega (arith, chain_count loaded.streams loaded.published given.expressions (stands.publish ∙ sym stands.express), lines_most (lines_of (program_in loaded)), stands.few)

    -- so are they with the hops on them
    pub hops_few : size chains.lines < 2 ^ 64
    hops_few = omega (arith, lines_few parts accepted, ap size chained.lines)

    -- the layout has kinds for the streams of all statements
    pub room_up : (many : ℕ) → many ≡ length file.statements → many ≤ length chains.layout.kinds
    room_up many is =
        let kinds = ap length chained.layout.kinds_are ∙ length-append (kinds_of_each (parts.declared ++ parts.published)) chained.layout.hidden in
        let lists = length-map (schemas_of (parts.declared ++ parts.published)) kinds_of ∙ length-map (parts.declared ++ parts.published) (λ s. s.schema) in
        omega (arith, is, kinds, lists, many_streams parts accepted)

  -- each statement has a stream
  pub streams_many : (size : ℕ) → size ≡ length file.statements → length given.streams ≡ size
  streams_many size is = ap length (sym whole) ∙ many_streams parts accepted ∙ sym is

  module _ (there : AreThere given.streams) (laid : Laid) (are : AreLaid parts laid) (many : ℕ) (many_is : many ≡ length file.statements) (held : Held) (is : IsHeldOf many given laid held) where
    abbrev all_loaded : Catalogued
    all_loaded = loaded_of parts accepted typed laid.chains.layout are.chained.layout

    abbrev made : Catalogued
    made = record {
      file = file;
      declared = held.declared;
      streams = held.streams;
      order = held.work.order;
      published = held.work.published;
      expressions = held.work.expressions;
      ends = held.chains.ends;
      next_end = held.next_end;
      layout = held.chains.layout;
    }

    lines_many : length laid.chains.lines ≡ length (lines_of (program_of (judged_of parts)))
    lines_many = ap length are.chained.lines

    streams_are : held.streams ≡ (parts.declared ++ parts.published) ++ hidden_entries (length (parts.declared ++ parts.published)) (end_of (program_of (judged_of parts)) - length (parts.declared ++ parts.published))
    streams_are =
        let whole_many : many ≡ length (parts.declared ++ parts.published) = many_is ∙ sym (many_streams parts accepted) in
        is.streams ∙ (λ i. sym whole i ++ hidden_entries (whole_many i) (are.chained.layout.all_kinds i - whole_many i))

    -- what is made is the loaded catalogue
    made_is : made ≡ all_loaded
    made_is = λ i. record {
      file = file;
      declared = (is.declared ∙ are.declared) i;
      streams = streams_are i;
      order = (ap (λ (w : HeldQueries). w.order) is.work ∙ are.ordered) i;
      published = (ap (λ (w : HeldQueries). w.published) is.work ∙ are.published) i;
      expressions = (is.work i).expressions;
      ends = (ap (λ (h : HeldLines). h.ends) is.chains ∙ ap (range_with_len 0) lines_many) i;
      next_end = (is.next_end ∙ lines_many) i;
      layout = (is.chains i).layout;
    }

    loaded_held : IsHeld all_loaded laid.chains.lines laid.shares laid.reads
    loaded_held = record {
      stands = stands there laid.chains are.chained;
      lines_are = are.chained.lines ∙ ap lines_of (sym (program_is parts accepted typed laid.chains.layout are.chained.layout));
      shared = are.shared ∙ shares_unnamed [] all_loaded.streams laid.published given.expressions ∙ ap (λ (ps : List Published). shares_of (queries_of all_loaded.streams ps given.expressions)) are.published;
      tallied = are.tallied;
    }

    made_held : IsHeld made held.chains.lines held.chains.shares held.reads
    made_held =
        subst (λ (s : Catalogued × HeldLines × List ℕ). IsHeld s.0 s.1.lines s.1.shares s.2) (λ i. (sym made_is i, sym is.chains i, sym is.reads i)) loaded_held

    -- it stands in order, and is held with all that is laid out
    pub made_kept : IsKept made held.chains.lines held.chains.shares held.reads held.size
    made_kept = record {
      held = made_held;
      sized = is.size ∙ ap (λ (h : HeldLines). size h.lines) (sym is.chains);
    }

    -- it holds what the text is judged to be
    pub made_holds : HoldsJudged (judged_of parts) made
    made_holds = subst (HoldsJudged (judged_of parts)) (sym made_is) (loaded_holds parts accepted typed laid.chains.layout are.chained.layout)

    -- and no query came or left
    pub made_unchanged : IsUnchanged made
    made_unchanged = subst IsUnchanged (sym made_is) (loaded_unchanged parts accepted typed laid.chains.layout are.chained.layout)
