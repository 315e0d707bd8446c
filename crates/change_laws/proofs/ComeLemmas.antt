-- A query that comes to a catalogue and to its engine.
use Rattle.std.proofs.Common.{◌≡◌, ◌≢◌, ◌∙◌, sym, ap, refl, subst, ℕ, ◌<◌, false, List, [], ◌∷◌, ◌++◌, append-nil, length, map, arith}
use Rattle.std.specs.Prelude.{AllPairs, IsTrue, Option, None, slice_get}
use Rattle.std.specs.List.{All, range_with_len}
use Rattle.std.proofs.lemmas.Grind.{flat_map-append}
use Rattle.std.proofs.lemmas.List.Elements.{All-contains}
use Rattle.std.proofs.lemmas.List.FromFn.{get_or-range_with_len, length-range_with_len}
use Rattle.automaton.specs.Layouts.{LayoutFits, grown}
use Rattle.automaton.specs.NetworkLines.{HasEndings}
use Rattle.automaton.specs.Work.{is_in}
use Rattle.automaton.specs.declared.layout.Layout.{Layout}
use Rattle.automaton.specs.declared.line.Line.{Line}
use Rattle.birth_laws.specs.BornChains.{born_at, born_lines, born_split}
use Rattle.birth_laws.proofs.BornLemmas.{plain_chain}
use Rattle.catalogue.specs.declared.adding.Added.{Added}
use Rattle.catalogue.specs.Adding.{AddedQuery}
use Rattle.catalogue.specs.Catalogued.{Catalogued, program_in, work_in}
use Rattle.catalogue.specs.Coming.{HasCome, IsTold, coming, lines_by}
use Rattle.catalogue.specs.Standing.{StandsInOrder}
use Rattle.catalogue.proofs.NewcomerLemmas.{newcomers_are_unknown}
use Rattle.epoch_engine.specs.AddingLaws.{LayoutGrows}
use Rattle.epoch_engine.specs.EngineStandsFor.{EngineStandsFor}
use Rattle.epoch_engine.specs.EngineView.{EngineView}
use Rattle.epoch_engine.proofs.AddedLemmas.{added_stands}
use Rattle.epoch_laws.specs.BornLines.{BornLine, lines_in}
use Rattle.prefix_merge.specs.Merging.{HasEnd}
use Rattle.prefix_merge.specs.Turns.{endings_with}
use Rattle.semantics.specs.Programs.{Query}
use Rattle.splitter.specs.Chains.{lines_of}
use Rattle.splitter.specs.Splitting.{split_lines}
use Rattle.splitter.proofs.ApartLemmas.{range_all}
use Rattle.change_laws.specs.AtOne.{AreAtOne, ended_by, endings_in}
use Rattle.change_laws.specs.Calls.{MayBeAdded}
use Rattle.change_laws.specs.Laws.{ComingStands, ToldMayBeAdded}
use Rattle.change_laws.proofs.AtOneLemmas.{end_known, ends_long, has_lines}
use Rattle.change_laws.proofs.EndedLemmas.{ended_append, ended_with}

-- numbers from one on are distinct
range_apart : (a n : ℕ) → AllPairs (λ x y. x ≢ y) (range_with_len a n)
range_apart a n i j d before inside same =
    let j_in : j < n = omega (arith, inside, length-range_with_len a n) in
    let low = get_or-range_with_len a n i d (omega (arith, before, j_in)) in
    let high = get_or-range_with_len a n j d j_in in
    absurd (omega (arith, low, high, before, same))

module _ (added : AddedQuery) (birth : Option ℕ) (told : Added) (old new : Catalogued) (stands : StandsInOrder old) (stands_then : StandsInOrder new) (come : HasCome old added birth new) (is_told : IsTold old (coming old added birth) new told) where
  abbrev query : Query
  query = coming old added birth

  abbrev numbers : List ℕ
  numbers = range_with_len old.next_end (length (lines_by query))

  -- the lines of the program then
  pub lines_then : lines_of (program_in new) ≡ lines_of (program_in old) ++ lines_by query
  lines_then =
      ap lines_of come.program ∙ flat_map-append (λ (q : Query). split_lines q.expr q.stream q.hidden) (work_in old) (query ∷ []) ∙ ap (λ ls. lines_of (program_in old) ++ ls) (append-nil (lines_by query))

  -- with their births
  pub born_then : born_lines (program_in new) ≡ born_lines (program_in old) ++ map (born_at birth) (lines_by query)
  born_then =
      ap born_lines come.program ∙ flat_map-append (λ (q : Query). born_split q.birth q.expr q.stream q.hidden) (work_in old) (query ∷ [])
      ∙ ap (λ ls. born_lines (program_in old) ++ ls) (append-nil (map (born_at birth) (lines_by query)))

  as_many : length told.ends ≡ length told.lines
  as_many = ap length is_told.ends ∙ length-range_with_len old.next_end (length (lines_by query)) ∙ sym (ap length is_told.lines)

  fits_then : LayoutFits (lines_of (program_in old) ++ told.lines) (grown old.layout told.growth)
  fits_then =
      subst (λ (s : List Line × Layout). LayoutFits s.0 s.1) (λ i. ((lines_then ∙ ap (λ ls. lines_of (program_in old) ++ ls) (sym is_told.lines)) i, sym is_told.layout i)) stands_then.laid.fits

  -- the endings of the lines that come, behind those that were there
  endings_then : endings_in old ++ endings_with birth told.lines told.ends ≡ endings_in new
  endings_then =
      (λ i. endings_in old ++ endings_with birth (is_told.lines i) (is_told.ends i))
      ∙ ap (λ es. endings_in old ++ es) (sym (ended_with birth (lines_by query) numbers))
      ∙ sym (ended_append (born_lines (program_in old)) (map (born_at birth) (lines_by query)) old.ends numbers (ends_long old stands))
      ∙ (λ i. ended_by (sym born_then i) (sym come.ends i))

  module _ (engine : EngineView) (at_one : AreAtOne old engine) where
    -- the engine's layout grows as the catalogue's
    grown_alike : grown old.layout told.growth ≡ grown engine.layout told.growth
    grown_alike = ap (λ (layout : Layout). grown layout told.growth) (sym at_one.layout)

    -- what is told may be added
    pub may_be_added : MayBeAdded told.lines told.ends told.growth engine
    may_be_added = record {
      as_many = as_many;
      apart = subst (AllPairs (λ x y. x ≢ y)) (sym is_told.ends) (range_apart old.next_end (length (lines_by query)));
      fresh =
          subst (All (λ end. HasEnd engine.network end → ⊥)) (sym is_told.ends)
          (range_all (λ end. HasEnd engine.network end → ⊥) old.next_end (length (lines_by query)) (λ end above below has.
          let less : end < old.next_end = All-contains (λ e. e < old.next_end) old.ends end stands.ended.below (end_known old stands engine at_one end has) in
          absurd (omega (arith, less, above))));
      fits = (lines_of (program_in old), has_lines old stands engine at_one, subst (LayoutFits (lines_of (program_in old) ++ told.lines)) grown_alike fits_then);
    }

    -- the layout grows by the query's streams
    grows : LayoutGrows (lines_in (born_lines (program_in old))) told.lines engine.layout (grown engine.layout told.growth)
    grows = record {
      fits = subst (λ (s : List Line × Layout). LayoutFits s.0 s.1) (λ i. (sym (plain_chain (work_in old)) i, sym at_one.layout i)) stands.laid.fits;
      fits_all = subst (λ (s : List Line × Layout). LayoutFits (s.0 ++ told.lines) s.1) (λ i. (sym (plain_chain (work_in old)) i, grown_alike i)) fits_then;
      unknown =
          subst (λ (s : Layout × Layout). (stream : ℕ) → IsTrue (is_in s.1.order stream) → is_in s.0.order stream ≡ false → slice_get s.0.kinds stream ≡ None) (λ i. (sym at_one.layout i, (sym is_told.layout ∙ grown_alike) i))
          (newcomers_are_unknown old new added birth stands stands_then come);
    }

-- what a catalogue tells of a query may be added to its engine
pub told_may_be_added : ToldMayBeAdded
told_may_be_added added birth told old new engine stands stands_then at_one come is_told = may_be_added added birth told old new stands stands_then come is_told engine at_one

-- and then both are at one, and the engine stands for the program then
pub coming_stands : ComingStands
coming_stands = record {
  at_one = λ added told old new before after stands stands_then at_one both. record {
    merged = both.adds.goes_over.merged;
    endings =
        subst (HasEndings after.network) (endings_then added before.closed_time told old new stands stands_then both.come both.is_told)
        (both.adds.inserted.endings (endings_in old) at_one.endings);
    layout = both.adds.goes_over.same_layout ∙ ap (λ (layout : Layout). grown layout told.growth) at_one.layout ∙ both.is_told.layout;
  };
  stands = λ added told old new before after history stands stands_then at_one both stands_for.
      subst (λ (lines : List BornLine). EngineStandsFor after lines history)
      (ap (λ (ls : List Line). born_lines (program_in old) ++ map (born_at before.closed_time) ls) both.is_told.lines ∙ sym (born_then added before.closed_time told old new stands stands_then both.come both.is_told))
      (added_stands told.lines told.ends before.closed_time (grown before.layout told.growth) before after (born_lines (program_in old)) history stands_for both.closed refl (as_many added before.closed_time told old new stands stands_then both.come both.is_told) both.adds
      (grows added before.closed_time told old new stands stands_then both.come both.is_told before at_one));
}
