-- A query that leaves a catalogue and its engine.
use Rattle.std.proofs.Common.{◌≡◌, ◌≢◌, ◌∙◌, sym, ap, subst, ℕ, suc, ◌+◌, ◌<◌, ◌≤◌, true, List, ◌∷◌, ◌++◌, length, map, take, drop, arith}
use Rattle.std.specs.Prelude.{AllPairs, Contains}
use Rattle.std.specs.List.{All, range_with_len, remove}
use Rattle.std.proofs.Math.Seq.{drop-cons}
use Rattle.std.proofs.lemmas.Grind.{flat_map-append}
use Rattle.std.proofs.lemmas.List.{drop-drop, length-drop, length-map, length-take-le, take-append-drop}
use Rattle.std.proofs.lemmas.List.Elements.{All-map, All-weaker, All-contains_itself, Contains-append_left, Contains-append_right}
use Rattle.automaton.specs.Layouts.{HasPart, LayoutFits, shrunk}
use Rattle.automaton.specs.NetworkLines.{Ending, HasEndings}
use Rattle.automaton.specs.Work.{ReadsNone, is_in}
use Rattle.automaton.specs.declared.layout.Layout.{Layout}
use Rattle.automaton.specs.declared.line.Line.{Line}
use Rattle.birth_laws.specs.BornChains.{born_at, born_chain, born_lines, born_split}
use Rattle.birth_laws.proofs.BornLemmas.{plain_chain}
use Rattle.catalogue.specs.declared.dropping.Dropped.{Dropped}
use Rattle.catalogue.specs.Catalogued.{Catalogued, program_in, query_in, work_in}
use Rattle.catalogue.specs.Leaving.{IsLeft, IsUnread, ends_of, lines_before, lines_many, lines_up_to, place_of, without_part}
use Rattle.catalogue.specs.Standing.{StandsInOrder}
use Rattle.catalogue.proofs.LeftLemmas.{all_unread, ends_within}
use Rattle.catalogue.proofs.LeftProgramLemmas.{at_work, none_such, work_left}
use Rattle.cel_types.specs.SourceLaws.{kinds_in}
use Rattle.epoch_engine.specs.AddingLaws.{LayoutShrinks, ReadNoneThatGoes, going, staying}
use Rattle.epoch_engine.specs.EngineStandsFor.{EngineStandsFor}
use Rattle.epoch_engine.specs.EngineView.{EngineView}
use Rattle.epoch_engine.proofs.DroppedLemmas.{dropped_stands}
use Rattle.epoch_laws.specs.BornLines.{BornLine, born_by, lines_in}
use Rattle.epoch_laws.proofs.Lists.{map_all}
use Rattle.prefix_merge.specs.Merging.{HasEnd}
use Rattle.semantics.specs.Programs.{Query}
use Rattle.splitter.specs.Laws.{split_order}
use Rattle.splitter.specs.Splitting.{split_lines}
use Rattle.splitter.proofs.ApartLemmas.{outs_in}
use Rattle.change_laws.specs.AtOne.{AreAtOne, ended_by, endings_in}
use Rattle.change_laws.specs.Calls.{MayBeRemoved}
use Rattle.change_laws.specs.Laws.{DroppedMayBeRemoved, LeavingStands}
use Rattle.change_laws.proofs.AtOneLemmas.{born_are, born_long, end_there, lines_are}
use Rattle.change_laws.proofs.PartLemmas.{ended_lines, first_apart, go_is, second_apart, stay_is}
use Rattle.change_laws.proofs.UnreadLemmas.{others_unread, reads_fewer}

module _ (number : ℕ) (old : Catalogued) (stands : StandsInOrder old) (within : number < length old.order) where
  abbrev order : List Query
  order = work_in old

  abbrev at : ℕ
  at = place_of old number

  abbrev query : Query
  query = query_in old number

  abbrev own : List Line
  own = split_lines query.expr query.stream query.hidden

  -- the lines before those of the query, its own, and those behind, with their births
  abbrev before : List BornLine
  before = born_chain (take at order)

  abbrev part : List BornLine
  part = born_split query.birth query.expr query.stream query.hidden

  abbrev behind : List BornLine
  behind = born_chain (drop (suc at) order)

  -- and the numbers of their ends
  abbrev ms : List ℕ
  ms = take (lines_before old number) old.ends

  abbrev ns : List ℕ
  ns = ends_of old number

  abbrev os : List ℕ
  os = drop (lines_many query) (drop (lines_before old number) old.ends)

  split_at : order ≡ take at order ++ query ∷ drop (suc at) order
  split_at = sym (take-append-drop at order) ∙ ap (λ qs. take at order ++ qs) (drop-cons order at (none_such old stands) (at_work old stands number within))

  born_is : born_lines (program_in old) ≡ before ++ (part ++ behind)
  born_is = ap born_chain split_at ∙ flat_map-append (λ (q : Query). born_split q.birth q.expr q.stream q.hidden) (take at order) (query ∷ drop (suc at) order)

  ends_is : old.ends ≡ ms ++ (ns ++ os)
  ends_is = sym (take-append-drop (lines_before old number) old.ends) ∙ ap (λ es. ms ++ es) (sym (take-append-drop (lines_many query) (drop (lines_before old number) old.ends)))

  room : lines_before old number + lines_many query ≤ length old.ends
  room = ends_within old stands number within

  long : length ms ≡ length before
  long = length-take-le (lines_before old number) old.ends (omega (arith, room)) ∙ sym (born_long (take at order))

  part_long : length ns ≡ length part
  part_long =
      length-take-le (lines_many query) (drop (lines_before old number) old.ends) (let left = length-drop (lines_before old number) old.ends in omega (arith, room, left))
      ∙ sym (length-map own (born_at query.birth))

  apart : AllPairs (λ x y. x ≢ y) (ms ++ (ns ++ os))
  apart = subst (AllPairs (λ x y. x ≢ y)) ends_is stands.ended.distinct

  endings_is : endings_in old ≡ ended_by (before ++ (part ++ behind)) (ms ++ (ns ++ os))
  endings_is = λ i. ended_by (born_is i) (ends_is i)

  pub goes : going ns (endings_in old) ≡ ended_by part ns
  goes = ap (going ns) endings_is ∙ go_is before part behind ms ns os long part_long apart

  stays : staying ns (endings_in old) ≡ ended_by (before ++ behind) (ms ++ os)
  stays = ap (staying ns) endings_is ∙ stay_is before part behind ms ns os long part_long apart

  left_born : born_chain (remove order at) ≡ before ++ behind
  left_born = flat_map-append (λ (q : Query). born_split q.birth q.expr q.stream q.hidden) (take at order) (drop (suc at) order)

  left_ends : without_part old.ends (lines_before old number) (lines_up_to old number) ≡ ms ++ os
  left_ends = ap (λ es. ms ++ es) (sym (drop-drop (lines_many query) (lines_before old number) old.ends))

  -- the streams of the query
  abbrev streams : List ℕ
  streams = split_order query.expr query.stream query.hidden

  module _ (unread : IsUnread old number) where
    others_read : All (λ (b : BornLine). ReadsNone streams b.line) (before ++ behind)
    others_read =
        map_all (ReadsNone streams) (λ (b : BornLine). b.line) (before ++ behind)
        (subst (All (ReadsNone streams)) (sym (plain_chain (remove order at)) ∙ ap lines_in left_born)
        (others_unread (kinds_in old.streams) (range_with_len 0 old.declared) order at (none_such old stands) (at_work old stands number within) stands.wide.typed.in_turn stands.wide.apart (all_unread old stands number within unread)))

    -- no line that stays reads a stream of a line that goes
    none_read : ReadNoneThatGoes ns (endings_in old)
    none_read =
        let outs = map (λ (e : Ending). e.line.out) (ended_by part ns) in
        let within_streams : All (λ x. is_in streams x ≡ true) outs =
        All-map (λ x. is_in streams x ≡ true) (λ (e : Ending). e.line.out) (ended_by part ns)
        (ended_lines (λ line. is_in streams line.out ≡ true) part ns (All-map (λ (b : BornLine). is_in streams b.line.out ≡ true) (born_at query.birth) own (outs_in query.expr query.stream query.hidden))) in
        subst (λ (s : List Ending × List Ending). All (λ (e : Ending). ReadsNone (map (λ (gone : Ending). gone.line.out) s.0) e.line) s.1) (λ i. (sym goes i, sym stays i))
        (ended_lines (ReadsNone outs) (before ++ behind) (ms ++ os)
        (All-weaker (λ (b : BornLine). ReadsNone streams b.line) (λ (b : BornLine). ReadsNone outs b.line) (λ b none. reads_fewer outs streams within_streams b.line none) (before ++ behind) others_read))

  module _ (dropped : Dropped) (new : Catalogued) (left : IsLeft number dropped old new) where
    -- the endings that stay are those of the catalogue then
    endings_left : staying dropped.ends (endings_in old) ≡ endings_in new
    endings_left =
        ap (λ ns. staying ns (endings_in old)) left.ends ∙ stays
        ∙ (λ i. ended_by ((sym left_born ∙ ap born_chain (sym (work_left old stands number within)) ∙ ap (λ (c : Catalogued). born_lines (program_in c)) (sym left.catalogue)) i)
        ((sym left_ends ∙ ap (λ (c : Catalogued). c.ends) (sym left.catalogue)) i))

    module _ (stands_then : StandsInOrder new) where
      pub fits_left : LayoutFits (map (λ (e : Ending). e.line) (staying dropped.ends (endings_in old))) (shrunk old.layout dropped.part)
      fits_left =
          subst (λ (s : List Line × Layout). LayoutFits s.0 s.1) (λ i. (sym (ap (map (λ (e : Ending). e.line)) endings_left ∙ lines_are new stands_then) i, sym left.layout i)) stands_then.laid.fits

      module _ (engine : EngineView) (at_one : AreAtOne old engine) where
        -- the engine's layout shrinks as the catalogue's
        shrunk_alike : shrunk old.layout dropped.part ≡ shrunk engine.layout dropped.part
        shrunk_alike = ap (λ (layout : Layout). shrunk layout dropped.part) (sym at_one.layout)

        own_there : (end : ℕ) → Contains ns end → HasEnd engine.network end
        own_there end has = end_there old stands engine at_one end (subst (λ (es : List ℕ). Contains es end) (sym ends_is) (Contains-append_right ms (ns ++ os) end (Contains-append_left ns os end has)))

        -- what is given out may be removed
        pub may_be_removed : MayBeRemoved dropped.ends dropped.part engine
        may_be_removed = record {
          apart = subst (AllPairs (λ x y. x ≢ y)) (sym left.ends) (first_apart ns os (second_apart ms (ns ++ os) apart));
          there = subst (All (HasEnd engine.network)) (sym left.ends) (All-weaker (Contains ns) (HasEnd engine.network) own_there ns (All-contains_itself ns));
          has_part = subst (λ (layout : Layout). HasPart layout dropped.part) (sym at_one.layout) left.there;
          fits = (endings_in old, at_one.endings, subst (LayoutFits (map (λ (e : Ending). e.line) (staying dropped.ends (endings_in old)))) shrunk_alike fits_left);
        }

        shrinks : LayoutShrinks dropped.ends (endings_in old) engine.layout (shrunk engine.layout dropped.part)
        shrinks = record {
          fits = subst (λ (s : List Line × Layout). LayoutFits s.0 s.1) (λ i. (sym (lines_are old stands) i, sym at_one.layout i)) stands.laid.fits;
          fits_left = subst (LayoutFits (map (λ (e : Ending). e.line) (staying dropped.ends (endings_in old)))) shrunk_alike fits_left;
        }

-- what a catalogue gives out may be removed from its engine
pub dropped_may_be_removed : DroppedMayBeRemoved
dropped_may_be_removed number dropped old new engine stands stands_then at_one within left = may_be_removed number old stands within dropped new left stands_then engine at_one

-- and then both are at one, and the engine stands for the program then
pub leaving_stands : LeavingStands
leaving_stands = record {
  at_one = λ number dropped old new before after stands stands_then at_one both. record {
    merged = both.drops.goes_over.merged;
    endings = subst (HasEndings after.network) (endings_left number old stands both.within dropped new both.left) (both.drops.removed.endings (endings_in old) at_one.endings);
    layout = both.drops.goes_over.same_layout ∙ ap (λ (layout : Layout). shrunk layout dropped.part) at_one.layout ∙ both.left.layout;
  };
  stands = λ number dropped old new before after history stands stands_then at_one both stands_for.
      subst (λ (lines : List BornLine). EngineStandsFor after lines history) (ap (map born_by) (endings_left number old stands both.within dropped new both.left) ∙ born_are new stands_then)
      (dropped_stands dropped.ends (shrunk before.layout dropped.part) before after (endings_in old) history (subst (λ (lines : List BornLine). EngineStandsFor before lines history) (sym (born_are old stands)) stands_for) at_one.endings both.closed both.drops
      (shrinks number old stands both.within dropped new both.left stands_then before at_one)
      (subst (λ (ends : List ℕ). ReadNoneThatGoes ends (endings_in old)) (sym both.left.ends) (none_read number old stands both.within both.unread)));
}
