-- Lines with births that come to other lines.
use Rattle.std.proofs.Common.{◌≡◌, ◌∙◌, ap, refl, ℕ, ◌==◌, Bool, false, List, [], ◌∷◌, ◌++◌, map, append-nil, sym}
use Rattle.std.specs.Prelude.{Option}
use Rattle.std.specs.List.{All, filter, flat_map}
use Rattle.std.proofs.lemmas.Bool.{or_parts}
use Rattle.std.proofs.lemmas.List.{map-append}
use Rattle.std.proofs.lemmas.List.Elements.{All-head, All-tail, All-weaker, filter-append}
use Rattle.semantics.specs.Denotation.{Streams}
use Rattle.semantics.specs.Programs.{IsUnborn, Query, with_stream}
use Rattle.semantics.proofs.ReportLemmas.{filter_none}
use Rattle.automaton.specs.Work.{is_in}
use Rattle.automaton.specs.declared.line.Line.{Line}
use Rattle.epoch_laws.specs.BornLines.{BornLine, lines_in, unborn}
use Rattle.epoch_laws.specs.InstanceFlow.{completed_after, derived_after, given_after}
use Rattle.splitter.specs.Chains.{chain_lines}
use Rattle.splitter.specs.Splitting.{split_lines}
use Rattle.birth_laws.specs.BornChains.{born_at, born_chain, born_split}

-- the line publishes none of these streams
abbrev pub PublishesNone : List ℕ → BornLine → Type 0
PublishesNone numbers born = is_in numbers born.line.out ≡ false

abbrev is_on : ℕ → BornLine → Bool
is_on stream born = born.line.out == stream

-- lines that publish none of some streams are none of the lines of the first
none_on : (stream : ℕ) (more : List ℕ) (lines : List BornLine) → All (PublishesNone (stream ∷ more)) lines → filter (is_on stream) lines ≡ []
none_on stream more lines all =
    filter_none (is_on stream) lines
    (All-weaker (PublishesNone (stream ∷ more)) (λ born. is_on stream born ≡ false) (λ born none. (or_parts (born.line.out == stream) (is_in more born.line.out) none).0) lines all)

none_later : (stream : ℕ) (more : List ℕ) (lines : List BornLine) → All (PublishesNone (stream ∷ more)) lines → All (PublishesNone more) lines
none_later stream more lines all = All-weaker (PublishesNone (stream ∷ more)) (PublishesNone more) (λ born none. (or_parts (born.line.out == stream) (is_in more born.line.out) none).1) lines all

module _ (lines others : List BornLine) where
  new_on : (stream : ℕ) (more : List ℕ) → All (PublishesNone (stream ∷ more)) lines → filter (is_on stream) (lines ++ others) ≡ filter (is_on stream) others
  new_on stream more none = filter-append (is_on stream) lines others ∙ ap (λ own. own ++ filter (is_on stream) others) (none_on stream more lines none)

  old_on : (stream : ℕ) (order : List ℕ) → All (PublishesNone (stream ∷ order)) others → filter (is_on stream) (lines ++ others) ≡ filter (is_on stream) lines
  old_on stream order none =
      filter-append (is_on stream) lines others ∙ ap (λ own. filter (is_on stream) lines ++ own) (none_on stream order others none) ∙ append-nil (filter (is_on stream) lines)

  -- the new streams, once the old ones are made
  new_alone : (more : List ℕ) (streams : Streams) → All (PublishesNone more) lines → completed_after (lines ++ others) more streams ≡ completed_after others more streams
  new_alone [] streams none = refl
  new_alone (stream ∷ more) streams none =
      ap (λ own. completed_after (lines ++ others) more (with_stream streams stream (flat_map (given_after streams) own))) (new_on stream more none)
      ∙ new_alone more (with_stream streams stream (derived_after others streams stream)) (none_later stream more lines none)

  -- lines that publish other streams give over what the lines gave what they give alone: by induction on the order
  pub added_alone : (order more : List ℕ) (streams : Streams) → All (PublishesNone more) lines → All (PublishesNone order) others
      → completed_after (lines ++ others) (order ++ more) streams ≡ completed_after others more (completed_after lines order streams)
  added_alone [] more streams none others_none = new_alone more streams none
  added_alone (stream ∷ order) more streams none others_none =
      ap (λ own. completed_after (lines ++ others) (order ++ more) (with_stream streams stream (flat_map (given_after streams) own))) (old_on stream order others_none)
      ∙ added_alone order more (with_stream streams stream (derived_after lines streams stream)) none (none_later stream order others others_none)

-- lines with a birth are these lines
pub plainly : (birth : Option ℕ) (lines : List Line) → lines_in (map (born_at birth) lines) ≡ lines
plainly birth [] = refl
plainly birth (line ∷ lines) = ap (λ rest. line ∷ rest) (plainly birth lines)

-- so the lines of queries with their births are their lines
pub plain_chain : (order : List Query) → lines_in (born_chain order) ≡ chain_lines order
plain_chain [] = refl
plain_chain (query ∷ order) =
    let own = born_split query.birth query.expr query.stream query.hidden in
    map-append (λ (born : BornLine). born.line) own (born_chain order)
    ∙ (λ i. plainly query.birth (split_lines query.expr query.stream query.hidden) i ++ plain_chain order i)

-- without births they have none
pub unborn_chain : (order : List Query) → All IsUnborn order → born_chain order ≡ map unborn (chain_lines order)
unborn_chain [] all = refl
unborn_chain (query ∷ order) all =
    let own = split_lines query.expr query.stream query.hidden in
    (λ i. map (born_at (All-head IsUnborn query order all i)) own ++ unborn_chain order (All-tail IsUnborn query order all) i)
    ∙ sym (map-append unborn own (chain_lines order))
