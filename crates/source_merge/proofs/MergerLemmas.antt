-- What the calls make of the fields of a merge.
use Rattle.std.proofs.Common.{◌≡◌, ◌∙◌, sym, ap, ℕ, ◌+◌, ◌<◌, length, set, true, false, List, [], ◌∷◌, Option, Some, None, slice_get}
use Rattle.std.specs.Option.{unwrap_or}
use Rattle.std.proofs.lemmas.Bool.{cond-false, cond-true}
use Rattle.std.proofs.lemmas.Option.{slice_get_within}
use Rattle.event_types.specs.Order.{put}
use Rattle.event_csv.specs.declared.event.Seen.{Seen}
use Rattle.source_merge.specs.declared.source.Source.{Source}
use Rattle.source_merge.specs.Merging.{Merging, after_given, ending, first_below, next_given, past_first, taking, with_event, without_turn}
use Rattle.source_merge.specs.Ranks.{Taken, taken_cmp}
use Rattle.source_merge.specs.Sources.{is_below, later, turn_in, watermark}
use Rattle.source_merge.proofs.SourceLemmas.{turn_is_there}

-- the number of the file whose turn it is is within the files
pub turn_within : (sources : List Source) (kept : Option (ℕ × Source)) (turn : ℕ × Source) → kept ≡ turn_in sources → kept ≡ Some turn → turn.0 < length sources
turn_within sources kept turn known is = slice_get_within sources turn.0 turn.1 (turn_is_there sources turn (sym known ∙ is)).0

-- the merge after an event, by its fields
pub taking_is : (m : Merging) (seen : Seen) (turn : ℕ × Source) (kept : Option (ℕ × Source)) (at time count : ℕ) (held : List Taken) → kept ≡ turn_in m.sources → kept ≡ Some turn → at ≡ seen.tuple.at → time ≡ later turn.1.greatest at
    → held ≡ put taken_cmp (record { at = at; file = turn.0; place = m.count }, seen) m.held → count ≡ m.count + 1
    → record { slack = m.slack; sources = set m.sources turn.0 (record { greatest = Some time; ended = turn.1.ended }); held = held; count = count } ≡ with_event m seen
taking_is m seen turn kept at time count held known is at_is time_is held_is count_is =
    let times = time_is ∙ ap (later turn.1.greatest) at_is in
    let put_of : ℕ → List Taken = λ n. put taken_cmp (record { at = n; file = turn.0; place = m.count }, seen) m.held in
    (λ i. record {
      slack = m.slack;
      sources = set m.sources turn.0 (record { greatest = Some (times i); ended = turn.1.ended });
      held = (held_is ∙ ap put_of at_is) i;
      count = count_is i;
    })
    ∙ ap (taking m seen) (sym is ∙ known)

-- the merge after the end of a file, by its fields
pub ending_is : (m : Merging) (turn : ℕ × Source) (kept : Option (ℕ × Source)) → kept ≡ turn_in m.sources → kept ≡ Some turn
    → record { slack = m.slack; sources = set m.sources turn.0 (record { greatest = turn.1.greatest; ended = true }); held = m.held; count = m.count } ≡ without_turn m
ending_is m turn kept known is = ap (ending m) (sym is ∙ known)

-- the first event stays where it isn't below the watermark
pub first_stays : (m : Merging) (t : Taken) → slice_get m.held 0 ≡ Some t → is_below (watermark m.slack m.sources) t.0.at ≡ false → (next_given m ≡ None) × (m ≡ after_given m)
first_stays m t is above = (none.0, ap (λ held. record m { held = held }) (sym none.1))
  where
    stays : (mark : Option ℕ) (held : List Taken) → slice_get held 0 ≡ Some t → is_below mark t.0.at ≡ false → (first_below mark held ≡ None) × (past_first mark held ≡ held)
    stays mark [] is above = absurd (none_some is)
      where
        none_some : None ≡ Some t → ⊥
        none_some h = cc
    stays mark (u ∷ held) is above =
        let same : u ≡ t = ap (λ o. unwrap_or o t) is in
        let high : is_below mark u.0.at ≡ false = ap (λ v. is_below mark v.0.at) same ∙ above in
        (cond-false (is_below mark u.0.at) (Some u) None high, cond-false (is_below mark u.0.at) held (u ∷ held) high)

    none : (first_below (watermark m.slack m.sources) m.held ≡ None) × (past_first (watermark m.slack m.sources) m.held ≡ m.held)
    none = stays (watermark m.slack m.sources) m.held is above

-- it is given where it is below the watermark
pub first_leaves : (m : Merging) (t u : Taken) (more : List Taken) → slice_get m.held 0 ≡ Some t → m.held ≡ u ∷ more → is_below (watermark m.slack m.sources) t.0.at ≡ true → (next_given m ≡ Some u) × (record m { held = more } ≡ after_given m)
first_leaves m t u more is split below = (given, ap (λ held. record m { held = held }) (sym left))
  where
    same : t ≡ u
    same = ap (λ o. unwrap_or o t) (sym is ∙ ap (λ held. slice_get held 0) split)

    low : is_below (watermark m.slack m.sources) u.0.at ≡ true
    low = ap (λ v. is_below (watermark m.slack m.sources) v.0.at) (sym same) ∙ below

    given : first_below (watermark m.slack m.sources) m.held ≡ Some u
    given = ap (first_below (watermark m.slack m.sources)) split ∙ cond-true (is_below (watermark m.slack m.sources) u.0.at) (Some u) None low

    left : past_first (watermark m.slack m.sources) m.held ≡ more
    left = ap (past_first (watermark m.slack m.sources)) split ∙ cond-true (is_below (watermark m.slack m.sources) u.0.at) more (u ∷ more) low
