-- What is heard of a text that comes in pieces.
use Rattle.std.proofs.Common.{◌≡◌, ◌∙◌, sym, ap, subst, refl, ℕ, ◌+◌, ◌-◌, ◌<◌, ◌≤◌, Bool, true, false, List, [], ◌++◌, map, Option, Some, None, length, min, take, length-append, append_assoc, append-nil, arith}
use Rattle.std.proofs.lemmas.List.{length-take, map-append, take_min}
use Rattle.std.proofs.lemmas.List.Sums.{count_by-le-length}
use Rattle.std.proofs.Math.Seq.{take-append-add, take-length}
use Rattle.stream_schema.specs.Streams.{Entry}
use Rattle.event_csv.specs.Fed.{Fed, fed_more, line_feeds_in, line_feeds_so_far, unfed, unread_lines}
use Rattle.event_csv.specs.Lines.{Line, is_line_feed, lines, lines_from}
use Rattle.event_csv.proofs.LineFacts.{strip_bom-short}
use Rattle.event_csv.proofs.PlaceFacts.{feeds_in-append}
use Rattle.derivations.specs.declared.history.Heard.{Heard}
use Rattle.courses.specs.declared.refusal.Refusal.{Refusal}
use Rattle.courses.specs.EventLines.{Reading, reading_here, readings_here, refused}
use Rattle.explanation.specs.declared.fault.HearFault.{HearFault}
use Rattle.explanation.specs.declared.fault.HearFault.TheVariants as fault
use Rattle.explanation.specs.Hearing.{FailsBy, HearsLines, HearsRest, refused_behind, refused_left}
use Rattle.explanation.specs.HearingView.{HasHeard, HearsAll, HearingView, StopsLast, StopsWithin}
use Rattle.explanation.specs.HeardLines.{numbered_events}
use Rattle.explanation.proofs.HeardLemmas.{numbered_on, refused_on}
use Rattle.explanation.proofs.LinesLemmas.{refused_then, same_left}

-- nothing was heard yet
pub nothing_heard : (streams : List Entry) (limit : ℕ) → HasHeard streams [] (record { feed = unfed; history = []; limit = limit; fed = 0 })
nothing_heard streams limit = record {
  taken = [];
  goes_on = λ more ended. refl;
  none_left = ap (λ text. lines_from 0 false text false) (strip_bom-short [] (omega arith));
  none_refused = refl;
  history = refl;
  counted = refl;
  within = omega arith;
  feeds = omega arith;
}

-- where no fewer bytes fit, they are all
pub all_within : (limit fed : ℕ) (piece within : List ℕ) → within ≡ take (limit - fed) piece → length piece ≤ length within → within ≡ piece
all_within limit fed piece within cut h =
    let size : length within ≡ min (limit - fed) (length piece) = ap length cut ∙ length-take (limit - fed) piece in
    let short : min (limit - fed) (length piece) ≡ length piece = omega (arith, size, h) in
    cut ∙ sym (take_min (limit - fed) piece) ∙ ap (λ n. take n piece) short ∙ take-length piece

-- a text is cut behind a front that is within the limit
cut_behind : (text piece : List ℕ) (limit : ℕ) → length text ≤ limit → take limit (text ++ piece) ≡ text ++ take (limit - length text) piece
cut_behind text piece limit h =
    let whole : limit ≡ length text + (limit - length text) = omega arith in
    ap (λ n. take n (text ++ piece)) whole ∙ take-append-add text piece (limit - length text)

module _ (streams : List Entry) (bytes : List ℕ) (h : HearingView) (heard : HasHeard streams bytes h) where
  abbrev readings : List Line → List Reading
  readings ls = map (reading_here streams) ls

  -- the lines of a longer text are those that were taken and those that are left
  lines_are : (more : List ℕ) (ended : Bool) → readings_here streams (bytes ++ more) ended ≡ readings heard.taken ++ readings (unread_lines (fed_more h.feed more) ended)
  lines_are more ended = ap readings (heard.goes_on more ended) ∙ map-append (reading_here streams) heard.taken (unread_lines (fed_more h.feed more) ended)

  -- so it is refused as the lines that are left
  refused_is : (more : List ℕ) (ended : Bool) → refused (readings_here streams (bytes ++ more) ended) ≡ refused_left streams (fed_more h.feed more) ended h.history
  refused_is more ended =
      ap refused (lines_are more ended) ∙ refused_on [] (readings heard.taken) (readings (unread_lines (fed_more h.feed more) ended)) heard.none_refused
      ∙ ap (λ history. refused_behind history (readings (unread_lines (fed_more h.feed more) ended))) (sym heard.history)

  refused_now : (ended : Bool) → refused (readings_here streams bytes ended) ≡ refused_left streams h.feed ended h.history
  refused_now ended =
      ap (λ text. refused (readings_here streams text ended)) (sym (append-nil bytes)) ∙ refused_is [] ended ∙ ap (λ ls. refused_behind h.history (readings ls)) (same_left h.feed ended)

  -- the text has ended
  pub ends : (new : List Heard) → HearsRest streams h.feed h.history new → HearsAll streams bytes new
  ends new rest = record {
    none_refused = refused_now true ∙ rest.none_refused;
    events =
        let all : readings_here streams bytes true ≡ readings heard.taken ++ readings (unread_lines h.feed true) =
        ap (λ text. readings_here streams text true) (sym (append-nil bytes)) ∙ lines_are [] true ∙ ap (λ ls. readings heard.taken ++ readings ls) (same_left h.feed true) in
        rest.adds ∙ ap (λ history. history ++ numbered_events (readings (unread_lines h.feed true))) heard.history
        ∙ sym (numbered_on (readings heard.taken) (readings (unread_lines h.feed true))) ∙ ap numbered_events (sym all);
  }

  -- or its last line is refused
  pub stops_last : (why : HearFault) → FailsBy (refused_left streams h.feed true h.history) why → StopsLast streams bytes why
  stops_last (fault.Refused refusal) e = refused_now true ∙ e
  stops_last fault.Memory e = tt
  stops_last (fault.TooMuch limit) e = absurd e

  -- none of the lines so far is refused
  pub heard_refused : refused (readings_here streams bytes false) ≡ None
  heard_refused = refused_now false ∙ ap (λ ls. refused_behind h.history (readings ls)) heard.none_left

  module _ (piece within : List ℕ) (cut : within ≡ take (h.limit - h.fed) piece) where
    -- the bytes within the limit
    cut_is : bytes ++ within ≡ take h.limit (bytes ++ piece)
    cut_is = ap (λ more. bytes ++ more) (cut ∙ ap (λ n. take (h.limit - n) piece) heard.counted) ∙ sym (cut_behind bytes piece h.limit heard.within)

    sized : length within ≡ min (h.limit - h.fed) (length piece)
    sized = ap length cut ∙ length-take (h.limit - h.fed) piece

    -- so many line feeds can be counted
    pub feeds_fit : line_feeds_so_far h.feed + length within ≤ h.limit
    feeds_fit =
        let size = sized in
        let counted = heard.counted in
        let fits = heard.within in
        let feeds = heard.feeds in
        omega (arith, size, counted, fits, feeds)

    -- a line was refused, or there was no memory
    pub stops_at : (why : HearFault) → FailsBy (refused_left streams (fed_more h.feed within) false h.history) why → StopsWithin streams h.limit (bytes ++ piece) why
    stops_at (fault.Refused refusal) e = ap (λ text. refused (readings_here streams text false)) (sym cut_is) ∙ refused_is within false ∙ e
    stops_at fault.Memory e = tt
    stops_at (fault.TooMuch limit) e = absurd e

    module _ (left : Fed) (new : List Heard) (hears : HearsLines streams (fed_more h.feed within) left h.history new) where
      none_refused_here : refused (readings_here streams (bytes ++ within) false) ≡ None
      none_refused_here = refused_is within false ∙ refused_then streams false hears.0.1 ∙ ap (λ ls. refused_behind new (readings ls)) hears.1.none

      -- more bytes came
      pub too_much : length within < length piece → StopsWithin streams h.limit (bytes ++ piece) (fault.TooMuch h.limit)
      too_much fewer =
          let size = sized in
          let counted = heard.counted in
          let fits = heard.within in
          let long = length-append bytes piece in (
            refl,
            omega (arith, size, fewer, counted, fits, long),
            ap (λ text. refused (readings_here streams text false)) (sym cut_is) ∙ none_refused_here,
          )

      -- the bytes were heard
      pub heard_more : HasHeard streams (bytes ++ within) (record { feed = left; history = new; limit = h.limit; fed = h.fed + length within })
      heard_more = record {
        taken = heard.taken ++ hears.0.0;
        goes_on = λ more ended.
            ap (λ text. lines text ended) (append_assoc bytes within more) ∙ heard.goes_on (within ++ more) ended
            ∙ ap (λ rest. heard.taken ++ unread_lines (record h.feed { rest = rest }) ended) (sym (append_assoc h.feed.rest within more))
            ∙ ap (λ ls. heard.taken ++ ls) (hears.0.1.gives more ended) ∙ sym (append_assoc heard.taken hears.0.0 (unread_lines (fed_more left more) ended));
        none_left = hears.1.none;
        none_refused = ap refused (map-append (reading_here streams) heard.taken hears.0.0) ∙ refused_on [] (readings heard.taken) (readings hears.0.0) heard.none_refused
            ∙ ap (λ history. refused_behind history (readings hears.0.0)) (sym heard.history) ∙ hears.0.1.none_refused;
        history = hears.0.1.adds ∙ ap (λ history. history ++ numbered_events (readings hears.0.0)) heard.history
            ∙ sym (numbered_on (readings heard.taken) (readings hears.0.0)) ∙ ap numbered_events (sym (map-append (reading_here streams) heard.taken hears.0.0));
        counted = ap (λ n. n + length within) heard.counted ∙ sym (length-append bytes within);
        within =
            let size = sized in
            let counted = heard.counted in
            let fits = heard.within in
            let both = length-append bytes within in
            omega (arith, size, counted, fits, both);
        feeds =
            let same = hears.0.1.feeds in
            let more = feeds_in-append h.feed.rest within in
            let few = count_by-le-length is_line_feed within in
            let before = heard.feeds in
            let both = length-append bytes within in
            omega (arith, same, more, few, before, both);
      }
