-- The streams of a batch have the results of all that are printed.
use Rattle.std.proofs.Common.{◌≡◌, ◌∙◌, sym, ap, refl, subst, inl, inr, ℕ, ◌<◌, ◌≢◌, ◌⊎◌, length, get_or, take, List, [], map, arith}
use Rattle.std.specs.Prelude.{Contains}
use Rattle.std.specs.List.{AllPairs, filter}
use Rattle.std.proofs.lemmas.List.{get_or-take, get_or_default, length-take}
use Rattle.std.proofs.lemmas.List.Elements.{All-contains_itself}
use Rattle.event_types.specs.Tuple.{TupleView}
use Rattle.epoch_draft.specs.Drafts.{DraftFits}
use Rattle.epoch_draft.specs.Turns.{HaveTurns}
use Rattle.epoch_draft.specs.declared.draft.Draft.{Draft}
use Rattle.epoch_draft.specs.declared.turns.Turns.{Turns}
use Rattle.epoch_engine.specs.Batches.{ArePrinted}
use Rattle.epoch_engine.specs.Prints.{AreListed, OthersHaveNone, due_of, is_printed}
use Rattle.epoch_engine.specs.Results.{result_of}
use Rattle.epoch_engine.specs.declared.listing.Due.{Due}
use Rattle.epoch_engine.proofs.DueLemmas.{all_joined, among}

-- streams of which none stands twice in a list are apart
apart : (streams : List ℕ) → ((place : ℕ) → place < length streams → Contains (take place streams) (get_or streams place 0) → ⊥) → AllPairs (λ s t. s ≢ t) streams
apart streams once i j d less lt same = once j lt (i, (let short = length-take j streams in omega (arith, short, less, lt)), get_or-take j streams i this less ∙ get_or_default streams i this d (omega (arith, less, lt)) ∙ same ∙ get_or_default streams j d 0 lt)
  where
    this : ℕ
    this = get_or streams j 0

-- those that are due and printed, in the order of their turns
pub printed_due : (outs due streams : List ℕ) (turns : Turns) (made : List (List TupleView)) → HaveTurns outs turns → OthersHaveNone outs turns
    → ((place : ℕ) → place < length due → Contains (take place due) (get_or due place 0) → ⊥) → ((s : ℕ) → (get_or made s [] ≡ []) ⊎ Contains due s) → AreListed turns due streams → ArePrinted outs made streams
printed_due outs due streams turns made have others once all_due are =
    let noted : List Due = map (due_of turns) (filter (is_printed turns) due) in
    let listed : List Due = are.noted in
    subst (ArePrinted outs made) (sym are.are) (record {
      among = among outs due turns noted listed have others (apart due once) refl are.same are.rise;
      all = all_joined outs due turns noted listed have others (apart due once) refl are.same are.rise (λ s. result_of s (get_or made s [])) (λ s. nothing s (all_due s));
    })
  where
    nothing : (s : ℕ) → (get_or made s [] ≡ []) ⊎ Contains due s → (result_of s (get_or made s []) ≡ []) ⊎ Contains due s
    nothing s (inl none) = inl (ap (result_of s) none)
    nothing s (inr here) = inr here

-- and all that are printed
pub printed_all : (outs streams : List ℕ) (made : List (List TupleView)) → streams ≡ outs → ArePrinted outs made streams
printed_all outs streams made are = subst (ArePrinted outs made) (sym are) (record { among = All-contains_itself outs; all = refl })

-- a draft that fits some numbers of streams and states fits its own lists
pub fits_itself : (streams states : ℕ) (draft : Draft) → DraftFits streams states draft → DraftFits (length draft.made) (length draft.beads) draft
fits_itself streams states draft fits = subst (λ (m : ℕ). DraftFits m (length draft.beads) draft) (sym fits.made) (subst (λ (m : ℕ). DraftFits streams m draft) (sym fits.beads) fits)
