-- The texts of derivations one after another.
use Rattle.std.proofs.Common.{◌≡◌, ◌∙◌, sym, ap, ℕ, zero, suc, ◌+◌, ◌<◌, get_or, length, take, List, [], ◌∷◌, ◌++◌, append-nil, append_assoc, map, arith}
use Rattle.std.specs.Prelude.{codes}
use Rattle.std.proofs.lemmas.List.{map-append, take_more}
use Rattle.derivations.specs.Derivation.{Derivation, listed}
use Rattle.derivations.specs.declared.history.Heard.{Heard}
use Rattle.derivations.specs.Texts.{HasPlaces, HavePlaces, all_text, by_text}

-- the text of one more derivation stands behind a comma
pub all_text-more : (lines : List Heard) (ds : List Derivation) (d : Derivation) → all_text lines (listed (ds ++ d ∷ [])) ≡ all_text lines (listed ds) ++ (codes "," ++ by_text lines d)
all_text-more lines [] d = ap (λ (text : List ℕ). codes "," ++ text) (append-nil (by_text lines d))
all_text-more lines (first ∷ ds) d =
    ap (λ (text : List ℕ). codes "," ++ (by_text lines first ++ text)) (all_text-more lines ds d)
    ∙ ap (λ (text : List ℕ). codes "," ++ text) (sym (append_assoc (by_text lines first) (all_text lines (listed ds)) (codes "," ++ by_text lines d)))

-- each derivation of a list has its places
pub one_has_places : {X : Type 0} (view : X → Derivation) (lines : List Heard) (xs : List X) (i : ℕ) (x : X) → HavePlaces lines (listed (map view xs)) → i < length xs → HasPlaces lines (view (get_or xs i x))
one_has_places view lines [] i x all lt = absurd (omega arith)
one_has_places view lines (first ∷ xs) zero x all lt = all.0
one_has_places view lines (first ∷ xs) (suc i) x all lt = one_has_places view lines xs i x all.1 (omega arith)

-- one more text was put
pub text_step : {X : Type 0} (view : X → Derivation) (lines : List Heard) (xs : List X) (i : ℕ) (x : X) (before start mid next : List ℕ) → i < length xs → x ≡ get_or xs i x
    → start ≡ before ++ all_text lines (listed (map view (take i xs))) → mid ≡ start ++ codes "," → next ≡ mid ++ by_text lines (view x)
    → next ≡ before ++ all_text lines (listed (map view (take (i + 1) xs)))
text_step {X} view lines xs i x before start mid next lt is so comma rest =
    rest ∙ ap (λ (t : List ℕ). t ++ by_text lines (view x)) (comma ∙ ap (λ (t : List ℕ). t ++ codes ",") so)
    ∙ append_assoc (before ++ done) (codes ",") (by_text lines (view x))
    ∙ append_assoc before done (codes "," ++ by_text lines (view x))
    ∙ ap (λ (t : List ℕ). before ++ t) (sym all)
  where
    done : List ℕ
    done = all_text lines (listed (map view (take i xs)))

    all : all_text lines (listed (map view (take (i + 1) xs))) ≡ done ++ (codes "," ++ by_text lines (view x))
    all =
        ap (λ (ys : List X). all_text lines (listed (map view ys))) (take_more xs i x lt ∙ ap (λ (y : X). take i xs ++ y ∷ []) (sym is))
        ∙ ap (λ (ds : List Derivation). all_text lines (listed ds)) (map-append view (take i xs) (x ∷ []))
        ∙ all_text-more lines (map view (take i xs)) (view x)
