-- The places of the queries of a file.
use Rattle.std.proofs.Common.{◌≡◌, ◌∙◌, ℕ, zero, suc, ◌+◌, List, [], ◌∷◌, ◌++◌, Bool, true, false, cond, length, map, take, refl, sym, ap, arith}
use Rattle.std.specs.Prelude.{Some, slice_get}
use Rattle.std.specs.List.{items_where_true}
use Rattle.std.proofs.lemmas.List.{length-map, map-append}
use Rattle.cel_grammar.specs.Trees.{Statement}
use Rattle.catalogue.specs.Statements.{is_query, queries_in}
use Rattle.catalogue.specs.Tables.{ArePlaces}
use Rattle.catalogue.specs.Typing.{query_lines}
use Rattle.catalogue.proofs.PlaceLemmas.{queries-with}
use Rattle.semantics.proofs.ListLemmas.{map-cond}

picked-one : (b : Bool) (l : ℕ) → items_where_true (b ∷ []) (l ∷ []) ≡ cond b (l ∷ []) []
picked-one true l = refl
picked-one false l = refl

picked-cons : (b : Bool) (bs : List Bool) (l : ℕ) (ls xs ys : List ℕ) → items_where_true bs ls ≡ xs ++ ys → items_where_true (b ∷ bs) (l ∷ ls) ≡ cond b (l ∷ xs) xs ++ ys
picked-cons true bs l ls xs ys e = ap (λ zs. l ∷ zs) e
picked-cons false bs l ls xs ys e = e

picked-front : (b : Bool) (bs : List Bool) (l : ℕ) (ls : List ℕ) → cond b (l ∷ items_where_true bs ls) (items_where_true bs ls) ≡ items_where_true (b ∷ bs) (l ∷ ls)
picked-front true bs l ls = refl
picked-front false bs l ls = refl

lines-step : (ss : List Statement) (lines : List ℕ) (place : ℕ) (s : Statement) (line : ℕ) → slice_get ss place ≡ Some s → slice_get lines place ≡ Some line
    → query_lines (take (suc place) ss) (take (suc place) lines) ≡ query_lines (take place ss) (take place lines) ++ cond (is_query s) (line ∷ []) []
lines-step [] lines place s line there on_line = cc
lines-step (t ∷ ss) [] place s line there on_line = cc
lines-step (t ∷ ss) (l ∷ lines) zero s line there on_line =
    let same : t ≡ s = cc in let at : l ≡ line = cc in
    picked-one (is_query t) l ∙ ap (λ z. cond (is_query z) (l ∷ []) []) same ∙ ap (λ z. cond (is_query s) (z ∷ []) []) at
lines-step (t ∷ ss) (l ∷ lines) (suc place) s line there on_line =
    picked-cons (is_query t) (map is_query (take (suc place) ss)) l (take (suc place) lines) (query_lines (take place ss) (take place lines)) (cond (is_query s) (line ∷ []) []) (lines-step ss lines place s line there on_line)
    ∙ ap (λ xs. xs ++ cond (is_query s) (line ∷ []) []) (picked-front (is_query t) (map is_query (take place ss)) l (take place lines))

-- one more statement, with its place if it is a query
pub places-with : (ss : List Statement) (lines : List ℕ) (place : ℕ) (s : Statement) (line : ℕ) (old new : List ℕ) → slice_get ss place ≡ Some s → slice_get lines place ≡ Some line
    → ArePlaces ss lines (take place ss) (take place lines) old → new ≡ old ++ cond (is_query s) (place ∷ []) [] → ArePlaces ss lines (take (place + 1) ss) (take (place + 1) lines) new
places-with ss lines place s line old new there on_line before put =
    let one_more : place + 1 ≡ suc place = omega arith in
    record {
      queries =
          ap (map (slice_get ss)) put ∙ map-append (slice_get ss) old (cond (is_query s) (place ∷ []) []) ∙ ap (λ xs. xs ++ map (slice_get ss) (cond (is_query s) (place ∷ []) [])) before.queries
          ∙ ap (λ xs. map Some (queries_in (take place ss)) ++ xs) (map-cond (slice_get ss) (is_query s) place ∙ ap (λ z. cond (is_query s) (z ∷ []) []) there ∙ sym (map-cond Some (is_query s) s))
          ∙ sym (map-append Some (queries_in (take place ss)) (cond (is_query s) (s ∷ []) [])) ∙ ap (map Some) (sym (queries-with ss place s there));
      lines_are =
          ap (map (slice_get lines)) put ∙ map-append (slice_get lines) old (cond (is_query s) (place ∷ []) []) ∙ ap (λ xs. xs ++ map (slice_get lines) (cond (is_query s) (place ∷ []) [])) before.lines_are
          ∙ ap (λ xs. map Some (query_lines (take place ss) (take place lines)) ++ xs) (map-cond (slice_get lines) (is_query s) place ∙ ap (λ z. cond (is_query s) (z ∷ []) []) on_line ∙ sym (map-cond Some (is_query s) line))
          ∙ sym (map-append Some (query_lines (take place ss) (take place lines)) (cond (is_query s) (line ∷ []) []))
          ∙ ap (map Some) (sym (lines-step ss lines place s line there on_line)) ∙ ap (λ n. map Some (query_lines (take n ss) (take n lines))) (sym one_more);
    }

-- what stands at a place
pub at_place : {X : Type 0} (xs picked : List X) (places : List ℕ) (number place : ℕ) → map (slice_get xs) places ≡ map Some picked → slice_get places number ≡ Some place → slice_get picked number ≡ slice_get xs place
at_place xs picked [] number place e at = cc
at_place xs [] (p ∷ places) number place e at = cc
at_place xs (q ∷ picked) (p ∷ places) zero place e at = let same : p ≡ place = cc in let there : slice_get xs p ≡ Some q = cc in sym there ∙ ap (slice_get xs) same
at_place xs (q ∷ picked) (p ∷ places) (suc number) place e at = let rest : map (slice_get xs) places ≡ map Some picked = cc in at_place xs picked places number place rest at

-- there are as many as queries
pub places_long : (ss : List Statement) (lines places : List ℕ) → ArePlaces ss lines ss lines places → length places ≡ length (queries_in ss)
places_long ss lines places are = sym (length-map places (slice_get ss)) ∙ ap length are.queries ∙ length-map (queries_in ss) Some
