-- A query reads from no name beyond names that are closed under reading.
use Rattle.std.proofs.Common.{◌≡◌, List, ℕ, Bool, true, false, ◌||◌, not}
use Rattle.std.specs.List.{list_all}
use Rattle.std.proofs.lemmas.List.Elements.{All-contains}
use Rattle.std.proofs.lemmas.List.Sums.{AllPass-from_list_all}
use Rattle.cel_grammar.specs.Trees.{Statement}
use Rattle.cel_types.specs.Aggregates.{is_among}
use Rattle.catalogue.specs.Statements.{name_of, reads_by}
use Rattle.independence.specs.ReadsFrom.{ReadsFrom, own, through}

-- what the statements of these names read is among the names
abbrev pub is_closed : List Statement → List (List ℕ) → Bool
is_closed statements names = list_all (λ s. not (is_among names (name_of s)) || list_all (is_among names) (reads_by s)) statements

-- what follows where the first holds
second : (b c : Bool) → (not b || c) ≡ true → b ≡ true → c ≡ true
second true c e hit = e
second false c e hit = cc

-- by induction on the reading
pub reads-among : (statements : List Statement) (query : List ℕ) (names : List (List ℕ)) → is_among names query ≡ true → is_closed statements names ≡ true → (name : List ℕ) → ReadsFrom statements query name → is_among names name ≡ true
reads-among statements query names named closed _ own = named
reads-among statements query names named closed _ (through s {name = name} stated rest read) =
    let here = All-contains (λ u. (not (is_among names (name_of u)) || list_all (is_among names) (reads_by u)) ≡ true) statements s (AllPass-from_list_all (λ u. not (is_among names (name_of u)) || list_all (is_among names) (reads_by u)) statements closed) stated in
    let all = second (is_among names (name_of s)) (list_all (is_among names) (reads_by s)) here (reads-among statements query names named closed (name_of s) rest) in
    All-contains (λ x. is_among names x ≡ true) (reads_by s) name (AllPass-from_list_all (is_among names) (reads_by s) all) read
