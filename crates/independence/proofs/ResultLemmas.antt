-- Queries of one name in two sets have the same results over histories that hear the same.
use Rattle.std.proofs.Common.{◌≡◌, ◌∙◌, ℕ, ◌<◌, List, true, get_or, length, refl, sym, ap, subst}
use Rattle.std.specs.Prelude.{IsTrue}
use Rattle.std.specs.List.{All, flat_map}
use Rattle.std.proofs.lemmas.List.Elements.{All-contains, All-weaker, Contains-get_or}
use Rattle.semantics.specs.Expressions.{Ex, Read, Filter, Select, Union, Next, Fold}
use Rattle.semantics.specs.Histories.{Event, heard_on}
use Rattle.semantics.specs.Programs.{Query}
use Rattle.semantics.specs.Reading.{ReadsOnly, renumbered}
use Rattle.semantics.specs.Report.{line}
use Rattle.semantics.specs.Results.{results}
use Rattle.semantics.specs.Statements.{Publishes}
use Rattle.semantics.proofs.StatementLemmas.{same_results}
use Rattle.cel_types.specs.SourceLaws.{kinds_in}
use Rattle.courses.specs.QuerySet.{QuerySet}
use Rattle.independence.specs.Independence.{HasTwin}
use Rattle.independence.proofs.InsideLemmas.{IsInside, Tables}
use Rattle.independence.proofs.TwinLemmas.{HasSame}

-- each stream that an expression reads is a stream
reads-any : (x : Ex) → ReadsOnly (λ n. IsTrue true) x
reads-any (Read n) = refl
reads-any (Filter p x) = reads-any x
reads-any (Select m x) = reads-any x
reads-any (Union x y) = (reads-any x, reads-any y)
reads-any (Next p x y) = (reads-any x, reads-any y)
reads-any (Fold p q m x y) = (reads-any x, reads-any y)

module _ (a b : Tables) (number : ℕ → ℕ) (history others : List Event) (heard : (n : ℕ) → n < length a.declared → heard_on history n ≡ heard_on others (number n)) where
  -- a query of the one set has a twin with the same results in the other
  pub twins-inside : (set other : QuerySet) → IsInside a b number set other → All (HasTwin set.program other.program history others) set.program.queries
  twins-inside set other inside k d less =
      let q : Query = get_or set.program.queries k d in
      let has = All-contains (HasSame inside.number other.program) set.program.queries q inside.within.twins (Contains-get_or set.program.queries k d less) in
      let all = same_results (λ n. true) inside.number (kinds_in set.streams) (kinds_in other.streams) set.program other.program history others inside.kept.typed inside.kept_too.typed (record {
        declared = λ n shares low. (inside.within.low n low).0;
        published =
            All-weaker (HasSame inside.number other.program) (λ (p : Query). IsTrue true → ReadsOnly (λ n. IsTrue true) p.expr × Publishes other.program (inside.number p.stream) (renumbered inside.number p.expr) p.birth)
            (λ p is shares. (reads-any p.expr, (is.twin, is.stands, sym is.stream, is.expr, is.birth))) set.program.queries inside.within.twins;
      }) (λ n shares low. heard n (subst (λ count. n < count) inside.kept.many low) ∙ ap (heard_on others) (sym (inside.within.low n low).1)) in
      let same_at : (time : ℕ) → results other.program others has.twin.stream time ≡ results set.program history q.stream time =
      (λ time. ap (λ n. results other.program others n time) (sym has.stream) ∙ sym (all k d less refl time)) in
      record {
        twin = has.twin;
        stands = has.stands;
        same_name = has.named;
        same_results = same_at;
        same_lines = λ time i. flat_map (line (has.named i)) (same_at time i);
      }
