-- What a set has that is reached from an accepted text.
use Rattle.std.proofs.Common.{◌≡◌, ℕ, ◌-◌, true, List, length}
use Rattle.std.specs.List.{All}
use Rattle.std.proofs.lemmas.List.Elements.{All-contains, All-weaker}
use Rattle.splitter.specs.Chains.{end_of}
use Rattle.stream_schema.specs.Streams.{Entry, hidden_entries}
use Rattle.stream_schema.specs.Table.{IsOwn}
use Rattle.cel_grammar.specs.Trees as tree
use Rattle.catalogue.specs.Judgement.{Accepts, Judged, program_of}
use Rattle.courses.specs.QuerySet.{QuerySet, set_of}
use Rattle.independence.specs.Renumbered.{IsReached, loaded, added, dropped}
use Rattle.independence.proofs.AcceptedLemmas.{IsOfDeclaration, accepted-stands}
use Rattle.independence.proofs.FirstLemmas.{kept-first, own-statements}
use Rattle.independence.proofs.InsideLemmas.{kept-added, kept-dropped}
use Rattle.independence.proofs.KeptLemmas.{IsKept, kept-hidden}
use Rattle.independence.proofs.OwnLemmas.{OwnNames}
use Rattle.independence.proofs.RenamedLemmas.{hidden-all}
use Rattle.independence.proofs.TakenLemmas.{taken-is, taken-names}

-- a stream is declared, and has no retired stream's name
pub record IsTold (e : Entry) : Type 0 where
  pub declared : e.declared ≡ true
  pub own : IsOwn e.name

-- the set is kept, with these declared streams
pub record Holds (set : QuerySet) : Type 0 where
  pub declared : List Entry
  pub told : All IsTold declared
  pub kept : IsKept declared set.streams set.program

-- the set of an accepted text
loaded-holds : (text : List ℕ) (judged : Judged) → Accepts text judged → Holds (set_of judged)
loaded-holds text judged accepts = record {
  declared = judged.declared;
  told =
      All-weaker (IsOfDeclaration judged.statements) IsTold
      (λ e is. record { declared = is.declared; own = (All-contains OwnNames judged.statements (tree.Stream e.name is.columns) (own-statements text judged accepts) is.stands).name }) judged.declared
      (accepted-stands text judged accepts).declarations;
  kept =
      kept-hidden judged.declared judged.streams (program_of judged) (kept-first text judged accepts) (hidden_entries (length judged.streams) (end_of (program_of judged) - length judged.streams))
      (hidden-all (length judged.streams) (end_of (program_of judged) - length judged.streams));
}

-- by induction on how it is reached
pub holds : (set : QuerySet) → IsReached set → Holds set
holds _ (loaded text judged accepts) = loaded-holds text judged accepts
holds _ (added set text query birth reached judges) =
    let was = holds set reached in
    let is = taken-is set.streams text query judges in
    record { declared = was.declared; told = was.told; kept = kept-added was.declared set was.kept query birth is.gives (taken-names set.streams text query is) is.absent }
holds _ (dropped set query reached there none) =
    let was = holds set reached in record { declared = was.declared; told = was.told; kept = kept-dropped was.declared set was.kept query there none }
