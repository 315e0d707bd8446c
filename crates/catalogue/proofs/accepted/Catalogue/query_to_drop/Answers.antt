use Rattle.std.proofs.Common.{◌∙◌, ℕ, sym, ap, subst}
use Rattle.catalogue.specs.Catalogued.{Catalogued, query_in}
use Rattle.catalogue.specs.Leaving.{IsFirstReader}
use Rattle.catalogue.specs.Tables.{IsHeld}
use Rattle.catalogue.proofs.LeftProgramLemmas.{name_there}
use Rattle.catalogue.proofs.accepted.Catalogue.query_to_drop.Goals as goal

-- the first query that reads it is told
pub returns-in_ok-reader-in-Some-reader_of-clause-err :
    goal.returns-in_ok-reader-in-Some-reader_of-clause-err
returns-in_ok-reader-in-Some-reader_of-clause-err c =
    let now = c.args.self.now in
    let held : IsHeld now c.self.inside.chains.lines c.self.inside.chains.shares c.self.inside.reads = subst (λ (v : Catalogued). IsHeld v c.self.inside.chains.lines c.self.inside.chains.shares c.self.inside.reads) c.self.view_is c.self.invariant.held in
    let reader = c.in-Some-reader_of.reader in
    let first : IsFirstReader now (query_in now c.in-Some.query).stream reader = subst (λ (stream : ℕ). IsFirstReader now stream reader) c.stream_of.ensures.value c.in-Some-reader_of.ensures.found in
    record {
      number = c.in-Some.query;
      named = c.in-Some.ensures.found;
      first_named = c.in-Some.ensures.first;
      other = reader;
      first = first;
      reader_is = c.in_ok-reader-in-Some-reader_of.ensures
          ∙ sym (name_there now held.stands reader first.within c.self.inside.streams c.stream_of-in-Some-reader_of.result c.name.result.now (ap (λ (v : Catalogued). v.streams) c.self.view_is) c.stream_of-in-Some-reader_of.ensures.value c.name.ensures);
    }
