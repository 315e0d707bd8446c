use Rattle.std.proofs.Common.{◌≡◌, ◌∙◌, ◌-◌, ◌++◌, ℕ, List, take, drop, sym, ap, subst, arith}
use Rattle.catalogue.specs.Catalogued.{Catalogued, program_in, query_in}
use Rattle.catalogue.specs.Leaving.{catalogue_without, lines_many}
use Rattle.catalogue.specs.Standing.{StandsInOrder}
use Rattle.catalogue.specs.Tables.{IsHeld}
use Rattle.catalogue.proofs.LeftLemmas.{left_stands}
use Rattle.catalogue.proofs.LeftProgramLemmas.{program_left}
use Rattle.catalogue.proofs.accepted.Catalogue.drop_at.Goals as goal

-- the query has left
pub returns-clause-ok : goal.returns-clause-ok
returns-clause-ok c =
    let now = c.args.self.now in
    let held : IsHeld now c.self.inside.chains.lines c.self.inside.chains.shares c.self.inside.reads = subst (λ (v : Catalogued). IsHeld v c.self.inside.chains.lines c.self.inside.chains.shares c.self.inside.reads) c.self.view_is c.self.invariant.held in
    let part = c.part_of-part.result in
    let many : part.end - part.first ≡ lines_many (query_in now c.args.query) = omega (arith, c.part_of-part.ensures.first, c.part_of-part.ensures.end) in
    let is : c.take_out.new.self ≡ catalogue_without now c.args.query = c.take_out.ensures in
    record {
      catalogue = is;
      program = ap program_in is ∙ program_left now held.stands c.args.query c.requires.within;
      ends = c.in_ok-add_part.ensures ∙ ap (λ (ns : List ℕ). ns ++ take (part.end - part.first) (drop part.first c.self.inside.chains.ends)) c.new-ends.ensures
          ∙ (λ t. take (many t) (drop (c.part_of-part.ensures.first t) (c.self.view_is t).ends));
      there = c.part_of-part.ensures.there;
      layout = c.part_of-part.ensures.lost ∙ ap (λ (v : Catalogued). v.layout) (sym is);
    }

-- the others stand in order
pub returns-clause-stands : goal.returns-clause-stands
returns-clause-stands c =
    let now = c.args.self.now in
    let held : IsHeld now c.self.inside.chains.lines c.self.inside.chains.shares c.self.inside.reads = subst (λ (v : Catalogued). IsHeld v c.self.inside.chains.lines c.self.inside.chains.shares c.self.inside.reads) c.self.view_is c.self.invariant.held in
    subst StandsInOrder (sym c.take_out.ensures) (left_stands now held.stands c.args.query c.requires.within c.requires.unread)
