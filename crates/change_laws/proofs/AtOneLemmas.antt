-- What an engine has that is at one with a catalogue.
use Rattle.std.proofs.Common.{◌≡◌, ◌∙◌, sym, ap, subst, ℕ, List, length, map}
use Rattle.std.specs.Prelude.{Contains}
use Rattle.std.proofs.lemmas.List.{length-map}
use Rattle.automaton.specs.NetworkLines.{Ending, HasLines}
use Rattle.birth_laws.specs.BornChains.{born_chain, born_lines}
use Rattle.birth_laws.proofs.BornLemmas.{plain_chain}
use Rattle.catalogue.specs.Catalogued.{Catalogued, program_in, work_in}
use Rattle.catalogue.specs.Standing.{StandsInOrder}
use Rattle.epoch_engine.specs.EngineView.{EngineView}
use Rattle.epoch_laws.specs.BornLines.{BornLine, born_by}
use Rattle.prefix_merge.specs.Merging.{HasEnd}
use Rattle.prefix_merge.proofs.LawLemmas.{own_lines}
use Rattle.semantics.specs.Programs.{Query}
use Rattle.splitter.specs.Chains.{chain_lines, lines_of}
use Rattle.change_laws.specs.AtOne.{AreAtOne, endings_in}
use Rattle.change_laws.proofs.EndLemmas.{among_endings, has_end, numbers_of}
use Rattle.change_laws.proofs.EndedLemmas.{born_ended_by, lines_ended_by, numbers_ended_by}

-- there are as many lines with births as without
pub born_long : (order : List Query) → length (born_chain order) ≡ length (chain_lines order)
born_long order = sym (length-map (born_chain order) (λ (b : BornLine). b.line)) ∙ ap length (plain_chain order)

module _ (c : Catalogued) (stands : StandsInOrder c) where
  -- each line has its end
  pub ends_long : length c.ends ≡ length (born_lines (program_in c))
  ends_long = stands.ended.as_many ∙ sym (born_long (work_in c))

  pub born_are : map born_by (endings_in c) ≡ born_lines (program_in c)
  born_are = born_ended_by (born_lines (program_in c)) c.ends ends_long

  pub lines_are : map (λ (e : Ending). e.line) (endings_in c) ≡ lines_of (program_in c)
  lines_are = lines_ended_by (born_lines (program_in c)) c.ends ends_long ∙ plain_chain (work_in c)

  pub numbers_are : numbers_of (endings_in c) ≡ c.ends
  numbers_are = numbers_ended_by (born_lines (program_in c)) c.ends ends_long

  module _ (engine : EngineView) (at_one : AreAtOne c engine) where
    -- its ends have the numbers that the catalogue gave, and no others
    pub end_known : (number : ℕ) → HasEnd engine.network number → Contains c.ends number
    end_known number has = subst (λ (ns : List ℕ). Contains ns number) numbers_are (among_endings engine.network (endings_in c) at_one.merged at_one.endings number has)

    pub end_there : (number : ℕ) → Contains c.ends number → HasEnd engine.network number
    end_there number has = has_end engine.network (endings_in c) at_one.merged at_one.endings number (subst (λ (ns : List ℕ). Contains ns number) (sym numbers_are) has)

    -- and its network the lines of the program
    pub has_lines : HasLines engine.network (lines_of (program_in c))
    has_lines = subst (HasLines engine.network) lines_are (own_lines engine.network (endings_in c) at_one.merged at_one.endings)
