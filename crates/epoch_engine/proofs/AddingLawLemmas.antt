-- The lines that come to an engine and leave it.
use Rattle.std.proofs.Common.{◌≡◌, ◌∙◌, sym, ap, refl, subst, ℕ, length, not, List, [], ◌∷◌, ◌++◌, map, arith}
use Rattle.std.specs.Prelude.{Option}
use Rattle.std.specs.List.{filter}
use Rattle.std.proofs.lemmas.List.{map-append}
use Rattle.automaton.specs.NetworkLines.{ArePrefixes, Ending}
use Rattle.automaton.specs.declared.line.Line.{Line}
use Rattle.prefix_merge.specs.Turns.{endings_with, is_among}
use Rattle.prefix_merge.proofs.LawLemmas.{own_lines}
use Rattle.epoch_laws.specs.BornLines.{BornLine, HasBornLines, born_by}
use Rattle.epoch_engine.specs.AddingLaws.{AddedLinesAreThere, BornLinesAreItsOwn, OtherLinesStay, born_at}
use Rattle.epoch_engine.proofs.BornLemmas.{born_ended}

-- with their births the lines of the endings are the network's
pub their_own : BornLinesAreItsOwn
their_own net endings merged had = (endings, had, refl, subst (ArePrefixes net) (sym (born_ended endings)) (own_lines net endings merged had).3)

born_with : (birth : Option ℕ) (lines : List Line) (ends : List ℕ) → length ends ≡ length lines → map born_by (endings_with birth lines ends) ≡ map (born_at birth) lines
born_with birth [] ends long = refl
born_with birth (line ∷ lines) [] long = absurd (omega (arith, long))
born_with birth (line ∷ lines) (end ∷ ends) long = ap (λ (bs : List BornLine). born_at birth line ∷ bs) (born_with birth lines ends (omega (arith, long)))

-- the lines that came are there
pub came : AddedLinesAreThere
came lines ends since layout old new had long adds has =
    let all = has.0 ++ endings_with since lines ends in
    let same : map born_by all ≡ had ++ map (born_at since) lines = map-append born_by has.0 (endings_with since lines ends) ∙ (λ i. has.2 i ++ born_with since lines ends long i) in
    subst (HasBornLines new.network) same (their_own new.network all adds.goes_over.merged (adds.inserted.endings has.0 has.1))

-- and the others that stay
pub stayed : OtherLinesStay
stayed ends layout old new endings drops had = their_own new.network (filter (λ (ending : Ending). not (is_among ends ending.number)) endings) drops.goes_over.merged (drops.removed.endings endings had)
