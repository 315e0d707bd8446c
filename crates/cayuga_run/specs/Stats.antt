-- The stats line of a run.
use Rattle.std.specs.Prelude.{◌≡◌, ℕ, List, [], ◌∷◌, ◌++◌, Bool, true, false, codes, decimal}
use Rattle.semantics.specs.Histories.{Event}
use Rattle.semantics.specs.Programs.{Program}
use Rattle.splitter.specs.Chains.{lines_of, work_order}
use Rattle.prefix_merge.specs.Counts.{CountsPlain, CountsStates}
use Rattle.epoch_engine.specs.Counts.{CountsAlive}
use Rattle.birth_laws.specs.BornChains.{born_lines}

-- the numbers of a stats line: the states of the merged network, those of the plain network, and the bindings that wait and are alive
pub record Stats : Type 0 where
  pub states : ℕ
  pub plain : ℕ
  pub live : ℕ

-- they are those of the queries of a program after a history
pub record AreStats (program : Program) (history : List Event) (stats : Stats) : Type 0 where
  pub states : CountsStates (lines_of program) stats.states
  pub plain : CountsPlain (lines_of program) stats.plain
  pub live : CountsAlive (born_lines program) (work_order program) history stats.live

-- the line: `# states 3, plain 4, live 2` and an LF
abbrev pub stats_line : Stats → List ℕ
stats_line stats = codes "# states " ++ (decimal stats.states ++ (codes ", plain " ++ (decimal stats.plain ++ (codes ", live " ++ (decimal stats.live ++ 10 ∷ [])))))

-- what a run writes behind the report of a history: with `--stats` its stats line, else nothing
abbrev pub ComesBehind : Bool → Program → List Event → List ℕ → Type 0
ComesBehind false program history text = text ≡ []
ComesBehind true program history text = (stats : Stats) × AreStats program history stats × (text ≡ stats_line stats)
