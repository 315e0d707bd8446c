-- The faults of the passes as those of a query text.
use Rattle.std.proofs.Common.{ℕ, List}
use Rattle.stream_schema.specs.Streams.{Entry}
use Rattle.cel_grammar.specs.Trees.{Statement}
use Rattle.resubscribe.specs.Order.{IsOrder}
use Rattle.catalogue.specs.declared.fault.LoadFault.{LoadFault}
use Rattle.catalogue.specs.declared.fault.LoadFault.TheVariants.{Bad, Cycle, Memory}
use Rattle.catalogue.specs.Arranging.{AreSound, FailInNames, HaveCycle}
use Rattle.catalogue.specs.Filing.{FailsAsFile, IsFileWithinLimit}
use Rattle.catalogue.specs.Judgement.{Circles, Refuses}
use Rattle.catalogue.specs.Judgement as judgement
use Rattle.catalogue.specs.Reading.{reads_in}
use Rattle.catalogue.specs.Telling.{Tells, TellsBad}
use Rattle.catalogue.specs.Typing.{FileDeclares, FailsInDeclarations, FailsInQueries}

-- the text is no file
pub tells_file : (text : List ℕ) (told : LoadFault) → TellsBad (FailsAsFile text) told → Tells (Refuses text) (Circles text) told
tells_file text (Bad line why) h = judgement.file h
tells_file text (Cycle names) h = absurd h
tells_file text Memory h = tt

module _ (text : List ℕ) (ss : List Statement) (lines : List ℕ) (file : IsFileWithinLimit text ss lines) where
  -- its names have a fault, or its queries a cycle
  pub tells_names : (told : LoadFault) → Tells (FailInNames ss lines) (HaveCycle ss) told → Tells (Refuses text) (Circles text) told
  tells_names (Bad line why) h = judgement.names file h
  tells_names (Cycle names) h = record { statements = ss; lines = lines; file = file; have_cycle = h }
  tells_names Memory h = tt

  module _ (order : List ℕ) (sound : AreSound ss) (in_order : IsOrder (reads_in ss) order) where
    -- a declaration has a fault
    pub tells_declarations : (told : LoadFault) → TellsBad (FailsInDeclarations ss lines) told → Tells (Refuses text) (Circles text) told
    tells_declarations (Bad line why) h = judgement.declared file sound in_order h.fails h.same
    tells_declarations (Cycle names) h = absurd h
    tells_declarations Memory h = tt

    -- a query has one
    pub tells_queries : (streams : List Entry) (told : LoadFault) → FileDeclares ss streams → TellsBad (FailsInQueries ss lines streams order) told → Tells (Refuses text) (Circles text) told
    tells_queries streams (Bad line why) declares h = judgement.query file sound in_order declares h.fails h.same
    tells_queries streams (Cycle names) declares h = absurd h
    tells_queries streams Memory declares h = tt
