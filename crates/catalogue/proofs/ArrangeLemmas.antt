-- What a file tells of its names and its order.
use Rattle.std.proofs.Common.{◌≡◌, ◌∙◌, ℕ, ◌<◌, List, length, sym, ap, subst}
use Rattle.std.specs.Prelude.{Result, Ok, Err, OnOk}
use Rattle.std.specs.List.{All}
use Rattle.std.proofs.lemmas.List.{length-map}
use Rattle.cel_grammar.specs.Trees.{Statement}
use Rattle.stream_schema.specs.Streams.{Entry, stream_names}
use Rattle.catalogue.specs.declared.fault.LoadFault.{LoadFault}
use Rattle.catalogue.specs.declared.fault.LoadFault.TheVariants.{Bad, Cycle, Memory}
use Rattle.catalogue.specs.Arranging.{AreSound, FailInNames, HaveCycle, name, read}
use Rattle.catalogue.specs.First.{HaveNone, IsFirst}
use Rattle.catalogue.specs.Naming.{name_fault_at, read_fault_at}
use Rattle.catalogue.specs.Reading.{reads_in}
use Rattle.catalogue.specs.Statements.{query_names}
use Rattle.catalogue.specs.Telling.{AreOfCycle, Tells, TellsBad, TellsCycle}
use Rattle.catalogue.proofs.SmallLemmas.{length_names, reads_small}

-- the fault of a name
pub tells_name : (ss : List Statement) (lines : List ℕ) (told : LoadFault) → TellsBad (IsFirst (name_fault_at ss) lines) told → Tells (FailInNames ss lines) (HaveCycle ss) told
tells_name ss lines (Bad line why) h = name h
tells_name ss lines (Cycle names) h = absurd h
tells_name ss lines Memory h = tt

-- the fault of a name that is read
pub tells_read : (ss : List Statement) (lines : List ℕ) (n : ℕ) (told : LoadFault) → n ≡ length ss → HaveNone (name_fault_at ss) n → TellsBad (IsFirst (read_fault_at ss) lines) told → Tells (FailInNames ss lines) (HaveCycle ss) told
tells_read ss lines n (Bad line why) same none h = read (subst (HaveNone (name_fault_at ss)) same none) h
tells_read ss lines n (Cycle names) same none h = absurd h
tells_read ss lines n Memory same none h = tt

-- a cycle
pub tells_cycle : (ss : List Statement) (lines : List ℕ) (reads queries : List (List ℕ)) (told : LoadFault) → AreSound ss → reads ≡ reads_in ss → queries ≡ query_names ss → TellsCycle (AreOfCycle reads queries) told → Tells (FailInNames ss lines) (HaveCycle ss) told
tells_cycle ss lines reads queries (Bad line why) sound same names_same h = absurd h
tells_cycle ss lines reads queries (Cycle names) sound same names_same h =
    let here : AreOfCycle (reads_in ss) (query_names ss) names = subst (λ (rs : List (List ℕ)). AreOfCycle rs (query_names ss) names) same (subst (λ (qs : List (List ℕ)). AreOfCycle reads qs names) names_same h) in
    record { sound = sound; cycle = here.cycle; is_cycle = here.is_cycle; names_are = here.names_are }
tells_cycle ss lines reads queries Memory sound same names_same h = tt

-- there are as many lists of reads as queries in the table
pub as_many : (ss : List Statement) (reads : List (List ℕ)) (queries : List Entry) → reads ≡ reads_in ss → stream_names queries ≡ query_names ss → length reads ≡ length queries
as_many ss reads queries same names_same = ap length same ∙ sym (length_names ss) ∙ sym (ap length names_same) ∙ length-map queries (λ s. s.name)

-- what is read is a query's number
pub small : (ss : List Statement) (reads : List (List ℕ)) → reads ≡ reads_in ss → All (λ numbers. All (λ number. number < length reads) numbers) reads
small ss reads same = subst (λ (rs : List (List ℕ)). All (λ numbers. All (λ number. number < length rs) numbers) rs) (sym same) (reads_small ss)

-- what holds anyway holds of a value
pub on_ok_always : {T E P : Type 0} (r : Result T E) → P → OnOk r P
on_ok_always (Ok v) p = p
on_ok_always (Err e) p = tt

-- names without a fault are sound
pub sound_from : (ss : List Statement) (n : ℕ) → n ≡ length ss → HaveNone (name_fault_at ss) n → HaveNone (read_fault_at ss) n → AreSound ss
sound_from ss n same names reads = record { names = subst (HaveNone (name_fault_at ss)) same names; reads = subst (HaveNone (read_fault_at ss)) same reads }
