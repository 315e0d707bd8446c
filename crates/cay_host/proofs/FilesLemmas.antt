-- The files of a host in memory, by their places in the list.
use Rattle.std.proofs.Common.{◌≡◌, ℕ, ◌+◌, ◌<◌, ◌≤◌, List, [], ◌∷◌, ◌++◌, true, Some, refl, ap, ◌∙◌, sym, arith, length, take, drop, get_or, zero, suc, min, ◌-◌, length-drop, length-append, take-append-drop}
use Rattle.std.proofs.lemmas.List.{length-take-le, take_at}
use Rattle.std.proofs.Math.Seq.{drop-drop}
use Rattle.cay_host.specs.Input.{Took}
use Rattle.cay_host.proofs.OutputLemmas.{tail_slice}
use Rattle.cay_host.specs.declared.files.File.{File}
use Rattle.cay_host.specs.Files.{find_file}
use Rattle.cay_host.specs.MemHost.{entries, bytes_at}
use Rattle.std.specs.Str.{bytes_eq}

-- the bytes of the file at a place that is there
pub bytes_at-get : (files : List File) (i : ℕ) (d : File) → i < length files → (get_or files i d).bytes.items ≡ bytes_at files i
bytes_at-get [] i d h = absurd (omega arith)
bytes_at-get (f ∷ files) zero d h = refl
bytes_at-get (f ∷ files) (suc i) d h = bytes_at-get files i d (omega arith)

-- past the last file there are no bytes
pub bytes_at-past : (files : List File) (i : ℕ) → length files ≤ i → [] ≡ bytes_at files i
bytes_at-past [] i h = refl
bytes_at-past (f ∷ files) zero h = absurd (omega arith)
bytes_at-past (f ∷ files) (suc i) h = bytes_at-past files i (omega arith)

-- the file at an index is the one that is found from there, if it has the name
pub found_at : (files : List File) (i : ℕ) (d : File) (name : List ℕ) → i < length files
    → bytes_eq (get_or files i d).name.items name ≡ true → find_file name (entries (drop i files)) ≡ Some (bytes_at files i)
found_at [] i d name h e = absurd (omega arith)
found_at (f ∷ files) zero d name h e = rw e refl
found_at (f ∷ files) (suc i) d name h e = found_at files i d name (omega arith) e

-- what stands in a buffer after the next bytes were copied to its front
pub took_at : (b buf copied : List ℕ) (at m n piece : ℕ) → at < length b → 0 < piece → 0 < length buf
    → m ≡ min (length (take (length b - at) (drop at b))) piece → n ≡ min m (length buf)
    → copied ≡ take n (take (length b - at) (drop at b))
    → Took n (copied ++ drop n buf) (Some (drop at b)) (Some (drop (at + n) b))
took_at b buf copied at m n piece inside some room me ne ce =
    let rest = drop at b in
    let whole : take (length b - at) rest ≡ rest = tail_slice b at in
    let len : length rest ≡ length b - at = length-drop at b in
    let me' : m ≡ min (length rest) piece = rw whole at me in
    let ce' : copied ≡ take n rest = rw whole at ce in
    let few : n ≤ length rest = omega arith in
    let clen : length copied ≡ n = ap length ce' ∙ length-take-le n rest few in
    record {
      front = ap Some (sym (ap (λ l. l ++ drop (at + n) b) (take_at copied (drop n buf) n clen ∙ ce') ∙ ap (λ l. take n rest ++ l) (sym (drop-drop n at b)) ∙ take-append-drop n rest));
      fits = omega (arith, length-append copied (drop n buf), clen);
      end = λ z. absurd (omega arith);
    }
