-- The files that a host tells, by their names.
use Rattle.std.specs.Prelude.{ℕ, List, [], ◌∷◌, Bool, false, Option, Some, None, if◌then◌else◌, is_none}
use Rattle.std.specs.Str.{bytes_eq}

-- names with bytes; of two files of one name the first counts
abbrev pub Files : Type 0
Files = List (List ℕ × List ℕ)

-- the bytes of the file of that name
abbrev pub find_file : List ℕ → Files → Option (List ℕ)
find_file name [] = None
find_file name (file ∷ files) = if bytes_eq file.0 name then Some file.1 else find_file name files

-- the bytes of the file of that name, where the files are told
abbrev pub file_of : List ℕ → Option Files → Option (List ℕ)
file_of name None = None
file_of name (Some files) = find_file name files

-- the files are told, and none has that name
abbrev pub lacks : List ℕ → Option Files → Bool
lacks name None = false
lacks name (Some files) = is_none (find_file name files)

-- the files with this one in place of any other of its name
abbrev pub put_file : List ℕ → List ℕ → Files → Files
put_file name bytes files = (name, bytes) ∷ files
