-- What cases (a) to (e) and (j) are about (document 01, "Cases"): a directory, a new list, an output, and each record byte for byte.
use Rattle.std.specs.Prelude.{List, [], ◌∷◌, ◌++◌, ℕ, zero, suc, ◌-◌, replicate, length, Ok}
use Rattle.directory.specs.Table.{description}
use Rattle.directory.specs.declared.table.TableKind.TheVariants.{Index, Value, RefCount}
use Rattle.directory.specs.declared.directory.Directory.{Directory}
use Rattle.change.specs.Change.{Change, change_of, new_list}
use Rattle.change.specs.Insert.{Made, inserted}
use Rattle.writer.specs.Flush.{FlushedLog, flushed_of}

-- index table 1, value table 2 with values of 20 bytes, reference count table 3
abbrev pub case_tables : Directory
case_tables = record {
  tables = description Index 1 0 8 0 ∷ description Value 2 0 8 20 ∷ description RefCount 3 0 8 0 ∷ replicate 13 (description Index 0 0 0 0);
  count = 3;
}

-- a new list of id 1, in memories of zeros
abbrev pub empty_list : Change
empty_list = change_of (new_list 1) (replicate 400 0) (replicate 49152 0)

-- an output of 60 bytes
abbrev pub sixty_bytes : List ℕ
sixty_bytes = replicate 60 255

-- so many bytes, counting up from a number
abbrev pub counting : ℕ → ℕ → List ℕ
counting zero n = []
counting (suc k) n = n ∷ counting k (suc n)

-- a chunk of n bytes whose first 64 are 1 to 64
abbrev pub chunk_of : ℕ → List ℕ
chunk_of n = counting 64 1 ++ replicate (n - 64) 0

-- a number below 256 in eight bytes
abbrev pub in_eight : ℕ → List ℕ
in_eight n = n ∷ replicate 7 0

-- what every record of id 1 begins with
abbrev pub begin_one : List ℕ
begin_one = 1 ∷ in_eight 1

-- (a): the end tag and the checksum
abbrev pub empty_record : List ℕ
empty_record = begin_one ++ 4 ∷ 18 ∷ 211 ∷ 94 ∷ 28 ∷ []

-- (b): slots 0 and 2 of index 3
abbrev pub two_slots : List ℕ
two_slots = begin_one ++ 2 ∷ 1 ∷ 0 ∷ in_eight 3 ++ in_eight 5 ++ counting 8 1 ++ counting 8 17 ++ 4 ∷ 177 ∷ 67 ∷ 1 ∷ 190 ∷ []

-- (c): a value at index 4
abbrev pub one_value : List ℕ
one_value = begin_one ++ 3 ∷ 2 ∷ 0 ∷ in_eight 4 ++ counting 20 1 ++ 4 ∷ 110 ∷ 36 ∷ 58 ∷ 141 ∷ []

-- (d): a drop of table 1
abbrev pub one_drop : List ℕ
one_drop = begin_one ++ 5 ∷ 1 ∷ 0 ∷ 4 ∷ 116 ∷ 141 ∷ 54 ∷ 120 ∷ []

-- (e): slot 1 of index 5
abbrev pub one_count : List ℕ
one_count = begin_one ++ 6 ∷ 3 ∷ 0 ∷ in_eight 5 ++ in_eight 2 ++ counting 16 17 ++ 4 ∷ 122 ∷ 93 ∷ 75 ∷ 3 ∷ []

-- what flushing a list comes to where its record is these bytes: done, their number, and they stand at the output's front
abbrev pub wrote : List ℕ → FlushedLog
wrote bytes = flushed_of (Ok (length bytes)) (bytes ++ replicate (60 - length bytes) 255)

-- a slot of index 3 put in
abbrev pub slot_put : Change → ℕ → Made
slot_put l sub = inserted Index case_tables l 1 3 sub (chunk_of 512)
