-- A list that is full: 32 index keys with every slot set, 32 values of 512 bytes, 16 reference count keys with every slot set, 16 drops of each
-- kind. Its record is the largest.
use Rattle.std.specs.Prelude.{List, [], ◌∷◌, ◌++◌, ℕ, zero, suc, replicate}
use Rattle.directory.specs.Table.{description}
use Rattle.directory.specs.declared.table.TableKind.TheVariants.{Index, Value, RefCount}
use Rattle.directory.specs.declared.directory.Directory.{Directory}
use Rattle.change.specs.Change.{Change, change_of}
use Rattle.change.specs.declared.change.LogChange.{LogChange}

-- a table of each kind, each numbered 1
abbrev pub full_tables : Directory
full_tables = record {
  tables =
      description Index 1 0 32 0 ∷ description Value 1 0 32 512 ∷ description RefCount 1 0 32 0 ∷ replicate 13 (description Index 0 0 0 0);
  count = 3;
}

-- n rows of table 1 with one mark, from an index on
abbrev pub full_rows : ℕ → ℕ → ℕ → List ℕ
full_rows zero i mark = []
full_rows (suc n) i mark = 1 ∷ i ∷ 1 ∷ mark ∷ full_rows n (suc i) mark

-- n places in order, from one on
abbrev pub places_up : ℕ → ℕ → List ℕ
places_up zero i = []
places_up (suc n) i = i ∷ places_up n (suc i)

-- n keys of one mark: their rows, then their order
abbrev pub full_keys : ℕ → ℕ → List ℕ
full_keys n mark = full_rows n 0 mark ++ places_up n 0

-- the words of the three kinds
abbrev pub full_words : List ℕ
full_words = full_keys 32 18446744073709551615 ++ full_keys 32 512 ++ full_keys 16 18446744073709551615

-- what goes by value
abbrev pub full_head : LogChange
full_head = record {
  record_id = 1;
  counts = record { index = 32; value = 32; ref_count = 16 };
  dropped_tables = record { tables = replicate 16 1; count = 16 };
  dropped_ref_count_tables = record { tables = replicate 16 1; count = 16 };
}

-- the list
abbrev pub full_list : Change
full_list = change_of full_head full_words (replicate 49152 0)
