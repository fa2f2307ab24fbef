-- What the inner functions hand on.
use Rattle.std.specs.Prelude.{◌≡◌, List, ℕ, ltb, length}
use Rattle.directory.specs.declared.table.TableKind.{TableKind}
use Rattle.overlay.specs.Rules.{Overlay}
use Rattle.overlay.specs.Entries.{entries_of, find_entry}
use Rattle.query.specs.Query.{Looked, bytes_of, is_there}

-- the bytes under a key, none where there is no entry
unfoldable pub found_in : TableKind → Overlay → ℕ → List ℕ
found_in kind o key = bytes_of (find_entry key (entries_of kind o))

-- the bytes that are handed out for a look: none only where there is no entry
pub record FoundFor (l : Looked) (bytes : List ℕ) : Type 0 where
  pub here : bytes ≡ bytes_of l.entry
  pub some : ltb 0 (length bytes) ≡ is_there l.entry
