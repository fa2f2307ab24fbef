-- What the inner functions answer. Nothing here has to be believed: `Effect` says what an action does.
use Rattle.std.specs.Prelude.{◌≡◌, ℕ, ◌+◌, ◌*◌, ltb, Some, None}
use Rattle.std.specs.Prelude as std
use Rattle.std.proofs.Math.Option.{Option, none, some}
use Rattle.std.specs.Prelude.{if◌then◌else◌}
use Rattle.directory.specs.Table.{slot_length}
use Rattle.directory.specs.declared.table.TableKind.{TableKind}
use Rattle.directory.specs.declared.table.TableDescription.{TableDescription}
use Rattle.effect.specs.Effect.{Place}

-- what lies under an index of a table: from where on in the image, and how many bytes
unfoldable pub spot_under : Option Place → ℕ → std.Option (ℕ × ℕ)
spot_under none i = None
spot_under (some p) i = if ltb i p.table.count then Some (p.at + i * slot_length p.table, slot_length p.table) else None

-- a table of that kind has chunks of 64 entries, each so many bytes wide
abbrev pub Chunks : TableKind → ℕ → Type 0
Chunks kind width = (t : TableDescription) → t.kind ≡ kind → slot_length t ≡ 64 * width
