-- What the reader's inner functions answer, seen as what a format reads. Nothing here has to be believed: `Next` says what `next` answers.
use Rattle.std.specs.Prelude.{ℕ, ◌+◌, Result, Ok, Err}
use Rattle.answer.specs.declared.answer.Answer.{Answer}
use Rattle.directory.specs.declared.table.TableKind.{TableKind}
use Rattle.directory.specs.declared.table.TableKind.TheVariants.{Index, Value, RefCount}
use Rattle.directory.specs.declared.directory.Directory.{Directory}
use Rattle.record.specs.Format.{Format, Got, stopped, got}
use Rattle.record.specs.Record.{Item, masked_item, valued_item}
use Rattle.record.specs.declared.item.ReadItem.{ReadItem}

-- of a key, a table's number or an id, behind which the bytes read end
abbrev pub got_by : {A : Type 0} → Result A Answer → ℕ → Got A
got_by (Err answer) end = stopped answer
got_by (Ok a) end = got a end

-- of an action
abbrev pub got_item : Result ReadItem Answer → Got Item
got_item (Err answer) = stopped answer
got_item (Ok i) = got (record { action = i.action; payload = i.length }) (i.start + i.length)

-- what stands behind an insertion's tag
abbrev pub inserted_item : Directory → TableKind → Format Item
inserted_item d Index = masked_item d Index 8
inserted_item d Value = valued_item d
inserted_item d RefCount = masked_item d RefCount 16
