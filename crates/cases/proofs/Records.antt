-- Cases (a) to (e) and (j), by computing. Assumes nothing.
use mathlib.Core.Path.{◌≡◌, refl}
use Prim.Native.Nat.{◌^◌}
use lib.Count.{ones}
use lib.ListN.{length}
use Rattle.checksum.specs.Checksum.{shift, bits_in_of, updated, finished, checksum_of}
use Rattle.answer.specs.declared.answer.Answer.TheVariants.{Done, BadArgument}
use Rattle.directory.specs.Table.{is_table, table_kept}
use Rattle.directory.specs.Directory.{find_from, find_table, stands, each_kept, apart, directory_kept}
use Rattle.directory.specs.declared.table.TableKind.TheVariants.{Value, RefCount}
use Rattle.numbers.specs.Numbers.{put_in}
use Rattle.keys.specs.Keys.{mark_at, keys_of, ruled}
use Rattle.overlay.specs.Rules.{row_ruled, keys_ruled, overlay_kept}
use Rattle.overlay.specs.Overlay.{spot_in_of, stands_in, place_in, put_over}
use Rattle.memory.specs.Parts.{parts_kept, put_into}
use Rattle.change.specs.Change.{change_ruled, entry_fits, entries_fit, drops_fit, change_fits, change_kept}
use Rattle.change.specs.Insert.{not_made, bytes_fit_of, room_for, plan_in, inserted_kept, inserted}
use Rattle.change.specs.Drop.{dropped_in, table_dropped_kept, table_dropped}
use Rattle.change.specs.Size.{places_size, entries_size, record_size}
use Rattle.output.specs.Put.{put, le, joined}
use Rattle.writer.specs.Bytes.{set_slots, masked_bytes, entry_bytes, entry_bytes_at, entries, drop_bytes, drops_bytes, body, record_of}
use Rattle.writer.specs.Flush.{flush_to_file_kept, flush_to_file}
use Rattle.cases.specs.Records.{case_tables, empty_list, sixty_bytes, counting, chunk_of, empty_record, two_slots, one_value, one_drop, one_count, wrote, slot_put}

pub lengths : (length empty_record ≡ 14) × (length two_slots ≡ 49) × (length one_value ≡ 45) × (length one_drop ≡ 17) × (length one_count ≡ 49)
lengths = (refl, refl, refl, refl, refl)

pub cases : (flush_to_file case_tables empty_list sixty_bytes ≡ wrote empty_record)
    × (flush_to_file case_tables (slot_put (slot_put empty_list 0).change 2).change sixty_bytes ≡ wrote two_slots)
    × (flush_to_file case_tables (inserted Value case_tables empty_list 2 4 0 (counting 20 1)).change sixty_bytes ≡ wrote one_value)
    × (flush_to_file case_tables (table_dropped case_tables empty_list 1).change sixty_bytes ≡ wrote one_drop)
    × (flush_to_file case_tables (inserted RefCount case_tables empty_list 3 5 1 (chunk_of 1024)).change sixty_bytes ≡ wrote one_count)
    × ((slot_put empty_list 63).answer ≡ Done)
    × (mark_at (slot_put empty_list 63).change.parts.index.rows 0 ≡ 2 ^ 63)
    × (slot_put empty_list 64 ≡ not_made BadArgument empty_list)
unfolding change_kept directory_kept each_kept table_kept apart stands is_table change_ruled parts_kept overlay_kept keys_ruled ruled keys_of row_ruled change_fits entries_fit entry_fits drops_fit find_table find_from inserted inserted_kept plan_in room_for bytes_fit_of put_into put_over place_in stands_in spot_in_of put_in table_dropped table_dropped_kept dropped_in flush_to_file flush_to_file_kept record_size entries_size places_size ones record_of body entries entry_bytes_at entry_bytes masked_bytes set_slots drops_bytes drop_bytes joined le checksum_of finished updated bits_in_of shift put
cases = (refl, refl, refl, refl, refl, refl, refl, refl)
