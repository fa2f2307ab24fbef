-- Cases (k) and (l), by computing. Assumes nothing.
use mathlib.Core.Path.{◌≡◌, refl}
use mathlib.Core.List.{[], ◌∷◌}
use Rattle.answer.specs.declared.answer.Answer.TheVariants.{Done}
use Rattle.numbers.specs.Numbers.{put_in}
use Rattle.numbers.specs.Queue.{list_of}
use Rattle.files.specs.Queues.{pool_of, appending_size, files_of, file_count, room_kept, queues_kept}
use Rattle.files.specs.Calls.{flushes, flush_one_kept, flush_one, not_flushed, pooled, cleanup_pooled, clean_logs_kept, clean_logs}
use Rattle.cases.specs.Files.{ten_bytes, seventeen_due}

pub k-no_flush : flush_one ten_bytes 10 ≡ not_flushed Done ten_bytes
unfolding flush_one flush_one_kept flushes queues_kept room_kept files_of file_count appending_size
k-no_flush = refl

pub l_highest_removed : (list_of (clean_logs seventeen_due 1).remove ≡ 16 ∷ [])
    × (pool_of (clean_logs seventeen_due 1).queues ≡ 0 ∷ 1 ∷ 2 ∷ 3 ∷ 4 ∷ 5 ∷ 6 ∷ 7 ∷ 8 ∷ 9 ∷ 10 ∷ 11 ∷ 12 ∷ 13 ∷ 14 ∷ 15 ∷ [])
unfolding clean_logs clean_logs_kept cleanup_pooled pooled put_in queues_kept room_kept files_of file_count appending_size
l_highest_removed = (refl, refl)
