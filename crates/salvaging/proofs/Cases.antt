-- The two examples of document 02, "Eight", under every directory. Assumes nothing.
use mathlib.Core.Path.{◌≡◌, refl}
use mathlib.Core.List.{[], ◌∷◌, ◌++◌}
use Rattle.checksum.specs.Checksum.{finished, updated, bits_in_of, shift}
use Rattle.directory.specs.declared.directory.Directory.{Directory}
use Rattle.record.specs.Format.{read_at}
use Rattle.record.specs.Next.{forward_to, reader_after, step_of}
use Rattle.record.specs.Record.{opening, opening_by, begun_id, inside, inside_by, ended_item, sum_holds}
use Rattle.words.specs.Words.{little}
use Rattle.replay.specs.Replay.{rest_of}
use Rattle.salvaging.specs.declared.lines.Line.TheVariants.{Kept, Lost}
use Rattle.salvaging.specs.Salvage.{found_at, found_from, lines_between, lines_of}
use Rattle.salvaging.specs.Meaning.{empty_seven}

module _ (d : Directory) where
  -- "a log of one empty record with id 7 prints `kept 0 14 7` and nothing else"
  pub one_record : lines_of d empty_seven ≡ Kept 0 14 7 ∷ []
  unfolding lines_of lines_between found_from found_at step_of opening opening_by begun_id read_at forward_to reader_after rest_of inside inside_by ended_item sum_holds little finished updated bits_in_of shift
  one_record = refl

  -- "a stretch of five bytes at 14 prints `lost 14 5`"
  pub five-bytes : lines_of d (empty_seven ++ (9 ∷ 9 ∷ 9 ∷ 9 ∷ 9 ∷ [])) ≡ Kept 0 14 7 ∷ Lost 14 5 ∷ []
  unfolding lines_of lines_between found_from found_at step_of opening opening_by begun_id read_at forward_to reader_after rest_of inside inside_by ended_item sum_holds little finished updated bits_in_of shift
  five-bytes = refl
