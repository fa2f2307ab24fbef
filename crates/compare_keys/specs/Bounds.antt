-- The part of a kind within a holder's two memories. Assumes nothing.
use Rattle.std.specs.Prelude.{◌+◌, ◌*◌, ◌≤◌}
use Rattle.memory.specs.declared.span.Holder.{Holder}
use Rattle.memory.specs.declared.span.Span.{Span}
use Rattle.memory.specs.Parts.{words_all, bytes_all}

-- a row of four words and a place of the order for each key there is room for
pub record PartFits (h : Holder) (s : Span) : Type 0 where
  pub some : 1 ≤ s.room
  pub most : s.room ≤ 256
  pub keys : s.words_at + 5 * s.room ≤ s.words_end
  pub words : s.words_end ≤ words_all h
  pub bytes : s.bytes_at ≤ s.bytes_end
  pub within : s.bytes_end ≤ bytes_all h
