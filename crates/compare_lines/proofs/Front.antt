-- Bytes at the front of a room, with what lay behind. Assumes nothing.
use mathlib.Core.Path.{◌≡◌, refl}
use mathlib.Core.List.{List, ◌++◌}
use Prim.Native.Nat.{ℕ}
use native.Mathlib.Nat.{zero-add}
use lib.ListN.{length, drop, replicate, length-replicate}
use Rattle.output.specs.Put.{put}

pub copied : (room bytes front : List ℕ) → front ≡ bytes → front ++ drop (length bytes) room ≡ put room 0 bytes
unfolding put
copied room bytes front e = rw (e, zero-add) refl

pub filled : (room front : List ℕ) (n byte : ℕ) → front ≡ replicate n byte → front ++ drop n room ≡ put room 0 (replicate n byte)
unfolding put
filled room front n byte e = rw (e, zero-add, length-replicate) refl
