-- Overlays that keep their rules keep them through a clearing. Assumes nothing.
use mathlib.Core.Path.{◌≡◌}
use mathlib.Core.Bool.{true}
use mathlib.Core.List.{List, [], ◌∷◌}
use Prim.Native.Nat.{ℕ}
use Rattle.effect.specs.Effect.{Written}
use Rattle.keys.specs.Keys.{rank}
use Rattle.replay.specs.Replay.{Walked, fault, walked}
use Rattle.memory.specs.declared.span.Holder.TheVariants as holder
use Rattle.memory.specs.Parts.{Parts, parts_kept}
use Rattle.memory.specs.Overlays.{Overlays}
use Rattle.memory.proofs.Spans.{remove_kept}
use Rattle.clearing.specs.Clear.{NamedKey, named_by, cleared_key, cleared_by}
use Rattle.clearing.specs.EndRead.{Again, end_read_by}
use Rattle.std.specs.Prelude.{Some, None}

module _ (id : ℕ) where
  pub key-kept : (n : NamedKey) (p : Parts) → parts_kept holder.Shared p ≡ true → parts_kept holder.Shared (cleared_key id n p) ≡ true
  key-kept None p ok = ok
  key-kept (Some (kind, table, index)) p ok = remove_kept holder.Shared p ok kind (rank table index) id

  pub cleared-kept : (ws : List Written) (p : Parts) → parts_kept holder.Shared p ≡ true → parts_kept holder.Shared (cleared_by id ws p) ≡ true
  unfolding cleared_by
  cleared-kept [] p ok = ok
  cleared-kept (w ∷ ws) p ok = cleared-kept ws (cleared_key id (named_by w.action) p) (key-kept (named_by w.action) p ok)

-- "Rules of a state": whatever `end_read` answers, overlays that kept their rules keep them
pub ended-kept : (at : ℕ) (s : Overlays) (next : ℕ) (g : Walked Again) → parts_kept holder.Shared s.parts ≡ true → parts_kept holder.Shared (end_read_by at s next g).overlays.parts ≡ true
ended-kept at s next (fault x) ok = ok
ended-kept at s next (walked g end) ok = cleared-kept g.id g.actions s.parts ok
