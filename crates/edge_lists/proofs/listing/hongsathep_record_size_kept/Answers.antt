-- `hongsathep_record_size_kept` meets its contract. Assumes nothing.
use mathlib.Core.Path.{ap, ◌∙◌}
use Prim.Native.Nat.{ℕ}
use Rattle.std.specs.Prelude.{Ok}
use Rattle.change.specs.declared.change.LogChange.{LogChange}
use Rattle.change.specs.Change.{change_of, change_ruled}
use Rattle.change.specs.Size.{record_size}
use Rattle.edge_lists.proofs.Lists.{size-left}
use Rattle.edge_lists.proofs.listing.hongsathep_record_size_kept.Goals as goal

pub record_size_kept-requires : goal.record_size_kept-requires
record_size_kept-requires c =
    let a = c.args in
    ap (λ (l : LogChange). change_ruled (change_of l a.items.now a.chunks.now)) c.list_of.ensures ∙ c.requires

pub returns : goal.returns
returns c =
    let a = c.args in
    size-left (ap (λ (n : ℕ). Ok n) (c.record_size_kept.ensures ∙ ap (λ (l : LogChange). record_size (change_of l a.items.now a.chunks.now)) c.list_of.ensures)) c.keep_size.ensures
