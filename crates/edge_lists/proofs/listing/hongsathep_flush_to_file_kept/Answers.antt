-- `hongsathep_flush_to_file_kept` meets its contract. Assumes nothing.
use mathlib.Core.Path.{ap, ◌∙◌}
use Rattle.change.specs.declared.change.LogChange.{LogChange}
use Rattle.change.specs.Change.{change_of, change_ruled}
use Rattle.writer.specs.Flush.{FlushedLog, flush_to_file_kept}
use Rattle.edge_lists.proofs.Lists.{size-left}
use Rattle.edge_lists.proofs.listing.hongsathep_flush_to_file_kept.Goals as goal

pub flush_to_file_kept-done-requires : goal.flush_to_file_kept-done-requires
flush_to_file_kept-done-requires c =
    let a = c.args in
    ap (λ (l : LogChange). change_ruled (change_of l a.items.now a.chunks.now)) c.list_of.ensures ∙ c.requires

pub returns : goal.returns
returns c =
    let a = c.args in
    let e = c.flush_to_file_kept-done.ensures ∙ ap (λ (l : LogChange). flush_to_file_kept (change_of l a.items.now a.chunks.now) a.out.now) c.list_of.ensures in
    record {
      out = ap (λ (x : FlushedLog). x.output) e;
      size = size-left (ap (λ (x : FlushedLog). x.sized) e) c.keep_size.ensures;
    }
