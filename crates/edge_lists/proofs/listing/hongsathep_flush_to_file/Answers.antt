-- `hongsathep_flush_to_file` meets its contract. Assumes nothing.
use mathlib.Core.Path.{ap, ◌∙◌}
use Rattle.directory.specs.declared.directory.Directory.{Directory}
use Rattle.change.specs.Change.{Change}
use Rattle.writer.specs.Flush.{FlushedLog, flush_to_file}
use Rattle.edge_lists.proofs.Lists.{loaded, size-left}
use Rattle.edge_lists.proofs.listing.hongsathep_flush_to_file.Goals as goal

pub returns : goal.returns
returns c =
    let a = c.args in
    let e = c.flush_to_file-done.ensures ∙ loaded (λ (d : Directory) (l : Change). flush_to_file d l a.out.now) a.items.now a.chunks.now c.directory_of.ensures c.list_of.ensures in
    record {
      out = ap (λ (x : FlushedLog). x.output) e;
      size = size-left (ap (λ (x : FlushedLog). x.sized) e) c.keep_size.ensures;
    }
