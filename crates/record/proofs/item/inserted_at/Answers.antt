-- `inserted_at` meets its contract: the key lies within the log, and behind it the payload is read. Assumes nothing.
use mathlib.Core.Path.{sym, ap, ◌∙◌}
use native.Mathlib.Omega.{arith}
use Rattle.std.proofs.lemmas.Result.{err_from_is_err_and}
use Rattle.directory.specs.declared.table.TableKind.{TableKind}
use Rattle.record.specs.Record.{key}
use Rattle.record.proofs.Formats.{within}
use Rattle.record.proofs.Parts.{payload_of, payload_8, payload_16, inserted-stop, inserted_met}
use Rattle.record.proofs.item.inserted_at.Goals as goal

pub chunk_at-requires : goal.chunk_at-requires
chunk_at-requires c = (omega arith, (within (key _ _) _ _ _ _ c.requires (sym c.in_ok-k.ensures)).inside)

pub value_at-requires : goal.value_at-requires
value_at-requires c = (within (key _ _) _ _ _ _ c.requires (sym c.in_ok-k.ensures)).inside

pub chunk_at-requires-in-RefCount : goal.chunk_at-requires-in-RefCount
chunk_at-requires-in-RefCount c = (omega arith, (within (key _ _) _ _ _ _ c.requires (sym c.in_ok-k.ensures)).inside)

pub returns-in_err-k : goal.returns-in_err-k
returns-in_err-k c =
    let p = err_from_is_err_and c.from_residual.result c.from_residual.ensures.1 in
    rw (p.1, p.2) (inserted-stop _ _ _ _ _ c.in_err-k.ensures)

pub returns-in-Index : goal.returns-in-Index
returns-in-Index c = c.chunk_at.ensures ∙ inserted_met _ _ _ _ _ _ _ (payload_8 _ _ c.in-Index.is) c.in_ok-k.ensures

pub returns-in-Value : goal.returns-in-Value
returns-in-Value c = c.value_at.ensures ∙ inserted_met _ _ _ _ _ _ _ (ap (λ (kind : TableKind). payload_of kind c.in_ok-k.k) c.in-Value.is) c.in_ok-k.ensures

pub returns-in-RefCount : goal.returns-in-RefCount
returns-in-RefCount c = c.chunk_at-in-RefCount.ensures ∙ inserted_met _ _ _ _ _ _ _ (payload_16 _ _ c.in-RefCount.is) c.in_ok-k.ensures
