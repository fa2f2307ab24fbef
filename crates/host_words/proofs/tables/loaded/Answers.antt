-- Six words a row, until none is left, or one is no row. Assumes nothing.
use Rattle.std.proofs.Common.{ℕ, sym, ap, ◌∙◌, arith}
use Rattle.std.specs.declared.slice.ChunksExact.{ChunksExact}
use Rattle.host_words.specs.Inner.{directory_or_broken}
use Rattle.host_words.proofs.Rows.{row_refused, row_taken, row_whole, rows_none, directory-odd, directory-whole}
use Rattle.host_words.proofs.tables.loaded.Goals as goal

pub returns-then-words-ne0 : goal.returns-then-words-ne0
returns-then-words-ne0 c = sym (directory-odd _ c.if-words-ne0.true)

pub loop-row-init : goal.loop-row-init
loop-row-init c =
    let i = ap (λ (x : ChunksExact ℕ). x.rest.now) c.into_iter-row-iterator.ensures.into_iter_gives ∙ c.chunks_exact-row-items.ensures.rest in
    record {
      six = ap (λ (x : ChunksExact ℕ). x.size) c.into_iter-row-iterator.ensures.into_iter_gives ∙ c.chunks_exact-row-items.ensures.size;
      whole = rw i c.if-words-ne0.false;
      left = rw (i, c.new-d.ensures) (sym (directory-whole _ c.if-words-ne0.false));
    }

pub returns-in_err-d : goal.returns-in_err-d
returns-in_err-d c =
    let s = c.in-Some.ensures.steps in
    ap directory_or_broken c.from_residual.ensures ∙ row_refused _ _ _ _ _ _ s.1.0 (s.1.1 ∙ c.loop-row.invariant.six) c.with_row.ensures c.loop-row.invariant.left c.in_err-d.was

pub loop-row-preserved : goal.loop-row-preserved
loop-row-preserved c =
    let s = c.in-Some.ensures.steps in
    record {
      six = s.0 ∙ c.loop-row.invariant.six;
      whole = row_whole _ _ s.1.0 (s.1.1 ∙ c.loop-row.invariant.six) c.loop-row.invariant.whole;
      left = row_taken _ _ _ _ _ _ s.1.0 (s.1.1 ∙ c.loop-row.invariant.six) c.with_row.ensures c.loop-row.invariant.left c.in_ok-d.was;
    }

pub returns : goal.returns
returns c =
    let s = c.in-None.ensures.steps in
    sym (rows_none _ _ (omega (arith, s.1.0, c.loop-row.invariant.six)) c.loop-row.invariant.whole) ∙ c.loop-row.invariant.left
