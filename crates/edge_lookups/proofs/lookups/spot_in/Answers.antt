-- A place in the kind's part, as a place in its memory. Assumes nothing.
use mathlib.Core.Path.{sym, ap, ◌∙◌}
use Prim.Native.Nat.{◌+◌}
use Rattle.std.specs.Prelude.{Some}
use Rattle.memory.specs.declared.span.Span.{Span}
use Rattle.edge_lookups.specs.Lookups.{spot_by, spotted_in}
use Rattle.edge_lookups.proofs.lookups.spot_in.Goals as goal

pub returns-in_err-at : goal.returns-in_err-at
unfolding spotted_in
returns-in_err-at c = c.from_residual.ensures ∙ ap (spot_by c.args.holder c.args.kind) (sym c.in_err-at.was ∙ c.place_of.ensures.place)

pub returns : goal.returns
unfolding spotted_in
returns c =
    ap (λ (s : Span). Some (record { memory = c.args.holder; place = s.bytes_at + c.in_ok-at.at; length = c.in_ok-at.length })) c.span_of.ensures
    ∙ ap (spot_by c.args.holder c.args.kind) (sym c.in_ok-at.was ∙ c.place_of.ensures.place)
