-- `part_of` meets its contract: each kind's part, of each holder. Assumes nothing.
use mathlib.Core.Path.{sym, subst}
use native.Mathlib.Omega.{arith}
use Rattle.directory.specs.declared.table.TableKind.{TableKind}
use Rattle.directory.specs.declared.table.TableKind.TheVariants.{Index, Value, RefCount}
use Rattle.memory.specs.declared.span.Holder.{Holder}
use Rattle.memory.specs.declared.span.Holder.TheVariants as holder
use Rattle.memory.specs.declared.span.Span.{Span}
use Rattle.memory.specs.Parts.{span_of}
use Rattle.compare_keys.specs.Bounds.{PartFits}
use Rattle.compare_keys.proofs.part.part_of.Goals as goal

each : (h : Holder) (kind : TableKind) → PartFits h (span_of h kind)
each holder.Shared Index = record { some = omega arith; most = omega arith; keys = omega arith; words = omega arith; bytes = omega arith; within = omega arith }
each holder.Shared Value = record { some = omega arith; most = omega arith; keys = omega arith; words = omega arith; bytes = omega arith; within = omega arith }
each holder.Shared RefCount = record { some = omega arith; most = omega arith; keys = omega arith; words = omega arith; bytes = omega arith; within = omega arith }
each holder.List Index = record { some = omega arith; most = omega arith; keys = omega arith; words = omega arith; bytes = omega arith; within = omega arith }
each holder.List Value = record { some = omega arith; most = omega arith; keys = omega arith; words = omega arith; bytes = omega arith; within = omega arith }
each holder.List RefCount = record { some = omega arith; most = omega arith; keys = omega arith; words = omega arith; bytes = omega arith; within = omega arith }

pub returns : goal.returns
returns c = subst (λ (s : Span). PartFits c.args.holder s) (sym c.span_of.ensures) (each c.args.holder c.args.kind)
