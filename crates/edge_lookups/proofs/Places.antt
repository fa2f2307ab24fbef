-- What the memories' rules give to the lookups, and a place as one in its memory. Assumes nothing.
use mathlib.Core.Path.{◌≡◌, sym, subst}
use mathlib.Core.Bool.{true}
use mathlib.Core.List.{List}
use Prim.Native.Nat.{ℕ, ◌≤◌}
use native.Mathlib.Omega.{arith}
use borrow.Author.Tests.{eqb-true}
use lib.Dec.{eqb}
use lib.ListN.{length, take, drop, length-take, length-drop}
use Rattle.directory.specs.declared.table.TableKind.{TableKind}
use Rattle.directory.specs.declared.table.TableKind.TheVariants.{Index, Value, RefCount}
use Rattle.numbers.proofs.Laws.{left-of, right_of}
use Rattle.overlay.specs.Rules.{Overlay, overlay_kept}
use Rattle.memory.specs.Parts.{span_of, words_all, bytes_all, part_of, parts_of, parts_kept}
use Rattle.memory.specs.declared.counts.Counts.{Counts}
use Rattle.memory.specs.declared.span.Holder.{Holder}
use Rattle.memory.specs.declared.span.Holder.TheVariants as holder
use Rattle.memory.proofs.OneKind.{shared_room}
use Rattle.memory.proofs.Spans.{words-all, bytes-all, of_parts, all-shows}
use Rattle.edge_lookups.specs.Lookups.{shared_kept_of, SpotLeft}
use Rattle.std.specs.Prelude.{Option, Result}
use Rattle.answer.specs.declared.answer.Answer.{Answer}
use Rattle.edge_lookups.specs.declared.lookups.Spot.{Spot}

pub part-le : (n b : ℕ) (l : List ℕ) → length (take n (drop b l)) ≤ length l
part-le n b l = simp (length-take, length-drop) (omega arith)

pub span_low : (h : Holder) (kind : TableKind) → (span_of h kind).bytes_at ≤ 524288
span_low holder.Shared Index = omega arith
span_low holder.Shared Value = omega arith
span_low holder.Shared RefCount = omega arith
span_low holder.List Index = omega arith
span_low holder.List Value = omega arith
span_low holder.List RefCount = omega arith

pub bytes_low : (h : Holder) → bytes_all h ≤ 524288
bytes_low holder.Shared = omega arith
bytes_low holder.List = omega arith

-- what a kind of a holder has, as the lookups ask it
pub record Ready (h : Holder) (kind : TableKind) (c : Counts) (words bytes : List ℕ) : Type 0 where
  pub words_long : length words ≡ words_all h
  pub bytes-long : length bytes ≡ bytes_all h
  pub rules : overlay_kept kind (span_of h kind).room (part_of h kind c words bytes) ≡ true

pub shared_ready : (kind : TableKind) (c : Counts) (words bytes : List ℕ) → shared_kept_of kind c words bytes ≡ true → Ready holder.Shared kind c words bytes
unfolding shared_kept_of
shared_ready kind c words bytes h =
    let b = right_of (eqb (length words) 3840) _ h in
    record {
      words_long = eqb-true _ _ (left-of (eqb (length words) 3840) _ h);
      bytes-long = eqb-true _ _ (left-of (eqb (length bytes) 524288) _ b);
      rules = subst (λ (n : ℕ). overlay_kept kind n (part_of holder.Shared kind c words bytes) ≡ true) (sym (shared_room kind)) (right_of (eqb (length bytes) 524288) _ b);
    }

pub all-ready : (h : Holder) (kind : TableKind) (c : Counts) (words bytes : List ℕ) → parts_kept h (parts_of h c words bytes) ≡ true → Ready h kind c words bytes
all-ready h kind c words bytes ok =
    record {
      words_long = words-all h c words bytes ok;
      bytes-long = bytes-all h c words bytes ok;
      rules = subst (λ (o : Overlay). overlay_kept kind (span_of h kind).room o ≡ true) (of_parts h kind c words bytes) ((all-shows h (parts_of h c words bytes) ok).each kind);
    }

-- as words: of what is handed back, and of what the definition says
pub told : {s t : Result (Option Spot) Answer} {answer memory place long : ℕ} → s ≡ t → SpotLeft s answer memory place long → SpotLeft t answer memory place long
told {answer = answer} {memory = memory} {place = place} {long = long} e p = subst (λ (x : Result (Option Spot) Answer). SpotLeft x answer memory place long) e p
