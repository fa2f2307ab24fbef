-- `Handed::kept` meets its contract: what is handed in, in turn. Assumes nothing.
use Rattle.std.proofs.Common.{◌≡◌, ℕ, [], true, false, sym, ◌∙◌, arith}
use Rattle.ending.specs.EndRecord.{handed_of}
use Rattle.ending.specs.Inner.{handed_by}
use Rattle.ending.proofs.Decided.{list_breaks, shared_breaks, queues_break, next-says}
use Rattle.ending.proofs.handed.Handed.kept.Goals as goal
use Rattle.ending.proofs.handed.Handed.kept.Goals.{then-kept, else-kept, then-all_kept, else-all_kept}

no : {A : Type 0} → true ≡ false → A
no e = let z : ◌≡◌ {A = ℕ} 0 1 = cc in absurd (omega arith)

pub returns-then-kept-2 : goal.returns-then-kept-2
unfolding handed_of
returns-then-kept-2 c =
    let d = c.args.directory in
    let h = handed_by c.args.self [] in
    elim c.if-all_kept.branch [
      | then-all_kept w ↦ elim c.if-kept.branch [
        | then-kept v ↦ sym (next-says d h (sym c.kept.ensures ∙ v.if-kept.true) (sym v.all_kept.ensures ∙ sym v.value-is ∙ w.if-all_kept.true) (sym w.kept-then-all_kept.ensures ∙ sym w.value-is ∙ c.if-kept-2.true))
        | else-kept v ↦ no (sym w.if-all_kept.true ∙ v.value-is ∙ v.if-kept.false)
      ]
      | else-all_kept w ↦ no (sym c.if-kept-2.true ∙ w.value-is ∙ w.if-all_kept.false)
    ]

pub returns-else-kept-2 : goal.returns-else-kept-2
unfolding handed_of
returns-else-kept-2 c =
    let d = c.args.directory in
    let h = handed_by c.args.self [] in
    elim c.if-all_kept.branch [
      | then-all_kept w ↦ elim c.if-kept.branch [
        | then-kept v ↦ c.if-kept-2.false ∙ sym (queues_break d h (sym c.kept.ensures ∙ v.if-kept.true) (sym v.all_kept.ensures ∙ sym v.value-is ∙ w.if-all_kept.true) (sym w.kept-then-all_kept.ensures ∙ sym w.value-is ∙ c.if-kept-2.false))
        | else-kept v ↦ no (sym w.if-all_kept.true ∙ v.value-is ∙ v.if-kept.false)
      ]
      | else-all_kept w ↦ elim c.if-kept.branch [
        | then-kept v ↦ c.if-kept-2.false ∙ sym (shared_breaks d h (sym c.kept.ensures ∙ v.if-kept.true) (sym v.all_kept.ensures ∙ sym v.value-is ∙ w.if-all_kept.false))
        | else-kept v ↦ c.if-kept-2.false ∙ sym (list_breaks d h (sym c.kept.ensures ∙ v.if-kept.false))
      ]
    ]
