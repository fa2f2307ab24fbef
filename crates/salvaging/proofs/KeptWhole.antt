-- A log that a run accepts whole is kept whole: no line is lost, there are as many as the run counts, and the bytes kept are the log's.
-- Assumes nothing.
use mathlib.Core.Path.{◌≡◌, refl, sym, ap, ◌∙◌}
use mathlib.Core.Bool.{true}
use mathlib.Core.List.{List, [], ◌∷◌, ◌++◌}
use Prim.Native.Nat.{ℕ, suc, ◌+◌, ◌-◌}
use native.Mathlib.Omega.{arith}
use lib.Dec.{ltb}
use lib.ListN.{length, take, drop, take-append-drop}
use lib.Seq.{drop-drop, drop-length}
use borrow.Author.Tests.{le-ltb}
use Rattle.words.proofs.Choices.{if_false}
use Rattle.directory.specs.declared.directory.Directory.{Directory}
use Rattle.effect.specs.Effect.{Written}
use Rattle.replay.specs.Replay.{tables_kept}
use Rattle.replay.specs.Run.{run_of, Chain, chain_end, chain_more}
use Rattle.replay.proofs.CutLog.{run-exactly}
use Rattle.replay.proofs.Opening.{record_on}
use Rattle.salvaging.specs.declared.lines.Line.{Line}
use Rattle.salvaging.specs.declared.lines.Line.TheVariants.{Kept}
use Rattle.salvaging.specs.Salvage.{found_on, left_out, lines_between, lines_of, kept_bytes}
use Rattle.salvaging.specs.Meaning.{AllKept}
use Rattle.salvaging.specs.declared.search.Found.{Found}
use Rattle.salvaging.proofs.Accepted.{accepted-found}
use Rattle.salvaging.proofs.Records.{past, records_take}

module _ (d : Directory) (log : List ℕ) where
  -- the lines from a position on keep all the bytes from there on, so many records
  record Keeps (at n : ℕ) (ls : List Line) : Type 0 where
    all : AllKept ls
    bytes : kept_bytes log ls ≡ drop at log
    count : length ls ≡ n

  -- nothing lies between
  no_gap : (at : ℕ) (ls : List Line) → left_out at at ls ≡ ls
  no_gap at ls = if_false (ltb at at) _ _ (le-ltb at at (omega arith))

  chain_kept : {at expected end : ℕ} {rs : List (List Written)} → Chain d log at expected rs end → end ≡ length log → Keeps at (length rs) (lines_between at (found_on d log at) (length log))
  unfolding lines_between kept_bytes
  chain_kept {at} chain_end e =
      let z : lines_between at (found_on d log at) (length log) ≡ [] =
      ap (λ (fs : List Found). lines_between at fs (length log)) (past d log (suc (length log)) at (omega arith)) ∙ ap (λ (n : ℕ). left_out at n []) (sym e) ∙ no_gap at [] in
      rw z (record { all = tt; bytes = sym (ap (λ (n : ℕ). drop n log) e ∙ drop-length log); count = refl })
  chain_kept {at} {expected} (chain_more {ws = ws} {mid = mid} {rs = rs} r c) e =
      let o = record_on d log at expected ws mid r in
      let f : Found = record { position = at; id = expected; end = mid } in
      let z : lines_between at (found_on d log at) (length log) ≡ Kept at (mid - at) expected ∷ lines_between mid (found_on d log mid) (length log) =
      ap (λ (fs : List Found). lines_between at fs (length log)) (records_take d log at f (accepted-found d log at expected ws mid r)) ∙ no_gap at _ in
      let k : Keeps mid (length rs) (lines_between mid (found_on d log mid) (length log)) = chain_kept c e in
      let s : at + (mid - at) ≡ mid = omega (arith, o.forward) in
      rw z
      (record {
        all = k.all;
        bytes =
            ap (λ (bs : List ℕ). take (mid - at) (drop at log) ++ bs) (k.bytes ∙ ap (λ (n : ℕ). drop n log) (sym s) ∙ sym (drop-drop (mid - at) at log))
            ∙ take-append-drop (mid - at) (drop at log);
        count = ap suc k.count;
      })

  module _ (first : ℕ) (image : List ℕ) where
    -- NOTHING IS LOST of a log over which a run comes to the end
    pub run-kept-whole : tables_kept d image ≡ true → (run_of d log 0 first image).ran.position ≡ length log
        → AllKept (lines_of d log) × (kept_bytes log (lines_of d log) ≡ log) × (length (lines_of d log) ≡ (run_of d log 0 first image).ran.count)
    unfolding lines_of
    run-kept-whole t e =
        let x = run-exactly d log 0 first image t in
        let k = chain_kept x.stand e in
        (k.all, k.bytes, k.count ∙ sym x.counts)
