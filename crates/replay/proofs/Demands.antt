-- Demands 2 and 3 of what replay accepts, and demand 2 for each record of a run. Assumes nothing.
use mathlib.Core.Path.{◌≡◌, refl, sym, ap, ◌∙◌, subst}
use mathlib.Core.Bool.{Bool, true, false}
use mathlib.Core.List.{List, [], ◌∷◌, Perm}
use mathlib.Core.Option
use Prim.Native.Nat.{ℕ, zero, suc, ◌<◌}
use native.Mathlib.Omega.{arith}
use lib.ListN.{length, get_or}
use Rattle.words.proofs.Choices.{if_true, if_false}
use Rattle.directory.specs.declared.directory.Directory.{Directory}
use Rattle.record.specs.Next.{is_end, step_of}
use Rattle.record.specs.declared.reader.LogReader.{LogReader}
use Rattle.record.specs.declared.reader.Stepped.{Stepped}
use Rattle.effect.specs.Effect.{Written, apply}
use Rattle.effect.specs.Meaning.{Sized, last_said}
use Rattle.effect.specs.Order.{Each, Pairs, Other, Spared}
use Rattle.effect.proofs.Sized.{payload-sized}
use Rattle.effect.proofs.Bytes.{or_else_get_d, length-apply}
use Rattle.effect.proofs.Demand2 as effect-2
use Rattle.effect.proofs.Demand3 as effect-3
use Rattle.replay.specs.Replay.{Walked, fault, walked, written_in, add_first, by_step, rest_of, record_at, tables_kept, judged, image_after}
use Rattle.replay.specs.Run.{run_of, whole_records, Chain, chain_end, chain_more, apply_all, last_of_all, Replays}
use Rattle.replay.proofs.Checked.{judged-walked}
use Rattle.replay.proofs.CutLog.{run-exactly}
use Rattle.replay.proofs.Opening.{Whole, whole_record}
use Rattle.replay.proofs.Stop.{stop_is}
use Rattle.std.specs.Prelude.{Result, Ok, Err}
use Rattle.answer.specs.declared.answer.Refusal.{Refusal}

-- each action of an accepted record has the payload that its bytes say
rest-sized : (d : Directory) (log : List ℕ) (n : ℕ) (r : LogReader) (ws : List Written) (end : ℕ) → rest_of n d log r ≡ walked ws end → Each (Sized d) ws
unfolding rest_of
rest-sized d log zero r ws end e = let z : ◌≡◌ {A = ℕ} 0 1 = cc in absurd (omega arith)
rest-sized d log (suc n) r ws end e = go (step_of d log r) refl e (λ k vs. rest-sized d log n k vs end)
  where
    Next : Type 0
    Next = (k : LogReader) (vs : List Written) → rest_of n d log k ≡ walked vs end → Each (Sized d) vs

    nothing : (x : ℕ) (ws : List Written) → walked [] x ≡ walked ws end → Each (Sized d) ws
    nothing x [] f = tt
    nothing x (w ∷ vs) f = let p : [] ≡ w ∷ vs = cc in let z : ◌≡◌ {A = ℕ} 0 1 = cc in absurd (omega arith)

    front : (w : Written) (k : LogReader) (g : Walked (List Written)) → rest_of n d log k ≡ g → Sized d w → Next → (ws : List Written) → add_first w g ≡ walked ws end → Each (Sized d) ws
    front w k (fault x) q h ih ws f = let z : ◌≡◌ {A = ℕ} 0 1 = cc in absurd (omega arith)
    front w k (walked vs x) q h ih ws f =
        let p : x ≡ end = cc in
        let l : w ∷ vs ≡ ws = cc in
        let a : Each (Sized d) (w ∷ vs) = (h, ih k vs (q ∙ ap (walked vs) p)) in
        subst (λ (x : List Written). Each (Sized d) x) l a

    by : (s : Stepped) → step_of d log r ≡ Ok s → (t : Bool) → is_end s.action ≡ t → by_step log (rest_of n d log) (Ok s) ≡ walked ws end → Next → Each (Sized d) ws
    by s q true t f ih = nothing s.reader.position ws (sym (if_true (is_end s.action) _ _ t) ∙ f)
    by s q false t f ih =
        front (written_in log s) s.reader (rest_of n d log s.reader) refl (payload-sized d log r s q).sized ih ws (sym (if_false (is_end s.action) _ _ t) ∙ f)

    go : (st : Result Stepped Refusal) → step_of d log r ≡ st → by_step log (rest_of n d log) st ≡ walked ws end → Next → Each (Sized d) ws
    go (Err x) q f ih = let z : ◌≡◌ {A = ℕ} 0 1 = cc in absurd (omega arith)
    go (Ok s) q f ih = by s q (is_end s.action) refl f ih

pub accepted-sized : (d : Directory) (log : List ℕ) (at expected : ℕ) (ws : List Written) (end : ℕ) → record_at d log at expected ≡ walked ws end → Each (Sized d) ws
accepted-sized d log at expected ws end e =
    let w : Whole d log at expected ws end = whole_record d log at expected ws end e in
    rest-sized d log (suc (length log)) w.s.reader ws end w.rest

-- DEMAND 2. "Taken in written order, an accepted record sets exactly the entries its masks name and the values it lists, zeroes the tables it
-- drops, and touches nothing else.": after the replay of an accepted record with the actions ws each byte of the image is what the last of
-- them that says anything of it says (`says`: no order and no stores in it), and the old byte where none does
pub demand-2 : (d : Directory) (log : List ℕ) (at expected : ℕ) (image : List ℕ) (ws : List Written) (end : ℕ) → judged d log at expected image ≡ walked ws end
    → (p : ℕ) → p < length image
    → get_or (image_after d image (judged d log at expected image)) p 0 ≡ Option.get_or (last_said d ws p) (get_or image p 0)
demand-2 d log at expected image ws end e p h =
    ap (λ (g : Walked (List Written)). get_or (image_after d image g) p 0) e
    ∙ effect-2.demand-2 d ws image p (accepted-sized d log at expected ws end (judged-walked d log at expected image ws end e)) h

-- DEMAND 3. "Take two accepted records with one id, one directory, equal starting tables and the same actions with the same bytes in different
-- order. If no kind, table and index is written twice, and in neither record a table is written after its own drop, both leave the same
-- tables, those that demand 2 names."
pub demand-3 : (d : Directory) (id : ℕ) (image : List ℕ)
    (log₁ : List ℕ) (at₁ : ℕ) (ws₁ : List Written) (end₁ : ℕ) (log₂ : List ℕ) (at₂ : ℕ) (ws₂ : List Written) (end₂ : ℕ)
    → judged d log₁ at₁ id image ≡ walked ws₁ end₁ → judged d log₂ at₂ id image ≡ walked ws₂ end₂  -- two accepted records with one id, one directory
    → Perm ws₁ ws₂  -- the same actions with the same bytes
    → Pairs Other ws₁  -- no kind, table and index is written twice
    → Pairs Spared ws₁ → Pairs Spared ws₂  -- in neither a table is written after its own drop
    → (image_after d image (judged d log₁ at₁ id image) ≡ image_after d image (judged d log₂ at₂ id image))
    × ((p : ℕ) → p < length image → get_or (image_after d image (judged d log₁ at₁ id image)) p 0 ≡ Option.get_or (last_said d ws₁ p) (get_or image p 0))
    × ((p : ℕ) → p < length image → get_or (image_after d image (judged d log₂ at₂ id image)) p 0 ≡ Option.get_or (last_said d ws₂ p) (get_or image p 0))
demand-3 d id image log₁ at₁ ws₁ end₁ log₂ at₂ ws₂ end₂ e₁ e₂ p o s₁ s₂ = (
  ap (image_after d image) e₁ ∙ effect-3.demand-3 d ws₁ ws₂ image p o s₁ s₂ ∙ sym (ap (image_after d image) e₂),
  demand-2 d log₁ at₁ id image ws₁ end₁ e₁,
  demand-2 d log₂ at₂ id image ws₂ end₂ e₂,
)

-- ---- demand 2 for each record of a run

chain_bytes : {d : Directory} {log : List ℕ} {at expected : ℕ} {rs : List (List Written)} {end : ℕ} → Chain d log at expected rs end → (image : List ℕ) (p : ℕ) → p < length image
    → get_or (apply_all d rs image) p 0 ≡ Option.get_or (last_of_all d rs p) (get_or image p 0)
unfolding apply_all last_of_all
chain_bytes chain_end image p h = refl
chain_bytes {d} {log} {at} {expected} (chain_more {ws = ws} {mid = mid} {rs = rs} e c) image p h =
    chain_bytes c (apply d ws image) p (rw length-apply h)
    ∙ ap (Option.get_or (last_of_all d rs p)) (effect-2.demand-2 d ws image p (accepted-sized d log at expected ws mid e) h)
    ∙ sym (or_else_get_d (last_of_all d rs p) (last_said d ws p) (get_or image p 0))

length-all : (d : Directory) (rs : List (List Written)) (image : List ℕ) → length (apply_all d rs image) ≡ length image
unfolding apply_all
length-all d [] image = refl
length-all d (ws ∷ rs) image = length-all d rs (apply d ws image) ∙ length-apply d ws image

-- THE RUN
pub run_replays : (d : Directory) (log : List ℕ) (at first : ℕ) (image : List ℕ) → tables_kept d image ≡ true → Replays d log at first image (run_of d log at first image)
run_replays d log at first image kept =
    let rs : List (List Written) = whole_records (length log) d log at first in
    let l = run-exactly d log at first image kept in
    record {
      records = rs;
      leaves = l;
      stops = stop_is d log first at image kept;
      bytes = λ p h. ap (λ (i : List ℕ). get_or i p 0) l.tables ∙ chain_bytes l.stand image p h;
      long = ap length l.tables ∙ length-all d rs image;
    }
