-- The walk over a record that the writer wrote: the opening, entries one behind the other, the end. Assumes nothing.
use mathlib.Core.Path.{◌≡◌, refl, sym, ap, ap₂, ◌∙◌}
use mathlib.Core.Bool.{Bool, true, false}
use mathlib.Core.List.{List, [], ◌∷◌, ◌++◌, map, append_assoc}
use Prim.Native.Nat.{ℕ, ◌+◌, ◌-◌, ◌<◌}
use native.Mathlib.Nat.{add-zero}
use native.Mathlib.Omega.{arith}
use lib.Dec.{ltb}
use lib.ListN.{length, take, drop, length-append}
use borrow.Author.Tests.{ltb-true, le-ltb, eq-eqb}
use Rattle.words.proofs.Choices.{if_false}
use Rattle.checksum.specs.Checksum.{all_ones, updated, finished}
use Rattle.checksum.proofs.Register.{updated-append}
use Rattle.directory.specs.declared.directory.Directory.{Directory}
use Rattle.record.specs.Format.{got, read_at}
use Rattle.record.specs.Record.{sum_holds, inside_by, inside, opening_by, opening}
use Rattle.record.specs.Next.{is_end, forward_to, reader_after, stepped, opened, reader_at, step_of}
use Rattle.answer.specs.declared.answer.Answer.TheVariants.{WrongSum}
use Rattle.record.specs.declared.action.LogAction.TheVariants.{BeginRecord, EndRecord}
use Rattle.record.specs.declared.reader.LogReader.{LogReader}
use Rattle.record.specs.declared.reader.Stepped.{Stepped}
use Rattle.record.proofs.Parts.{tested, inside_met, ended_met, opening_met, begun_met}
use Rattle.effect.specs.Effect.{Written, written}
use Rattle.replay.specs.Replay.{Walked, walked, add_first, record_at}
use Rattle.replay.proofs.Opening.{record_opened}
use Rattle.replay.proofs.Rest.{whole, last, more}
use Rattle.numbers.proofs.Laws.{left-of, right_of}
use Rattle.keys.specs.Keys.{every, all_under_of}
use Rattle.output.specs.Put.{le, joined}
use Rattle.output.proofs.Laws.{length-le}
use Rattle.written.proofs.Here.{Here, front, on, room, number, tag_at}
use Rattle.std.specs.Prelude.{Ok}

-- a validating reader inside a record
abbrev pub reader : ℕ → ℕ → ℕ → LogReader
reader at id register = record { position = at; record_id = id; crc32 = register; validate = true; inside = true }

-- such a reader takes the bytes e for the action w: its payload is the last of them
pub record Reads (d : Directory) (e : List ℕ) (w : Written) : Type 0 where
  pub head : List ℕ
  pub is : e ≡ head ++ w.payload
  pub goes : is_end w.action ≡ false
  pub reads : (log : List ℕ) (at register : ℕ) (b : List ℕ) → Here log at (e ++ b)
      → read_at (inside d true register) at log ≡ got (record { action = w.action; payload = length w.payload }) (at + length e)

-- behind a tag
pub tagged : (d : Directory) (register tag : ℕ) (b : List ℕ) {log : List ℕ} {at : ℕ} → tag < 256 → Here log at (le 1 tag ++ b)
    → read_at (inside d true register) at log ≡ read_at (inside_by d true register tag) (at + 1) log
tagged d register tag b {log} {at} h e = inside_met at log d true register tag (room (le 1 tag) b 1 (length-le 1 tag) e) (tag_at tag b h e)

-- ---- one entry

module _ (d : Directory) (log : List ℕ) (at id register : ℕ) (e b : List ℕ) (w : Written) (r : Reads d e w) (h : Here log at (e ++ b)) where
  abbrev step : Stepped
  step = record {
    action = w.action;
    start = at + length e - length w.payload;
    length = length w.payload;
    reader = reader (at + length e) id (updated register e);
  }

  taken : step_of d log (reader at id register) ≡ Ok step
  unfolding step_of reader_after forward_to
  taken =
      let n : at + length e - at ≡ length e = omega arith in
      if_false (ltb (length log) at) _ _ (le-ltb (length log) at h.fits)
      ∙ ap (stepped log (reader at id register)) (r.reads log at register b h)
      ∙ rw (r.goes, n, front e b (length e) refl h)

  payload-is : take (length w.payload) (drop (at + length e - length w.payload) log) ≡ w.payload
  payload-is =
      let g : Here log at (r.head ++ (w.payload ++ b)) = record { fits = h.fits; is = h.is ∙ ap (λ (x : List ℕ). x ++ b) r.is ∙ append_assoc r.head w.payload b } in
      let n : at + length e - length w.payload ≡ at + length r.head = omega (arith, ap length r.is, length-append r.head w.payload) in
      rw n (front w.payload b (length w.payload) refl (on r.head (w.payload ++ b) (length r.head) refl g))

  over : whole d log (reader at id register) ≡ add_first w (whole d log (reader (at + length e) id (updated register e)))
  over =
      more d log (reader at id register) step taken r.goes
      ∙ ap (λ (p : List ℕ). add_first (written w.action p) (whole d log (reader (at + length e) id (updated register e)))) payload-is

-- ---- entries one behind the other

abbrev pub add_all : List Written → Walked (List Written) → Walked (List Written)
add_all [] g = g
add_all (w ∷ ws) g = add_first w (add_all ws g)

add_append : (vs ws : List Written) (g : Walked (List Written)) → add_all (vs ++ ws) g ≡ add_all vs (add_all ws g)
add_append [] ws g = refl
add_append (v ∷ vs) ws g = ap (add_first v) (add_append vs ws g)

pub add_walked : (ws : List Written) (end : ℕ) → add_all ws (walked [] end) ≡ walked ws end
add_walked [] end = refl
add_walked (w ∷ ws) end = ap (add_first w) (add_walked ws end)

-- wherever the bytes bs stand, the reader walks over them, takes the actions ws, and its register has taken the bytes
pub record Walks (d : Directory) (log : List ℕ) (id : ℕ) (bs : List ℕ) (ws : List Written) : Type 0 where
  pub past : (at register : ℕ) (b : List ℕ) → Here log at (bs ++ b)
      → whole d log (reader at id register) ≡ add_all ws (whole d log (reader (at + length bs) id (updated register bs)))

module _ {d : Directory} {log : List ℕ} {id : ℕ} where
  none : Walks d log id [] []
  unfolding updated
  none = record { past = λ at register b h. rw add-zero }

  one : {e : List ℕ} {w : Written} → Reads d e w → Walks d log id e (w ∷ [])
  one {e} {w} r = record { past = λ at register b h. over d log at id register e b w r h }

  infixl 20 ◌⨾◌
  pub ◌⨾◌ : {xs ys : List ℕ} {vs ws : List Written} → Walks d log id xs vs → Walks d log id ys ws → Walks d log id (xs ++ ys) (vs ++ ws)
  ◌⨾◌ {xs} {ys} {vs} {ws} x y = record {
    past = λ at register b h.
        let k : Here log at (xs ++ (ys ++ b)) = record { fits = h.fits; is = h.is ∙ append_assoc xs ys b } in
        let m : at + length xs + length ys ≡ at + length (xs ++ ys) = omega (arith, length-append xs ys) in
        x.past at register (ys ++ b) k
        ∙ ap (add_all vs)
        (y.past (at + length xs) (updated register xs) b (on xs (ys ++ b) (length xs) refl k)
        ∙ ap₂ (λ (n r : ℕ). add_all ws (whole d log (reader n id r))) m (sym (updated-append register xs ys)))
        ∙ sym (add_append vs ws _);
  }

  module _ (f : ℕ → List ℕ) (g : ℕ → Written) (n : ℕ) (good : ℕ → Bool) (each : (p : ℕ) → p < n → good p ≡ true → Reads d (f p) (g p)) where
    pub walk : (ps : List ℕ) → all_under_of n ps ≡ true → every good ps ≡ true → Walks d log id (joined f ps) (map g ps)
    unfolding joined
    walk [] u v = none
    walk (p ∷ ps) u v =
        one (each p (ltb-true p n (left-of (ltb p n) _ u)) (left-of (good p) _ v)) ⨾ walk ps (right_of (ltb p n) _ u) (right_of (good p) _ v)

-- ---- the end and the opening

module _ (d : Directory) (log : List ℕ) (at id : ℕ) (b : List ℕ) where
  pub ending : (register sum : ℕ) → sum ≡ finished (updated register (le 1 4)) → Here log at (le 1 4 ++ (le 4 sum ++ b)) → whole d log (reader at id register) ≡ walked [] (at + 5)
  unfolding step_of reader_after inside_by sum_holds le finished
  ending register sum e h =
      let h₁ : Here log (at + 1) (le 4 sum ++ b) = on (le 1 4) (le 4 sum ++ b) 1 refl h in
      let n : at + 1 + 4 ≡ at + 5 = omega arith in
      let q : read_at (inside d true register) at log ≡ got (record { action = EndRecord; payload = 0 }) (at + 5) =
      tagged d register 4 (le 4 sum ++ b) (omega arith) h
      ∙ ended_met (at + 1) log true register sum (room (le 4 sum) b 4 (length-le 4 sum) h₁) (number 4 sum b (omega arith) h₁)
      ∙ ap₂ (λ (x : Bool) (y : ℕ). tested x (got (record { action = EndRecord; payload = 0 }) y) WrongSum) (eq-eqb sum _ e) n in
      last d log (reader at id register) _ (if_false (ltb (length log) at) _ _ (le-ltb (length log) at h.fits) ∙ ap (stepped log (reader at id register)) q) refl

  opens : id < 18446744073709551616 → Here log at (le 1 1 ++ (le 8 id ++ b))
      → step_of d log (reader_at at true) ≡ Ok (record { action = BeginRecord; start = at + 9; length = 0; reader = reader (at + 9) id (updated all_ones (le 1 1 ++ le 8 id)) })
  unfolding step_of forward_to opening_by
  opens word h =
      let h₁ : Here log (at + 1) (le 8 id ++ b) = on (le 1 1) (le 8 id ++ b) 1 (length-le 1 1) h in
      let k : Here log at ((le 1 1 ++ le 8 id) ++ b) = record { fits = h.fits; is = h.is ∙ sym (append_assoc (le 1 1) (le 8 id) b) } in
      let n : at + 1 + 8 ≡ at + 9 = omega arith in
      let m : at + 9 - at ≡ 9 = omega arith in
      let q : read_at (opening true) at log ≡ got id (at + 9) =
      opening_met at log true 1 (room (le 1 1) (le 8 id ++ b) 1 (length-le 1 1) h) (tag_at 1 (le 8 id ++ b) (omega arith) h)
      ∙ begun_met (at + 1) log id (room (le 8 id) b 8 (length-le 8 id) h₁) (number 8 id b (omega arith) h₁)
      ∙ ap (got id) n in
      if_false (ltb (length log) at) _ _ (le-ltb (length log) at h.fits)
      ∙ ap (opened log (reader_at at true)) q
      ∙ rw (m, front (le 1 1 ++ le 8 id) b 9 (length-append (le 1 1) (le 8 id) ∙ omega (arith, length-le 1 1, length-le 8 id)) k)

  pub begins : id < 18446744073709551616 → Here log at (le 1 1 ++ (le 8 id ++ b))
      → record_at d log at id ≡ whole d log (reader (at + 9) id (updated all_ones (le 1 1 ++ le 8 id)))
  begins word h = record_opened d log at id _ (opens word h) (eq-eqb id id refl)
