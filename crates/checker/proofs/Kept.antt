-- A checker that keeps its rules keeps them through every call. Assumes nothing.
use mathlib.Core.Path.{◌≡◌, refl, sym, ap, ◌∙◌}
use mathlib.Core.Bool.{Bool, true, false, true≢false}
use mathlib.Core.List.{List, ◌++◌}
use Prim.Native.Nat.{ℕ, ◌+◌, ◌-◌, ◌≤◌, ◌<◌}
use native.Mathlib.Omega.{arith}
use lib.Dec.{leb}
use lib.ListN.{length, take, drop, replicate, length-append, length-take, length-drop, length-replicate}
use lib.Seq.{length-take-le}
use borrow.Author.Tests.{leb-true, leb-false}
use Rattle.words.proofs.Little.{Bytes}
use Rattle.answer.specs.Answer.{refusal}
use Rattle.answer.specs.declared.answer.Refusal.{Refusal}
use Rattle.directory.specs.Directory.{directory_kept}
use Rattle.directory.specs.declared.directory.Directory.{Directory}
use Rattle.record.specs.Next.{step_of}
use Rattle.record.specs.declared.reader.LogReader.{LogReader}
use Rattle.checker.proofs.Lasting.{step-long}
use Rattle.checker.proofs.Seen.{moved_reader, seen, moved_seen, seen-moved}
use Rattle.output.specs.Put.{put}
use Rattle.output.proofs.Laws.{wrote-front, all_left}
use Rattle.replay.specs.declared.many_records.Ran.{Ran}
use Rattle.checker.specs.Check.{Check, may_change, check_in}
use Rattle.checker.specs.Checker.{unread, padded, waits, checker_kept, counted, keeping, settled, piece_by, piece_taken, piece_at, piece_kept, report_now, closing, close_at, close_kept}
use Rattle.checker.specs.Inner.{Sound}
use Rattle.checker.specs.declared.checker.LogChecker.{LogChecker}
use Rattle.checker.specs.declared.checker.Stage.{Stage}
use Rattle.checker.specs.declared.checker.Stage.TheVariants as stage
use Rattle.checker.specs.declared.checker.Checked.{Checked}
use Rattle.checker.specs.declared.standing.Standing.{Standing}
use Rattle.checker.proofs.Rules.{chosen, Open, kept-directory, kept-total, kept_open, kept-settled, open_checker, settled_checker, closed_checker}
use Rattle.checker.proofs.Sound.{Waits, check_waits, check_settles}
use Rattle.std.specs.Prelude.{Result, Ok, Err}
use Rattle.record.specs.declared.reader.Stepped.{Stepped}

-- ---- the bytes kept

module _ (bytes : List ℕ) where
  pub unpadded : take (length bytes) (padded bytes) ≡ bytes
  unfolding padded
  unpadded =
      let z : 0 + length bytes ≡ length bytes = omega arith in
      ap (λ (n : ℕ). take n (put (replicate 1043 0) 0 bytes)) (sym z) ∙ wrote-front (all_left (replicate 1043 0) 0 bytes)

  pub padded-length : length bytes ≤ 1043 → length (padded bytes) ≡ 1043
  unfolding padded put
  padded-length h = simp (length-append, length-take, length-drop, length-replicate) (omega arith)

-- ---- where a check waits, the bytes from there on wait too

-- a reader at the front of the bytes that it hasn't read
abbrev pub front_of_of : LogReader → LogReader
front_of_of r = record { position = 0; record_id = r.record_id; crc32 = r.crc32; validate = r.validate; inside = r.inside }

waits-seen : (n : ℕ) (st su : Result Stepped Refusal) → seen st ≡ moved_seen n (seen su) → waits st ≡ waits su
waits-seen n (Err x) (Err y) e =
    let p : x ≡ refusal y.answer (n + y.position) = cc in
    ap (λ (z : Refusal). may_change z.answer) p
waits-seen n (Err x) (Ok t) e = let z : ◌≡◌ {A = ℕ} 0 1 = cc in absurd (omega arith)
waits-seen n (Ok t) (Err y) e = let z : ◌≡◌ {A = ℕ} 0 1 = cc in absurd (omega arith)
waits-seen n (Ok t) (Ok u) e = refl

module _ (d : Directory) (log : List ℕ) (r : LogReader) (within : r.position ≤ length log) (wait : waits (step_of d log r) ≡ true) where
  pub rest-waits : waits (step_of d (drop r.position log) (front_of_of r)) ≡ true
  rest-waits =
      let z : r.position + 0 ≡ r.position = omega arith in
      let e : moved_reader r.position (front_of_of r) ≡ r = ap (λ (p : ℕ). record { position = p; record_id = r.record_id; crc32 = r.crc32; validate = r.validate; inside = r.inside }) z in
      sym (waits-seen r.position (step_of d log (moved_reader r.position (front_of_of r))) (step_of d (drop r.position log) (front_of_of r)) (seen-moved r.position log d (front_of_of r) (omega arith)))
      ∙ ap (λ (k : LogReader). waits (step_of d log k)) e ∙ wait

  pub rest-short : directory_kept d ≡ true → Bytes log → length log - r.position < 1043
  rest-short kept b = by (step_of d log r) refl
    where
      long : (x : Refusal) → step_of d log r ≡ Err x → (t : Bool) → leb 1043 (length log - r.position) ≡ t → length log - r.position < 1043
      long x q true l = absurd (true≢false (sym (ap waits (sym q) ∙ wait) ∙ step-long d kept log b r x within q (leb-true 1043 (length log - r.position) l)))
      long x q false l = leb-false 1043 (length log - r.position) l

      by : (st : Result Stepped Refusal) → step_of d log r ≡ st → length log - r.position < 1043
      by (Err x) q = long x q (leb 1043 (length log - r.position)) refl
      by (Ok t) q = absurd (true≢false (sym wait ∙ ap waits q))

-- ---- a piece

module _ (c : LogChecker) (bytes : List ℕ) (kept : checker_kept c ≡ true) (few : c.total + length bytes < 9223372036854775808) (known : Bytes (unread c ++ bytes))
    (is_open : c.stage ≡ stage.Open) where
  o : Open c
  o = kept_open c kept is_open

  abbrev all : List ℕ
  all = unread c ++ bytes

  abbrev base : ℕ
  base = c.total - c.held

  -- as many as were held
  pub unread-length : length c.part ≡ 1043 → length (unread c) ≡ c.held
  unread-length l = length-take-le c.held c.part (omega (arith, o.room))

  pub start-sound : Sound base c.standing
  start-sound =
      record {
        validates = o.stands.validates;
        begins = omega (arith, o.stands.begins);
        counts = o.stands.counts;
        between = λ f. o.stands.between f ∙ omega (arith, o.stands.front);
      }

  module _ (long : length c.part ≡ 1043) where
    pub taken-kept : checker_kept (piece_taken c bytes).checker ≡ true
    unfolding piece_taken
    taken-kept = by (check_in c.directory all base c.standing) refl
      where
        held : length (unread c) ≡ c.held
        held = unread-length long

        lengths : length all ≡ c.held + length bytes
        lengths = simp length-append (omega (arith, held))

        waiting : (s : Standing) → Waits c.directory all base s → checker_kept (keeping (counted c (length bytes)) s (drop s.reader.position all)) ≡ true
        waiting s w =
            let n : length (drop s.reader.position all) ≡ length all - s.reader.position = length-drop s.reader.position all in
            let k = rest-short c.directory all s.reader w.within w.refused (kept-directory c kept) known in
            let r : length (drop s.reader.position all) ≤ 1043 = omega arith in
            let t : length (drop s.reader.position all) ≤ c.total + length bytes = omega (arith, lengths, o.taken) in
            let b : s.start ≤ c.total + length bytes - length (drop s.reader.position all) = omega (arith, w.sound.begins, w.within, o.taken, lengths) in
            let e : s.reader.inside ≡ false → s.start ≡ c.total + length bytes - length (drop s.reader.position all) = λ i. omega (arith, w.sound.between i, w.within, o.taken, lengths) in
            open_checker (keeping (counted c (length bytes)) s (drop s.reader.position all)) (kept-directory c kept) few is_open
            (record {
              room = r;
              taken = t;
              stands = record { front = refl; validates = w.sound.validates; counts = w.sound.counts; begins = b; between = e };
              waiting = rw (unpadded (drop s.reader.position all)) (rest-waits c.directory all s.reader w.within w.refused);
            })

        by : (k : Check) → check_in c.directory all base c.standing ≡ k → checker_kept (piece_by (counted c (length bytes)) all k).checker ≡ true
        by (Ok s) e = waiting s (check_waits c.directory all base c.standing s start-sound (omega (arith, o.stands.front)) e)
        by (Err ran) e =
            settled_checker (settled (counted c (length bytes)) ran).checker (kept-directory c kept) few ran refl (check_settles c.directory all base c.standing (omega (arith, o.stands.front)) ran e)

-- ---- every call

module _ (c : LogChecker) (kept : checker_kept c ≡ true) where
  -- A PIECE KEEPS THE RULES
  pub piece_keeps : (bytes : List ℕ) → Bytes (unread c ++ bytes) → length c.part ≡ 1043 → checker_kept (piece_kept c bytes).checker ≡ true
  unfolding piece_kept
  piece_keeps bytes known long =
      chosen (λ (x : Checked). checker_kept x.checker ≡ true) (leb (9223372036854775808 - c.total) (length bytes)) _ _ (λ e. kept)
      (λ e. by (omega (arith, leb-false (9223372036854775808 - c.total) (length bytes) e)) c.stage refl)
    where
      by : c.total + length bytes < 9223372036854775808 → (g : Stage) → c.stage ≡ g → checker_kept (piece_at c bytes g).checker ≡ true
      by few stage.Open q = taken-kept c bytes kept few known q long
      by few (stage.Settled ran) q = settled_checker (settled (counted c (length bytes)) ran).checker (kept-directory c kept) few ran refl (kept-settled c kept ran q)
      by few (stage.Closed ran) q = kept

  -- AND SO DOES THE CLOSE
  pub close_keeps : checker_kept (close_kept c).checker ≡ true
  unfolding close_kept
  close_keeps = by c.stage
    where
      closes : (ran : Ran) → checker_kept (closing c ran).checker ≡ true
      closes ran = closed_checker (closing c ran).checker (kept-directory c kept) (kept-total c kept) ran refl

      by : (g : Stage) → checker_kept (close_at c g).checker ≡ true
      by stage.Open = closes (report_now c)
      by (stage.Settled ran) = closes ran
      by (stage.Closed ran) = kept
