-- THE CHECKER AND THE RUN (document 02, One: "at the close reports the answer, position and record count that a run over the joined bytes would
-- report, for every cutting"; "Answers 1 and 2 can be given only at the close."). Assumes nothing.
use Rattle.std.specs.Prelude.{Ok, Err}
use mathlib.Core.Path.{◌≡◌, refl, sym, ap, ◌∙◌, subst}
use mathlib.Core.Bool.{Bool, true, false, true≢false}
use mathlib.Core.List.{List, [], ◌∷◌, ◌++◌, append_assoc, append-nil}
use Prim.Native.Nat.{ℕ, ◌+◌, ◌-◌, ◌≤◌, ◌<◌}
use native.Mathlib.Omega.{arith}
use lib.Dec.{leb}
use lib.ListN.{length, drop, length-append, length-drop}
use lib.Seq.{drop-append-le, drop-drop, take-append_seam}
use borrow.Author.Tests.{lt-leb, eq-eqb}
use Rattle.std.specs.Prelude.{if◌then◌else◌}
use Rattle.words.proofs.Choices.{if_true, if_false}
use Rattle.words.proofs.Little.{Bytes}
use Rattle.checksum.proofs.Words.{take_bytes, drop_bytes_lem}
use Rattle.answer.specs.Answer.{number_of}
use Rattle.answer.specs.declared.answer.Answer.{Answer}
use Rattle.answer.specs.declared.answer.Answer.TheVariants.{Done, EndOfLog, Cut, BadState, BadArgument}
use Rattle.directory.specs.Directory.{image_length, directory_kept}
use Rattle.directory.specs.declared.directory.Directory.{Directory}
use Rattle.record.specs.Format.{read_at}
use Rattle.record.specs.Next.{step_of}
use Rattle.record.specs.Record.{opening}
use Rattle.output.specs.Put.{put}
use Rattle.replay.specs.Replay.{tables_kept}
use Rattle.replay.specs.Run.{Outcome, run_of}
use Rattle.replay.specs.declared.many_records.Ran.{Ran}
use Rattle.replay.proofs.Records.{run_bad}
use Rattle.numbers.proofs.Laws.{both}
use Rattle.checker.specs.Check.{Check, may_change, decides, first_standing, reading_at, report_of, check_on, check_in}
use Rattle.checker.specs.Checker.{checker_bytes, unread, padded, new_checker, checker_kept, answered, counted, keeping, settled, piece_by, piece_taken, piece_at, piece_kept, piece_of, report_in, report_now, unclosed, close_at, close_kept, close_of, after_pieces, all_bytes, open_as0, Told}
use Rattle.checker.specs.declared.checker.LogChecker.{LogChecker}
use Rattle.checker.specs.declared.checker.Stage.{Stage}
use Rattle.checker.specs.declared.checker.Stage.TheVariants as stage
use Rattle.checker.specs.declared.checker.Checked.{Checked}
use Rattle.checker.specs.declared.checker.Closed.{Closed}
use Rattle.checker.specs.declared.standing.Standing.{Standing}
use Rattle.checker.proofs.Answers.{no_change, most-twelve}
use Rattle.checker.proofs.Append.{resumed, check_append}
use Rattle.checker.proofs.Kept.{front_of_of, unpadded, unread-length, start-sound, taken-kept, padded-length, close_keeps}
use Rattle.checker.proofs.Moved.{moved_standing, moved_check, check_moved}
use Rattle.checker.proofs.Rules.{chosen, Open, kept_open, kept-settled, open_checker, settled_checker, kept-directory}
use Rattle.checker.proofs.Run.{run-reports}
use Rattle.checker.proofs.Sound.{check_settles, check_waits, Waits}

-- bytes in front are bytes
front_bytes : (xs ys : List ℕ) → Bytes (xs ++ ys) → Bytes xs
front_bytes xs ys h = subst Bytes (take-append_seam xs ys) (take_bytes (length xs) (xs ++ ys) h)

-- 1 and 2 may change
short : (b : Bool) → may_change (if b then Cut else EndOfLog) ≡ true
short true = refl
short false = refl

module _ (d : Directory) (ok : directory_kept d ≡ true) (first : ℕ) where
  abbrev begin : Standing
  begin = first_standing first

  -- what a checker that has taken `all` holds, by what a check of them comes to
  abbrev Holds : LogChecker → List ℕ → Check → Type 0
  Holds c all (Ok s) =
      (c.stage ≡ stage.Open) × (unread c ≡ drop s.reader.position all) × (c.held + s.reader.position ≡ length all) × (c.standing ≡ reading_at s (front_of_of s.reader))
  Holds c all (Err ran) = c.stage ≡ stage.Settled ran

  record Means (c : LogChecker) (all : List ℕ) : Type 0 where
    directory : c.directory ≡ d
    long : length c.part ≡ 1043
    total : c.total ≡ length all
    kept : checker_kept c ≡ true
    holds : Holds c all (check_in d all 0 begin)

  -- ---- before the first piece

  no_bytes : check_in d [] 0 begin ≡ Ok begin
  unfolding check_on step_of opening read_at
  no_bytes = refl

  new-kept : checker_kept (new_checker d first) ≡ true
  unfolding step_of opening read_at padded put
  new-kept =
      open_checker (new_checker d first) ok (omega arith) refl
      (record {
        room = omega arith;
        taken = omega arith;
        stands = record { front = refl; validates = refl; counts = omega arith; begins = omega arith; between = λ i. refl };
        waiting = refl;
      })

  means_new : Means (new_checker d first) []
  means_new =
      record { directory = refl; long = padded-length [] (omega arith); total = refl; kept = new-kept; holds = subst (Holds (new_checker d first) []) (sym no_bytes) (refl, refl, refl, refl) }

  -- ---- a piece

  module _ (c : LogChecker) (all bytes : List ℕ) (m : Means c all) (known : Bytes (all ++ bytes)) (few : length (all ++ bytes) < 9223372036854775808) where
    lengths : length (all ++ bytes) ≡ length all + length bytes
    lengths = length-append all bytes

    -- behind 13 and 14
    piece_is : (g : Stage) → c.stage ≡ g → piece_of c bytes ≡ piece_at c bytes g
    unfolding piece_of piece_kept
    piece_is g q =
        if_true (checker_kept c) _ _ m.kept
        ∙ if_false (leb (9223372036854775808 - c.total) (length bytes)) _ _ (lt-leb (9223372036854775808 - c.total) (length bytes) (omega (arith, m.total, lengths)))
        ∙ ap (piece_at c bytes) q

    -- what is to be shown of the piece's answer
    abbrev After : Checked → Type 0
    After x = Means x.checker (all ++ bytes) × Told x (report_in 0 (check_in d (all ++ bytes) 0 begin))

    within : (k : Check) → check_in d all 0 begin ≡ k → check_in d (all ++ bytes) 0 begin ≡ resumed (check_in d (all ++ bytes) 0) k
    within k e = check_append d ok all (front_bytes all bytes known) bytes 0 begin (omega arith) ∙ ap (resumed (check_in d (all ++ bytes) 0)) e

    -- settled, now or before
    is_settled : (ran : Ran) → decides ran.answer ≡ true → check_in d (all ++ bytes) 0 begin ≡ Err ran → After (settled (counted c (length bytes)) ran)
    is_settled ran f g =
        let after : LogChecker = (settled (counted c (length bytes)) ran).checker in (
          record {
            directory = m.directory;
            long = m.long;
            total = omega (arith, m.total, lengths);
            kept = settled_checker after (kept-directory c m.kept) (omega (arith, m.total, lengths, few)) ran refl f;
            holds = subst (Holds after (all ++ bytes)) (sym g) refl;
          },
          record {
            answers = sym (ap (λ (k : Check). open_as0 (report_in 0 k).answer) g ∙ if_false (may_change ran.answer) _ _ (no_change ran.answer f));
            place = λ m. sym (ap (λ (k : Check). (report_in 0 k).fault_at) g);
          },
        )

    was_settled : (ran : Ran) → check_in d all 0 begin ≡ Err ran → After (piece_of c bytes)
    was_settled ran e =
        let h : Holds c all (Err ran) = subst (Holds c all) e m.holds in
        subst After (sym (piece_is (stage.Settled ran) h)) (is_settled ran (check_settles d all 0 begin (omega arith) ran e) (within (Err ran) e))

    module _ (s : Standing) (e : check_in d all 0 begin ≡ Ok s) where
      h : Holds c all (Ok s)
      h = subst (Holds c all) e m.holds

      joined_is : unread c ++ bytes ≡ drop s.reader.position (all ++ bytes)
      joined_is = ap (λ (l : List ℕ). l ++ bytes) h.1 ∙ sym (drop-append-le s.reader.position all bytes (omega (arith, h.2)))

      these : Bytes (unread c ++ bytes)
      these = subst Bytes (sym joined_is) (drop_bytes_lem s.reader.position (all ++ bytes) known)

      total-few : c.total + length bytes < 9223372036854775808
      total-few = omega (arith, m.total, lengths, few)

      o : Open c
      o = kept_open c m.kept h.0

      held : length (unread c) ≡ c.held
      held = unread-length c bytes m.kept total-few these h.0 m.long

      -- the check of all that was taken goes on as the checker's own
      goes_on : check_in d (all ++ bytes) 0 begin ≡ moved_check s.reader.position (check_in c.directory (unread c ++ bytes) (c.total - c.held) c.standing)
      goes_on =
          let n : ℕ = s.reader.position in
          let front : Standing = reading_at s (front_of_of s.reader) in
          let z : n + 0 ≡ n = omega arith in
          let same : moved_standing n front ≡ s =
          ap (λ (p : ℕ). reading_at s (record { position = p; record_id = s.reader.record_id; crc32 = s.reader.crc32; validate = s.reader.validate; inside = s.reader.inside })) z in
          let b : 0 + n ≡ c.total - c.held = omega (arith, h.2, m.total) in
          within (Ok s) e
          ∙ ap (check_in d (all ++ bytes) 0) (sym same)
          ∙ check_moved d (all ++ bytes) n 0 front (omega (arith, h.2, lengths))
          ∙ ap (λ (l : List ℕ). moved_check n (check_in d l (0 + n) front)) (sym joined_is)
          ∙ ap (λ (k : ℕ). moved_check n (check_in d (unread c ++ bytes) k front)) b
          ∙ ap (λ (x : Standing). moved_check n (check_in d (unread c ++ bytes) (c.total - c.held) x)) (sym h.3)
          ∙ ap (λ (x : Directory). moved_check n (check_in x (unread c ++ bytes) (c.total - c.held) c.standing)) (sym m.directory)

      kept-after : checker_kept (piece_taken c bytes).checker ≡ true
      kept-after = taken-kept c bytes m.kept total-few these h.0 m.long

      -- the piece by what the check of it comes to
      taken_is : (k : Check) → check_in c.directory (unread c ++ bytes) (c.total - c.held) c.standing ≡ k → piece_taken c bytes ≡ piece_by (counted c (length bytes)) (unread c ++ bytes) k
      unfolding piece_taken
      taken_is k q = ap (piece_by (counted c (length bytes)) (unread c ++ bytes)) q

      either : (b : Bool) → open_as0 (if b then Cut else EndOfLog) ≡ Done
      either true = refl
      either false = refl

      waits-again : (s2 : Standing) → check_in c.directory (unread c ++ bytes) (c.total - c.held) c.standing ≡ Ok s2 → After (piece_by (counted c (length bytes)) (unread c ++ bytes) (Ok s2))
      waits-again s2 q =
          let p : ℕ = s2.reader.position in
          let rest : List ℕ = drop p (unread c ++ bytes) in
          let after : LogChecker = keeping (counted c (length bytes)) s2 rest in
          let w : Waits c.directory (unread c ++ bytes) (c.total - c.held) s2 =
          check_waits c.directory (unread c ++ bytes) (c.total - c.held) c.standing s2 (start-sound c bytes m.kept total-few these h.0) (omega (arith, o.stands.front)) q in
          let k : checker_kept after ≡ true = ap (λ (x : Checked). checker_kept x.checker) (sym (taken_is (Ok s2) q)) ∙ kept-after in
          let j : length (unread c ++ bytes) ≡ length (unread c) + length bytes = length-append (unread c) bytes in
          let g : check_in d (all ++ bytes) 0 begin ≡ Ok (moved_standing s.reader.position s2) = goes_on ∙ ap (moved_check s.reader.position) q in (
            record {
              directory = m.directory;
              long = padded-length rest (kept_open after k h.0).room;
              total = omega (arith, m.total, lengths);
              kept = k;
              holds = subst (Holds after (all ++ bytes)) (sym g) (
                h.0,
                unpadded rest ∙ ap (drop p) joined_is ∙ drop-drop p s.reader.position (all ++ bytes),
                omega (arith, length-drop p (unread c ++ bytes), w.within, h.2, lengths, held),
                refl,
              );
            },
            record {
              answers = sym (ap (λ (k : Check). open_as0 (report_in 0 k).answer) g ∙ either s2.reader.inside);
              place = λ m. absurd (true≢false (sym (short s2.reader.inside) ∙ sym (ap (λ (k : Check). may_change (report_in 0 k).answer) g) ∙ m));
            },
          )

      settles_now : (ran : Ran) → check_in c.directory (unread c ++ bytes) (c.total - c.held) c.standing ≡ Err ran → After (piece_by (counted c (length bytes)) (unread c ++ bytes) (Err ran))
      settles_now ran q =
          is_settled ran (check_settles c.directory (unread c ++ bytes) (c.total - c.held) c.standing (omega (arith, o.stands.front)) ran q)
          (goes_on ∙ ap (moved_check s.reader.position) q)

      was_waiting : After (piece_of c bytes)
      was_waiting = subst After (sym (piece_is stage.Open h.0)) (by (check_in c.directory (unread c ++ bytes) (c.total - c.held) c.standing) refl)
        where
          by : (k : Check) → check_in c.directory (unread c ++ bytes) (c.total - c.held) c.standing ≡ k → After (piece_taken c bytes)
          by (Ok s2) q = subst After (sym (taken_is (Ok s2) q)) (waits-again s2 q)
          by (Err ran) q = subst After (sym (taken_is (Err ran) q)) (settles_now ran q)

    after : After (piece_of c bytes)
    after = by (check_in d all 0 begin) refl
      where
        by : (k : Check) → check_in d all 0 begin ≡ k → After (piece_of c bytes)
        by (Err ran) e = was_settled ran e
        by (Ok s) e = was_waiting s e

  -- ---- all the pieces

  pieces : (ps : List (List ℕ)) (c : LogChecker) (all : List ℕ) → Means c all → Bytes (all ++ all_bytes ps) → length (all ++ all_bytes ps) < 9223372036854775808
      → Means (after_pieces c ps) (all ++ all_bytes ps)
  unfolding after_pieces all_bytes
  pieces [] c all m known few = subst (Means c) (sym (append-nil all)) m
  pieces (bytes ∷ more) c all m known few =
      let e : all ++ (bytes ++ all_bytes more) ≡ (all ++ bytes) ++ all_bytes more = sym (append_assoc all bytes (all_bytes more)) in
      let l : length ((all ++ bytes) ++ all_bytes more) ≡ length (all ++ bytes) + length (all_bytes more) = length-append (all ++ bytes) (all_bytes more) in
      let k : Bytes ((all ++ bytes) ++ all_bytes more) = subst Bytes e known in
      let f : length ((all ++ bytes) ++ all_bytes more) < 9223372036854775808 = subst (λ (x : List ℕ). length x < 9223372036854775808) e few in
      subst (Means (after_pieces (piece_of c bytes).checker more)) (sym e)
      (pieces more (piece_of c bytes).checker (all ++ bytes) (after c all bytes m (front_bytes (all ++ bytes) (all_bytes more) k) (omega (arith, l, f))).0 k f)

  closes : (c : LogChecker) (all : List ℕ) → Means c all → (close_of c).ran ≡ report_in 0 (check_in d all 0 begin)
  unfolding close_of close_kept
  closes c all m =
      ap (λ (x : Closed). x.ran) (if_true (checker_kept c) _ _ m.kept) ∙ by (check_in d all 0 begin) refl
    where
      by : (k : Check) → check_in d all 0 begin ≡ k → (close_at c c.stage).ran ≡ report_in 0 (check_in d all 0 begin)
      by (Err ran) e =
          let h : Holds c all (Err ran) = subst (Holds c all) e m.holds in
          ap (λ (g : Stage). (close_at c g).ran) h ∙ sym (ap (report_in 0) e)
      by (Ok s) e =
          let h : Holds c all (Ok s) = subst (Holds c all) e m.holds in
          let z : c.total - c.held ≡ 0 + s.reader.position = omega (arith, h.2, m.total) in
          ap (λ (g : Stage). (close_at c g).ran) h.0
          ∙ ap (λ (x : Standing). report_of x (if x.reader.inside then Cut else EndOfLog) (c.total - c.held)) h.3
          ∙ ap (report_of s (if s.reader.inside then Cut else EndOfLog)) z
          ∙ sym (ap (report_in 0) e)

  -- what each piece and the close come to, against a check of the joined bytes
  pub pieces_close : (ps : List (List ℕ)) → Bytes (all_bytes ps) → length (all_bytes ps) < 9223372036854775808
      → (close_of (after_pieces (new_checker d first) ps)).ran ≡ report_in 0 (check_in d (all_bytes ps) 0 begin)
  pieces_close ps known few = closes (after_pieces (new_checker d first) ps) (all_bytes ps) (pieces ps (new_checker d first) [] means_new known few)

  pub pieces-answer : (ps : List (List ℕ)) (bytes : List ℕ) → Bytes (all_bytes ps ++ bytes) → length (all_bytes ps ++ bytes) < 9223372036854775808
      → Told (piece_of (after_pieces (new_checker d first) ps) bytes) (report_in 0 (check_in d (all_bytes ps ++ bytes) 0 begin))
  pieces-answer ps bytes known few =
      let l : length (all_bytes ps ++ bytes) ≡ length (all_bytes ps) + length bytes = length-append (all_bytes ps) bytes in
      let m = pieces ps (new_checker d first) [] means_new (front_bytes (all_bytes ps) bytes known) (omega arith) in
      (after (after_pieces (new_checker d first) ps) (all_bytes ps) bytes m known few).1

-- ---- a broken directory: 13 at every call, as the run's

module _ (c : LogChecker) (broken : checker_kept c ≡ false) where
  broken_piece : (bytes : List ℕ) → piece_of c bytes ≡ answered BadState c
  unfolding piece_of
  broken_piece bytes = if_false (checker_kept c) _ _ broken

  broken_pieces : (ps : List (List ℕ)) → after_pieces c ps ≡ c
  unfolding after_pieces
  broken_pieces [] = refl
  broken_pieces (bytes ∷ more) = ap (λ (x : Checked). after_pieces x.checker more) (broken_piece bytes) ∙ broken_pieces more

  broken_close : close_of c ≡ unclosed BadState c
  unfolding close_of
  broken_close = if_false (checker_kept c) _ _ broken

broken_new : (d : Directory) (first : ℕ) → directory_kept d ≡ false → checker_kept (new_checker d first) ≡ false
unfolding checker_kept
broken_new d first e = rw e

-- ---- the theorems

module _ (d : Directory) (first : ℕ) (image : List ℕ) (long : length image ≡ image_length d) where
  kept_tables : directory_kept d ≡ true → tables_kept d image ≡ true
  unfolding tables_kept
  kept_tables e = both e (eq-eqb (length image) (image_length d) long)

  broken_tables : directory_kept d ≡ false → tables_kept d image ≡ false
  unfolding tables_kept
  broken_tables e = rw e

  -- FOR EVERY CUTTING the close reports what a run over the joined bytes reports: answer, position, count and the fault's place
  pub checked_as_run : (ps : List (List ℕ)) → Bytes (all_bytes ps) → length (all_bytes ps) < 9223372036854775808
      → (close_of (after_pieces (new_checker d first) ps)).ran ≡ (run_of d (all_bytes ps) 0 first image).ran
  checked_as_run ps known few = by (directory_kept d) refl
    where
      by : (b : Bool) → directory_kept d ≡ b → (close_of (after_pieces (new_checker d first) ps)).ran ≡ (run_of d (all_bytes ps) 0 first image).ran
      by true e = pieces_close d e first ps known few ∙ sym (run-reports d (all_bytes ps) first image (kept_tables e))
      by false e =
          ap (λ (c : LogChecker). (close_of c).ran) (broken_pieces (new_checker d first) (broken_new d first e) ps)
          ∙ ap (λ (x : Closed). x.ran) (broken_close (new_checker d first) (broken_new d first e))
          ∙ sym (ap (λ (o : Outcome). o.ran) (run_bad d (all_bytes ps) 0 first image (broken_tables e)))

  -- A PIECE ANSWERS what a run over the bytes so far answers, and 0 in place of 1 and 2; beside any other answer it tells the run's place
  pub piece_as_run : (ps : List (List ℕ)) (bytes : List ℕ) → Bytes (all_bytes ps ++ bytes) → length (all_bytes ps ++ bytes) < 9223372036854775808
      → Told (piece_of (after_pieces (new_checker d first) ps) bytes) (run_of d (all_bytes ps ++ bytes) 0 first image).ran
  piece_as_run ps bytes known few = by (directory_kept d) refl
    where
      by : (b : Bool) → directory_kept d ≡ b → Told (piece_of (after_pieces (new_checker d first) ps) bytes) (run_of d (all_bytes ps ++ bytes) 0 first image).ran
      by true e =
          subst (Told (piece_of (after_pieces (new_checker d first) ps) bytes)) (sym (run-reports d (all_bytes ps ++ bytes) first image (kept_tables e))) (pieces-answer d e first ps bytes known few)
      by false e =
          let p : piece_of (after_pieces (new_checker d first) ps) bytes ≡ answered BadState (new_checker d first) =
          ap (λ (c : LogChecker). piece_of c bytes) (broken_pieces (new_checker d first) (broken_new d first e) ps) ∙ broken_piece (new_checker d first) (broken_new d first e) bytes in
          subst (λ (o : Outcome). Told (piece_of (after_pieces (new_checker d first) ps) bytes) o.ran) (sym (run_bad d (all_bytes ps ++ bytes) 0 first image (broken_tables e)))
          (record { answers = ap (λ (x : Checked). x.answer) p; place = λ m. ap (λ (x : Checked). x.fault_at) p })

  -- WHAT A RUN REPORTS DOESN'T DEPEND ON THE IMAGE
  pub any_image : (other : List ℕ) → length other ≡ image_length d → (log : List ℕ) → (run_of d log 0 first image).ran ≡ (run_of d log 0 first other).ran
  unfolding tables_kept
  any_image other same log = by (directory_kept d) refl
    where
      by : (b : Bool) → directory_kept d ≡ b → (run_of d log 0 first image).ran ≡ (run_of d log 0 first other).ran
      by true e = run-reports d log first image (kept_tables e) ∙ sym (run-reports d log first other (both e (eq-eqb (length other) (image_length d) same)))
      by false e =
          ap (λ (o : Outcome). o.ran) (run_bad d log 0 first image (broken_tables e))
          ∙ sym (ap (λ (o : Outcome). o.ran) (run_bad d log 0 first other (rw e)))

  -- WHAT STOPS A RUN OTHERWISE THAN WITH 1 OR 2 stops it whatever bytes come behind: the answer stays from the piece on that decides it
  pub run-lasting : (log more : List ℕ) → Bytes log → may_change (run_of d log 0 first image).ran.answer ≡ false → (run_of d (log ++ more) 0 first image).ran ≡ (run_of d log 0 first image).ran
  run-lasting log more known m = by (directory_kept d) refl
    where
      kept : (e : directory_kept d ≡ true) (k : Check) → check_in d log 0 (first_standing first) ≡ k → (run_of d (log ++ more) 0 first image).ran ≡ (run_of d log 0 first image).ran
      kept e (Err ran) q =
          run-reports d (log ++ more) first image (kept_tables e)
          ∙ ap (report_in 0) (check_append d e log known more 0 (first_standing first) (omega arith) ∙ ap (resumed (check_in d (log ++ more) 0)) q ∙ sym q)
          ∙ sym (run-reports d log first image (kept_tables e))
      kept e (Ok s) q =
          let f : (run_of d log 0 first image).ran ≡ report_in 0 (Ok s) = run-reports d log first image (kept_tables e) ∙ ap (report_in 0) q in
          absurd (true≢false (sym (short s.reader.inside) ∙ sym (ap (λ (r : Ran). may_change r.answer) f) ∙ m))

      by : (b : Bool) → directory_kept d ≡ b → (run_of d (log ++ more) 0 first image).ran ≡ (run_of d log 0 first image).ran
      by true e = kept e (check_in d log 0 (first_standing first)) refl
      by false e =
          ap (λ (o : Outcome). o.ran) (run_bad d (log ++ more) 0 first image (broken_tables e))
          ∙ sym (ap (λ (o : Outcome). o.ran) (run_bad d log 0 first image (broken_tables e)))

-- ---- for any checker, however it came about

-- what a piece comes to
data Says (c : LogChecker) (x : Checked) : Type 0 where
  refuses : (answer : Answer) → may_change answer ≡ false → x ≡ answered answer c → Says c x
  open_still : x.answer ≡ Done → Says c x
  decided : decides x.answer ≡ true → Says c x

module _ (c : LogChecker) (bytes : List ℕ) where
  taken-says : Open c → Says c (piece_taken c bytes)
  unfolding piece_taken
  taken-says o = by (check_in c.directory (unread c ++ bytes) (c.total - c.held) c.standing) refl
    where
      by : (k : Check) → check_in c.directory (unread c ++ bytes) (c.total - c.held) c.standing ≡ k → Says c (piece_by (counted c (length bytes)) (unread c ++ bytes) k)
      by (Ok s) q = open_still refl
      by (Err ran) q = decided (check_settles c.directory (unread c ++ bytes) (c.total - c.held) c.standing (omega (arith, o.stands.front)) ran q)

  says : Says c (piece_of c bytes)
  unfolding piece_of piece_kept
  says =
      chosen (Says c) (checker_kept c) _ _
      (λ kept. chosen (Says c) (leb (9223372036854775808 - c.total) (length bytes)) _ _ (λ e. refuses BadArgument refl refl) (λ e. by kept c.stage refl))
      (λ e. refuses BadState refl refl)
    where
      by : checker_kept c ≡ true → (g : Stage) → c.stage ≡ g → Says c (piece_at c bytes g)
      by kept stage.Open q = taken-says (kept_open c kept q)
      by kept (stage.Settled ran) q = decided (kept-settled c kept ran q)
      by kept (stage.Closed ran) q = refuses BadArgument refl refl

  -- NO PIECE ANSWERS 1 OR 2
  pub never-1-or-2 : may_change (piece_of c bytes).answer ≡ true → (piece_of c bytes).answer ≡ Done
  never-1-or-2 m = by says
    where
      by : Says c (piece_of c bytes) → (piece_of c bytes).answer ≡ Done
      by (refuses a f e) = absurd (true≢false (sym m ∙ ap (λ (x : Checked). may_change x.answer) e ∙ f))
      by (open_still e) = e
      by (decided f) = absurd (true≢false (sym m ∙ no_change (piece_of c bytes).answer f))

  -- 13 AND 14 CHANGE NOTHING
  pub refused_unchanged : 12 < number_of (piece_of c bytes).answer → (piece_of c bytes).checker ≡ c
  refused_unchanged m = by says
    where
      by : Says c (piece_of c bytes) → (piece_of c bytes).checker ≡ c
      by (refuses a f e) = ap (λ (x : Checked). x.checker) e
      by (open_still e) = let z : number_of (piece_of c bytes).answer ≡ 0 = ap number_of e in absurd (omega arith)
      by (decided f) = absurd (omega (arith, most-twelve (piece_of c bytes).answer f))

-- ---- the close

close_twice : (c : LogChecker) → checker_kept c ≡ true → (ran : Ran) → c.stage ≡ stage.Closed ran → close_of c ≡ unclosed BadArgument c
unfolding close_of close_kept
close_twice c k ran q = if_true (checker_kept c) _ _ k ∙ ap (close_at c) q

module _ (c : LogChecker) where
  -- 13 AND 14 CHANGE NOTHING at the close either
  pub close_unchanged : 12 < number_of (close_of c).ran.answer → (close_of c).checker ≡ c
  unfolding close_of close_kept
  close_unchanged = chosen Same (checker_kept c) _ _ (λ kept. by kept c.stage refl) (λ e m. refl)
    where
      Same : Closed → Type 0
      Same x = 12 < number_of x.ran.answer → x.checker ≡ c

      few : (b : Bool) → number_of (if b then Cut else EndOfLog) ≤ 12
      few true = omega arith
      few false = omega arith

      by : checker_kept c ≡ true → (g : Stage) → c.stage ≡ g → Same (close_at c g)
      by kept stage.Open q m = absurd (omega (arith, few c.standing.reader.inside))
      by kept (stage.Settled ran) q m = absurd (omega (arith, most-twelve ran.answer (kept-settled c kept ran q)))
      by kept (stage.Closed ran) q m = refl

  module _ (kept : checker_kept c ≡ true) where
    closed_then : (ran : Ran) × ((close_of c).checker.stage ≡ stage.Closed ran)
    unfolding close_of close_kept
    closed_then = subst (λ (x : Closed). (ran : Ran) × (x.checker.stage ≡ stage.Closed ran)) (sym (if_true (checker_kept c) _ _ kept)) (by c.stage refl)
      where
        by : (g : Stage) → c.stage ≡ g → (ran : Ran) × ((close_at c g).checker.stage ≡ stage.Closed ran)
        by stage.Open q = (report_now c, refl)
        by (stage.Settled ran) q = (ran, refl)
        by (stage.Closed ran) q = (ran, q)

    kept_then : checker_kept (close_of c).checker ≡ true
    unfolding close_of
    kept_then = ap (λ (x : Closed). checker_kept x.checker) (if_true (checker_kept c) _ _ kept) ∙ close_keeps c kept

    -- AFTER THE CLOSE EVERY CALL GIVES 14 and changes nothing
    pub piece_after : (bytes : List ℕ) → piece_of (close_of c).checker bytes ≡ answered BadArgument (close_of c).checker
    unfolding piece_of piece_kept
    piece_after bytes =
        let x : LogChecker = (close_of c).checker in
        if_true (checker_kept x) _ _ kept_then
        ∙ chosen (λ (y : Checked). y ≡ answered BadArgument x) (leb (9223372036854775808 - x.total) (length bytes)) _ _ (λ e. refl) (λ e. ap (piece_at x bytes) closed_then.1)

    pub close_after : close_of (close_of c).checker ≡ unclosed BadArgument (close_of c).checker
    close_after = close_twice (close_of c).checker kept_then closed_then.0 closed_then.1

-- ---- its size

-- IT KEEPS 1,267 BYTES between pieces
pub size : checker_bytes ≡ 1267
size = refl

pub small : checker_bytes ≤ 2048
small = omega arith
