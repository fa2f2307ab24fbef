-- What each function has to show, over plain variables. Assumes nothing.
use mathlib.Core.Path.{◌≡◌, refl, sym, ap, ◌∙◌, subst}
use mathlib.Core.Bool.{Bool, true, false}
use mathlib.Core.List.{List, [], ◌∷◌, ◌++◌}
use Prim.Native.Nat.{ℕ, zero, suc, ◌+◌, ◌-◌, ◌≤◌, ◌<◌, min}
use native.Mathlib.Omega.{arith}
use lib.Dec.{ltb}
use lib.ListN.{length, take, drop, replicate, length-append, length-take, length-drop, take-append-drop}
use lib.Seq.{take_all, take-append-add, length-take-le}
use borrow.Author.Tests.{ltb-true, ltb-false}
use Rattle.words.proofs.Choices.{if_true, if_false}
use Rattle.words.proofs.Little.{Bytes}
use Rattle.checksum.proofs.Words.{take_bytes}
use Rattle.answer.specs.declared.answer.Answer.{Answer}
use Rattle.answer.specs.declared.answer.Answer.TheVariants.{Done, BadState}
use Rattle.answer.specs.declared.answer.Refusal.{Refusal}
use Rattle.directory.specs.Directory.{directory_kept}
use Rattle.directory.specs.declared.directory.Directory.{Directory}
use Rattle.record.specs.Next.{step_of}
use Rattle.record.specs.declared.reader.LogReader.{LogReader}
use Rattle.record.specs.declared.reader.Stepped.{Stepped}
use Rattle.record.proofs.Faults.{halted}
use Rattle.record.proofs.Steps.{step-on}
use Rattle.replay.specs.declared.many_records.Ran.{Ran}
use Rattle.std.proofs.lemmas.Slice.{between_to_end, put_mid-paste}
use Rattle.output.specs.Put.{put}
use Rattle.output.proofs.Laws.{put_nil, put-put}
use native.Mathlib.Nat.{zero-add}
use borrow.Rule.Slice.PartMut.{put_mid}
use Rattle.checker.specs.Check.{Went, Check, may_change, first_standing, reading_at, went_by, check_in}
use Rattle.checker.specs.Checker.{unread, padded, new_checker, checker_start, answered, counted, keeping, settled, piece_by, piece_taken}
use Rattle.checker.specs.Inner.{Stands, Takes, Front, back_reader}
use Rattle.checker.specs.declared.checker.LogChecker.{LogChecker}
use Rattle.checker.specs.declared.checker.Stage.TheVariants as stage
use Rattle.checker.specs.declared.checker.Checked.{Checked}
use Rattle.checker.specs.declared.standing.Standing.{Standing}
use Rattle.checker.proofs.Across.{across_settled, across_on, across_waits, not_yet, on_in_piece}
use Rattle.checker.proofs.Append.{took_longer}
use Rattle.checker.proofs.Kept.{unpadded, padded-length, rest-short}
use Rattle.checker.proofs.Rules.{Open, kept_open, kept-directory}
use Rattle.checker.proofs.Sound.{Waits, check_waits, went_stands}
use Rattle.checker.proofs.Ways.{never_on, action-reader}
use Rattle.std.specs.Prelude.{Result, Ok, Err, Some, None}

-- ---- a step

module _ (base : ℕ) (s : Standing) where
  module _ (d : Directory) (log : List ℕ) where
    pub refused-place : Stands log base s → (x : Refusal) → Err x ≡ step_of d log s.reader → base + x.position < 9223372036854775808
    refused-place k x e = omega (arith, k.within, k.fits, (halted d log s.reader x (sym e)).place)

    pub took_place : Stands log base s → (t : Stepped) → Ok t ≡ step_of d log s.reader → (base + t.reader.position < 9223372036854775808) × (s.count < 9223372036854775808)
    took_place k t e =
        let o = step-on d log s.reader t (sym e) in
        (omega (arith, o.inside, k.fits), omega (arith, k.sound.counts, k.sound.begins, k.within, k.fits))

-- ---- a checker's start, its kept bytes, its report

pub starts : (d : Directory) (first : ℕ) (s : Standing) → s ≡ first_standing first
    → record { directory = d; standing = s; held = 0; part = replicate 1043 0; total = 0; stage = stage.Open } ≡ new_checker d first
unfolding padded
starts d first s e = rw (e, put_nil (replicate 1043 0) 0)

pub start-kept : (d : Directory) (first : ℕ) (c : LogChecker) (r : Checked) → directory_kept d ≡ true → c ≡ new_checker d first → r ≡ answered Done c → r ≡ checker_start d first
start-kept d first c r k e f =
    f ∙ ap (answered Done) e ∙ ap (λ (a : Answer). record { answer = a; fault_at = 0; checker = new_checker d first }) (sym (if_true (directory_kept d) Done BadState k))

pub start_broken : (d : Directory) (first : ℕ) (c : LogChecker) (r : Checked) → directory_kept d ≡ false → c ≡ new_checker d first → r ≡ answered BadState c → r ≡ checker_start d first
start_broken d first c r k e f =
    f ∙ ap (answered BadState) e ∙ ap (λ (a : Answer). record { answer = a; fault_at = 0; checker = new_checker d first }) (sym (if_false (directory_kept d) Done BadState k))

pub stores : (bytes new : List ℕ) → new ≡ bytes → new ++ drop (length bytes) (replicate 1043 0) ≡ padded bytes
unfolding padded put
stores bytes new e = ap (λ (l : List ℕ). l ++ drop (length bytes) (replicate 1043 0)) e ∙ rw zero-add

pub joins : (a b old new : List ℕ) → old ≡ padded a → new ≡ b → put_mid (length a) (length a + length b - length a) old new ≡ padded (a ++ b)
unfolding padded put
joins a b old new e f =
    let n : length new ≡ length b = ap length f in
    put_mid-paste (length a) (length a + length b - length a) old new b (length b) f (omega arith) refl
    ∙ ap (λ (l : List ℕ). take (length a) old ++ l ++ drop (length a + length b) old) (take_all (length b) b (omega arith))
    ∙ ap (λ (l : List ℕ). put l (length a) b) e
    ∙ ap (λ (k : ℕ). put (padded a) k b) (sym (zero-add (length a)))
    ∙ put-put (replicate 1043 0) 0 a b

-- ---- bytes from where a check stands in them

rest_part : (a : ℕ) (l : List ℕ) → take (length l - a) (drop a l) ≡ drop a l
rest_part a l = between_to_end l a (length l) (omega arith)

module _ (c : LogChecker) (bytes : List ℕ) (k : Check) (r : Checked) where
  pub walks-settled : (ran : Ran) → Err ran ≡ k → r ≡ settled c ran → r ≡ piece_by c bytes k
  walks-settled ran e f = f ∙ ap (piece_by c bytes) e

  pub walks-waiting : (s : Standing) (x : LogChecker) → Ok s ≡ k → x ≡ keeping c s (take (length bytes - s.reader.position) (drop s.reader.position bytes)) → r ≡ answered Done x
      → r ≡ piece_by c bytes k
  walks-waiting s x e f g = g ∙ ap (answered Done) (f ∙ ap (keeping c s) (rest_part s.reader.position bytes)) ∙ ap (piece_by c bytes) e

module _ (d : Directory) (kept : directory_kept d ≡ true) (bytes : List ℕ) (known : Bytes bytes) (base : ℕ) (s last : Standing) (k : Stands bytes base s) (e : Ok last ≡ check_in d bytes base s) where
  w : Waits d bytes base last
  w = check_waits d bytes base s last k.sound k.within (sym e)

  pub rest-within : last.reader.position ≤ length bytes
  rest-within = w.within

  pub rest-few : length (take (length bytes - last.reader.position) (drop last.reader.position bytes)) ≤ 1043
  rest-few = rw (rest_part last.reader.position bytes) (simp length-drop (omega (arith, rest-short d bytes last.reader w.within w.refused kept known)))

-- ---- the action that an earlier piece began

append-bytes : (xs ys : List ℕ) → Bytes xs → Bytes ys → Bytes (xs ++ ys)
append-bytes [] ys h k i = k i
append-bytes (x ∷ xs) ys h k zero = h zero
append-bytes (x ∷ xs) ys h k (suc i) = append-bytes xs ys (λ j. h (suc j)) k i

least_take : (a : ℕ) (l : List ℕ) → take (min a (length l)) l ≡ take a l
least_take a l = by (ltb a (length l)) refl
  where
    by : (t : Bool) → ltb a (length l) ≡ t → take (min a (length l)) l ≡ take a l
    by true q =
        let n : min a (length l) ≡ a = omega (arith, ltb-true a (length l) q) in
        rw n
    by false q =
        let h : length l ≤ a = ltb-false a (length l) q in
        let n : min a (length l) ≡ length l = omega arith in
        rw n (take_all (length l) l (omega arith) ∙ sym (take_all a l h))

pub unread-long : (c : LogChecker) → length c.part ≡ 1043 → c.held ≤ 1043 → c.held ≡ length (unread c)
unread-long c l r = sym (length-take-le c.held c.part (omega arith))

pub takes-room : (c : LogChecker) (bytes : List ℕ) → Takes c bytes → c.held ≤ 1043
takes-room c bytes k = (kept_open c k.kept k.is_open).room

module _ (old bytes : List ℕ) (more : ℕ) (room : length old ≤ 1043) (e : more ≡ min (1043 - length old) (length bytes)) where
  pub more_left : length old + more ≤ 1043
  more_left = omega arith

  pub more_right : more ≤ length bytes
  more_right = omega arith

  pub front_fits : (part : List ℕ) → part ≡ padded (old ++ take more bytes) → length old + more ≡ length (take (length old + more) part)
  front_fits part p =
      let l : length (old ++ take more bytes) ≡ length old + more = simp (length-append, length-take-le more bytes more_right) in
      let n : length part ≡ 1043 = ap length p ∙ padded-length (old ++ take more bytes) (omega (arith, more_left)) in
      sym (length-take-le (length old + more) part (omega (arith, more_left)))

  pub front_of : (c : LogChecker) → old ≡ unread c → length old ≡ c.held → Bytes old → Bytes bytes → (part : List ℕ) → part ≡ padded (old ++ take more bytes) → Front c bytes (take (length old + more) part)
  front_of c f h b d part p =
      let z : 1043 - length old + length old ≡ 1043 = omega arith in
      let y : length old + (1043 - length old) ≡ 1043 = omega arith in
      let l : length (old ++ take more bytes) ≡ length old + more = simp (length-append, length-take-le more bytes more_right) in
      record {
        is = ap (take (length old + more)) p ∙ ap (λ (n : ℕ). take n (padded (old ++ take more bytes))) (sym l) ∙ unpadded (old ++ take more bytes)
            ∙ ap (λ (n : ℕ). old ++ take n bytes) e ∙ ap (λ (x : List ℕ). old ++ x) (least_take (1043 - length old) bytes)
            ∙ sym (take-append-add old bytes (1043 - length old)) ∙ ap (λ (n : ℕ). take n (old ++ bytes)) y ∙ ap (λ (x : List ℕ). take 1043 (x ++ bytes)) f;
        held = ap length (sym f) ∙ h;
        known = subst (λ (x : List ℕ). Bytes (x ++ bytes)) f (append-bytes old bytes b d);
      }

module _ (c : LogChecker) (bytes front : List ℕ) (k : Takes c bytes) (f : Front c bytes front) where
  o : Open c
  o = kept_open c k.kept k.is_open

  pub front-directory : directory_kept c.directory ≡ true
  front-directory = kept-directory c k.kept

  pub front-after : (a : LogChecker) → a ≡ counted c (length bytes) → directory_kept a.directory ≡ true
  front-after a e = ap (λ (x : LogChecker). directory_kept x.directory) e ∙ front-directory

  pub front-held : c.held ≤ c.total
  front-held = o.taken

  joined : front ++ drop 1043 (unread c ++ bytes) ≡ unread c ++ bytes
  joined = ap (λ (l : List ℕ). l ++ drop 1043 (unread c ++ bytes)) f.is ∙ take-append-drop 1043 (unread c ++ bytes)

  front_bytes : Bytes front
  front_bytes = subst Bytes (sym f.is) (take_bytes 1043 (unread c ++ bytes) f.known)

  front-is-long : length front ≡ length (take 1043 (unread c ++ bytes))
  front-is-long = ap length f.is

  pub front_length : length front ≤ 1043
  front_length = omega (arith, simp length-take at front-is-long)

  front-all : length front ≤ length (unread c) + length bytes
  front-all = omega (arith, simp (length-take, length-append) at front-is-long)

  pub front-stands : Stands front (c.total - c.held) c.standing
  front-stands = record {
    within = omega (arith, o.stands.front);
    sound = record {
      validates = o.stands.validates;
      begins = omega (arith, o.stands.begins);
      counts = o.stands.counts;
      between = λ i. o.stands.between i ∙ omega (arith, o.stands.front);
    };
    fits = omega (arith, front-all, f.held, o.taken, k.few);
  }

  abbrev Went-is : Went → Type 0
  Went-is w = w ≡ went_by (c.total - c.held) c.standing (step_of c.directory front c.standing.reader)

  -- the piece by what a check of the bytes comes to
  taken-by : (y : Check) → check_in c.directory (unread c ++ bytes) (c.total - c.held) c.standing ≡ y → piece_by (counted c (length bytes)) (unread c ++ bytes) y ≡ piece_taken c bytes
  unfolding piece_taken
  taken-by y e = ap (piece_by (counted c (length bytes)) (unread c ++ bytes)) (sym e)

  check_by : (y : Check) → check_in c.directory (front ++ drop 1043 (unread c ++ bytes)) (c.total - c.held) c.standing ≡ y → check_in c.directory (unread c ++ bytes) (c.total - c.held) c.standing ≡ y
  check_by y e = ap (λ (l : List ℕ). check_in c.directory l (c.total - c.held) c.standing) (sym joined) ∙ e

  pub across_told : (ran : Ran) → Went-is (Err ran) → (a : LogChecker) (r : Checked) → a ≡ counted c (length bytes) → r ≡ settled a ran → r ≡ piece_taken c bytes
  across_told ran e a r p q =
      q ∙ ap (λ (y : LogChecker). settled y ran) p
      ∙ taken-by (Err ran) (check_by (Err ran) (across_settled c.directory front-directory front front_bytes (drop 1043 (unread c ++ bytes)) (c.total - c.held) c.standing front-stands.within ran e))

  pub across_kept : Went-is (Ok None) → (a x : LogChecker) (r : Checked) → a ≡ counted c (length bytes) → x ≡ keeping a c.standing front → r ≡ answered Done x → r ≡ piece_taken c bytes
  across_kept e a x r p q s =
      let g = across_waits c.directory front-directory front front_bytes (drop 1043 (unread c ++ bytes)) (c.total - c.held) c.standing front-stands.within e in
      let short : length (unread c ++ bytes) ≤ 1043 = omega (arith, simp length-take at front-is-long, g.0, o.stands.front) in
      let whole : front ≡ unread c ++ bytes = f.is ∙ take_all 1043 (unread c ++ bytes) short in
      let zero-drop : drop c.standing.reader.position (unread c ++ bytes) ≡ unread c ++ bytes = ap (λ (n : ℕ). drop n (unread c ++ bytes)) o.stands.front in
      s ∙ ap (answered Done) q
      ∙ ap (λ (y : LogChecker). answered Done (keeping y c.standing front)) p
      ∙ ap (λ (l : List ℕ). answered Done (keeping (counted c (length bytes)) c.standing l)) (whole ∙ sym zero-drop)
      ∙ taken-by (Ok c.standing) (ap (λ (l : List ℕ). check_in c.directory l (c.total - c.held) c.standing) (sym whole) ∙ g.1)

  -- an action that is read ends behind the unread bytes
  module _ (next : Standing) (e : Went-is (Ok (Some next))) where
    beyond : length (unread c) < next.reader.position
    beyond = by (step_of c.directory front c.standing.reader) refl e
      where
        by : (st : Result Stepped Refusal) → step_of c.directory front c.standing.reader ≡ st → Ok (Some next) ≡ went_by (c.total - c.held) c.standing st → length (unread c) < next.reader.position
        by (Err x) q g = absurd (never_on (may_change x.answer) next _ (sym g))
        by (Ok t) q g =
            let l : step_of c.directory (unread c ++ bytes) c.standing.reader ≡ Ok t =
            ap (λ (l : List ℕ). step_of c.directory l c.standing.reader) (sym joined) ∙ took_longer c.directory front (drop 1043 (unread c ++ bytes)) c.standing.reader t q in
            let p : t.reader.position ≡ next.reader.position = ap (λ (r : LogReader). r.position) (action-reader (c.total - c.held) c.standing t next (sym g)) in
            omega (arith, not_yet c.directory (unread c) bytes c.standing.reader o.waiting t l)

    pub on-back : c.held ≤ next.reader.position
    on-back = omega (arith, beyond, f.held)

    next-stands : Stands front (c.total - c.held) next
    next-stands = went_stands c.directory front (c.total - c.held) c.standing next front-stands (sym e)

    pub on-stands : (b : Standing) → b ≡ reading_at next (back_reader c.held next.reader) → Stands bytes c.total b
    on-stands b g = subst (Stands bytes c.total) (sym g) (record {
      within = omega (arith, next-stands.within, front-all, f.held);
      sound = record {
        validates = next-stands.sound.validates;
        begins = omega (arith, next-stands.sound.begins, on-back, o.taken);
        counts = next-stands.sound.counts;
        between = λ i. next-stands.sound.between i ∙ omega (arith, on-back, o.taken);
      };
      fits = k.few;
    })

    pub across_on_in : (a : LogChecker) (b : Standing) (r : Checked) → a ≡ counted c (length bytes) → b ≡ reading_at next (back_reader c.held next.reader)
        → r ≡ piece_by a bytes (check_in a.directory bytes c.total b) → r ≡ piece_taken c bytes
    across_on_in a b r p q s =
        let z : c.total - c.held + length (unread c) ≡ c.total = omega (arith, f.held, o.taken) in
        let n : length (unread c) ≤ next.reader.position = omega (arith, beyond) in
        let l : next.reader.position ≤ length (unread c ++ bytes) = simp length-append (omega (arith, next-stands.within, front-all)) in
        s
        ∙ ap (λ (y : LogChecker). piece_by y bytes (check_in y.directory bytes c.total b)) p
        ∙ ap (λ (y : Standing). piece_by (counted c (length bytes)) bytes (check_in c.directory bytes c.total y)) q
        ∙ ap (λ (m : ℕ). piece_by (counted c (length bytes)) bytes (check_in c.directory bytes c.total (reading_at next (back_reader m next.reader)))) (sym f.held)
        ∙ ap (λ (m : ℕ). piece_by (counted c (length bytes)) bytes (check_in c.directory bytes m (reading_at next (back_reader (length (unread c)) next.reader)))) (sym z)
        ∙ sym (on_in_piece (counted c (length bytes)) c.directory (unread c) bytes (c.total - c.held) next n l)
        ∙ taken-by (check_in c.directory (unread c ++ bytes) (c.total - c.held) next)
        (check_by (check_in c.directory (unread c ++ bytes) (c.total - c.held) next)
        (across_on c.directory front-directory front front_bytes (drop 1043 (unread c ++ bytes)) (c.total - c.held) c.standing front-stands.within next e
        ∙ ap (λ (l : List ℕ). check_in c.directory l (c.total - c.held) next) joined))
