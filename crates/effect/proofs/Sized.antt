-- Whatever the reader takes is `Sized`: the payload that a step hands out lies in the log, and has the length that demand 2's theorem and
-- the code that applies it ask for. Assumes nothing.
use mathlib.Core.Path.{◌≡◌, refl, sym, ap, ◌∙◌}
use mathlib.Core.Bool.{Bool, true, false}
use mathlib.Core.List.{List, [], ◌++◌, append_assoc, append-nil}
use mathlib.Core.Option.{some}
use Prim.Native.Nat.{ℕ, ◌+◌, ◌-◌, ◌≤◌}
use native.Mathlib.Omega.{arith}
use lib.Dec.{eqb, ltb}
use lib.ListN.{length, take, drop, get_or, length-append, length-take, length-drop}
use lib.Seq.{length-take-le, take-add, take_at, drop_at, drop-drop}
use borrow.Author.Tests.{ltb-false}
use Rattle.std.specs.Prelude.{if◌then◌else◌}
use Rattle.words.specs.Words.{little}
use Rattle.words.proofs.Cut.{drop_take}
use Rattle.directory.specs.Directory.{find_table}
use Rattle.directory.specs.declared.table.TableKind.{TableKind}
use Rattle.directory.specs.declared.table.TableKind.TheVariants.{Index, Value, RefCount}
use Rattle.directory.specs.declared.table.TableDescription.{TableDescription}
use Rattle.directory.specs.declared.directory.Directory.{Directory}
use Rattle.std.specs.Prelude as std
use Rattle.std.specs.Prelude.{Some, None, Ok}
use Rattle.record.specs.Format.{Format, need, refuse, give, got, read_at, ◌>>=◌, test}
use Rattle.record.specs.Record.{Item, insert_of, drop_index, drop_ref_count, known, key, chunk, masked_item, value_length, value, valued_item, table, dropped_item, sum_holds, ended_item, inside_by, inside, opening}
use Rattle.record.specs.Next.{step_of}
use Rattle.answer.specs.declared.answer.Answer.{Answer}
use Rattle.record.specs.declared.action.LogAction.{LogAction}
use Rattle.record.specs.declared.action.LogAction.TheVariants.{BeginRecord}
use Rattle.record.specs.declared.item.Key.{Key}
use Rattle.record.specs.declared.reader.LogReader.{LogReader}
use Rattle.record.specs.declared.reader.Stepped.{Stepped}
use Rattle.record.proofs.Formats.{Within, within}
use Rattle.record.proofs.Steps.{Read, within_record, at-opening, Taken, taken}
use Rattle.effect.specs.Effect.{Place, place_of}
use Rattle.effect.specs.Meaning.{Entries, SizedBy}

-- whatever bytes it gets behind those seen already, a format gives only what has the property Q beside all the bytes seen
abbrev Good : {A : Type 0} → (A → List ℕ → Type 0) → List ℕ → Format A → Type 0
Good Q seen (need k short f) = (bs : List ℕ) → length bs ≡ k → Good Q (seen ++ bs) (f bs)
Good Q seen (refuse answer) = Unit {0}
Good Q seen (give a) = Q a seen

good-read : {A : Type 0} (Q : A → List ℕ → Type 0) (f : Format A) (seen : List ℕ) (at : ℕ) (log : List ℕ) (a : A) (end : ℕ) → Good Q seen f
    → at ≤ length log → read_at f at log ≡ got a end → Q a (seen ++ take (end - at) (drop at log))
unfolding read_at
good-read {A} Q (need k short f) seen at log a end g h e =
    go (λ l. good-read Q (f (take k (drop at log))) (seen ++ take k (drop at log)) (at + k) log a end (g (take k (drop at log)) l)) (ltb (length log - at) k) refl
  where
    Next : Type 0
    Next = length (take k (drop at log)) ≡ k → at + k ≤ length log → read_at (f (take k (drop at log))) (at + k) log ≡ got a end
        → Q a ((seen ++ take k (drop at log)) ++ take (end - (at + k)) (drop (at + k) log))

    go : Next → (t : Bool) → ltb (length log - at) k ≡ t → Q a (seen ++ take (end - at) (drop at log))
    go ih true q = let z : ◌≡◌ {A = ℕ} 0 1 = cc (rw q at e) in absurd (omega arith)
    go ih false q =
        let m : k ≤ length log - at = ltb-false (length log - at) k q in
        let e' : read_at (f (take k (drop at log))) (at + k) log ≡ got a end = rw q at e in
        let w : Within (at + k) end log = within (f (take k (drop at log))) (at + k) log a end (omega arith) e' in
        let n : end - at ≡ k + (end - (at + k)) = omega (arith, w.behind) in
        rw (n, take-add, drop-drop, ← append_assoc) (ih (length-take-le k (drop at log) (rw length-drop (omega arith))) (omega arith) e')
good-read Q (refuse answer) seen at log a end g h e = let z : ◌≡◌ {A = ℕ} 0 1 = cc in absurd (omega arith)
good-read {A} Q (give b) seen at log a end g h e =
    let q : b ≡ a = cc in
    let p : at ≡ end = cc in
    let n : end - at ≡ 0 = omega arith in
    rw (n, append-nil, ← q) g

good_bind : {A B : Type 0} (P : A → List ℕ → Type 0) (Q : B → List ℕ → Type 0) (seen : List ℕ) (f : Format A) (g : A → Format B) → Good P seen f
    → ((a : A) (seen : List ℕ) → P a seen → Good Q seen (g a)) → Good Q seen (f >>= g)
good_bind P Q seen (need k short f) g h n = λ bs l. good_bind P Q (seen ++ bs) (f bs) g (h bs l) n
good_bind P Q seen (refuse answer) g h n = tt
good_bind P Q seen (give a) g h n = n a seen h

-- where nothing is asked of what is given
good_any : {A : Type 0} (seen : List ℕ) (f : Format A) → Good (λ a s. Unit {0}) seen f
good_any seen (need k short f) = λ bs l. good_any (seen ++ bs) (f bs)
good_any seen (refuse answer) = tt
good_any seen (give a) = tt

module _ {B : Type 0} (Q : B → List ℕ → Type 0) (seen : List ℕ) where
  good_if : (t : Bool) (f g : Format B) → Good Q seen f → Good Q seen g → Good Q seen (if t then f else g)
  good_if true f g h k = h
  good_if false f g h k = k

  good-test : (t : Bool) (answer : Answer) (g : Unit {0} → Format B) → Good Q seen (g tt) → Good Q seen (test t answer >>= g)
  good-test true answer g h = h
  good-test false answer g h = tt

  good-known : (f : std.Option (ℕ × TableDescription)) (g : TableDescription → Format B) → ((row : ℕ) (t : TableDescription) → f ≡ Some (row, t) → Good Q seen (g t)) → Good Q seen (known f >>= g)
  good-known None g h = tt
  good-known (Some (row, t)) g h = h row t refl

module _ (d : Directory) where
  -- of the key read: its table stands in the directory, and the description is that table's
  record Keyed (kind : TableKind) (k : Key) (seen : List ℕ) : Type 0 where
    row : ℕ
    t : TableDescription
    found : find_table d kind k.table ≡ Some (row, t)
    described : k.description ≡ t

  -- of the item read: its payload is the last of the bytes seen, and is sized
  record Fine (i : Item) (seen : List ℕ) : Type 0 where
    front : List ℕ
    payload : List ℕ
    is : seen ≡ front ++ payload
    long : length payload ≡ i.payload
    sized : SizedBy d i.action payload

  good-key : (kind : TableKind) (seen : List ℕ) → Good (Keyed kind) seen (key d kind)
  unfolding key
  good-key kind seen = λ h l.
      good-known (Keyed kind) (seen ++ h) (find_table d kind (little (take 2 h))) _
      (λ row t e. good-test (Keyed kind) (seen ++ h) (ltb (little (drop 2 h)) t.count) _ _ (record { row = row; t = t; found = e; described = refl }))

  module _ (kind : TableKind) (width : ℕ) (is : (table index : ℕ) (payload : List ℕ) → Entries width payload → SizedBy d (insert_of kind table index) payload) where
    good-chunk : (k : Key) (seen : List ℕ) → Good Fine seen (chunk kind width k)
    unfolding chunk
    good-chunk k seen = λ mask l entries m. record {
      front = seen;
      payload = mask ++ entries;
      is = append_assoc seen mask entries;
      long = rw (length-append, l, m);
      sized = is k.table k.index (mask ++ entries) (rw (length-append, take_at mask entries 8 l, l, m));
    }

    good_masked : (seen : List ℕ) → Good Fine seen (masked_item d kind width)
    unfolding masked_item
    good_masked seen = good_bind (Keyed kind) Fine seen (key d kind) _ (good-key kind seen) (λ k seen h. good-chunk k seen)

  -- the description in a key is that of the table in its place
  key-place : (k : Key) (seen : List ℕ) → Keyed Value k seen → (P : Place) → place_of d Value k.table ≡ some P → k.description ≡ P.table
  unfolding place_of
  key-place k seen h P e =
      let s : h.t ≡ P.table = cc (rw h.found at e) in
      h.described ∙ s

  good_valued : (seen : List ℕ) → Good Fine seen (valued_item d)
  unfolding valued_item value SizedBy
  good_valued seen =
      good_bind (Keyed Value) Fine seen (key d Value) _ (good-key Value seen)
      (λ k seen h bs l. record { front = seen; payload = bs; is = refl; long = l; sized = λ P e. l ∙ ap value_length (key-place k seen h P e) })

  good-dropped : (kind : TableKind) (action : ℕ → LogAction) → ((number : ℕ) → SizedBy d (action number) []) → (seen : List ℕ) → Good Fine seen (dropped_item d kind action)
  unfolding dropped_item
  good-dropped kind action is seen =
      good_bind (λ n s. Unit {0}) Fine seen (table d kind) _ (good_any seen (table d kind))
      (λ n s h. record { front = s; payload = []; is = sym (append-nil s); long = refl; sized = is n })

  good-ended : (validate : Bool) (register : ℕ) (seen : List ℕ) → Good Fine seen (ended_item validate register)
  unfolding ended_item SizedBy
  good-ended validate register seen = λ b l.
      good-test Fine (seen ++ b) (sum_holds validate register (little b)) _ _ (record { front = seen ++ b; payload = []; is = sym (append-nil (seen ++ b)); long = refl; sized = tt })

  good-inside : (validate : Bool) (register : ℕ) → Good Fine [] (inside d validate register)
  unfolding inside inside_by SizedBy
  good-inside validate register = λ t l.
      let tag : ℕ = get_or t 0 0 in
      good_if Fine t (eqb tag 1) _ _ tt
      (good_if Fine t (eqb tag 2) _ _ (good_masked Index 8 (λ table index payload e. e) t)
      (good_if Fine t (eqb tag 3) _ _ (good_valued t)
      (good_if Fine t (eqb tag 4) _ _ (good-ended validate register t)
      (good_if Fine t (eqb tag 5) _ _ (good-dropped Index drop_index (λ n. tt) t)
      (good_if Fine t (eqb tag 6) _ _ (good_masked RefCount 16 (λ table index payload e. e) t)
      (good_if Fine t (eqb tag 7) _ _ (good-dropped RefCount drop_ref_count (λ n. tt) t) tt))))))

-- the last bytes of a part of the log, by their own place in it
last-bytes : (log front payload : List ℕ) (at end n : ℕ) → at ≤ end → end ≤ length log → take (end - at) (drop at log) ≡ front ++ payload
    → length payload ≡ n → (end - n + n ≡ end) × (take n (drop (end - n) log) ≡ payload)
last-bytes log front payload at end n h k e l =
    let whole : length (take (end - at) (drop at log)) ≡ end - at = simp (length-take, length-drop) (omega arith) in
    let parts : length front + length payload ≡ end - at = sym (length-append front payload) ∙ ap length (sym e) ∙ whole in
    let a : end - n ≡ at + length front = omega arith in
    let b : end - at - length front ≡ n = omega arith in
    (omega arith, rw (a, ← drop-drop, ← b, ← drop_take, e) (drop_at front payload (length front) refl))

pub record Payload (d : Directory) (log : List ℕ) (s : Stepped) : Type 0 where
  pub within : s.start + s.length ≤ length log
  pub sized : SizedBy d s.action (take s.length (drop s.start log))

-- Each step that the reader takes, from any state of it, hands out a payload that lies in the log and is sized
pub payload-sized : (d : Directory) (log : List ℕ) (r : LogReader) (s : Stepped) → step_of d log r ≡ Ok s → Payload d log s
unfolding SizedBy
payload-sized d log r s e = let t : Taken d log r s = taken d log r s e in go t.fits t.read
  where
    go : r.position ≤ length log → Read d log r s → Payload d log s
    go fits (within_record b i end q f) =
        let w : Within r.position end log = within (inside d r.validate r.crc32) r.position log i end fits q in
        let g : Fine d i (take (end - r.position) (drop r.position log)) =
        good-read (Fine d) (inside d r.validate r.crc32) [] r.position log i end (good-inside d r.validate r.crc32) fits q in
        let p = last-bytes log g.front g.payload r.position end i.payload w.behind w.inside g.is g.long in
        let a : s.action ≡ i.action = cc in
        let b : s.start ≡ end - i.payload = cc in
        let c : s.length ≡ i.payload = cc in
        record { within = omega (arith, p.0, w.inside); sized = rw (a, b, c, p.1) g.sized }
    go fits (at-opening b id end q f) =
        let w : Within r.position end log = within (opening r.validate) r.position log id end fits q in
        let a : s.action ≡ BeginRecord = cc in
        let b : s.start ≡ end = cc in
        let c : s.length ≡ 0 = cc in
        record { within = omega (arith, w.inside); sized = rw a tt }
