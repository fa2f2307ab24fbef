-- An entry put into an overlay that keeps its rules: it is put over the entry of its key, the rules are kept, and a lookup finds it.
-- Assumes nothing.
use mathlib.Core.Path.{◌≡◌, refl, sym, ap, ◌∙◌}
use mathlib.Core.Bool.{Bool, true, false}
use mathlib.Core.List.{List, ◌∷◌, ◌++◌, map}
use mathlib.Core.Option.{some}
use Prim.Native.Nat.{ℕ, suc, ◌+◌, ◌-◌, ◌*◌, ◌<◌, ◌≤◌}
use native.Mathlib.Omega.{arith}
use lib.Dec.{eqb}
use lib.ListN.{get_or, take, drop, length, length-append, length-drop, length-set}
use lib.Seq.{paste, length-paste, length-take-le, take-length}
use Rattle.std.specs.Prelude.{if◌then◌else◌}
use Rattle.directory.specs.declared.table.TableKind.{TableKind}
use Rattle.numbers.specs.Numbers.{spot, put_in}
use Rattle.keys.specs.Keys.{rank, key_at, row_put_of, keys_of, every, holds}
use Rattle.keys.proofs.Kept.{over-ruled, next-ruled}
use Rattle.overlay.specs.Rules.{stored_length, Overlay, slot_size, mark_ruled, row_ruled, overlay_kept, lists_of}
use Rattle.overlay.specs.Overlay.{spot_in_of, stands_in, put_over}
use Rattle.overlay.specs.Entries.{Entry, entry_at, entries_of, find_entry, put_entry}
use Rattle.overlay.proofs.Ruled.{Kept, shows, makes}
use Rattle.overlay.proofs.Entries.{find_entry-put, over-at, next-at}
use Rattle.overlay.proofs.Order.{over_reads, next-reads, all, every-all, all-over, all-put}
use Rattle.overlay.proofs.Memory.{keys_are, in_use_lem, use_fits, used, rising, rule-here, rule-other, slot-fits, entry_here, entry_other}
use Rattle.overlay.proofs.Plan.{spot_in, stands_in_lem, place_in_lem, over-is, next-is}

length-put : (j n v : ℕ) (l : List ℕ) → j ≤ n → n < length l → length (put_in j n v l) ≡ length l
unfolding put_in
length-put j n v l h k =
    let a : length (take j l) ≡ j = length-take-le j l (omega arith) in
    let b : length (take (n - j) (drop j l)) ≡ n - j = length-take-le (n - j) (drop j l) (rw length-drop (omega arith)) in
    simp (length-append, length-drop) (omega (arith, a, b))

module _ (kind : TableKind) (room : ℕ) (o : Overlay) (ok : overlay_kept kind room o ≡ true) (table index id mark : ℕ) (src : List ℕ) (fits : length src ≤ slot_size kind)
    (free : stands_in o (rank table index) ≡ false → o.count < room) where
  abbrev key : ℕ
  key = rank table index

  abbrev j : ℕ
  j = spot key (keys_of o.rows o.order o.count)

  abbrev there : Bool
  there = holds key j (keys_of o.rows o.order o.count)

  -- the overlay with place p written anew
  abbrev written : ℕ → List ℕ → ℕ → Overlay
  written p order n = lists_of (row_put_of o.rows p table index id mark) order (paste o.bytes (slot_size kind * p) src (length src)) n

  k : Kept kind room o
  k = shows kind room o ok

  w : o.count ≤ length o.order
  w = omega (arith, k.fits, k.order-long)

  room_as : there ≡ false → o.count < room
  unfolding stands_in spot_in_of
  room_as h = free h

  low : there ≡ true → get_or o.order j 0 < room
  low h = omega (arith, place_in_lem o key j refl w k.in_order h, k.fits)

  -- "puts each entry, id, mask and chunk, over the shared one; masks aren't joined there"
  module _ (whole : length src ≡ stored_length kind mark) where
    abbrev new : Entry
    new = record { key = key; id = id; mark = mark; bytes = src }

    here : (p : ℕ) → p < room → (order : List ℕ) (n : ℕ) → entry_at kind (written p order n) p ≡ new
    here p h order n =
        entry_here kind room o k p table index id mark src (length src) h fits (omega arith) order n (omega arith)
        ∙ ap (λ (l : List ℕ). record { key = key; id = id; mark = mark; bytes = l }) (ap (λ (c : ℕ). take c src) (sym whole) ∙ take-length src)

    others : (p : ℕ) → p < room → (order : List ℕ) (n q : ℕ) → in_use_lem kind o q ≡ true → (q ≡ p → ⊥) → entry_at kind (written p order n) q ≡ entry_at kind o q
    others p h order n q u ne = entry_other kind room o k p table index id mark src (length src) h fits (omega arith) order n q (use_fits kind o q u).1 ne

    over-entries : there ≡ true → entries_of kind (written (get_or o.order j 0) o.order o.count) ≡ take j (entries_of kind o) ++ new ∷ drop (suc j) (entries_of kind o)
    unfolding entries_of
    over-entries h =
        let p = get_or o.order j 0 in
        over_reads (in_use_lem kind o) (key_at o.rows) o.order o.count w (used kind room o k) (rising kind room o k) (entry_at kind (written p o.order o.count)) (entry_at kind o) j
        (stands_in_lem o key j refl w h) (others p (low h) o.order o.count)
        ∙ ap (λ (e : Entry). take j (entries_of kind o) ++ e ∷ drop (suc j) (entries_of kind o)) (here p (low h) o.order o.count)

    next-entries : there ≡ false → entries_of kind (written o.count (put_in j o.count o.count o.order) (o.count + 1)) ≡ take j (entries_of kind o) ++ new ∷ drop j (entries_of kind o)
    unfolding entries_of
    next-entries h =
        let order = put_in j o.count o.count o.order in
        let r = room_as h in
        next-reads (in_use_lem kind o) (key_at o.rows) o.order o.count w (used kind room o k) (rising kind room o k) (entry_at kind (written o.count order (o.count + 1))) (entry_at kind o) j
        (spot_in o key j refl w) (omega (arith, k.order-long)) (λ q u. others o.count r order (o.count + 1) q u (λ z. omega (arith, (use_fits kind o q u).0)))
        ∙ ap (λ (e : Entry). take j (entries_of kind o) ++ e ∷ drop j (entries_of kind o)) (here o.count r order (o.count + 1))

    pub put_entries : entries_of kind (put_over kind o table index id mark src) ≡ put_entry (record { key = rank table index; id = id; mark = mark; bytes = src }) (entries_of kind o)
    put_entries = by there refl
      where
        by : (b : Bool) → there ≡ b → entries_of kind (put_over kind o table index id mark src) ≡ put_entry new (entries_of kind o)
        by true h =
            ap (entries_of kind) (sym (over-is kind o table index id mark src j refl h)) ∙ over-entries h
            ∙ sym (over-at (entries_of kind o) (keys_of o.rows o.order o.count) (keys_are kind o) new h)
        by false h =
            ap (entries_of kind) (sym (next-is kind o table index id mark src j refl h)) ∙ next-entries h
            ∙ sym (next-at (entries_of kind o) (keys_of o.rows o.order o.count) (keys_are kind o) new h)

    -- a lookup finds the new entry under its key, and under any other what it found before
    pub find_entry-after-put : (key : ℕ) → find_entry key (entries_of kind (put_over kind o table index id mark src))
        ≡ (if eqb (rank table index) key then some (record { key = rank table index; id = id; mark = mark; bytes = src }) else find_entry key (entries_of kind o))
    find_entry-after-put key = ap (find_entry key) put_entries ∙ find_entry-put new key (entries_of kind o)

  -- "Rules of a state: room kept, no key twice, no mask 0": a put of a ruled mark under a 16-bit number keeps them
  module _ (small : table < 65536) (good : mark_ruled kind mark ≡ true) where
    place-fits : (p : ℕ) → p < room → 4 * p + 4 ≤ length o.rows
    place-fits p h = omega (arith, k.rows_long)

    long : (p : ℕ) → length (row_put_of o.rows p table index id mark) ≡ 4 * room
    long p = simp length-set k.rows_long

    wide : (p : ℕ) → p < room → length (paste o.bytes (slot_size kind * p) src (length src)) ≡ slot_size kind * room
    wide p h =
        length-paste o.bytes (slot_size kind * p) src (length src) (slot-fits kind room o k p table index id mark src (length src) h fits (omega arith) o.order o.count) (omega arith)
        ∙ k.bytes-long

    over-each : there ≡ true → every (row_ruled kind (row_put_of o.rows (get_or o.order j 0) table index id mark)) (take o.count o.order) ≡ true
    over-each h =
        let p = get_or o.order j 0 in
        let f = row_ruled kind (row_put_of o.rows p table index id mark) in
        sym (every-all f (take o.count o.order))
        ∙ ap all (over_reads (in_use_lem kind o) (key_at o.rows) o.order o.count w (used kind room o k) (rising kind room o k) f (row_ruled kind o.rows) j (stands_in_lem o key j refl w h)
        (λ q u ne. rule-other kind o.rows p table index id mark (place-fits p (low h)) q ne))
        ∙ all-over j (f p) (map (row_ruled kind o.rows) (take o.count o.order)) (rule-here kind o.rows p table index id mark (place-fits p (low h)) small good)
        (every-all (row_ruled kind o.rows) (take o.count o.order) ∙ k.each)

    next-each : there ≡ false
        → every (row_ruled kind (row_put_of o.rows o.count table index id mark)) (take (o.count + 1) (put_in j o.count o.count o.order)) ≡ true
    next-each h =
        let f = row_ruled kind (row_put_of o.rows o.count table index id mark) in
        let r = place-fits o.count (room_as h) in
        sym (every-all f (take (o.count + 1) (put_in j o.count o.count o.order)))
        ∙ ap all (next-reads (in_use_lem kind o) (key_at o.rows) o.order o.count w (used kind room o k) (rising kind room o k) f (row_ruled kind o.rows) j (spot_in o key j refl w) (omega (arith, k.order-long, room_as h))
        (λ q u. rule-other kind o.rows o.count table index id mark r q (λ z. omega (arith, (use_fits kind o q u).0))))
        ∙ all-put j (f o.count) (map (row_ruled kind o.rows) (take o.count o.order)) (rule-here kind o.rows o.count table index id mark r small good)
        (every-all (row_ruled kind o.rows) (take o.count o.order) ∙ k.each)

    pub put-kept : overlay_kept kind room (put_over kind o table index id mark src) ≡ true
    put-kept = by there refl
      where
        by : (b : Bool) → there ≡ b → overlay_kept kind room (put_over kind o table index id mark src) ≡ true
        by true h =
            ap (overlay_kept kind room) (sym (over-is kind o table index id mark src j refl h))
            ∙ makes kind room (written (get_or o.order j 0) o.order o.count)
            (record {
              rows_long = long (get_or o.order j 0);
              order-long = k.order-long;
              bytes-long = wide (get_or o.order j 0) (low h);
              fits = k.fits;
              in_order = over-ruled o.rows o.order o.count table index id mark k.in_order j w (place-fits (get_or o.order j 0) (low h)) h;
              each = over-each h;
            })
        by false h =
            ap (overlay_kept kind room) (sym (next-is kind o table index id mark src j refl h))
            ∙ makes kind room (written o.count (put_in j o.count o.count o.order) (o.count + 1))
            (record {
              rows_long = long o.count;
              order-long = length-put j o.count o.count o.order (spot_in o key j refl w) (omega (arith, k.order-long, room_as h)) ∙ k.order-long;
              bytes-long = wide o.count (room_as h);
              fits = omega (arith, room_as h);
              in_order = next-ruled o.rows o.order o.count table index id mark k.in_order (omega (arith, k.order-long, room_as h)) (place-fits o.count (room_as h)) h;
              each = next-each h;
            })
