-- The parts are the whole of the memories: where they are equal, so is every word and byte. Assumes nothing.
use mathlib.Core.Path.{◌≡◌, sym, ap, ◌∙◌}
use mathlib.Core.List.{List}
use Prim.Native.Nat.{ℕ, ◌+◌, ◌-◌, ◌*◌, ◌≤◌}
use native.Mathlib.Omega.{arith}
use lib.ListN.{take, drop, take-append-drop}
use lib.Seq.{drop-drop}
use Rattle.directory.specs.declared.table.TableKind.{TableKind}
use Rattle.directory.specs.declared.table.TableKind.TheVariants.{Index, Value, RefCount}
use Rattle.overlay.specs.Rules.{Overlay}
use Rattle.memory.specs.declared.counts.Counts.{Counts}
use Rattle.memory.specs.declared.span.Holder.{Holder}
use Rattle.memory.specs.declared.span.Holder.TheVariants as holder
use Rattle.memory.specs.Parts.{span_of, words_all, bytes_all, count_of, part_from, words_in, bytes_in, part_of, Parts, parts_of, of_kind}
use Rattle.memory.proofs.Spans.{of_parts}

joins : (n : ℕ) (l m : List ℕ) → take n l ≡ take n m → drop n l ≡ drop n m → l ≡ m
joins n l m p q = sym (take-append-drop n l) ∙ rw (p, q) (take-append-drop n m)

next : (a e : ℕ) (l m : List ℕ) → a ≤ e → part_from a e l ≡ part_from a e m → drop e l ≡ drop e m → drop a l ≡ drop a m
next a e l m h p q = joins (e - a) (drop a l) (drop a m) p (from l ∙ q ∙ sym (from m))
  where
    from : (k : List ℕ) → drop (e - a) (drop a k) ≡ drop e k
    from k = let s : a + (e - a) ≡ e = omega arith in drop-drop (e - a) a k ∙ ap (λ (i : ℕ). drop i k) s

-- three parts and the rest
the_words : (h : Holder) (l m : List ℕ) → ((kind : TableKind) → words_in h kind l ≡ words_in h kind m) → drop (words_all h) l ≡ drop (words_all h) m → l ≡ m
the_words holder.Shared l m f d = next 0 1280 l m (omega arith) (f Index) (next 1280 2560 l m (omega arith) (f Value) (next 2560 3840 l m (omega arith) (f RefCount) d))
the_words holder.List l m f d = next 0 160 l m (omega arith) (f Index) (next 160 320 l m (omega arith) (f Value) (next 320 400 l m (omega arith) (f RefCount) d))

the_bytes : (h : Holder) (l m : List ℕ) → ((kind : TableKind) → bytes_in h kind l ≡ bytes_in h kind m) → drop (bytes_all h) l ≡ drop (bytes_all h) m → l ≡ m
the_bytes holder.Shared l m f d = next 0 131072 l m (omega arith) (f Index) (next 131072 262144 l m (omega arith) (f Value) (next 262144 524288 l m (omega arith) (f RefCount) d))
the_bytes holder.List l m f d = next 0 16384 l m (omega arith) (f Index) (next 16384 32768 l m (omega arith) (f Value) (next 32768 49152 l m (omega arith) (f RefCount) d))

counts-made : {i i' v v' r r' : ℕ} → i ≡ i' → v ≡ v' → r ≡ r'
    → ◌≡◌ {A = Counts} (record { index = i; value = v; ref_count = r }) (record { index = i'; value = v'; ref_count = r' })
counts-made p q s = rw (p, q, s)

counts_same : (c d : Counts) → ((kind : TableKind) → count_of kind c ≡ count_of kind d) → c ≡ d
counts_same c d f = counts-made (f Index) (f Value) (f RefCount)

module _ (h : Holder) (c d : Counts) (words words' bytes bytes' : List ℕ) (e : parts_of h c words bytes ≡ parts_of h d words' bytes') where
  each : (kind : TableKind) → part_of h kind c words bytes ≡ part_of h kind d words' bytes'
  each kind = sym (of_parts h kind c words bytes) ∙ ap (of_kind kind) e ∙ of_parts h kind d words' bytes'

  words_of : (kind : TableKind) → words_in h kind words ≡ words_in h kind words'
  words_of kind = joins (4 * (span_of h kind).room) (words_in h kind words) (words_in h kind words') (ap (λ (o : Overlay). o.rows) (each kind)) (ap (λ (o : Overlay). o.order) (each kind))

  pub parts_determine : (words ≡ words') × (bytes ≡ bytes') × (c ≡ d)
  parts_determine =
      (the_words h words words' words_of (ap (λ (p : Parts). p.words_more) e), the_bytes h bytes bytes' (λ (kind : TableKind). ap (λ (o : Overlay). o.bytes) (each kind)) (ap (λ (p : Parts). p.bytes_more) e), counts_same c d (λ (kind : TableKind). ap (λ (o : Overlay). o.count) (each kind)))
