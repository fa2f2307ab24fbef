-- What `log_files` answers, in its order. Assumes nothing.
use Prim.Native.Nat.{ℕ, ◌≤◌, ◌<◌}
use mathlib.Core.Bool.{Bool, true, false}
use mathlib.Core.List.{List, [], map}
use mathlib.Core.Path.{◌≡◌, refl, sym, ap, ◌∙◌}
use native.Mathlib.Omega.{arith}
use lib.ListN.{length}
use lib.Dec.{ltb}
use borrow.Author.Tests.{lt-ltb, le-ltb, ltb-false}
use Rattle.std.specs.Prelude.{Result, Ok, Err, IfOk}
use Rattle.numbers.specs.Numbers.{has, all_below, distinct}
use Rattle.answer.specs.declared.answer.Answer.{Answer}
use Rattle.answer.specs.declared.answer.Answer.TheVariants.{NoRoom, ShortOutput, UsedUp, BadState}
use Rattle.found.specs.Names.{said_by}
use Rattle.found.specs.Logs.{file_number, taken_numbers, removed, sort_into, in_order_of, belong, found_kept, files_told, to_replay, log_files, ordered}
use Rattle.found.specs.Found.{found_files, numbers_in, removed_in, kept_in}
use Rattle.found.specs.declared.sorted.LogFile.{LogFile}
use Rattle.found.specs.declared.logs.LogFiles.{LogFiles}
use Rattle.found.proofs.SortLaws.{length_sorted}
use Rattle.found.proofs.Found.{numbers_found, removed_found, kept_found, found-once, order_below, order-once, said_below, lower}
use Rattle.found.proofs.Order.{in_order}

module _ (n m l h : List ℕ) (r : ℕ) where
  pub logs-apart : belong n m l h ≡ false → log_files n m l h r ≡ Err BadState
  unfolding log_files found_kept
  logs-apart e = rw e

  module _ (b : belong n m l h ≡ true) where
    pub logs-twice : distinct (numbers_in (found_files n m l h)) ≡ false → log_files n m l h r ≡ Err BadState
    unfolding log_files found_kept
    logs-twice o = rw (b, ap distinct (sym (numbers_found n m l h)) ∙ o)

    module _ (o : distinct (numbers_in (found_files n m l h)) ≡ true) where
      once : distinct (taken_numbers (said_by n m)) ≡ true
      once = ap distinct (sym (numbers_found n m l h)) ∙ o

      ordered_as : sort_into [] (kept_in (found_files n m l h)) ≡ in_order_of (said_by n m) l h
      unfolding in_order_of
      ordered_as = ap (sort_into []) (kept_found n m l h)

      pub logs-many : 64 < length (kept_in (found_files n m l h)) → log_files n m l h r ≡ Err NoRoom
      unfolding log_files found_kept to_replay
      logs-many k = rw (b, once, lt-ltb 64 (length (in_order_of (said_by n m) l h)) (omega (arith, ap length ordered_as, length_sorted [] (kept_in (found_files n m l h)))))

      module _ (fs : List LogFile) (e : fs ≡ sort_into [] (kept_in (found_files n m l h))) (k : length fs ≤ 64) where
        files-are : in_order_of (said_by n m) l h ≡ fs
        files-are = sym (e ∙ ordered_as)

        pub logs-used : has 4294967295 (map file_number fs) ≡ true → log_files n m l h r ≡ Err UsedUp
        unfolding log_files found_kept to_replay
        logs-used u = rw (b, once, files-are, le-ltb 64 (length fs) k, u)

        module _ (u : has 4294967295 (map file_number fs) ≡ false) where
          pub logs-short : r < length (removed_in (found_files n m l h)) → log_files n m l h r ≡ Err ShortOutput
          unfolding log_files found_kept to_replay
          logs-short f = rw (b, once, files-are, le-ltb 64 (length fs) k, u, lt-ltb r (length (removed (said_by n m) l)) (omega (arith, ap length (removed_found n m l h))))

          pub logs-done : length (removed_in (found_files n m l h)) ≤ r → log_files n m l h r ≡ Ok (files_told (length (removed_in (found_files n m l h))) fs)
          unfolding log_files found_kept to_replay
          logs-done f =
              rw (b, once, files-are, le-ltb 64 (length fs) k, u, le-ltb r (length (removed (said_by n m) l)) (omega (arith, ap length (removed_found n m l h))))
              (ap (λ (x : ℕ). Ok (files_told x fs)) (ap length (sym (removed_found n m l h))))

          pub logs-below : all_below 4294967295 (map file_number fs) ≡ true
          logs-below =
              lower 4294967295 4294967296 (map file_number fs) refl
              (ap (λ (x : List LogFile). all_below 4294967296 (map file_number x)) (sym files-are) ∙ order_below (said_by n m) l h 4294967296 (said_below n m)) u

-- ---- what is always so
-- at most 64 files, none twice, in order
pub record Told (f : LogFiles) : Type 0 where
  pub toRemove : ℕ
  pub files : List LogFile
  pub told : f ≡ files_told toRemove files
  pub few : length files ≤ 64
  pub once : distinct (map file_number files) ≡ true
  pub ordered : ordered files ≡ true

module _ (n m l h : List ℕ) (r : ℕ) where
  -- by what is refused, or the files that are told
  logs-by : (P : Result LogFiles Answer → Type 0) → ((a : Answer) → P (Err a))
      → (found_kept n m l h ≡ true → length (in_order_of (said_by n m) l h) ≤ 64 → P (Ok (files_told (length (removed (said_by n m) l)) (in_order_of (said_by n m) l h)))) → P (log_files n m l h r)
  unfolding log_files to_replay
  logs-by P f g =
      by (found_kept n m l h) refl (ltb 64 (length (in_order_of (said_by n m) l h))) refl (has 4294967295 (map file_number (in_order_of (said_by n m) l h))) refl (ltb r (length (removed (said_by n m) l))) refl
    where
      by : (a : Bool) → found_kept n m l h ≡ a → (b : Bool) → ltb 64 (length (in_order_of (said_by n m) l h)) ≡ b
          → (c : Bool) → has 4294967295 (map file_number (in_order_of (said_by n m) l h)) ≡ c → (d : Bool) → ltb r (length (removed (said_by n m) l)) ≡ d → P (log_files n m l h r)
      by false e b z c y d k = rw e (f BadState)
      by true e true z c y d k = rw (e, z) (f NoRoom)
      by true e false z true y d k = rw (e, z, y) (f UsedUp)
      by true e false z false y true k = rw (e, z, y, k) (f ShortOutput)
      by true e false z false y false k = rw (e, z, y, k) (g e (ltb-false 64 _ z))

  pub logs-told : IfOk (log_files n m l h r) Told
  logs-told =
      logs-by (λ (x : Result LogFiles Answer). IfOk x Told) (λ a. tt)
      (λ e k. record {
        toRemove = length (removed (said_by n m) l);
        files = in_order_of (said_by n m) l h;
        told = refl;
        few = k;
        once = order-once (said_by n m) l h (found-once n m l h e);
        ordered = in_order (said_by n m) l h;
      })

  -- they are all told where nothing is refused
  pub logs-all : IfOk (log_files n m l h r) (λ (f : LogFiles). f ≡ files_told (length (removed (said_by n m) l)) (in_order_of (said_by n m) l h))
  logs-all = logs-by (λ (x : Result LogFiles Answer). IfOk x (λ (f : LogFiles). f ≡ files_told (length (removed (said_by n m) l)) (in_order_of (said_by n m) l h))) (λ a. tt) (λ e k. refl)
