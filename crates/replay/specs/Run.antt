-- A run (document 01, "Replay": "A run replays from a position with the expected id rising by 1, stops at the first answer other than 0, and
-- reports that answer, the position where the record not replayed begins, and the number of records replayed").
use Rattle.std.specs.Prelude.{◌≡◌, List, [], ◌∷◌, ℕ, zero, suc, ◌+◌, ◌<◌, eqb, leb, length, get_or}
use Rattle.std.proofs.Math.Option
use Rattle.std.proofs.Math.Option.{Option, none, or_else}
use Rattle.std.specs.Prelude.{if◌then◌else◌}
use Rattle.directory.specs.declared.directory.Directory.{Directory}
use Rattle.answer.specs.Answer.{refusal, last_record_id}
use Rattle.answer.specs.declared.answer.Answer.TheVariants.{EndOfLog, UsedUp, BadState}
use Rattle.answer.specs.declared.answer.Refusal.{Refusal}
use Rattle.effect.specs.Effect.{Written, apply}
use Rattle.effect.specs.Meaning.{last_said}
use Rattle.replay.specs.Replay.{Walked, fault, walked, record_at, tables_kept}
use Rattle.replay.specs.declared.many_records.Ran.{Ran}

-- what a run leaves
pub record Outcome : Type 0 where
  pub ran : Ran
  pub image : List ℕ

-- a stop with that refusal, at a position and after so many records
abbrev pub stops : Refusal → ℕ → ℕ → List ℕ → Outcome
stops x position count image = record {
  ran = record { answer = x.answer; position = position; count = count; fault_at = x.position };
  image = image;
}

-- after a record: the stop, or its effect, "After id 2^64-1 it stops with 12", told at "the place behind the last record read", or on with the
-- next id
abbrev pub by_record : Directory → (ℕ → ℕ → ℕ → List ℕ → Outcome) → ℕ → ℕ → ℕ → List ℕ → Walked (List Written) → Outcome
by_record d on at expected count image (fault x) = stops x at count image
by_record d on at expected count image (walked ws end) =
    if eqb expected last_record_id then stops (refusal UsedUp end) end (count + 1) (apply d ws image) else
    on end (expected + 1) (count + 1) (apply d ws image)

-- from a position, an expected id and a count so far; at most n records
unfoldable pub run_from : ℕ → Directory → List ℕ → ℕ → ℕ → ℕ → List ℕ → Outcome
run_from zero d log at expected count image = stops (refusal EndOfLog at) at count image
run_from (suc n) d log at expected count image = by_record d (run_from n d log) at expected count image (record_at d log at expected)

-- a record takes a byte or more, so no more are due than the log has bytes: the bound is never met (`run-enough`, proofs/Records)
abbrev pub run_in : Directory → List ℕ → ℕ → ℕ → ℕ → List ℕ → Outcome
run_in d log at expected count image = run_from (suc (length log)) d log at expected count image

-- `run`: 13, told at "the position handed in", then the records
unfoldable pub run_of : Directory → List ℕ → ℕ → ℕ → List ℕ → Outcome
run_of d log at expected image = if tables_kept d image then run_in d log at expected 0 image else stops (refusal BadState at) at 0 image

-- ---- what a run is held against: the records themselves

-- "the whole acceptable ones": from a position and an expected id, the records one behind the other that end at byte k or before it, the
-- ids rising by 1 up to the last; at most n
abbrev pub by_whole : (ℕ → ℕ → List (List Written)) → ℕ → ℕ → Walked (List Written) → List (List Written)
by_whole on k expected (fault x) = []
by_whole on k expected (walked ws end) =
    if leb end k then ws ∷ (if eqb expected last_record_id then [] else on end (expected + 1)) else []

-- those of them that come next, at most n
unfoldable pub whole_within : ℕ → ℕ → Directory → List ℕ → ℕ → ℕ → List (List Written)
whole_within zero k d log at expected = []
whole_within (suc n) k d log at expected = by_whole (whole_within n k d log) k expected (record_at d log at expected)

-- all of them: a record takes a byte or more
abbrev pub whole_records : ℕ → Directory → List ℕ → ℕ → ℕ → List (List Written)
whole_records k d log at expected = whole_within (suc (length log)) k d log at expected

-- the records rs stand in the log one behind the other from a position on, whole and acceptable, the ids rising by 1 from the expected one;
-- the last number is the position behind them
pub data Chain (d : Directory) (log : List ℕ) : ℕ → ℕ → List (List Written) → ℕ → Type 0 where
  chain_end : {at expected : ℕ} → Chain d log at expected [] at
  chain_more : {at expected : ℕ} {ws : List Written} {mid : ℕ} {rs : List (List Written)} {end : ℕ}
      → record_at d log at expected ≡ walked ws mid → Chain d log mid (expected + 1) rs end → Chain d log at expected (ws ∷ rs) end

-- their effect, record by record
unfoldable pub apply_all : Directory → List (List Written) → List ℕ → List ℕ
apply_all d [] image = image
apply_all d (ws ∷ rest) image = apply_all d rest (apply d ws image)

-- what they say of p: the last of them that says anything of it
unfoldable pub last_of_all : Directory → List (List Written) → ℕ → Option ℕ
last_of_all d [] p = none
last_of_all d (ws ∷ rest) p = or_else (last_of_all d rest p) (last_said d ws p)

-- an outcome is that of the records rs: "the position where the record not replayed begins, and the number of records replayed", and the image
pub record Leaves (d : Directory) (log : List ℕ) (at first : ℕ) (image : List ℕ) (rs : List (List Written)) (o : Outcome) : Type 0 where
  pub stand : Chain d log at first rs o.ran.position
  pub counts : o.ran.count ≡ length rs
  pub tables : o.image ≡ apply_all d rs image

-- "stops at the first answer other than 0, and reports that answer": the record at the position is refused with it under the next id;
-- "After id 2^64-1 it stops with 12." The fault is the record's; of 12 it is "the place behind the last record read", where the run stands
pub data Stops (d : Directory) (log : List ℕ) (first : ℕ) (o : Outcome) : Type 0 where
  refuses : (x : Refusal) → record_at d log o.ran.position (first + o.ran.count) ≡ fault x → o.ran.answer ≡ x.answer
      → o.ran.fault_at ≡ x.position → Stops d log first o
  used-up : first + o.ran.count ≡ last_record_id + 1 → o.ran.answer ≡ UsedUp → o.ran.fault_at ≡ o.ran.position → Stops d log first o

-- a run from a position and a first expected id: its records, why it stopped behind them, and each byte of the image (demand 2, of each record)
pub record Replays (d : Directory) (log : List ℕ) (at first : ℕ) (image : List ℕ) (o : Outcome) : Type 0 where
  pub records : List (List Written)
  pub leaves : Leaves d log at first image records o
  pub stops : Stops d log first o
  pub bytes : (p : ℕ) → p < length image → get_or o.image p 0 ≡ Option.get_or (last_of_all d records p) (get_or image p 0)
  pub long : length o.image ≡ length image
