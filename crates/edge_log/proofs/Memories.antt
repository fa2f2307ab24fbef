-- What a call leaves of what it hands back, it leaves of what its definition says: the overlays' memories among it. Assumes nothing.
use mathlib.Core.Path.{◌≡◌, refl, ap₂, subst, ◌∙◌}
use mathlib.Core.List.{List}
use Prim.Native.Nat.{ℕ}
use Rattle.directory.specs.declared.directory.Directory.{Directory}
use Rattle.memory.specs.Parts.{parts_of}
use Rattle.memory.specs.declared.overlays.LogOverlays.{LogOverlays}
use Rattle.memory.specs.declared.span.Holder.TheVariants as holder
use Rattle.change.specs.declared.change.LogChange.{LogChange}
use Rattle.files.specs.declared.queues.Queues.{Queues}
use Rattle.ending.specs.EndRecord.{Handed, handed_of, EndState, end_state_of}
use Rattle.ending.specs.declared.record_end.Ended.{Ended}
use Rattle.clearing.specs.EndRead.{Ending, end_read_of_of}
use Rattle.clearing.specs.declared.end_of_reading.EndRead.{EndRead}
use Rattle.std.specs.Prelude.{Result, Ok, Err}
use Rattle.answer.specs.Answer.{number_of}
use Rattle.answer.specs.declared.answer.Answer.{Answer}
use Rattle.answer.specs.declared.answer.Refusal.{Refusal}
use Rattle.host_words.specs.Head.{head_after}
use Rattle.host_words.specs.Overlays.{overlays_size, overlays_words, overlays_left}
use Rattle.host_words.specs.Change.{counts_in}
use Rattle.edge_log.specs.Ending.{Heads, EndedLeft, ReadLeft, EndLeft}

-- a definition over what was loaded, and over the words themselves
pub handed : {A : Type 0} (f : Directory → Handed → A) {d d' : Directory} {l l' : LogChange} {o o' : LogOverlays} {q q' : Queues} (items chunks words bytes : List ℕ) (next : ℕ) (out : List ℕ) → d ≡ d' → l ≡ l' → o ≡ o' → q ≡ q'
    → f d (handed_of l items chunks o words bytes q next out) ≡ f d' (handed_of l' items chunks o' words bytes q' next out)
handed f {d' = d'} {l' = l'} {o = o} {q = q} items chunks words bytes next out a b c e =
    ap₂ (λ (x : Directory) (y : LogChange). f x (handed_of y items chunks o words bytes q next out)) a b
    ∙ ap₂ (λ (x : LogOverlays) (y : Queues). f d' (handed_of l' items chunks x words bytes y next out)) c e

-- what `end_record` leaves, of what it hands back and of what its definition says
pub end-left : (o : LogOverlays) (q : Queues) (r : Result Ended Answer) (words bytes out : List ℕ) (s : EndState) (was are : Heads) (answer size source file : ℕ) → end_state_of o q r words bytes out ≡ s
    → EndedLeft o q r was answer are size source file → EndLeft s was answer are words bytes out size source file
unfolding end_state_of
end-left o q (Ok r) words bytes out s was are answer size source file e p =
    subst (λ (x : EndState). EndLeft x was answer are words bytes out size source file) e
    (record { heads = p.0; memories = refl; output = refl; long = p.1; from = p.2; number = p.3 })
end-left o q (Err a) words bytes out s was are answer size source file e p =
    subst (λ (x : EndState). EndLeft x was answer are words bytes out size source file) e
    (record { heads = p.0; memories = refl; output = refl; long = p.1; from = p.2; number = p.3 })

-- what `end_read` leaves, field by field
pub record Read (s : Ending) (was : List ℕ) (answer : ℕ) (are words bytes : List ℕ) (after at number found : ℕ) : Type 0 where
  pub told : answer ≡ number_of s.answer
  pub head : are ≡ head_after overlays_size (number_of s.answer) was (overlays_words (overlays_left s.overlays))
  pub memory : parts_of holder.Shared (counts_in s.overlays.parts) words bytes ≡ s.overlays.parts
  pub next : after ≡ s.next_record_id
  pub end : at ≡ s.position
  pub id : number ≡ s.record_id
  pub fault : found ≡ s.fault_at

pub read-left : (place : ℕ) (o : LogOverlays) (n : ℕ) (r : Result EndRead Refusal) (words bytes : List ℕ) (s : Ending) (was are : List ℕ) (answer after at number found : ℕ) → end_read_of_of place o n r words bytes ≡ s
    → ReadLeft place o n r was answer are after at number found → Read s was answer are words bytes after at number found
read-left place o n (Ok r) words bytes s was are answer after at number found e p =
    subst (λ (x : Ending). Read x was answer are words bytes after at number found) e
    (record { told = p.0.0; head = p.0.1; memory = refl; next = p.1; end = p.2; id = p.3; fault = p.4 })
read-left place o n (Err x) words bytes s was are answer after at number found e p =
    subst (λ (y : Ending). Read y was answer are words bytes after at number found) e
    (record { told = p.0.0; head = p.0.1; memory = refl; next = p.1; end = p.2; id = p.3; fault = p.4 })
