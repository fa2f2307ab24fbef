-- `opened_with` meets its contract. Assumes nothing.
use Rattle.std.proofs.Common.{rules, ◌≡◌, ℕ, List, length, map, sym, ap, ◌∙◌, arith}
use Rattle.found.specs.Logs.{file_number, file_id}
use Rattle.found.specs.declared.sorted.LogFile.{LogFile}
use Rattle.files.specs.Moves.{no_files, with_replay, with_next}
use Rattle.files.specs.declared.queues.Queues.{Queues}
use Rattle.files.proofs.Mapped.{mapped}
use Rattle.files.proofs.open.opened_with.Goals as goal

pub returns : goal.returns
returns c =
    let f = c.args.found in
    let z : LogFile = record { id = 0; number = 0 } in
    let long : length f.files ≡ 64 = search rules in
    let e = mapped file_number z f.files c.map.result (c.map.ensures.items.long ∙ sym long) (λ i k. let m = (c.map.ensures.items.at i z 0 (omega arith)).2 in search rules) in
    let g = mapped file_id z f.files c.map-q.result (c.map-q.ensures.items.long ∙ sym long) (λ i k. let m = (c.map-q.ensures.items.at i z 0 (omega arith)).2 in search rules) in
    ap (λ (q : Queues). with_next (with_replay q (record { count = f.count; numbers = c.map.result }) c.map-q.result) f.next_log_id) c.new-q.ensures
    ∙ ap (λ (l : List ℕ). with_next (with_replay no_files (record { count = f.count; numbers = l }) c.map-q.result) f.next_log_id) e
    ∙ ap (λ (l : List ℕ). with_next (with_replay no_files (record { count = f.count; numbers = map file_number f.files }) l) f.next_log_id) g
