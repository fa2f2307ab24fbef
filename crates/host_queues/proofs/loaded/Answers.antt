-- `loaded` meets its contract: each part read. Assumes nothing.
use Rattle.std.proofs.Common.{◌≡◌, ◌∙◌, refl}
use Rattle.host_queues.proofs.Heads.{queue_part}
use Rattle.host_queues.specs.Queues.{queue_from}
use Rattle.host_queues.proofs.loaded.Goals as goal

pub returns : goal.returns
returns c =
    let w = c.args.words.now in
    let reading : c.queue_of.result ≡ queue_from w 3 = c.queue_of.ensures ∙ queue_part w 3 in
    let cleanup : c.queue_of-2.result ≡ queue_from w 70 = c.queue_of-2.ensures ∙ queue_part w 70 in
    let pool : c.queue_of-3.result ≡ queue_from w 135 = c.queue_of-3.ensures ∙ queue_part w 135 in
    let replay : c.queue_of-4.result ≡ queue_from w 200 = c.queue_of-4.ensures ∙ queue_part w 200 in
    rw (c.copy_from_slice.ensures.after, reading, cleanup, pool, replay, c.requires.next) refl
