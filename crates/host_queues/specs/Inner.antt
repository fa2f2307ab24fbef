-- Words read, or refused; nothing to be believed.
use Rattle.std.specs.Prelude.{List, ℕ, get_or, Option, Some, None}
use Rattle.std.specs.Prelude.{if◌then◌else◌}
use Rattle.files.specs.declared.queues.Queues.{Queues}
use Rattle.host_queues.specs.Queues.{queues_formed, queues_in}

-- the queues that words are, if they are some
abbrev pub queues_read : List ℕ → Option Queues
queues_read w = if queues_formed w then Some (queues_in w) else None

-- the next number of the queues that words are, if they are some
abbrev pub next_log_id_read : List ℕ → Option ℕ
next_log_id_read w = if queues_formed w then Some (get_or w 329 0) else None
