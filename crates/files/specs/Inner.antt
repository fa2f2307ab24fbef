-- What the inner functions require. Nothing here has to be believed.
use Rattle.std.specs.Prelude.{Bool, not, ◌||◌, eqb}
use Rattle.files.specs.declared.queues.Queues.{Queues}

-- there is a file to read: the one being read, or the read queue's front
unfoldable pub has_file : Queues → Bool
has_file q = q.reading.some || not (eqb q.read_queue.count 0)
