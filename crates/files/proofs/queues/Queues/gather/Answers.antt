-- `Queues::gather` meets its contract: the list grows by one place after the other. Assumes nothing.
use native.Mathlib.Omega.{arith}
use Prim.Native.Nat.{ℕ}
use mathlib.Core.Path.{ap}
use lib.ListN.{length}
use Rattle.std.specs.Prelude.{Option}
use Rattle.numbers.specs.Numbers.{some_of}
use Rattle.files.specs.Queues.{appending_number, reading_number, files_of, QueuesTyped}
use Rattle.files.proofs.Rule.{room_facts, one-some}
use Rattle.files.proofs.Gather.{holds-new, holds_push, holds-append}
use borrow.Author.Rules.{rules}
use Rattle.files.proofs.queues.Queues.gather.Goals as goal

pub push_if-requires : goal.push_if-requires
push_if-requires c =
    let q = c.args.self in
    let f = (room_facts q c.requires).all in
    let a = one-some q.appending.some q.appending.id in
    let b = one-some q.reading.some q.reading.id in
    let h0 = holds-new _ c.new.ensures in
    let e = ap (λ (o : Option ℕ). length (some_of o)) c.number.ensures in
    omega (arith, h0.count)

pub append-requires : goal.append-requires
append-requires c =
    let s : QueuesTyped c.args.self = record { read = search rules; cleanup = search rules; pool = search rules; replay = search rules } in
    let q = c.args.self in
    let f = (room_facts q c.requires).all in
    let a = one-some q.appending.some q.appending.id in
    let b = one-some q.reading.some q.reading.id in
    let h0 = holds-new _ c.new.ensures in
    let h1 = holds_push _ _ _ _ h0 (appending_number q) _ c.number.ensures c.push_if.ensures (omega arith) in
    omega (arith, h1.count)

pub push_if-requires-2 : goal.push_if-requires-2
push_if-requires-2 c =
    let s : QueuesTyped c.args.self = record { read = search rules; cleanup = search rules; pool = search rules; replay = search rules } in
    let q = c.args.self in
    let f = (room_facts q c.requires).all in
    let a = one-some q.appending.some q.appending.id in
    let b = one-some q.reading.some q.reading.id in
    let h0 = holds-new _ c.new.ensures in
    let h1 = holds_push _ _ _ _ h0 (appending_number q) _ c.number.ensures c.push_if.ensures (omega arith) in
    let h2 = holds-append _ _ _ _ h1 q.read_queue c.append.ensures s.read (omega arith) in
    let e = ap (λ (o : Option ℕ). length (some_of o)) c.number-2.ensures in
    omega (arith, h2.count)

pub append-requires-2 : goal.append-requires-2
append-requires-2 c =
    let s : QueuesTyped c.args.self = record { read = search rules; cleanup = search rules; pool = search rules; replay = search rules } in
    let q = c.args.self in
    let f = (room_facts q c.requires).all in
    let a = one-some q.appending.some q.appending.id in
    let b = one-some q.reading.some q.reading.id in
    let h0 = holds-new _ c.new.ensures in
    let h1 = holds_push _ _ _ _ h0 (appending_number q) _ c.number.ensures c.push_if.ensures (omega arith) in
    let h2 = holds-append _ _ _ _ h1 q.read_queue c.append.ensures s.read (omega arith) in
    let h3 = holds_push _ _ _ _ h2 (reading_number q) _ c.number-2.ensures c.push_if-2.ensures (omega arith) in
    omega (arith, h3.count)

pub append-requires-3 : goal.append-requires-3
append-requires-3 c =
    let s : QueuesTyped c.args.self = record { read = search rules; cleanup = search rules; pool = search rules; replay = search rules } in
    let q = c.args.self in
    let f = (room_facts q c.requires).all in
    let a = one-some q.appending.some q.appending.id in
    let b = one-some q.reading.some q.reading.id in
    let h0 = holds-new _ c.new.ensures in
    let h1 = holds_push _ _ _ _ h0 (appending_number q) _ c.number.ensures c.push_if.ensures (omega arith) in
    let h2 = holds-append _ _ _ _ h1 q.read_queue c.append.ensures s.read (omega arith) in
    let h3 = holds_push _ _ _ _ h2 (reading_number q) _ c.number-2.ensures c.push_if-2.ensures (omega arith) in
    let h4 = holds-append _ _ _ _ h3 q.cleanup_queue c.append-2.ensures s.cleanup (omega arith) in
    omega (arith, h4.count)

pub append-requires-4 : goal.append-requires-4
append-requires-4 c =
    let s : QueuesTyped c.args.self = record { read = search rules; cleanup = search rules; pool = search rules; replay = search rules } in
    let q = c.args.self in
    let f = (room_facts q c.requires).all in
    let a = one-some q.appending.some q.appending.id in
    let b = one-some q.reading.some q.reading.id in
    let h0 = holds-new _ c.new.ensures in
    let h1 = holds_push _ _ _ _ h0 (appending_number q) _ c.number.ensures c.push_if.ensures (omega arith) in
    let h2 = holds-append _ _ _ _ h1 q.read_queue c.append.ensures s.read (omega arith) in
    let h3 = holds_push _ _ _ _ h2 (reading_number q) _ c.number-2.ensures c.push_if-2.ensures (omega arith) in
    let h4 = holds-append _ _ _ _ h3 q.cleanup_queue c.append-2.ensures s.cleanup (omega arith) in
    let h5 = holds-append _ _ _ _ h4 q.log_pool c.append-3.ensures s.pool (omega arith) in
    omega (arith, h5.count)

pub returns : goal.returns
unfolding files_of
returns c =
    let s : QueuesTyped c.args.self = record { read = search rules; cleanup = search rules; pool = search rules; replay = search rules } in
    let q = c.args.self in
    let f = (room_facts q c.requires).all in
    let a = one-some q.appending.some q.appending.id in
    let b = one-some q.reading.some q.reading.id in
    let h0 = holds-new _ c.new.ensures in
    let h1 = holds_push _ _ _ _ h0 (appending_number q) _ c.number.ensures c.push_if.ensures (omega arith) in
    let h2 = holds-append _ _ _ _ h1 q.read_queue c.append.ensures s.read (omega arith) in
    let h3 = holds_push _ _ _ _ h2 (reading_number q) _ c.number-2.ensures c.push_if-2.ensures (omega arith) in
    let h4 = holds-append _ _ _ _ h3 q.cleanup_queue c.append-2.ensures s.cleanup (omega arith) in
    let h5 = holds-append _ _ _ _ h4 q.log_pool c.append-3.ensures s.pool (omega arith) in
    let h6 = holds-append _ _ _ _ h5 q.replay_queue c.append-4.ensures s.replay (omega arith) in
    (omega (arith, h6.count), h6.list)
