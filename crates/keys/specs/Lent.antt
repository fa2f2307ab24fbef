-- The keys of one kind as they are lent (src/ordered).
use Rattle.std.specs.Prelude.{ℕ, List, length}
use Rattle.keys.specs.Keys.{keys_of}
use Rattle.keys.specs.declared.ordered.Keys.{Keys}

-- in their order, each as one number
abbrev pub keys_in : Keys → List ℕ
keys_in k = keys_of k.rows.now k.order.now (length k.order.now)
