-- A list whose rules are known to be kept, as it goes by value with its memories.
use Rattle.change.specs.Change.{Change, change_of}
use Rattle.change.specs.declared.ruled.Ruled.{Ruled}

-- the list that it is
unfoldable pub list_of : Ruled → Change
list_of r = change_of r.list r.words.now r.bytes.now
