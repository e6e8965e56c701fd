-- What a test of the definition tells once it has passed: of a CID, of a slot's state, of what the gate was given.
use Rattle.std.specs.Prelude.{◌<◌, None, Option, Some, ℕ}
use Rattle.channel.specs.declared.Table.{Table}

-- a slot, if one was given, is one of the N
abbrev pub InUse : Table → Option ℕ → Type 0
InUse t None = Unit {0}
InUse t (Some s) = s < t.n
