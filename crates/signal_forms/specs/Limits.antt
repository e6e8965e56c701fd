-- The longest signal that is written, and so the least buffer that is taken for any.
use Rattle.std.specs.Prelude.{ℕ}

abbrev pub signal_most : ℕ
signal_most = 18
