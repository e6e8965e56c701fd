-- The one limit that the crates of signals, of cutting and of the table share (document 02: "Core sets 23 as the least for MTU and for MPS").
use Rattle.std.specs.Prelude.{ℕ}

-- the least MTU, and the least MPS, that a side of a channel may have (Core Vol 3 Part A 4.22, 4.23)
abbrev pub size_least : ℕ
size_least = 23
