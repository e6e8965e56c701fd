-- The octets that a plan writes, as a number for C.
use Rattle.std.specs.Prelude.{ℕ, Result, Ok, Err}
use Rattle.sar_cut.specs.declared.Framed.{Framed}
use Rattle.codes.specs.declared.Refusal.{Refusal}

abbrev pub octets_of : Result Framed Refusal → ℕ
octets_of (Err r) = 0
octets_of (Ok framed) = framed.octets
