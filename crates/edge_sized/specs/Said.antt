-- What a call other than a send and a portion writes to the lent buffer was worked out from table and public input, and stands at its start: no octet of it is
-- copied. So it is as long as the sizes say, and no less than the answer tells. proofs/Said.antt has one lemma a call, `works` for all of them.
use Rattle.std.specs.Prelude.{◌≡◌, Bool, true, false, ◌&&◌, List, [], ◌∷◌, ◌≤◌}
use Rattle.definition.specs.Outcome.{Outcome}
use Rattle.definition.specs.Calls.{Call, frame, sends, portions, down, plain}
use Rattle.definition.specs.Mem.{Fill, zeros, given, job, held, sizes}

-- octets that the call worked out itself
abbrev pub plain_fill : Fill → Bool
plain_fill (zeros n) = true
plain_fill (given xs) = true
plain_fill (job from n) = false
plain_fill (held from n) = false

abbrev pub plain_fills : List Fill → Bool
plain_fills [] = true
plain_fills (f ∷ fs) = plain_fill f && plain_fills fs

pub record Worked (o : Outcome) : Type 0 where
  pub out : plain_fills o.out ≡ true
  pub at : o.at ≡ 0
  pub tells : o.octets ≤ sizes o.out

-- A call that writes frames: a send, a portion.
abbrev pub is_send : Call → Bool
is_send (frame link cid payload) = false
is_send (sends s sdu out) = true
is_send (portions s octets out) = true
is_send (down link) = false
is_send (plain r out tray) = false
