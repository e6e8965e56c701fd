-- "local MPS > M-4, then local MTU > M-6": one test of two, since both are refused alike.
use Rattle.std.specs.Prelude.{◌≡◌, refl, Bool, true, false, ◌||◌}
use Rattle.std.proofs.Common.{sym}
use Rattle.std.proofs.lemmas.Bool.{false≢true}
use Rattle.lists.specs.Choose.{choose}
use Rattle.channel.specs.declared.L2capChannelConfig.{L2capChannelConfig}
use Rattle.channel.specs.declared.Table.{Table}
use Rattle.definition.specs.Pending.{mps_too_large, mtu_too_large}

abbrev pub too_large : Table → L2capChannelConfig → Bool
too_large t c = mps_too_large t c || mtu_too_large t c

-- either of them refuses
pub either_refuses : {A : Type 0} (a b : Bool) → (a || b) ≡ true → (x y : A) → choose a x (choose b x y) ≡ x
unfolding choose
either_refuses true b e x y = refl
either_refuses false true e x y = refl
either_refuses false false e x y = absurd (false≢true e)

-- neither does
pub neither_refuses : {A : Type 0} (a b : Bool) → (a || b) ≡ false → (x y : A) → choose a x (choose b x y) ≡ y
unfolding choose
neither_refuses true b e x y = absurd (false≢true (sym e))
neither_refuses false true e x y = absurd (false≢true (sym e))
neither_refuses false false e x y = refl
