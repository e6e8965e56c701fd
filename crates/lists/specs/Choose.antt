-- The one if-then-else of all definitions. It is shut: `choose b x y` stays as it stands until a proof names the outcome of its test,
-- so that a long chain of tests is taken one test at a time.
use Rattle.std.specs.Prelude.{◌≡◌, refl, Bool, true, false}
use Rattle.std.proofs.Common.{sym}
use Rattle.std.proofs.lemmas.Bool.{false≢true}

unfoldable pub choose : {A : Type 0} → Bool → A → A → A
choose true x y = x
choose false x y = y

pub choose_true : {A : Type 0} (b : Bool) (x y : A) → b ≡ true → choose b x y ≡ x
unfolding choose
choose_true true x y e = refl
choose_true false x y e = absurd (false≢true e)

pub choose_false : {A : Type 0} (b : Bool) (x y : A) → b ≡ false → choose b x y ≡ y
unfolding choose
choose_false true x y e = absurd (false≢true (sym e))
choose_false false x y e = refl

-- what holds of both arms, each under its outcome of the test, holds of the choice
pub if_cases : {A : Type 0} (P : A → Type 0) (b : Bool) {x y : A} → (b ≡ true → P x) → (b ≡ false → P y) → P (choose b x y)
unfolding choose
if_cases P true f g = f refl
if_cases P false f g = g refl
