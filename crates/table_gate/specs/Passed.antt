-- What a call may rely on once the first refusals let it pass. It follows from the definition of `verdict`, test by test.
use Rattle.std.specs.Prelude.{◌≡◌, Bool, true, false, ℕ, ◌≤◌, ◌<◌, None, Ok, Option, Some}
use Rattle.std.proofs.Common.{ltb-false, leb-false, eqb-true}
use Rattle.std.proofs.lemmas.Bool.{not-false}
use Rattle.channel.specs.Limits.{signal_most, handle_most}
use Rattle.channel.specs.declared.Table.{Table}
use Rattle.definition.specs.Table.{well_formed, room_size}
use Rattle.definition.specs.Outcome.{fails, verdict}
use Rattle.definition.proofs.Tells.{not_stopped}
use Rattle.table_gate_sizes.specs.Sizes.{Sized, formed_sizes}

-- P Holds of the number, if one was given
abbrev pub Holds : (ℕ → Type 0) → Option ℕ → Type 0
Holds P None = Unit {0}
Holds P (Some x) = P x

pub record Passed (t : Table) (room signal link slot : Option ℕ) : Type 0 where
  pub formed : well_formed t ≡ true
  pub sizes : Sized t.n t.d t.m
  pub room-is : Holds (λ size. size ≡ room_size t) room
  pub signal-is : Holds (λ size. signal_most ≤ size) signal
  pub link-is : Holds (λ l. l ≤ handle_most) link
  pub slot_is : Holds (λ s. s < t.n) slot

good : (bad : ℕ → Bool) (P : ℕ → Type 0) (g : Option ℕ) → ((x : ℕ) → bad x ≡ false → P x) → fails bad g ≡ false → Holds P g
good bad P None f e = tt
good bad P (Some x) f e = f x e

pub passed : (t : Table) (room signal link slot : Option ℕ) → verdict t room signal link slot ≡ Ok tt → Passed t room signal link slot
unfolding verdict
passed t room signal link slot e0 =
    let (h1, e1) = not_stopped _ _ _ e0 in
    let (h2, e2) = not_stopped _ _ _ e1 in
    let (h3, e3) = not_stopped _ _ _ e2 in
    let (h4, e4) = not_stopped _ _ _ e3 in
    let (h5, e5) = not_stopped _ _ _ e4 in
    let f = not-false (well_formed t) h1 in
    record {
      formed = f;
      sizes = formed_sizes t f;
      room-is = good _ (λ size. size ≡ room_size t) room (λ x h. eqb-true x (room_size t) (not-false _ h)) h2;
      signal-is = good _ (λ size. signal_most ≤ size) signal (λ x h. ltb-false x signal_most h) h3;
      link-is = good _ (λ l. l ≤ handle_most) link (λ x h. ltb-false handle_most x h) h4;
      slot_is = good _ (λ s. s < t.n) slot (λ x h. leb-false t.n x h) h5;
    }
