-- The first refusals, told from the table's octets, and what stays then: for calls that don't read the whole table.
use Rattle.std.specs.Prelude.{◌≡◌, Bool, not, List, ℕ, eqb, leb, ltb, Err, Ok, Option, Result}
use Rattle.std.proofs.lemmas.List.Edits.{sets}
use Rattle.codes.specs.declared.Refusal.TheVariants.{BadRoom, NoRoom, BadHandle, BadSlot}
use Rattle.channel.specs.Limits.{signal_most, handle_most}
use Rattle.channel.specs.declared.Answer.{Answer}
use Rattle.channel_answer.specs.Tells.{tells}
use Rattle.definition.specs.Table.{when◌then◌else◌, room_width}
use Rattle.definition.specs.Outcome.{fails}
use Rattle.edge_answer.specs.Answers.{told_octets}
use Rattle.codes.specs.declared.Refusal.{Refusal}

-- the answer of a call that wrote n octets, over the start of the lent answer
abbrev pub answered : (answer : List ℕ) → Answer → ℕ → List ℕ
answered a x n = sets a 0 (told_octets (tells x) n)

-- the gate behind refusal 1, by the sizes alone, in its one order
unfoldable pub sized_verdict : (n d m : ℕ) (roomed signal link slot : Option ℕ) → Result (Unit {0}) Refusal
sized_verdict n d m roomed signal link slot =
    when fails (λ size. not (eqb size (room_width n d m))) roomed then Err BadRoom
    else when fails (λ size. ltb size signal_most) signal then Err NoRoom
    else when fails (λ l. ltb handle_most l) link then Err BadHandle
    else when fails (λ s. leb n s) slot then Err BadSlot
    else Ok tt

-- ---- WHICH OF ITS TESTS STOPS A CALL, whatever of the four it is given

abbrev pub OtherRoom : (n d m : ℕ) → Option ℕ → Bool → Type 0
OtherRoom n d m roomed b = fails (λ size. not (eqb size (room_width n d m))) roomed ≡ b

abbrev pub Short : Option ℕ → Bool → Type 0
Short signal b = fails (λ size. ltb size signal_most) signal ≡ b

abbrev pub Beyond : Option ℕ → Bool → Type 0
Beyond link b = fails (λ l. ltb handle_most l) link ≡ b

abbrev pub NoSlot : (n : ℕ) → Option ℕ → Bool → Type 0
NoSlot n slot b = fails (λ s. leb n s) slot ≡ b
