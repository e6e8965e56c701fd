-- The call handles a PDU that begins with a good credit signal as `edge_credits` does: what it then leaves stands in `edge_placed`.
use Rattle.std.specs.Prelude.{◌≡◌, Bool, List, [], ◌∷◌, ℕ, length, get_or, None, Option, Some, Result, Ok, Err}
use Rattle.std.proofs.Math.Path.{refl}
use Rattle.std.proofs.Common.{ap, arith, eqb-true, ne_eqb}
use Rattle.std.proofs.Math.Bool.{true, false}
use Rattle.std.proofs.lemmas.Bool.{false≢true}
use Rattle.std.proofs.Math.Dec.{eqb}
use Rattle.lists.specs.Choose.{choose}
use Rattle.signal_headers.specs.Headers.{headers_of, body_in}
use Rattle.signal_headers.specs.declared.BadHeader.{BadHeader}
use Rattle.signal_headers.specs.declared.BadHeader.TheVariants.{Cut, Past}
use Rattle.signal_forms.specs.declared.LeCreditFlowInd.{LeCreditFlowInd}
use Rattle.signal_bodies.specs.LeCreditBodies.{le_credit_flow_ind}
use Rattle.channel.specs.declared.Table.{Table}
use Rattle.definition.specs.Signals.{on_credits, handled, checked, signalled}
use Rattle.edge_layout.specs.Layout.{read}
use Rattle.edge.specs.Edge.{on_table, flag}
use Rattle.edge_placed.specs.Credited.{credits_edge}
use Rattle.edge_credits.specs.CreditsIn.{behind_headers, credits_in}
use Rattle.edge_signals.specs.Signals.{signal_edge}

abbrev is_read : Option LeCreditFlowInd → Bool
is_read None = false
is_read (Some ind) = true

none_read : (ind : LeCreditFlowInd) → None ≡ Some ind → ⊥
none_read ind e = false≢true (ap is_read e)

some_octets : (pdu : List ℕ) → get_or pdu 0 0 ≡ 0x16 → eqb (length pdu) 0 ≡ false
some_octets [] c = absurd (omega arith)
some_octets (x ∷ xs) c = ne_eqb (length (x ∷ xs)) 0 (λ e. omega arith)

module _ (t : Table) (link : ℕ) (listening central : Bool) (pdu : List ℕ) (ind : LeCreditFlowInd) where
  handled-credits : get_or pdu 0 0 ≡ 0x16 → le_credit_flow_ind (body_in pdu) ≡ Some ind
      → handled t link listening central (get_or pdu 0 0) (get_or pdu 1 0) (body_in pdu) ≡ on_credits t link 0 (Some ind)
  unfolding handled on_credits choose
  handled-credits c b = rw (c, b)

  checked-credits : (h : Result (Unit {0}) BadHeader) → get_or pdu 0 0 ≡ 0x16 → behind_headers pdu h ≡ Some ind → checked t link listening central pdu h ≡ on_credits t link 0 (Some ind)
  unfolding checked choose
  checked-credits (Ok tt) c b = rw (some_octets pdu c) (handled-credits c b)
  checked-credits (Err Cut) c b = absurd (none_read ind b)
  checked-credits (Err (Past id)) c b = absurd (none_read ind b)

  credits-checked : credits_in pdu ≡ Some ind → checked t link listening central pdu (headers_of pdu) ≡ on_credits t link 0 (Some ind)
  unfolding credits_in choose
  credits-checked e = go (eqb (get_or pdu 0 0) 0x16) refl
    where
      go : (b : Bool) → eqb (get_or pdu 0 0) 0x16 ≡ b → checked t link listening central pdu (headers_of pdu) ≡ on_credits t link 0 (Some ind)
      go true f = checked-credits (headers_of pdu) (eqb-true (get_or pdu 0 0) 0x16 f) (rw f at e)
      go false f = absurd (none_read ind (rw f at e))

-- A GOOD CREDIT SIGNAL IS WHAT THE CALL HANDLES
pub signal-credits : (o a room signal : List ℕ) (link listening central : ℕ) (pdu : List ℕ) (ind : LeCreditFlowInd) → credits_in pdu ≡ Some ind
    → credits_edge o a room signal link ind ≡ signal_edge o a room signal link listening central pdu
unfolding on_table signalled
signal-credits o a room signal link listening central pdu ind e = rw (credits-checked (read o).table link (flag listening) (flag central) pdu ind e)
