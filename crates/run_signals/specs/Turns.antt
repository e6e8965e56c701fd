-- How a loop comes to what the signals of a PDU leave: turn by turn.
use Rattle.std.specs.Prelude.{◌≡◌, Bool, List, ℕ, suc, ◌≤◌, ◌<◌, length}
use Rattle.std.proofs.Common.{sym, ap, ◌∙◌}
use Rattle.signal_headers.specs.Headers.{rest_of}
use Rattle.signal_laws.specs.Feeding.{feeds_more, feeds_none}
use Rattle.channel.specs.declared.Table.{Table}
use Rattle.run_frames.specs.PlayedFrames.{signal_of}
use Rattle.run_signals.specs.Signalled.{After, after, left, one_signal, each_signal, signals_after, signals_of, AfterSome, Leaves, LeavesSome}

module _ (link : ℕ) (listening central : Bool) where
  pub a_turn : (pdu : List ℕ) (a : After) → 0 < length pdu
      → signals_after link listening central pdu a ≡ signals_after link listening central (rest_of pdu) (one_signal link listening central a pdu)
  a_turn pdu a h = ap (λ (feeds : List (List ℕ)). each_signal link listening central feeds a) (feeds_more pdu h)

  pub no_turn : (pdu : List ℕ) (a : After) → length pdu ≤ 0 → signals_after link listening central pdu a ≡ a
  no_turn pdu a h = ap (λ (feeds : List (List ℕ)). each_signal link listening central feeds a) (feeds_none pdu h)

  -- the loop's turn: what is still to be served stays the same
  pub next_turn : (pdu room : List ℕ) (u : Table) {pdu' room' : List ℕ} {u' : Table} {a : After} → 0 < length pdu → pdu' ≡ rest_of pdu
      → Leaves (left (signal_of u room link listening central pdu)) u' room'
      → signals_after link listening central pdu (after u room) ≡ a → signals_after link listening central pdu' (after u' room') ≡ a
  next_turn pdu room u h e l is = rw (e, l.table, l.room) (sym (a_turn pdu (after u room) h) ∙ is)

  pub all_turns : (pdu rest room : List ℕ) (t : Table) {rest₀ room₀ room' : List ℕ} {u u₀ : Table} → rest₀ ≡ rest_of pdu
      → Leaves (left (signal_of t room link listening central pdu)) u₀ room₀ → length rest ≤ 0
      → signals_after link listening central rest (after u room') ≡ signals_after link listening central rest₀ (after u₀ room₀)
      → Leaves (signals_of link listening central t room pdu) u room'
  all_turns pdu rest room t {rest₀} {room₀} {room'} {u} {u₀} e l h is =
      let ends : after u room' ≡ signals_of link listening central t room pdu = sym (no_turn rest (after u room') h) ∙ is ∙ rw (e, l.table, l.room) in
      record { table = ap (λ (a : After). a.table) ends; room = ap (λ (a : After). a.room) ends }

  -- where a row can't be printed: the turn's signal was served
  pub some_now : (pdu room : List ℕ) (u : Table) {room' : List ℕ} → 0 < length pdu
      → room' ≡ (signal_of u room link listening central pdu).room → AfterSome link listening central pdu (after u room) room'
  some_now pdu room u h e = (1, rw (feeds_more pdu h) e)

  -- what the next turn leaves, this one and the next leave
  pub next_some : (pdu room : List ℕ) (u : Table) {pdu' room' : List ℕ} {u' : Table} → 0 < length pdu → pdu' ≡ rest_of pdu
      → Leaves (left (signal_of u room link listening central pdu)) u' room'
      → (r : List ℕ) → AfterSome link listening central pdu' (after u' room') r → AfterSome link listening central pdu (after u room) r
  next_some pdu room u h e l r (k, is) = (suc k, rw (feeds_more pdu h) (rw (e, l.table, l.room) at is))

  -- what the loop leaves, the whole leaves
  pub all_some : (pdu room : List ℕ) (t : Table) {rest₀ room₀ r : List ℕ} {u₀ : Table} → rest₀ ≡ rest_of pdu
      → Leaves (left (signal_of t room link listening central pdu)) u₀ room₀
      → AfterSome link listening central rest₀ (after u₀ room₀) r → LeavesSome link listening central t room pdu r
  all_some pdu room t e l (k, is) = (k, rw (e, l.table, l.room) at is)
