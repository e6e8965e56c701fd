-- What the definition's tests of a slot say in the words of Words.antt, and the other way round: a case a state. And so what a search finds.
use Rattle.std.specs.Prelude.{◌≡◌, refl, Bool, true, false, ◌&&◌, not, ℕ, ◌<◌, eqb, leb, length}
use Rattle.std.proofs.Common.{sym, ap, ◌∙◌, arith, length-take, get_or-take, eqb-true, eq-eqb, leb-true, leb-false}
use Rattle.std.proofs.lemmas.Bool.{false≢true, not-true}
use Rattle.lists.specs.Both.{and_left, and_right, and_both}
use Rattle.channel.specs.declared.ChannelState.{ChannelState}
use Rattle.channel.specs.declared.ChannelState.TheVariants.{Disconnected, Connecting, PeerConnecting, Connected, ConnectFailed, PeerDisconnecting, Disconnecting}
use Rattle.channel.specs.declared.Slot.{Slot}
use Rattle.channel.specs.declared.Table.{Table}
use Rattle.definition.specs.Table.{gap, slot_at, live, found, identifier_of, is_disconnected, is_connecting, is_peer_connecting, is_connected, is_disconnecting, is_due, is_free, of_link, pending_of, unheld_pending_of, attempt_of, attempt_by, connected_to, uses_peer, due_slot}
use Rattle.definition.specs.Forms.{Fit}
use Rattle.definition.proofs.Forms.{found-passes}
use Rattle.definition.proofs.Tells.{free-is, connecting_is, pending-is, connected-is}
use Rattle.rules_slots.specs.Words.{Free, Of, Pending, Unheld, Attempt, Open, OpenTo, Leaving, Due, answer, request, Lowest}
use Rattle.rules_slots.proofs.Lists.{first_below, first-within}

-- ---- one slot

pub free-says : (x : Slot) → is_free x ≡ true → Free x
free-says x e = record { state = free-is x.state (and_left (is_disconnected x.state) _ e); hold = eqb-true x.hold 0 (and_right (is_disconnected x.state) _ e) }

pub free_said : (x : Slot) → Free x → is_free x ≡ true
free_said x h = and_both _ _ (ap is_disconnected h.state) (eq-eqb x.hold 0 h.hold)

pub used-says : (x : Slot) → is_disconnected x.state ≡ false → ¬ (x.state ≡ Disconnected)
used-says x e f = false≢true (sym e ∙ ap is_disconnected f)

pub of-says : (l : ℕ) (x : Slot) → of_link l x ≡ true → Of l x
of-says l x e =
    record {
      state = used-says x (not-true _ (and_left (not (is_disconnected x.state)) _ e));
      link = eqb-true x.link l (and_right (not (is_disconnected x.state)) _ e);
    }

pub pending-says : (l : ℕ) (x : Slot) → pending_of l x ≡ true → Pending l x
pending-says l x e =
    record {
      id = identifier_of x.state;
      state = pending-is x.state (and_left (is_peer_connecting x.state) _ e);
      link = eqb-true x.link l (and_right (is_peer_connecting x.state) _ e);
    }

pub pending_said : (l : ℕ) (x : Slot) → Pending l x → pending_of l x ≡ true
pending_said l x h = and_both _ _ (ap is_peer_connecting h.state) (eq-eqb x.link l h.link)

pub unheld-says : (l : ℕ) (x : Slot) → unheld_pending_of l x ≡ true → Unheld l x
unheld-says l x e = record { pending = pending-says l x (and_left (pending_of l x) _ e); hold = eqb-true x.hold 0 (and_right (pending_of l x) _ e) }

pub unheld_said : (l : ℕ) (x : Slot) → Unheld l x → unheld_pending_of l x ≡ true
unheld_said l x h = and_both _ _ (pending_said l x h.pending) (eq-eqb x.hold 0 h.hold)

pub attempt-says : (l : ℕ) (x : Slot) → attempt_of l x ≡ true → Attempt l (identifier_of x.state) x
attempt-says l x e =
    record {
      state = connecting_is x.state (and_left (is_connecting x.state) _ e);
      link = eqb-true x.link l (and_right (is_connecting x.state) _ e);
    }

pub matched_says : (l id : ℕ) (x : Slot) → attempt_by l id x ≡ true → Attempt l id x
matched_says l id x e =
    let h = attempt-says l x (and_left (attempt_of l x) _ e) in
    record { state = h.state ∙ ap Connecting (eqb-true (identifier_of x.state) id (and_right (attempt_of l x) _ e)); link = h.link }

pub matched_said : (l id : ℕ) (x : Slot) → Attempt l id x → attempt_by l id x ≡ true
matched_said l id x h = and_both _ _ (and_both _ _ (ap is_connecting h.state) (eq-eqb x.link l h.link)) (eq-eqb (identifier_of x.state) id (ap identifier_of h.state))

pub open_says : (l : ℕ) (x : Slot) → is_connected x.state ≡ true → eqb x.link l ≡ true → Open l x
open_says l x e f = record { state = connected-is x.state e; link = eqb-true x.link l f }

pub open_to_says : (l cid : ℕ) (x : Slot) → connected_to l cid x ≡ true → OpenTo l cid x
open_to_says l cid x e =
    let f : (eqb x.link l && eqb x.peer.cid cid) ≡ true = and_right (is_connected x.state) _ e in
    record {
      slot = open_says l x (and_left (is_connected x.state) _ e) (and_left (eqb x.link l) _ f);
      peer = eqb-true x.peer.cid cid (and_right (eqb x.link l) _ f);
    }

pub open_to_said : (l cid : ℕ) (x : Slot) → OpenTo l cid x → connected_to l cid x ≡ true
open_to_said l cid x h = and_both _ _ (ap is_connected h.slot.state) (and_both _ _ (eq-eqb x.link l h.slot.link) (eq-eqb x.peer.cid cid h.peer))

pub leaving-says : (l : ℕ) (x : Slot) → (is_disconnecting x.state && eqb x.link l) ≡ true → Leaving l x
leaving-says l x e = go x.state refl (and_left (is_disconnecting x.state) _ e) (eqb-true x.link l (and_right (is_disconnecting x.state) _ e))
  where
    go : (k : ChannelState) → x.state ≡ k → is_disconnecting k ≡ true → x.link ≡ l → Leaving l x
    go Disconnected q f h = absurd (false≢true f)
    go (Connecting i) q f h = absurd (false≢true f)
    go (PeerConnecting i) q f h = absurd (false≢true f)
    go Connected q f h = absurd (false≢true f)
    go (ConnectFailed c) q f h = absurd (false≢true f)
    go (PeerDisconnecting i) q f h = absurd (false≢true f)
    go (Disconnecting a) q f h = record { announced = a; state = q; link = h }

pub due-says : (x : Slot) → due_slot x ≡ true → Due x
due-says x e = go x.state refl e
  where
    go : (k : ChannelState) → x.state ≡ k → is_due k ≡ true → Due x
    go Disconnected q f = absurd (false≢true f)
    go (Connecting i) q f = absurd (false≢true f)
    go (PeerConnecting i) q f = absurd (false≢true f)
    go Connected q f = absurd (false≢true f)
    go (ConnectFailed c) q f = absurd (false≢true f)
    go (PeerDisconnecting i) q f = answer q
    go (Disconnecting true) q f = absurd (false≢true f)
    go (Disconnecting false) q f = request q

pub due_said : (x : Slot) → Due x → due_slot x ≡ true
due_said x (answer e) = ap is_due e
due_said x (request e) = ap is_due e

-- ---- what the searches of a link find is its own

in_use : {k : ChannelState} (x : Slot) → x.state ≡ k → is_disconnected k ≡ false → ¬ (x.state ≡ Disconnected)
in_use x e f g = false≢true (sym f ∙ ap is_disconnected (sym e ∙ g))

pub pending-of : (l : ℕ) (x : Slot) → Pending l x → Of l x
pending-of l x h = record { state = in_use x h.state refl; link = h.link }

pub attempt-of : (l id : ℕ) (x : Slot) → Attempt l id x → Of l x
attempt-of l id x h = record { state = in_use x h.state refl; link = h.link }

pub open_of : (l : ℕ) (x : Slot) → Open l x → Of l x
open_of l x h = record { state = in_use x h.state refl; link = h.link }

pub leaving-of : (l : ℕ) (x : Slot) → Leaving l x → Of l x
leaving-of l x h = record { state = in_use x h.state refl; link = h.link }

pub uses_of : (l cid : ℕ) (x : Slot) → uses_peer l cid x ≡ true → Of l x
uses_of l cid x e = of-says l x (and_left (of_link l x) _ e)

-- ---- a search

module _ (t : Table) (fit : Fit t) (p : Slot → Bool) (P : Slot → Type 0) (says : (x : Slot) → p x ≡ true → P x) (said : (x : Slot) → P x → p x ≡ true) where
  long : length (live t) ≡ t.n
  long = omega (arith, length-take t.n t.slots, fit.fits)

  passed_over : (j : ℕ) → j < found p t → ¬ P (slot_at t j)
  passed_over j h c =
      let l : j < t.n = omega (arith, long, first-within p (live t)) in
      false≢true (sym (first_below p gap (live t) j h) ∙ ap p (get_or-take t.n t.slots j gap l) ∙ said (slot_at t j) c)

  pub found_lowest : leb t.n (found p t) ≡ false → Lowest P t (found p t)
  found_lowest e = record { within = leb-false t.n (found p t) e; stands = says (slot_at t (found p t)) (found-passes t fit p e); least = passed_over }

  pub found_none : leb t.n (found p t) ≡ true → (j : ℕ) → j < t.n → ¬ P (slot_at t j)
  found_none e j h = passed_over j (omega (arith, leb-true t.n (found p t) e))
