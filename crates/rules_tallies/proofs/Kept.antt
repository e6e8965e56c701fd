-- What a slot that counts nothing comes to: which changes of its state reset it, a case a state; and that each form of an outcome (Outcome.antt of crate definition) leaves it so.
use Rattle.std.specs.Prelude.{◌≡◌, refl, Bool, true, false, List, [], ℕ, zero, suc, ◌<◌, get_or}
use Rattle.std.proofs.Common.{sym, ap, ◌∙◌, subst₂}
use Rattle.std.proofs.lemmas.Bool.{false≢true}
use Rattle.lists.specs.Choose.{choose_true, choose_false}
use Rattle.channel.specs.declared.ChannelState.{ChannelState}
use Rattle.channel.specs.declared.ChannelState.TheVariants.{Disconnected, Connecting, PeerConnecting, Connected, ConnectFailed, PeerDisconnecting, Disconnecting}
use Rattle.channel.specs.declared.Slot.{Slot}
use Rattle.channel.specs.declared.Table.{Table}
use Rattle.definition.specs.Mem.{Move}
use Rattle.definition.specs.Table.{gap, slot_at, fresh, left, is_disconnected, is_connecting, is_peer_connecting, is_connected, is_due, no_tallies}
use Rattle.definition.specs.Outcome.{Outcome}
use Rattle.definition.specs.Forms.{Fit, Each, rest, next, Basis, Does}
use Rattle.rules.proofs.Forms.{live_at}
use Rattle.rules_tallies.specs.Statement.{resets}
use Rattle.rules_tallies.specs.Kept.{Kept}

-- ---- which changes of a state reset

pub same-stays : (k : ChannelState) → resets k k ≡ false
same-stays Disconnected = refl
same-stays (Connecting i) = refl
same-stays (PeerConnecting i) = refl
same-stays Connected = refl
same-stays (ConnectFailed c) = refl
same-stays (PeerDisconnecting i) = refl
same-stays (Disconnecting a) = refl

freed-resets : (k : ChannelState) → is_disconnected k ≡ false → resets k Disconnected ≡ true
freed-resets Disconnected e = absurd (false≢true (sym e))
freed-resets (Connecting i) e = refl
freed-resets (PeerConnecting i) e = refl
freed-resets Connected e = refl
freed-resets (ConnectFailed c) e = refl
freed-resets (PeerDisconnecting i) e = refl
freed-resets (Disconnecting a) e = refl

given_resets : (k j : ChannelState) → is_disconnected k ≡ true → is_disconnected j ≡ false → resets k j ≡ true
given_resets Disconnected j e f = rw f refl
given_resets (Connecting i) j e f = absurd (false≢true e)
given_resets (PeerConnecting i) j e f = absurd (false≢true e)
given_resets Connected j e f = absurd (false≢true e)
given_resets (ConnectFailed c) j e f = absurd (false≢true e)
given_resets (PeerDisconnecting i) j e f = absurd (false≢true e)
given_resets (Disconnecting a) j e f = absurd (false≢true e)

pub left-resets : (k : ChannelState) → is_connected k ≡ true → resets k (Disconnecting false) ≡ true
left-resets Disconnected e = refl
left-resets (Connecting i) e = absurd (false≢true e)
left-resets (PeerConnecting i) e = absurd (false≢true e)
left-resets Connected e = refl
left-resets (ConnectFailed c) e = absurd (false≢true e)
left-resets (PeerDisconnecting i) e = absurd (false≢true e)
left-resets (Disconnecting a) e = absurd (false≢true e)

-- the peer's disconnect
parted_stays : (k : ChannelState) (id : ℕ) → is_disconnected k ≡ false → resets k (PeerDisconnecting id) ≡ false
parted_stays Disconnected id e = absurd (false≢true (sym e))
parted_stays (Connecting i) id e = refl
parted_stays (PeerConnecting i) id e = refl
parted_stays Connected id e = refl
parted_stays (ConnectFailed c) id e = refl
parted_stays (PeerDisconnecting i) id e = refl
parted_stays (Disconnecting a) id e = refl

-- an accept, a response
pub accepted-stays : (k : ChannelState) → is_peer_connecting k ≡ true → resets k Connected ≡ false
accepted-stays Disconnected e = absurd (false≢true e)
accepted-stays (Connecting i) e = refl
accepted-stays (PeerConnecting i) e = refl
accepted-stays Connected e = refl
accepted-stays (ConnectFailed c) e = refl
accepted-stays (PeerDisconnecting i) e = refl
accepted-stays (Disconnecting a) e = refl

attempt-stays : (k j : ChannelState) → is_connecting k ≡ true → is_disconnected j ≡ false → resets k j ≡ false
attempt-stays Disconnected j e f = absurd (false≢true e)
attempt-stays (Connecting i) j e f = rw f refl
attempt-stays (PeerConnecting i) j e f = absurd (false≢true e)
attempt-stays Connected j e f = absurd (false≢true e)
attempt-stays (ConnectFailed c) j e f = absurd (false≢true e)
attempt-stays (PeerDisconnecting i) j e f = absurd (false≢true e)
attempt-stays (Disconnecting a) j e f = absurd (false≢true e)

-- a request that is announced
pub announced_stays : (k : ChannelState) → is_due k ≡ true → resets k (Disconnecting true) ≡ false
announced_stays Disconnected e = absurd (false≢true e)
announced_stays (Connecting i) e = absurd (false≢true e)
announced_stays (PeerConnecting i) e = absurd (false≢true e)
announced_stays Connected e = absurd (false≢true e)
announced_stays (ConnectFailed c) e = absurd (false≢true e)
announced_stays (PeerDisconnecting i) e = refl
announced_stays (Disconnecting a) e = refl

-- in a state that passes a test which Disconnected fails
pub in_use : (q : ChannelState → Bool) → q Disconnected ≡ false → (k : ChannelState) → q k ≡ true → is_disconnected k ≡ false
in_use q z Disconnected e = absurd (false≢true (sym z ∙ e))
in_use q z (Connecting i) e = refl
in_use q z (PeerConnecting i) e = refl
in_use q z Connected e = refl
in_use q z (ConnectFailed c) e = refl
in_use q z (PeerDisconnecting i) e = refl
in_use q z (Disconnecting a) e = refl

pub stays : {x y : Slot} {ms : List Move} → resets x.state y.state ≡ false → y.tallies ≡ x.tallies → Kept x y ms
stays e f = record { is = record { is = f ∙ sym (choose_false _ _ _ e) } }

pub starts_anew : {x y : Slot} {ms : List Move} → resets x.state y.state ≡ true → y.tallies ≡ no_tallies → Kept x y ms
starts_anew e f = record { is = record { is = f ∙ sym (choose_true _ _ _ e) } }

pub as_it_was : {x y : Slot} {ms : List Move} → y.state ≡ x.state → y.tallies ≡ x.tallies → Kept x y ms
as_it_was {x} e f = stays (ap (resets x.state) e ∙ same-stays x.state) f

pub is-freed : {x : Slot} {h : ℕ} {ms : List Move} → is_disconnected x.state ≡ false → Kept x (fresh h) ms
is-freed {x} e = starts_anew (freed-resets x.state e) refl

-- a free slot is given out; an attempt is answered
pub is_given : {x y : Slot} {ms : List Move} → is_disconnected x.state ≡ true → is_disconnected y.state ≡ false → y.tallies ≡ no_tallies → Kept x y ms
is_given {x} {y} e f g = starts_anew (given_resets x.state y.state e f) g

pub is-answered : {x y : Slot} {ms : List Move} → is_connecting x.state ≡ true → is_disconnected y.state ≡ false → y.tallies ≡ x.tallies → Kept x y ms
is-answered {x} {y} e f g = stays (attempt-stays x.state y.state e f) g

-- our side leaves, the peer leaves
pub is-left : {x : Slot} {ms : List Move} (y : Slot) → is_connected x.state ≡ true → Kept x (left (Disconnecting false) y) ms
is-left {x} y e = starts_anew (left-resets x.state e) (choose_true true no_tallies y.tallies refl)

pub is_parted : {ms : List Move} (x : Slot) (id : ℕ) → is_disconnected x.state ≡ false → Kept x (left (PeerDisconnecting id) x) ms
is_parted x id e = stays (parted_stays x.state id e) (choose_false false no_tallies x.tallies refl)

-- ---- all slots

each-kept : {xs ys : List Slot} {mss : List (List Move)} → Each Kept xs ys mss → (i : ℕ) → Kept (get_or xs i gap) (get_or ys i gap) []
each-kept rest i = as_it_was refl refl
each-kept (next p r) zero = record { is = p.is }
each-kept (next p r) (suc i) = each-kept r i

pub basis : {t : Table} → Fit t → Basis Kept t
basis fit = record { keeps = λ x. as_it_was refl refl; fit = fit }

pub does_kept : {t : Table} {o : Outcome} → Does Kept t o → (i : ℕ) → i < t.n → Kept (slot_at t i) (slot_at o.table i) []
does_kept {t} {o} d i h =
    subst₂ (λ (x y : Slot). Kept x y []) (live_at t i h) (live_at o.table i (rw d.slots h)) (each-kept d.parts i)
