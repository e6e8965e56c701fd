-- The peer of a channel: as long as its slot is Connected, its CID and its MPS stay what they were, whatever calls come. So of what a portion needs to find as the
-- job's last call left it (`HandedOn` of crate rules_portions), the manager keeps the peer's numbers here, the job by `job_moved_by` (crate rules_steps), and the caller the buffer.
use Rattle.std.specs.Prelude.{◌≡◌, refl, Bool, true, List, [], ◌∷◌, ℕ, ◌<◌}
use Rattle.std.proofs.Common.{sym, ap, ◌∙◌}
use Rattle.std.proofs.lemmas.Bool.{false≢true}
use Rattle.channel.specs.declared.ChannelState.{ChannelState}
use Rattle.channel.specs.declared.ChannelState.TheVariants.{Disconnected, Connecting, PeerConnecting, Connected, ConnectFailed, PeerDisconnecting, Disconnecting}
use Rattle.channel.specs.declared.OpenJob.{OpenJob}
use Rattle.channel.specs.declared.Peer.{Peer}
use Rattle.channel.specs.declared.Slot.{Slot}
use Rattle.channel.specs.declared.Table.{Table}
use Rattle.definition.specs.Mem.{Move}
use Rattle.definition.specs.Table.{slot_at, is_connected, is_disconnected}
use Rattle.definition.specs.Calls.{Call}
use Rattle.definition.specs.Run.{State, after, run}
use Rattle.rules.specs.Run.{Fits, AllFit, Reached, next}
use Rattle.rules.specs.Step.{Sending, stay, off, meet, shut, pay, gain, begin, portion, cancel, Step, hold, go, accept, free, allocate}
use Rattle.rules.proofs.Good.{reached-good, same-sizes}
use Rattle.rules.proofs.Rules.{call_change}
use Rattle.rules_jobs.specs.Peer.{SamePeer, Stays}

same : {p : Peer} → SamePeer p p
same = record { cid = refl; mps = refl }

sending-peer : {x : Slot} {b : Bool} {p : Peer} {j : OpenJob} → Sending x b p j → is_connected x.state ≡ true → SamePeer x.peer p
sending-peer stay e = same
sending-peer (off z) e = same
sending-peer (meet z c) e = absurd (false≢true (sym z ∙ e))
sending-peer shut e = same
sending-peer (pay n) e = record { cid = refl; mps = refl }
sending-peer (gain n h) e = record { cid = refl; mps = refl }
sending-peer (begin l n c w h g) e = record { cid = refl; mps = refl }
sending-peer (portion count c h g) e = same
sending-peer cancel e = record { cid = refl; mps = refl }

-- what is Connected is not free
not_free : (k : ChannelState) → is_connected k ≡ true → is_disconnected k ≡ true → ⊥
not_free Disconnected e f = false≢true e
not_free (Connecting i) e f = false≢true f
not_free (PeerConnecting i) e f = false≢true f
not_free Connected e f = false≢true f
not_free (ConnectFailed c) e f = false≢true f
not_free (PeerDisconnecting i) e f = false≢true f
not_free (Disconnecting a) e f = false≢true f

step_peer : {t : Table} {k : ℕ} {x y : Slot} {ms : List Move} → Step t k x y ms → is_connected x.state ≡ true → is_connected y.state ≡ true → SamePeer x.peer y.peer
step_peer (hold h) e f = same
step_peer (go g a j s) e f = sending-peer s e
step_peer (accept c) e f = record { cid = ap (λ (p : Peer). p.cid) c.peer; mps = ap (λ (p : Peer). p.mps) c.peer }
step_peer (free h) e f = absurd (false≢true f)
step_peer {x = x} (allocate c) e f = absurd (not_free x.state e c.was)

-- ONE CALL
pub peer-stays : {s : State} → Reached s → (c : Call) → Fits c → (i : ℕ) → i < s.table.n → is_connected (slot_at s.table i).state ≡ true → is_connected (slot_at (after s c).table i).state ≡ true
    → SamePeer (slot_at s.table i).peer (slot_at (after s c).table i).peer
peer-stays {s} r c f i h e g = step_peer (call_change s c (reached-good r) f i h).step e g

pub stays-now : (i : ℕ) (s : State) (cs : List Call) → Stays i s cs → is_connected (slot_at s.table i).state ≡ true
stays-now i s [] h = h
stays-now i s (c ∷ cs) h = h.0

-- MANY CALLS
pub peer_stays_through : {s : State} → Reached s → (cs : List Call) → AllFit cs → (i : ℕ) → i < s.table.n → Stays i s cs → SamePeer (slot_at s.table i).peer (slot_at (run s cs).table i).peer
unfolding run
peer_stays_through r [] f i h st = same
peer_stays_through {s} r (c ∷ cs) f i h st =
    let p = peer-stays r c f.0 i h st.0 (stays-now i (after s c) cs st.1) in
    let n : i < (after s c).table.n = rw (same-sizes s c (reached-good r) f.0).n h in
    let q = peer_stays_through {s = after s c} (next c r f.0) cs f.1 i n st.1 in
    record { cid = q.cid ∙ p.cid; mps = q.mps ∙ p.mps }
