-- Each public function of the calls: what its contract says, word for word, is a call of the run. The contract's `room.old` is the
-- state's room, `signal.old` the window of its memory that is lent, and `.new` what stands there after. One lemma a function; a
-- function that is lent no buffer is called with no window.
use Rattle.std.specs.Prelude.{◌≡◌, Bool, true, ℕ, length, Some}
use Rattle.std.proofs.Math.Path.{refl}
use Rattle.std.proofs.Common.{sym, ap, ◌∙◌, arith}
use mathlib.Core.List.{List, []}
use Rattle.std.proofs.lemmas.List.Edits.{sets}
use Rattle.lists.specs.Sets.{sets-out}
use Rattle.codes.specs.Codes.{result_of}
use Rattle.codes.specs.declared.LeCreditConnResultCode.{LeCreditConnResultCode}
use Rattle.signal_forms.specs.declared.Signal.TheVariants.{ConnParamUpdateReq, ConnParamUpdateRes}
use Rattle.channel.specs.declared.Answer.TheVariants.{Done}
use Rattle.channel.specs.declared.L2capChannelConfig.{L2capChannelConfig}
use Rattle.channel.specs.declared.Served.{Served}
use Rattle.definition.specs.Mem.{Fill, fills, written}
use Rattle.definition.specs.Outcome.{Outcome}
use Rattle.definition.specs.Pending.{next_pending, reject_all_pending, accept_pending, reject_pending, reject_numbered, drop_pending}
use Rattle.definition.specs.Opening.{create, opened, give_up}
use Rattle.definition.specs.Closing.{inc_ref, dec_ref, disconnect, disconnect_by_cid, disconnected, next_disconnect}
use Rattle.definition.specs.Signals.{signalled}
use Rattle.definition.specs.Frames.{send, receive}
use Rattle.definition.specs.Portions.{start_job, give_portion, cancel_job}
use Rattle.definition.specs.Asking.{register_spsm, attention, spsm, mtu, mps, peer_mtu, peer_mps, tally_sent, tally_received, tally_blocked_sends, tally_blocked_receives, send_conn_param_update_req, send_conn_param_update_res}
use Rattle.definition.specs.Calls.{Window, frame, sends, portions, down, plain, Request, register, signals, pends, rejects_all, accepts, rejects, drops, creates, opens, gives, holds, releases, leaves, leaves_cid, announces, takes, starts, cancels, attends, asks, sends_signal, writes, jobs, bare, frame_in, serve, decide}
use Rattle.definition.specs.Ending.{itself, end, end_of, served_of, gave, room_after}
use Rattle.definition.proofs.Ending.{end_given}
use Rattle.definition.specs.Run.{State, lent, nowhere}
use Rattle.definition.specs.Roomless.{roomless_request}
use Rattle.definition.proofs.Roomless.{roomless_call}
use Rattle.definition.proofs.Lift.{frame_in_lem}
use Rattle.rules_code.specs.Called.{Within, Apart, before, behind, Lends, with-room, without_room, Called}
use Rattle.rules_code.specs.Functions.{left}

-- no buffer at all, or the signal buffer, frame output or a job's frame buffer alone
nothing : (s : State) (r : Request) → Lends s (plain r nowhere nowhere)
nothing s r = record { out = omega arith; tray = omega arith; apart = before (omega arith) }

one : (s : State) (r : Request) (w : Window) → Within w s.memory → Lends s (plain r w nowhere)
one s r w h = record { out = h; tray = omega arith; apart = behind (omega arith) }

nothing_lent : (js room : List ℕ) (at : ℕ) (fs : List Fill) → written itself js room at fs [] ≡ []
unfolding written
nothing_lent js room at fs = sets-out [] at (fills itself js room fs) (omega arith)

module _ (s : State) (q : Request) (r : Served) where
  -- nothing is lent
  asked : roomless_request q ≡ true → r ≡ served_of (serve s.table q (length s.room) 0 0) → Called s (plain q nowhere nowhere) r (left r s.room s.memory)
  unfolding jobs bare decide end_of
  asked e h =
      let o = serve s.table q (length s.room) 0 0 in
      let p : room_after s.table [] [] o ≡ [] = (roomless_call s.table (plain q nowhere nowhere) e 0 (length s.room) 0 0).room [] [] in
      let f : end r [] [] [] ≡ end_of s.table [] [] [] [] o = rw (h, p, nothing_lent [] [] o.at o.out, nothing_lent [] [] 0 o.job) in
      record { lends = nothing s q; out = []; tray = []; ends = without_room e f; table = refl; memory = refl }

  -- the signal buffer
  signalling : (w : Window) → Within w s.memory → roomless_request q ≡ true → (out : List ℕ)
      → end r [] out [] ≡ end_of s.table [] [] (lent w s.memory) [] (serve s.table q (length s.room) (length (lent w s.memory)) 0)
      → Called s (plain q w nowhere) r (left r s.room (sets s.memory w.from out))
  unfolding jobs bare decide
  signalling w l e out h = record { lends = one s q w l; out = out; tray = []; ends = without_room e h; table = refl; memory = refl }

  -- the room
  roomed : (room : List ℕ) → end r room [] [] ≡ end_of s.table [] s.room [] [] (serve s.table q (length s.room) 0 0) → Called s (plain q nowhere nowhere) r (left r room s.memory)
  unfolding jobs bare decide
  roomed room h = record { lends = nothing s q; out = []; tray = []; ends = with-room h; table = refl; memory = refl }

  -- both
  told : (w : Window) → Within w s.memory → (room out : List ℕ)
      → end r room out [] ≡ end_of s.table [] s.room (lent w s.memory) [] (serve s.table q (length s.room) (length (lent w s.memory)) 0)
      → Called s (plain q w nowhere) r (left r room (sets s.memory w.from out))
  unfolding jobs bare decide
  told w l room out h = record { lends = one s q w l; out = out; tray = []; ends = with-room h; table = refl; memory = refl }

module _ (s : State) (r : Served) where
  -- ---- lent nothing: registering, the questions, the attention set, the next pending connection, a hold

  pub register_spsm_called : (n : ℕ) → r ≡ served_of (register_spsm s.table n) → Called s (plain (register n) nowhere nowhere) r (left r s.room s.memory)
  unfolding serve
  register_spsm_called n h = asked s (register n) r refl h

  pub spsm-called : (slot : ℕ) → r ≡ served_of (spsm s.table slot) → Called s (plain (asks (λ x. x.spsm) slot) nowhere nowhere) r (left r s.room s.memory)
  unfolding serve
  spsm-called slot h = asked s (asks (λ x. x.spsm) slot) r refl h

  pub mtu-called : (slot : ℕ) → r ≡ served_of (mtu s.table slot) → Called s (plain (asks (λ x. x.mtu) slot) nowhere nowhere) r (left r s.room s.memory)
  unfolding serve
  mtu-called slot h = asked s (asks (λ x. x.mtu) slot) r refl h

  pub mps-called : (slot : ℕ) → r ≡ served_of (mps s.table slot) → Called s (plain (asks (λ x. x.mps) slot) nowhere nowhere) r (left r s.room s.memory)
  unfolding serve
  mps-called slot h = asked s (asks (λ x. x.mps) slot) r refl h

  pub peer_mtu_called : (slot : ℕ) → r ≡ served_of (peer_mtu s.table slot) → Called s (plain (asks (λ x. x.peer.mtu) slot) nowhere nowhere) r (left r s.room s.memory)
  unfolding serve
  peer_mtu_called slot h = asked s (asks (λ x. x.peer.mtu) slot) r refl h

  pub peer_mps_called : (slot : ℕ) → r ≡ served_of (peer_mps s.table slot) → Called s (plain (asks (λ x. x.peer.mps) slot) nowhere nowhere) r (left r s.room s.memory)
  unfolding serve
  peer_mps_called slot h = asked s (asks (λ x. x.peer.mps) slot) r refl h

  pub tally_sent_called : (slot : ℕ) → r ≡ served_of (tally_sent s.table slot) → Called s (plain (asks (λ x. x.tallies.sends.frames) slot) nowhere nowhere) r (left r s.room s.memory)
  unfolding serve
  tally_sent_called slot h = asked s (asks (λ x. x.tallies.sends.frames) slot) r refl h

  pub tally_received_called : (slot : ℕ) → r ≡ served_of (tally_received s.table slot) → Called s (plain (asks (λ x. x.tallies.receives.frames) slot) nowhere nowhere) r (left r s.room s.memory)
  unfolding serve
  tally_received_called slot h = asked s (asks (λ x. x.tallies.receives.frames) slot) r refl h

  pub tally_blocked_sends_called : (slot : ℕ) → r ≡ served_of (tally_blocked_sends s.table slot) → Called s (plain (asks (λ x. x.tallies.sends.blocked) slot) nowhere nowhere) r (left r s.room s.memory)
  unfolding serve
  tally_blocked_sends_called slot h = asked s (asks (λ x. x.tallies.sends.blocked) slot) r refl h

  pub tally_blocked_receives_called : (slot : ℕ) → r ≡ served_of (tally_blocked_receives s.table slot) → Called s (plain (asks (λ x. x.tallies.receives.blocked) slot) nowhere nowhere) r (left r s.room s.memory)
  unfolding serve
  tally_blocked_receives_called slot h = asked s (asks (λ x. x.tallies.receives.blocked) slot) r refl h

  pub attention-called : r ≡ served_of (attention s.table) → Called s (plain attends nowhere nowhere) r (left r s.room s.memory)
  unfolding serve
  attention-called h = asked s attends r refl h

  pub next_pending_called : (link : ℕ) (up : Bool) → r ≡ served_of (next_pending s.table link up) → Called s (plain (pends link up) nowhere nowhere) r (left r s.room s.memory)
  unfolding serve
  next_pending_called link up h = asked s (pends link up) r refl h

  pub inc_ref_called : (slot : ℕ) → r ≡ served_of (inc_ref s.table slot) → Called s (plain (holds slot) nowhere nowhere) r (left r s.room s.memory)
  unfolding serve
  inc_ref_called slot h = asked s (holds slot) r refl h

  -- ---- lent the room: a dropped pending connection, an opening that is polled or given up, a hold released, the closings, an open job cancelled,
  -- a link that is down

  pub drop_pending_called : (slot : ℕ) (room' : List ℕ) → end r room' [] [] ≡ end_of s.table [] s.room [] [] (drop_pending s.table (length s.room) slot)
      → Called s (plain (drops slot) nowhere nowhere) r (left r room' s.memory)
  unfolding serve
  drop_pending_called slot room' h = roomed s (drops slot) r room' h

  pub opened-called : (slot link : ℕ) (up : Bool) (room' : List ℕ) → end r room' [] [] ≡ end_of s.table [] s.room [] [] (opened s.table (length s.room) slot link up)
      → Called s (plain (opens slot link up) nowhere nowhere) r (left r room' s.memory)
  unfolding serve
  opened-called slot link up room' h = roomed s (opens slot link up) r room' h

  pub give_up_called : (slot : ℕ) (room' : List ℕ) → end r room' [] [] ≡ end_of s.table [] s.room [] [] (give_up s.table (length s.room) slot)
      → Called s (plain (gives slot) nowhere nowhere) r (left r room' s.memory)
  unfolding serve
  give_up_called slot room' h = roomed s (gives slot) r room' h

  pub dec_ref_called : (slot : ℕ) (room' : List ℕ) → end r room' [] [] ≡ end_of s.table [] s.room [] [] (dec_ref s.table (length s.room) slot)
      → Called s (plain (releases slot) nowhere nowhere) r (left r room' s.memory)
  unfolding serve
  dec_ref_called slot room' h = roomed s (releases slot) r room' h

  pub disconnect-called : (slot : ℕ) (room' : List ℕ) → end r room' [] [] ≡ end_of s.table [] s.room [] [] (disconnect s.table (length s.room) slot)
      → Called s (plain (leaves slot) nowhere nowhere) r (left r room' s.memory)
  unfolding serve
  disconnect-called slot room' h = roomed s (leaves slot) r room' h

  pub disconnect_by_cid_called : (cid : ℕ) (room' : List ℕ) → end r room' [] [] ≡ end_of s.table [] s.room [] [] (disconnect_by_cid s.table (length s.room) cid)
      → Called s (plain (leaves_cid cid) nowhere nowhere) r (left r room' s.memory)
  unfolding serve
  disconnect_by_cid_called cid room' h = roomed s (leaves_cid cid) r room' h

  pub cancel_job_called : (slot : ℕ) (room' : List ℕ) → end r room' [] [] ≡ end_of s.table [] s.room [] [] (cancel_job s.table (length s.room) slot)
      → Called s (plain (cancels slot) nowhere nowhere) r (left r room' s.memory)
  unfolding serve
  cancel_job_called slot room' h = roomed s (cancels slot) r room' h

  pub disconnected-called : (link : ℕ) (room' : List ℕ) → end r room' [] [] ≡ end_of s.table [] s.room [] [] (disconnected s.table (length s.room) link)
      → Called s (down link) r (left r room' s.memory)
  unfolding jobs bare decide
  disconnected-called link room' h = record { lends = record { out = omega arith; tray = omega arith; apart = before (omega arith) }; out = []; tray = []; ends = with-room h; table = refl; memory = refl }

  -- a frame in: the room, and the payload to read
  pub dispatch-called : (link cid : ℕ) (payload room' : List ℕ)
      → end r room' [] [] ≡ end_of s.table (jobs s.table (frame link cid payload)) s.room [] [] (frame_in s.table (length s.room) link cid payload)
      → Called s (frame link cid payload) r (left r room' s.memory)
  dispatch-called link cid payload room' h =
      let e = ap (λ (o : Outcome). end_of s.table (jobs s.table (frame link cid payload)) s.room [] [] o) (frame_in_lem s link cid payload) in
      record { lends = record { out = omega arith; tray = omega arith; apart = before (omega arith) }; out = []; tray = []; ends = with-room (h ∙ sym e); table = refl; memory = refl }

  -- ---- lent window w of the memory

  module _ (w : Window) (l : Within w s.memory) (signal' : List ℕ) where
    -- the signal buffer alone

    pub send_conn_param_update_req_called : (link min max latency timeout : ℕ) → end r [] signal' [] ≡ end_of s.table [] [] (lent w s.memory) [] (send_conn_param_update_req s.table (length (lent w s.memory)) link min max latency timeout)
        → Called s (plain (sends_signal link (ConnParamUpdateReq (record { min = min; max = max; latency = latency; timeout = timeout }))) w nowhere) r (left r s.room (sets s.memory w.from signal'))
    unfolding serve
    send_conn_param_update_req_called link min max latency timeout h = signalling s (sends_signal link (ConnParamUpdateReq (record { min = min; max = max; latency = latency; timeout = timeout }))) r w l refl signal' h

    pub send_conn_param_update_res_called : (link result : ℕ) → end r [] signal' [] ≡ end_of s.table [] [] (lent w s.memory) [] (send_conn_param_update_res s.table (length (lent w s.memory)) link result)
        → Called s (plain (sends_signal link (ConnParamUpdateRes (record { result = result }))) w nowhere) r (left r s.room (sets s.memory w.from signal'))
    unfolding serve
    send_conn_param_update_res_called link result h = signalling s (sends_signal link (ConnParamUpdateRes (record { result = result }))) r w l refl signal' h

    pub accept_pending_called : (slot : ℕ) (c : L2capChannelConfig) → end r [] signal' [] ≡ end_of s.table [] [] (lent w s.memory) [] (accept_pending s.table (length (lent w s.memory)) slot c)
        → Called s (plain (accepts slot c) w nowhere) r (left r s.room (sets s.memory w.from signal'))
    unfolding serve
    accept_pending_called slot c h = signalling s (accepts slot c) r w l refl signal' h

    pub create-called : (link spsm : ℕ) (c : L2capChannelConfig) → end r [] signal' [] ≡ end_of s.table [] [] (lent w s.memory) [] (create s.table (length (lent w s.memory)) link spsm c)
        → Called s (plain (creates link spsm c) w nowhere) r (left r s.room (sets s.memory w.from signal'))
    unfolding serve
    create-called link spsm c h = signalling s (creates link spsm c) r w l refl signal' h

    -- the room and the signal buffer

    pub reject_all_pending_called : (link : ℕ) (room' : List ℕ) → end r room' signal' [] ≡ end_of s.table [] s.room (lent w s.memory) [] (reject_all_pending s.table (length s.room) (length (lent w s.memory)) link)
        → Called s (plain (rejects_all link) w nowhere) r (left r room' (sets s.memory w.from signal'))
    unfolding serve
    reject_all_pending_called link room' h = told s (rejects_all link) r w l room' signal' h

    pub reject_pending_called : (slot : ℕ) (result : LeCreditConnResultCode) (room' : List ℕ) → end r room' signal' [] ≡ end_of s.table [] s.room (lent w s.memory) [] (reject_pending s.table (length s.room) (length (lent w s.memory)) slot result)
        → Called s (plain (rejects slot (Some result)) w nowhere) r (left r room' (sets s.memory w.from signal'))
    unfolding serve
    reject_pending_called slot result room' h = told s (rejects slot (Some result)) r w l room' signal' h

    -- by a number, which may be no code
    pub reject_numbered_called : (slot result : ℕ) (room' : List ℕ) → end r room' signal' [] ≡ end_of s.table [] s.room (lent w s.memory) [] (reject_numbered s.table (length s.room) (length (lent w s.memory)) slot result)
        → Called s (plain (rejects slot (result_of result)) w nowhere) r (left r room' (sets s.memory w.from signal'))
    unfolding serve
    reject_numbered_called slot result room' h = told s (rejects slot (result_of result)) r w l room' signal' h

    pub next_disconnect_called : (room' : List ℕ) → end r room' signal' [] ≡ end_of s.table [] s.room (lent w s.memory) [] (next_disconnect s.table (length s.room) (length (lent w s.memory)))
        → Called s (plain announces w nowhere) r (left r room' (sets s.memory w.from signal'))
    unfolding serve
    next_disconnect_called room' h = told s announces r w l room' signal' h

    pub signal-called : (link : ℕ) (listening central : Bool) (pdu : List ℕ) (room' : List ℕ) → end r room' signal' [] ≡ end_of s.table [] s.room (lent w s.memory) [] (signalled s.table (length s.room) (length (lent w s.memory)) link listening central pdu)
        → Called s (plain (signals link listening central pdu) w nowhere) r (left r room' (sets s.memory w.from signal'))
    unfolding serve
    signal-called link listening central pdu room' h = told s (signals link listening central pdu) r w l room' signal' h

    -- a send: the frame output, and the SDU to read
    pub send-called : (slot : ℕ) (sdu : List ℕ) → end r [] signal' [] ≡ end_of s.table sdu [] (lent w s.memory) [] (send s.table slot (length sdu) (length (lent w s.memory)))
        → Called s (sends slot sdu w) r (left r s.room (sets s.memory w.from signal'))
    unfolding jobs bare decide
    send-called slot sdu h = record { lends = record { out = l; tray = omega arith; apart = behind (omega arith) }; out = signal'; tray = []; ends = without_room refl h; table = refl; memory = refl }

    -- jobs handed over in portions: the job's frame buffer alone, and for a portion its octets to read

    pub start_job_called : (slot stated : ℕ) → end r [] signal' [] ≡ end_of s.table [] [] (lent w s.memory) [] (start_job s.table slot stated (length (lent w s.memory)))
        → Called s (plain (starts slot stated) w nowhere) r (left r s.room (sets s.memory w.from signal'))
    unfolding serve
    start_job_called slot stated h = signalling s (starts slot stated) r w l refl signal' h

    pub give_portion_called : (slot : ℕ) (octets : List ℕ) → end r [] signal' [] ≡ end_of s.table octets [] (lent w s.memory) [] (give_portion s.table slot (length octets) (length (lent w s.memory)))
        → Called s (portions slot octets w) r (left r s.room (sets s.memory w.from signal'))
    unfolding jobs bare decide
    give_portion_called slot octets h = record { lends = record { out = l; tray = omega arith; apart = behind (omega arith) }; out = signal'; tray = []; ends = without_room refl h; table = refl; memory = refl }

    -- a take: the room, the signal buffer and, apart from it, the job buffer
    pub receive-called : (v : Window) → Within v s.memory → Apart w v → (slot : ℕ) (room' job' : List ℕ)
        → end r room' signal' job' ≡ end_of s.table [] s.room (lent w s.memory) (lent v s.memory) (receive s.table (length s.room) (length (lent w s.memory)) slot (length (lent v s.memory)))
        → Called s (plain (takes slot) w v) r (left r room' (sets (sets s.memory v.from job') w.from signal'))
    unfolding jobs bare decide serve
    receive-called v k a slot room' job' h = record { lends = record { out = l; tray = k; apart = a }; out = signal'; tray = job'; ends = with-room h; table = refl; memory = refl }

-- ---- no function: the caller writes octets into its own memory, from the start of window w, as far as they fit

pub writes-called : (s : State) (w : Window) → Within w s.memory → (octets : List ℕ)
    → Called s (plain (writes octets) w nowhere) (gave Done s.table (length octets)) (record { table = s.table; room = s.room; memory = sets s.memory w.from (sets (lent w s.memory) 0 octets) })
unfolding serve
writes-called s w l octets = signalling s (writes octets) (gave Done s.table (length octets)) w l refl (sets (lent w s.memory) 0 octets) (sym (end_given s.table s.table Done [] [] (lent w s.memory) [] octets))
