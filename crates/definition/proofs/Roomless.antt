-- The calls that are not lent the room: none of them moves an octet of it, and nothing that they write was read from it. Their contracts do
-- not name the room, so this is what says that it stays as it was. (Lift.antt has what follows for their ends.)
use Rattle.std.specs.Prelude.{◌≡◌, Bool, true, Err, Ok, Option, Result}
use Rattle.std.proofs.Math.Path.{refl, ap}
use Rattle.std.proofs.Common.{◌∙◌}
use Rattle.std.proofs.lemmas.Bool.{false≢true}
use mathlib.Core.List.{List, []}
use Prim.Native.Nat.{ℕ, zero, suc, ◌-◌, min}
use Rattle.lists.specs.Choose.{choose, if_cases}
use Rattle.sar_cut.specs.declared.Framed.{Framed}
use Rattle.signal_forms.specs.declared.Signal.{Signal}
use Rattle.channel.specs.declared.L2capChannelConfig.{L2capChannelConfig}
use Rattle.channel.specs.declared.OpenJob.{OpenJob}
use Rattle.channel.specs.declared.Slot.{Slot}
use Rattle.channel.specs.declared.Table.{Table}
use Rattle.definition.specs.Mem.{Fill, job, Move, parts}
use Rattle.definition.specs.Table.{width, slot_at, found, is_free, pending_of}
use Rattle.definition.specs.Outcome.{Outcome, only, verdict, passed, gate}
use Rattle.definition.specs.Pending.{next_pending, accept_pending}
use Rattle.definition.specs.Opening.{create}
use Rattle.definition.specs.Closing.{inc_ref}
use Rattle.definition.specs.Frames.{planned, send, later_frames, frames}
use Rattle.definition.specs.Portions.{start_planned, start_job, begins, filled_with, give_portion}
use Rattle.definition.specs.Asking.{register_spsm, attention, query, send_signal}
use Rattle.definition.specs.Calls.{Call, frame, sends, portions, down, plain, Request, register, signals, pends, rejects_all, accepts, rejects, drops, creates, opens, gives, holds, releases, leaves, leaves_cid, announces, takes, starts, cancels, attends, asks, sends_signal, writes, bare, serve, decide}
use Rattle.definition.specs.Ending.{itself}
use Rattle.definition.proofs.Ending.{parts_none}
use Rattle.definition.specs.Roomless.{Roomless, roomless, roomless_request, unheld_all}
use Rattle.codes.specs.declared.Refusal.{Refusal}

module _ (t : Table) where
  none : {o : Outcome} → o.parts ≡ [] → unheld_all o.out ≡ true → unheld_all o.job ≡ true → Roomless t o
  unfolding parts
  none {o} e f g = record { room = λ js room. ap (λ (mss : List (List Move)). parts itself js (width t) mss room) e; out = f; tray = g }

  at : (s : ℕ) {o : Outcome} → o.parts ≡ only s [] → unheld_all o.out ≡ true → unheld_all o.job ≡ true → Roomless t o
  at s {o} e f g = record { room = λ js room. ap (λ (mss : List (List Move)). parts itself js (width t) mss room) e ∙ parts_none js (width t) s room; out = f; tray = g }

  of-passed : (v : Result (Unit {0}) Refusal) {o : Outcome} → Roomless t o → Roomless t (passed t v o)
  of-passed (Ok tt) p = p
  of-passed (Err r) p = none refl refl refl

  of-gate : (room signal link slot : Option ℕ) {o : Outcome} → Roomless t o → Roomless t (gate t room signal link slot o)
  of-gate room signal link slot p = of-passed (verdict t room signal link slot) p

  of-both : (b : Bool) {x y : Outcome} → Roomless t x → Roomless t y → Roomless t (choose b x y)
  of-both b p q = if_cases (Roomless t) b (λ _. p) (λ _. q)

  register_roomless : (spsm : ℕ) → Roomless t (register_spsm t spsm)
  unfolding register_spsm
  register_roomless spsm = of-gate _ _ _ _ (of-both _ (none refl refl refl) (none refl refl refl))

  pends_roomless : (link : ℕ) (up : Bool) → Roomless t (next_pending t link up)
  unfolding next_pending
  pends_roomless link up = of-gate _ _ _ _ (of-both _ (of-both _ (none refl refl refl) (none refl refl refl)) (of-both _ (none refl refl refl) (at (found (pending_of link) t) refl refl refl)))

  accepts_roomless : (signal s : ℕ) (c : L2capChannelConfig) → Roomless t (accept_pending t signal s c)
  unfolding accept_pending
  accepts_roomless signal s c = of-gate _ _ _ _ (of-both _ (none refl refl refl) (of-both _ (none refl refl refl) (of-both _ (none refl refl refl) (of-both _ (none refl refl refl) (at s refl refl refl)))))

  creates_roomless : (signal link spsm : ℕ) (c : L2capChannelConfig) → Roomless t (create t signal link spsm c)
  unfolding create
  creates_roomless signal link spsm c = of-gate _ _ _ _ (of-both _ (none refl refl refl) (of-both _ (none refl refl refl) (of-both _ (none refl refl refl) (at (found is_free t) refl refl refl))))

  holds-roomless : (s : ℕ) → Roomless t (inc_ref t s)
  unfolding inc_ref
  holds-roomless s = of-gate _ _ _ _ (of-both _ (none refl refl refl) (at s refl refl refl))

  attends_roomless : Roomless t (attention t)
  unfolding attention
  attends_roomless = of-gate _ _ _ _ (none refl refl refl)

  asks_roomless : (of : Slot → ℕ) (s : ℕ) → Roomless t (query of t s)
  unfolding query
  asks_roomless of s = of-gate _ _ _ _ (none refl refl refl)

  sends_signal_roomless : (signal link : ℕ) (x : Signal) → Roomless t (send_signal t signal link x)
  unfolding send_signal
  sends_signal_roomless signal link x = of-gate _ _ _ _ (none refl refl refl)

  later-unheld : (cid mps l n from : ℕ) → unheld_all (later_frames cid mps l n from) ≡ true
  unfolding later_frames
  later-unheld cid mps l zero from = refl
  later-unheld cid mps l (suc n) from = later-unheld cid mps l n _

  planned-roomless : (s l : ℕ) (x : Slot) (p : Result Framed Refusal) → Roomless t (planned t s x l p)
  unfolding planned frames
  planned-roomless s l x (Err r) = of-both _ (at s refl refl refl) (none refl refl refl)
  planned-roomless s l x (Ok framed) = at s refl (later-unheld x.peer.cid x.peer.mps l (framed.n - 1) (min l (x.peer.mps - 2))) refl

  sends_roomless : (s l out : ℕ) → Roomless t (send t s l out)
  unfolding send
  sends_roomless s l out = of-gate _ _ _ _ (of-both _ (none refl refl refl) (of-both _ (none refl refl refl) (planned-roomless s l _ _)))

  started-roomless : (s l size : ℕ) (x : Slot) (p : Result Framed Refusal) → Roomless t (start_planned t s x l size p)
  unfolding start_planned
  started-roomless s l size x (Err r) = of-both _ (at s refl refl refl) (none refl refl refl)
  started-roomless s l size x (Ok framed) = of-both _ (none refl refl refl) (at s refl refl refl)

  starts_roomless : (s l size : ℕ) → Roomless t (start_job t s l size)
  unfolding start_job
  starts_roomless s l size = of-gate _ _ _ _ (of-both _ (none refl refl refl) (of-both _ (none refl refl refl) (started-roomless s l size _ _)))

  filled-unheld : (cid mps count : ℕ) (j : OpenJob) → unheld_all (filled_with cid mps j count) ≡ true
  filled-unheld cid mps count j = if_cases (λ (fs : List Fill). unheld_all fs ≡ true) (begins mps j count) (λ _. refl) (λ _. refl)

  portions_roomless : (s count size : ℕ) → Roomless t (give_portion t s count size)
  unfolding give_portion
  portions_roomless s count size =
      of-gate _ _ _ _ (of-both _ (none refl refl refl) (of-both _ (none refl refl refl) (of-both _ (none refl refl refl) (of-both _ (none refl refl refl)
      (at s refl (filled-unheld (slot_at t s).peer.cid (slot_at t s).peer.mps count (slot_at t s).job) refl)))))

  request-roomless : (r : Request) → roomless_request r ≡ true → (room out tray : ℕ) → Roomless t (serve t r room out tray)
  unfolding serve
  request-roomless (register spsm) e room out tray = register_roomless spsm
  request-roomless (signals link listening central pdu) e room out tray = absurd (false≢true e)
  request-roomless (pends link up) e room out tray = pends_roomless link up
  request-roomless (rejects_all link) e room out tray = absurd (false≢true e)
  request-roomless (accepts s c) e room out tray = accepts_roomless out s c
  request-roomless (rejects s result) e room out tray = absurd (false≢true e)
  request-roomless (drops s) e room out tray = absurd (false≢true e)
  request-roomless (creates link spsm c) e room out tray = creates_roomless out link spsm c
  request-roomless (opens s link up) e room out tray = absurd (false≢true e)
  request-roomless (gives s) e room out tray = absurd (false≢true e)
  request-roomless (holds s) e room out tray = holds-roomless s
  request-roomless (releases s) e room out tray = absurd (false≢true e)
  request-roomless (leaves s) e room out tray = absurd (false≢true e)
  request-roomless (leaves_cid cid) e room out tray = absurd (false≢true e)
  request-roomless announces e room out tray = absurd (false≢true e)
  request-roomless (takes s) e room out tray = absurd (false≢true e)
  request-roomless (starts s l) e room out tray = starts_roomless s l out
  request-roomless (cancels s) e room out tray = absurd (false≢true e)
  request-roomless attends e room out tray = attends_roomless
  request-roomless (asks of s) e room out tray = asks_roomless of s
  request-roomless (sends_signal link s) e room out tray = sends_signal_roomless out link s
  request-roomless (writes octets) e room out tray = none refl refl refl

  pub roomless_call : (c : Call) → roomless c ≡ true → (count room out tray : ℕ) → Roomless t (decide t (bare t c) count room out tray)
  unfolding decide bare
  roomless_call (frame link cid payload) e count room out tray = absurd (false≢true e)
  roomless_call (sends s sdu w) e count room out tray = sends_roomless s count out
  roomless_call (portions s octets w) e count room out tray = portions_roomless s count out
  roomless_call (down link) e count room out tray = absurd (false≢true e)
  roomless_call (plain r v w) e count room out tray = request-roomless r e room out tray
