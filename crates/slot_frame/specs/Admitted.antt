-- A frame that has passed the first refusals and the test of its CID: the step that its length octets and the number of its job octets decide (definition,
-- Calls.antt) is that which its payload decides, and what the definition has for the table is the work on its slot (FrameIn.antt), put into the table.
use Rattle.std.specs.Prelude.{◌≡◌, Bool, not, ℕ, ◌+◌, eqb, length, take, drop, Result, Ok, Err}
use Rattle.std.proofs.Math.Path.{refl}
use Rattle.std.proofs.Common.{sym, ap, ◌∙◌, arith, length-take, length-drop, get_or-take}
use Rattle.std.proofs.Math.Bool.{true, false}
use mathlib.Core.List.{List, []}
use Rattle.std.proofs.Math.Nat.{zero-add}
use Rattle.lists.specs.Choose.{choose, if_cases}
use Rattle.octets.specs.Octets.{u16_at}
use Rattle.codes.specs.declared.Refusal.TheVariants.{InvalidChannelId, NotFound, OutOfMemory}
use Rattle.credit.specs.Account.{received}
use Rattle.sar_join.specs.declared.Assembly.{Assembly}
use Rattle.sar_join.specs.declared.Joined.{Joined}
use Rattle.sar_join.specs.declared.Joined.TheVariants as Joined
use Rattle.sar_join.specs.Joining.{is_idle, job_octets, join_step}
use Rattle.channel.specs.declared.Answer.TheVariants.{Done, Refused}
use Rattle.channel.specs.declared.Slot.{Slot}
use Rattle.channel.specs.declared.Table.{Table}
use Rattle.definition.specs.Mem.{sizes}
use Rattle.definition.specs.Table.{slot_at, is_cid, slot_of, place_of, is_connected, with_account, count_received, count_blocked_receive}
use Rattle.definition.specs.Outcome.{Outcome, change, refuse, done}
use Rattle.definition.specs.Frames.{joined, admitted}
use Rattle.definition.specs.Calls.{frame, head_of, jobs}
use Rattle.definition.specs.Ending.{end, end_of, served_of}
use Rattle.definition.proofs.Ending.{end-still}
use Rattle.slot_work.specs.Work.{Work, kept, becomes, in_table, end_kept}
use Rattle.slot_frame.specs.FrameIn.{joined_to, join_of, frame_of}
use Rattle.codes.specs.declared.Refusal.{Refusal}

-- ---- a frame to a slot with the assembly a

swap : {A : Type 0} (b : Bool) (x y : A) → choose (not b) x y ≡ choose b y x
unfolding choose
swap true x y = refl
swap false x y = refl

passes : {A : Type 0} (b : Bool) → b ≡ true → (u : A) {v : A} → choose (not b) u v ≡ v
unfolding choose
passes b e u = rw e

stops : {A : Type 0} (b : Bool) → b ≡ false → (u v : A) → choose (not b) u v ≡ u
unfolding choose
stops b e u v = rw e

both-parts : (n : ℕ) (p : List ℕ) → length (take n p) + length (drop n p) ≡ length p
both-parts n p = rw (length-take n p, length-drop n p) (omega arith)

said_first : (p : List ℕ) → u16_at (take 2 p) 0 ≡ u16_at p 0
said_first p = rw (get_or-take 2 p 0 0 (omega arith), get_or-take 2 p 1 0 (omega arith))

module _ (t : Table) (link cid : ℕ) (p : List ℕ) (a : Assembly) (named : is_cid t cid ≡ true) (mine : (slot_at t (slot_of cid)).assembly ≡ a) where
  jobs_are : jobs t (frame link cid p) ≡ job_octets a p
  unfolding jobs job_octets
  jobs_are = rw (named, mine, swap (is_idle a) p (drop 2 p))

  head-is : head_of t cid p ≡ choose (is_idle a) (take 2 p) []
  head-is = rw (named, mine, swap (is_idle a) [] (take 2 p))

-- the step that the length octets and the number of job octets decide is that which the payload decides
module _ (mtu mps d : ℕ) (a : Assembly) (q : ℕ) (p : List ℕ) where
  step_of : (b : Bool) → is_idle a ≡ b
      → join_step mtu mps d a q (length (choose (is_idle a) (take 2 p) []) + length (job_octets a p)) (u16_at (choose (is_idle a) (take 2 p) []) 0) ≡ join_step mtu mps d a q (length p) (u16_at p 0)
  unfolding join_step job_octets choose
  step_of true e = rw (e, both-parts 2 p, said_first p)
  step_of false e = rw (e, zero-add (length p))

-- ---- a frame writes nothing to an output

abbrev Quiet : Work → Type 0
Quiet w = w.out ≡ []

joined-quiet : (place : ℕ) (x : Slot) (count : ℕ) (j : Result Joined Refusal) → (joined_to place x count j).out ≡ []
unfolding joined_to
joined-quiet place x count (Err r) = refl
joined-quiet place x count (Ok (Joined.Assembling a)) = refl
joined-quiet place x count (Ok (Joined.Finished len)) = refl
joined-quiet place x count (Ok Joined.Dropped) = refl

pub frame-quiet : (d place : ℕ) (x : Slot) (link : ℕ) (p : List ℕ) → (frame_of d place x link p).out ≡ []
unfolding frame_of
frame-quiet d place x link p =
    if_cases Quiet (not (is_connected x.state)) (λ _. refl)
    (λ _. if_cases Quiet (not (eqb x.link link)) (λ _. refl)
    (λ _. if_cases Quiet (eqb x.account.credits 0) (λ _. refl) (λ _. joined-quiet place _ _ _)))

-- ---- the slot's work in its table

joined_in : (t : Table) (s : ℕ) (x : Slot) (count : ℕ) (j : Result Joined Refusal) → in_table t s (joined_to (place_of t) x count j) ≡ joined t s x count j
unfolding joined joined_to
joined_in t s x count (Err r) = refl
joined_in t s x count (Ok (Joined.Assembling a)) = refl
joined_in t s x count (Ok (Joined.Finished len)) = refl
joined_in t s x count (Ok Joined.Dropped) = refl

-- the slot's tests are the table's, in the same order; a slot that stays leaves its table, and one without credit its tally alone
module _ (t : Table) (s : ℕ) (js room : List ℕ) where
  tests : (b c e : Bool) (w : Work) (o : Outcome) → end_of t js room [] [] (in_table t s w) ≡ end_of t js room [] [] o
      → end_of t js room [] [] (in_table t s (choose b (kept (slot_at t s) Done) (choose c (kept (slot_at t s) (Refused NotFound)) (choose e (becomes (count_blocked_receive (slot_at t s)) [] (Refused OutOfMemory)) w))))
      ≡ end_of t js room [] [] (choose b (done t) (choose c (refuse t NotFound) (choose e (change t s (count_blocked_receive (slot_at t s)) [] (Refused OutOfMemory) []) o)))
  unfolding choose
  tests true c e w o h = end_kept t s Done js room [] []
  tests false true e w o h = end_kept t s (Refused NotFound) js room [] []
  tests false false true w o h = refl
  tests false false false w o h = h

-- The definition's `admitted`, behind the test of the CID, is the slot's work, put into the table and the room.
pub frame-admitted : (t : Table) (link cid : ℕ) (p room : List ℕ) → is_cid t cid ≡ true
    → end_of t (job_octets (slot_at t (slot_of cid)).assembly p) room [] [] (in_table t (slot_of cid) (frame_of t.d (place_of t) (slot_at t (slot_of cid)) link p))
    ≡ end_of t (jobs t (frame link cid p)) room [] [] (admitted t link cid (head_of t cid p) (length (jobs t (frame link cid p))))
unfolding frame_of
frame-admitted t link cid p room named =
    let s = slot_of cid in
    let x = slot_at t s in
    let a = x.assembly in
    let js = job_octets a p in
    let y = count_received (with_account (received x.account 1) x) in
    let step = join_step x.mtu x.mps t.d a x.queue.count (length p) (u16_at p 0) in
    rw (jobs_are t link cid p a named refl, head-is t link cid p a named refl, step_of x.mtu x.mps t.d a x.queue.count p (is_idle a) refl, passes (is_cid t cid) named (refuse t InvalidChannelId))
    (tests t s js room (not (is_connected x.state)) (not (eqb x.link link)) (eqb x.account.credits 0) (join_of t.d (place_of t) y p) (joined t s y (length js) step)
    (ap (end_of t js room [] []) (joined_in t s y (length js) step)))

-- A CID that names no slot is refused, and nothing changes.
pub frame_astray : (t : Table) (link cid : ℕ) (p room : List ℕ) → is_cid t cid ≡ false
    → end (served_of (refuse t InvalidChannelId)) room [] [] ≡ end_of t (jobs t (frame link cid p)) room [] [] (admitted t link cid (head_of t cid p) (length (jobs t (frame link cid p))))
unfolding sizes
frame_astray t link cid p room e =
    let js = jobs t (frame link cid p) in
    sym (end-still t t (Refused InvalidChannelId) js room [] []) ∙ ap (end_of t js room [] []) (sym (stops (is_cid t cid) e (refuse t InvalidChannelId) _))
