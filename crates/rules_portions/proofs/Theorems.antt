-- THE THEOREMS of a job handed over in portions. What they say is on the page Statement.antt.
use Rattle.std.specs.Prelude.{◌≡◌, Bool, false, ℕ, zero, suc, ◌+◌, ◌-◌, ◌*◌, ◌≤◌, ◌<◌, take}
use Rattle.std.proofs.Math.Path.{refl, ap, subst}
use Rattle.std.proofs.Common.{sym, ap₂, ◌∙◌, suc-mul, zero-add, add-zero, not-suc-le-zero, arith, length-drop, length-take, lt-ltb, eq-eqb, ne_eqb}
use Rattle.std.proofs.Math.Bool.{true}
use Rattle.std.proofs.lemmas.Bool.{false≢true}
use mathlib.Core.List.{List, [], ◌∷◌, map}
use Rattle.std.proofs.Math.Nat.{zero-mul}
use Rattle.std.proofs.Math.ListN.{length, get_or}
use Rattle.std.proofs.lemmas.List.Edits.{sets}
use Rattle.std.proofs.Math.Seq.{get_or-set_same}
use Rattle.lists.specs.Choose.{choose_true, choose_false}
use Rattle.lists.specs.Both.{false_unless}
use Rattle.codes.specs.Limits.{size_least}
use Rattle.octets.specs.Octets.{part}
use Rattle.octets.specs.Sets.{part_same}
use Rattle.sar_cut.specs.Cutting.{ceil, frame_count, frames_length, stream, piece_at, pieces_from, pieces, payloads, frame, joined, frame_at, frames_of}
use Rattle.sar_frames.specs.Theorems.{cut}
use Rattle.channel.specs.declared.Answer.TheVariants.{Done, Frames, Portion}
use Rattle.channel.specs.declared.ChannelState.TheVariants.{Disconnecting}
use Rattle.channel.specs.declared.OpenJob.{OpenJob}
use Rattle.channel.specs.declared.Slot.{Slot}
use Rattle.channel.specs.declared.Tallies.{Tallies}
use Rattle.definition.specs.Mem.{given, fill, fills}
use Rattle.definition.specs.Slots.{no_job, with_job, with_tallies, with_peer_credits, count_sent, left}
use Rattle.definition.specs.Table.{gap, slot_at, is_open}
use Rattle.definition.specs.Outcome.{Outcome}
use Rattle.definition.specs.Frames.{first_header, frames}
use Rattle.definition.specs.Portions.{given_out, longest, buffer_size, begun, taking, full_with, returned}
use Rattle.definition.specs.Calls.{Window, sends, jobs, bare, serve, decide}
use Rattle.definition.specs.Run.{State, lent, outcome, after}
use Rattle.rules_portions.specs.Statement.{slot_in, job_in, starting, cancelling, portion_of, HandedOn, uncounted, Delivery, rest, portion, Alone, Silent, calls, somes, Admits, Goes, AsSend, frames_from, SameFrames, OwnOctets, Tallied, Credits, Cancelled, Ends}
use Rattle.rules_portions.specs.Filling.{Filling, Standing, filling, closed}
use Rattle.rules_portions.proofs.Filling.{begun-filling, out-whole, taken_less, takes_some, taken_then, empty_full, empty_one}
use Rattle.rules_portions.specs.Answered.{Leaves, Starts, Cancels}
use Rattle.rules_portions.proofs.Answered.{filling-leaves, slot_there, portion_takes, portion-is, start_starts, start_is, send_sends, send-is, cancel_cancels}
use Rattle.rules_portions.proofs.Delivered.{Ready, handed, slot-after, is-filling, given_frames, next, Delivered, delivered}
use Rattle.rules_portions.proofs.Sent.{frames_octets, frames-sizes}

-- ---- frames one by one are the frames of a send

frames-map : (cid mps : ℕ) (sdu : List ℕ) (k c : ℕ) → frames_from cid mps sdu k c ≡ map (frame cid) (pieces_from mps (stream sdu) k c)
unfolding frames_from frame_at pieces_from
frames-map cid mps sdu k zero = refl
frames-map cid mps sdu k (suc c) = ap (λ (r : List (List ℕ)). frame_at cid mps sdu k ∷ r) (frames-map cid mps sdu (suc k) c)

pub frames_all : (cid mps : ℕ) (sdu : List ℕ) → frames_from cid mps sdu 0 (frame_count (length sdu) mps) ≡ map (frame cid) (payloads mps sdu)
unfolding payloads pieces frame_count stream
frames_all cid mps sdu =
    let e : length sdu + 2 ≡ length (stream sdu) = omega arith in
    frames-map cid mps sdu 0 (ceil (length sdu + 2) mps) ∙ ap (λ (x : ℕ). map (frame cid) (pieces_from mps (stream sdu) 0 (ceil x mps))) e

frames-whole : (cid mps : ℕ) (sdu : List ℕ) → joined (frames_from cid mps sdu 0 (frame_count (length sdu) mps)) ≡ frames_of cid mps sdu
unfolding frames_of
frames-whole cid mps sdu = ap joined (frames_all cid mps sdu)

frames-at : (cid mps : ℕ) (sdu : List ℕ) (j c k : ℕ) → k < c → get_or (frames_from cid mps sdu j c) k [] ≡ frame_at cid mps sdu (j + k)
unfolding frames_from
frames-at cid mps sdu j zero k h = absurd (not-suc-le-zero h)
frames-at cid mps sdu j (suc c) zero h = rw add-zero refl
frames-at cid mps sdu j (suc c) (suc k) h = frames-at cid mps sdu (suc j) c k (omega arith) ∙ ap (frame_at cid mps sdu) (omega arith)

-- ---- the slot, with no other call on it

alone : (i : ℕ) (sdu : List ℕ) {s s' : State} {b b' : List ℕ} {fs : List (List ℕ)} (d : Delivery i sdu s b s' b' fs) → Alone d
    → uncounted (slot_in s' i) ≡ uncounted (with_job (job_in s' i) (slot_in s i))
unfolding Alone
alone i sdu rest al = refl
alone i sdu {s} {s'} (portion {u = u} w c link taken full h a d) al =
    alone i sdu d al.1 ∙ ap (λ (y : Slot). uncounted (with_job (job_in s' i) y)) (slot-after i sdu u w c link taken full a) ∙ ap (with_job (job_in s' i)) al.0

-- portions count nothing
silent : (i : ℕ) (sdu : List ℕ) {s s' : State} {b b' : List ℕ} {fs : List (List ℕ)} (d : Delivery i sdu s b s' b' fs) → Silent d → (slot_in s' i).tallies ≡ (slot_in s i).tallies
unfolding Silent
silent i sdu rest q = refl
silent i sdu (portion {u = u} w c link taken full h a d) q = silent i sdu d q.1 ∙ ap (λ (y : Slot). y.tallies) (slot-after i sdu u w c link taken full a) ∙ q.0

later : (k m : ℕ) → 0 < k → 2 ≤ m → k * m ≡ 0 → ⊥
later zero m h w e = not-suc-le-zero h
later (suc k) m h w e = omega (arith, suc-mul k m)

-- ---- it was open before a portion, and what is taken counts

portion_open : (i : ℕ) (sdu : List ℕ) (u : State) (w : Window) (c link taken : ℕ) (full : Bool) → (outcome u (portion_of u i sdu w c)).answer ≡ Portion link taken full → is_open (job_in u i) ≡ true
unfolding decide bare jobs
portion_open i sdu u w c link taken full a = (portion_takes u.table i (length (part sdu (job_in u i).taken c)) (length (lent w u.memory)) link taken full a).going

portion-full : (i : ℕ) (sdu : List ℕ) (u : State) (w : Window) (c link taken : ℕ) (full : Bool) → (outcome u (portion_of u i sdu w c)).answer ≡ Portion link taken full
    → full ≡ full_with (slot_in u i).peer.mps (job_in u i) (length (part sdu (job_in u i).taken c))
unfolding decide bare jobs
portion-full i sdu u w c link taken full a = (portion_takes u.table i (length (part sdu (job_in u i).taken c)) (length (lent w u.memory)) link taken full a).filled

open_back : (i : ℕ) (sdu : List ℕ) {s s' : State} {b b' : List ℕ} {fs : List (List ℕ)} → Delivery i sdu s b s' b' fs → is_open (job_in s' i) ≡ true → is_open (job_in s i) ≡ true
open_back i sdu rest o = o
open_back i sdu (portion {u = u} w c link taken full h a d) o = ap is_open (sym h.job) ∙ portion_open i sdu u w c link taken full a

-- the octets taken with a portion, where the job is open still
portion-taken : (i : ℕ) (sdu : List ℕ) (u : State) (w : Window) (c link taken : ℕ) (full : Bool) → (outcome u (portion_of u i sdu w c)).answer ≡ Portion link taken full
    → is_open (job_in (after u (portion_of u i sdu w c)) i) ≡ true
    → (job_in (after u (portion_of u i sdu w c)) i).taken ≡ (job_in u i).taken + taking (slot_in u i).peer.mps (job_in u i) (length (part sdu (job_in u i).taken c))
portion-taken i sdu u w c link taken full a o =
    let e = slot-after i sdu u w c link taken full a in
    ap (λ (y : Slot). y.job.taken) e
    ∙ taken_then (slot_in u i).peer.mps (job_in u i) (length (part sdu (job_in u i).taken c)) (ap (λ (y : Slot). is_open y.job) (sym e) ∙ o)

taken_grows : (i : ℕ) (sdu : List ℕ) {k : ℕ} {s s' : State} {b b' : List ℕ} {fs : List (List ℕ)} (d : Delivery i sdu s b s' b' fs) → Ready i sdu k s b → 0 < length sdu
    → is_open (job_in s' i) ≡ true → somes d + (job_in s i).taken ≤ (job_in s' i).taken
unfolding somes
taken_grows i sdu rest r h o = omega arith
taken_grows i sdu {k = k} {s = s} {s' = s'} (portion {u = u} w zero link taken full g a d) r h o =
    let z = taken_grows i sdu {k = k + length (given_frames i sdu u w 0 link taken full a)} d (next i sdu u w 0 link taken full a (handed i sdu g r)).ready h o in
    let t = portion-taken i sdu u w 0 link taken full a (open_back i sdu d o) in
    let q : (job_in u i).taken ≡ (job_in s i).taken = ap (λ (j : OpenJob). j.taken) g.job in
    omega arith
taken_grows i sdu {k = k} {s = s} {s' = s'} (portion {u = u} w (suc c) link taken full g a d) r h o =
    let v = handed i sdu g r in
    let z = taken_grows i sdu {k = k + length (given_frames i sdu u w (suc c) link taken full a)} d (next i sdu u w (suc c) link taken full a v).ready h o in
    let t = portion-taken i sdu u w (suc c) link taken full a (open_back i sdu d o) in
    let p = takes_some v.wide (is-filling i sdu u w (suc c) link taken full a v) (suc c) h (omega arith) in
    let q : (job_in u i).taken ≡ (job_in s i).taken = ap (λ (j : OpenJob). j.taken) g.job in
    omega arith

-- a job that is open is being filled
filling_open : {cid mps : ℕ} {sdu : List ℕ} {k : ℕ} {j : OpenJob} {b : List ℕ} → is_open j ≡ true → Standing cid mps sdu k j b → Filling cid mps sdu k j b
filling_open o (filling f) = f
filling_open o (closed e c) = absurd (false≢true (ap is_open (sym e) ∙ o))

-- a portion of a job of 0 octets closes it
empty_shut : (i : ℕ) (sdu : List ℕ) {k : ℕ} {s s' : State} {b b' : List ℕ} {fs : List (List ℕ)} (d : Delivery i sdu s b s' b' fs) → Ready i sdu k s b → length sdu ≡ 0
    → 0 < calls d → is_open (job_in s' i) ≡ true → ⊥
unfolding calls
empty_shut i sdu rest r z m o = not-suc-le-zero m
empty_shut i sdu {k = k} (portion {u = u} w c link taken full g a d) r z m o =
    let v = handed i sdu g r in
    let f = is-filling i sdu u w c link taken full a v in
    let e : full ≡ true = portion-full i sdu u w c link taken full a ∙ empty_full v.wide f z (length (part sdu (job_in u i).taken c)) in
    let n = next i sdu u w c link taken full a v in
    let p = filling_open (open_back i sdu d o) n.ready.is in
    let one : length (given_frames i sdu u w c link taken full a) ≡ 1 = ap length (choose_true _ _ _ e) in
    let m = (slot_in (after u (portion_of u i sdu w c)) i).peer.mps in
    let most : frame_count (length sdu) m ≤ 1 = subst (λ (l : ℕ). frame_count l m ≤ 1) (sym z) (empty_one m n.ready.wide) in
    let q = p.paid in
    let t = p.credit in
    omega arith

-- ---- a send gives out the frames of its SDU

pub sent_octets_lem : (s : State) (i : ℕ) (sdu : List ℕ) (v : Window) (link n : ℕ) → (outcome s (sends i sdu v)).answer ≡ Frames link n
    → take (outcome s (sends i sdu v)).octets (lent v (after s (sends i sdu v)).memory) ≡ frames_of (slot_in s i).peer.cid (slot_in s i).peer.mps sdu
unfolding decide bare jobs
sent_octets_lem s i sdu v link n e =
    let x = slot_in s i in
    let cid = x.peer.cid in
    let mps = x.peer.mps in
    let b = lent v s.memory in
    let z = send_sends s.table i (length sdu) (length b) link n e in
    let wide : size_least ≤ mps = z.allowed.wide in
    let count = z.allowed.frames in
    let all = frames_of cid mps sdu in
    let len : length all ≡ frames_length (length sdu) mps = (cut mps cid sdu (omega arith)).octets in
    let l = filling-leaves s (sends i sdu v) i (count_sent n (with_peer_credits (x.peer.credits - n) x)) _ 0 (frames cid mps (length sdu) n) _ refl (slot_there s.table i z.admits.on) z.is in
    let o : (outcome s (sends i sdu v)).octets ≡ length all = ap (λ (o : Outcome). o.octets) z.is ∙ frames-sizes cid mps sdu (omega arith) n count ∙ sym len in
    let m : lent v (after s (sends i sdu v)).memory ≡ sets b 0 all = l.buffer ∙ ap (sets b 0) (frames_octets cid mps sdu s.room (omega arith) n count) in
    ap₂ take o m ∙ part_same 0 b 0 all (let q = z.allowed.holds in omega arith)

pub sent-slot : (s : State) (i : ℕ) (sdu : List ℕ) (v : Window) (link n : ℕ) → (outcome s (sends i sdu v)).answer ≡ Frames link n
    → slot_in (after s (sends i sdu v)) i ≡ count_sent n (with_peer_credits ((slot_in s i).peer.credits - n) (slot_in s i))
unfolding decide bare jobs after
sent-slot s i sdu v link n e =
    let z = send_sends s.table i (length sdu) (length (lent v s.memory)) link n e in
    ap (λ (o : Outcome). slot_at o.table i) z.is
    ∙ get_or-set_same s.table.slots i (count_sent n (with_peer_credits ((slot_in s i).peer.credits - n) (slot_in s i))) gap (slot_there s.table i z.admits.on)

-- ---- a start and a send of the same job

module _ (s : State) (i : ℕ) (sdu : List ℕ) (w : Window) (link n : ℕ) where
  abbrev x : Slot
  x = slot_in s i

  start_as_send : (v : Window) → (outcome s (sends i sdu v)).answer ≡ Frames link n → buffer_size x.peer.mps (length sdu) ≤ length (lent w s.memory)
      → (outcome s (starting i (length sdu) w)).answer ≡ Frames link n
  unfolding decide bare jobs serve
  start_as_send v a big =
      let z = send_sends s.table i (length sdu) (length (lent v s.memory)) link n a in
      let q = z.allowed in
      start_is s.table i (length sdu) (length (lent w s.memory)) n z.admits z.shut
      (record { fits = q.fits; short = q.short; wide = q.wide; paid = q.paid; holds = omega arith; frames = q.frames; long = refl }) big
      ∙ ap (λ (k : ℕ). Frames k n) (sym z.own)

  module _ (a : (outcome s (starting i (length sdu) w)).answer ≡ Frames link n) where
    starts : Starts s.table i (length sdu) (length (lent w s.memory)) link n (outcome s (starting i (length sdu) w))
    unfolding decide bare jobs serve
    starts = start_starts s.table i (length sdu) (length (lent w s.memory)) link n a

    send_as_start : (v : Window) → frames_length (length sdu) x.peer.mps ≤ length (lent v s.memory) → (outcome s (sends i sdu v)).answer ≡ Frames link n
    unfolding decide bare jobs serve
    send_as_start v big =
        let q = starts.allowed in
        send-is s.table i (length sdu) (length (lent v s.memory)) n starts.admits starts.shut
        (record { fits = q.fits; short = q.short; wide = q.wide; paid = q.paid; holds = big; frames = q.frames; long = refl })
        ∙ ap (λ (k : ℕ). Frames k n) (sym starts.own)

    -- ---- what the start leaves

    abbrev s₁ : State
    s₁ = after s (starting i (length sdu) w)

    abbrev b₁ : List ℕ
    b₁ = lent w s₁.memory

    wide : size_least ≤ x.peer.mps
    wide = starts.allowed.wide

    count : n ≡ frame_count (length sdu) x.peer.mps
    count = starts.allowed.frames

    paid : n ≤ x.peer.credits
    paid = let p = starts.allowed.paid in let c = count in omega arith

    leaves : Leaves s (starting i (length sdu) w) i (with_job (begun (length sdu) n) (count_sent n (with_peer_credits (x.peer.credits - n) x))) 0
        (given (first_header x.peer.cid (longest x.peer.mps (length sdu)) (length sdu)) ∷ [])
    leaves = filling-leaves s (starting i (length sdu) w) i _ _ _ _ _ refl (slot_there s.table i starts.admits.on) starts.is

    started : slot_in s₁ i ≡ with_job (begun (length sdu) n) (count_sent n (with_peer_credits (x.peer.credits - n) x))
    started = leaves.slot

    ready : Ready i sdu 0 s₁ b₁
    unfolding fills fill jobs
    ready =
        let v = wide in
        record {
          wide = subst (λ (y : Slot). 2 ≤ y.peer.mps) (sym started) (omega arith);
          is =
              subst (λ (y : Slot). Standing y.peer.cid y.peer.mps sdu 0 y.job b₁) (sym started)
              (subst (λ (b : List ℕ). Standing x.peer.cid x.peer.mps sdu 0 (begun (length sdu) n) b) (sym leaves.buffer)
              (filling (begun-filling x.peer.cid x.peer.mps sdu n (lent w s.memory) (omega arith) count starts.big)));
        }

    -- ---- any portions after it

    module _ {s' : State} {b' : List ℕ} {fs : List (List ℕ)} (d : Delivery i sdu s₁ b₁ s' b' fs) where
      came : Delivered i sdu 0 s₁ s' b' fs
      came = delivered i sdu d ready

      -- in the numbers of the slot before the start
      stands : Standing x.peer.cid x.peer.mps sdu (length fs) (job_in s' i) b'
      stands =
          let e = ap (λ (y : Slot). y.peer.cid) started in
          let f = ap (λ (y : Slot). y.peer.mps) started in
          subst (λ (c : ℕ). Standing c x.peer.mps sdu (length fs) (job_in s' i) b') (came.cid ∙ e)
          (subst (λ (m : ℕ). Standing (slot_in s' i).peer.cid m sdu (length fs) (job_in s' i) b') (came.mps ∙ f)
          (subst (λ (k : ℕ). Standing (slot_in s' i).peer.cid (slot_in s' i).peer.mps sdu k (job_in s' i) b') (zero-add (length fs)) came.ready.is))

      open_standing : is_open (job_in s' i) ≡ true → Filling x.peer.cid x.peer.mps sdu (length fs) (job_in s' i) b'
      open_standing o = filling_open o stands

      -- closed: all numbers of the job are 0, and its n frames are given out
      shut_standing : is_open (job_in s' i) ≡ false → (job_in s' i ≡ no_job) × (length fs ≡ n)
      shut_standing o = go stands
        where
          go : Standing x.peer.cid x.peer.mps sdu (length fs) (job_in s' i) b' → (job_in s' i ≡ no_job) × (length fs ≡ n)
          go (filling f) = absurd (false≢true (sym o ∙ lt-ltb 0 (job_in s' i).aside f.credit))
          go (closed e c) = (e, c ∙ sym count)

      firsts : fs ≡ frames_from x.peer.cid x.peer.mps sdu 0 (length fs)
      firsts = came.frames ∙ ap₂ (λ (p q : ℕ). frames_from p q sdu 0 (length fs)) (ap (λ (y : Slot). y.peer.cid) started) (ap (λ (y : Slot). y.peer.mps) started)

      aside_is : (job_in s' i).aside + length fs ≡ n
      aside_is = go stands
        where
          go : Standing x.peer.cid x.peer.mps sdu (length fs) (job_in s' i) b' → (job_in s' i).aside + length fs ≡ n
          go (filling f) = f.paid ∙ sym count
          go (closed e c) = ap (λ (j : OpenJob). j.aside + length fs) e ∙ zero-add (length fs) ∙ c ∙ sym count

      slot-alone : Alone d → uncounted (slot_in s' i) ≡ uncounted (with_job (job_in s' i) (with_peer_credits (x.peer.credits - n) x))
      slot-alone al = alone i sdu d al ∙ ap (λ (y : Slot). uncounted (with_job (job_in s' i) y)) started

      whole : is_open (job_in s' i) ≡ false → joined fs ≡ frames_of x.peer.cid x.peer.mps sdu
      whole o =
          let (_, all) = shut_standing o in
          ap joined (firsts ∙ ap (frames_from x.peer.cid x.peer.mps sdu 0) (all ∙ count)) ∙ frames-whole x.peer.cid x.peer.mps sdu

      -- THE SAME FRAMES
      pub same-frames : SameFrames s i sdu n d
      same-frames =
          record {
            first = firsts;
            aside = aside_is;
            whole = whole;
            octets = λ o v k e. whole o ∙ sym (sent_octets_lem s i sdu v k n e);
            slot = λ o al none v k e.
                let (shut, _) = shut_standing o in
                slot-alone al ∙ ap (λ (j : OpenJob). uncounted (with_job j (with_peer_credits (x.peer.credits - n) x))) (shut ∙ sym none) ∙ ap (λ (y : Slot). uncounted y) (sym (sent-slot s i sdu v k n e));
          }

      -- THE TALLIES
      pub tallied : Tallied s i sdu n d
      tallied =
          record {
            stay = silent i sdu d;
            slot = λ o al q none v k e.
                ap₂ (λ (y : Tallies) (z : Slot). with_tallies y z)
                (silent i sdu d q ∙ ap (λ (y : Slot). y.tallies) started ∙ ap (λ (y : Slot). y.tallies) (sym (sent-slot s i sdu v k n e)))
                (same-frames.slot o al none v k e);
          }

      -- ITS OWN OCTETS
      pub own_octets : OwnOctets s i sdu n d
      unfolding frame_at piece_at stream
      own_octets k h =
          ap (λ (l : List (List ℕ)). get_or l k []) firsts ∙ frames-at x.peer.cid x.peer.mps sdu 0 (length fs) k h ∙ ap (frame_at x.peer.cid x.peer.mps sdu) (zero-add k)

      -- CREDITS
      pub credits-kept : Credits s i sdu n d
      credits-kept =
          record {
            slot = slot-alone;
            sum = λ al.
                let c : (slot_in s' i).peer.credits ≡ x.peer.credits - n = ap (λ (y : Slot). y.peer.credits) (slot-alone al) in
                let a = aside_is in
                let p = paid in
                omega arith;
          }

      -- ---- a cancel

      module _ (u : State) (kept : job_in u i ≡ job_in s' i) (done : (outcome u (cancelling i)).answer ≡ Done) where
        cancels : Cancels u.table i (outcome u (cancelling i))
        unfolding decide bare jobs serve
        cancels = cancel_cancels u.table (length u.room) i done

        still-filling : Filling x.peer.cid x.peer.mps sdu (length fs) (job_in s' i) b'
        still-filling = open_standing (ap is_open (sym kept) ∙ cancels.going)

        out-is : given_out (job_in u i) ≡ length fs * x.peer.mps
        out-is = let v = wide in ap (λ (j : OpenJob). given_out j) kept ∙ out-whole (omega arith) still-filling

        there : i < length u.table.slots
        there = slot_there u.table i cancels.on

        cancel_before : fs ≡ [] → slot_in (after u (cancelling i)) i ≡ with_job no_job (with_peer_credits ((slot_in u i).peer.credits + n) (slot_in u i))
        unfolding after
        cancel_before e =
            let z : length fs ≡ 0 = ap length e in
            let g : given_out (job_in u i) ≡ 0 = out-is ∙ ap (λ (k : ℕ). k * x.peer.mps) z ∙ zero-mul x.peer.mps in
            let a : (job_in u i).aside ≡ n = (let q : (job_in u i).aside ≡ (job_in s' i).aside = ap (λ (j : OpenJob). j.aside) kept in let r = aside_is in omega arith) in
            ap (λ (o : Outcome). slot_at o.table i) (cancels.is ∙ choose_true _ _ _ (eq-eqb (given_out (job_in u i)) 0 g))
            ∙ get_or-set_same u.table.slots i (returned (slot_in u i)) gap there
            ∙ ap (λ (k : ℕ). with_job no_job (with_peer_credits ((slot_in u i).peer.credits + k) (slot_in u i))) a

        cancel_undone : fs ≡ [] → Alone d → uncounted (slot_in u i) ≡ uncounted (slot_in s' i) → x.job ≡ no_job → uncounted (slot_in (after u (cancelling i)) i) ≡ uncounted x
        cancel_undone e al same none =
            let p = paid in
            let back : x.peer.credits - n + n ≡ x.peer.credits = omega arith in
            ap (λ (y : Slot). uncounted y) (cancel_before e)
            ∙ ap (λ (y : Slot). with_job no_job (with_peer_credits (y.peer.credits + n) y)) (same ∙ slot-alone al)
            ∙ ap₂ (λ (j : OpenJob) (k : ℕ). uncounted (with_job j (with_peer_credits k x))) (sym none) back

        cancel_later : 0 < length fs → slot_in (after u (cancelling i)) i ≡ left (Disconnecting false) (slot_in u i)
        unfolding after
        cancel_later h =
            let v = wide in
            let g : given_out (job_in u i) ≡ 0 → ⊥ = (λ (e : given_out (job_in u i) ≡ 0). later (length fs) x.peer.mps h (omega arith) (sym out-is ∙ e)) in
            ap (λ (o : Outcome). slot_at o.table i) (cancels.is ∙ choose_false _ _ _ (ne_eqb (given_out (job_in u i)) 0 g))
            ∙ get_or-set_same u.table.slots i (left (Disconnecting false) (slot_in u i)) gap there

        -- A CANCEL
        pub cancelled : Cancelled s i sdu n d u
        cancelled = record { before = cancel_before; undone = cancel_undone; later = cancel_later }

      -- ---- that it ends

      lacks : is_open (job_in s' i) ≡ true → 0 < length sdu → (job_in s' i).taken < length sdu
      lacks o h = let v = wide in taken_less (omega arith) (open_standing o) h

      all_given : 0 < length sdu → length sdu ≤ somes d → is_open (job_in s' i) ≡ false
      all_given h m =
          false_unless (is_open (job_in s' i)) (λ (o : is_open (job_in s' i) ≡ true).
          let g = taken_grows i sdu d ready h o in
          let l = lacks o h in
          omega arith)

      goes_on : (u : State) (w : Window) → HandedOn i s' b' u w → Admits u.table i → is_open (job_in s' i) ≡ true → (c : ℕ) → Goes u i sdu w c
      unfolding decide bare jobs
      goes_on u v h ad o c =
          let y = slot_in u i in
          let r = handed i sdu h came.ready in
          let going : is_open y.job ≡ true = ap is_open h.job ∙ o in
          let f = filling_open going r.is in
          let xs = part sdu y.job.taken c in
          let fits : length xs ≤ y.job.length - y.job.taken = (let q = f.stated in rw (length-take, length-drop) (omega arith)) in
          let big : buffer_size y.peer.mps y.job.length ≤ length (lent v u.memory) = rw f.stated f.size in
          record {
            taken = taking y.peer.mps y.job (length xs);
            full = full_with y.peer.mps y.job (length xs);
            answered = ap (λ (o : Outcome). o.answer) (portion-is u.table i (length xs) (length (lent v u.memory)) ad going big fits);
            some = λ p q. takes_some r.wide f c q p;
          }

      -- IT ENDS
      pub it_ends : Ends s i sdu n d
      it_ends =
          record {
            lacks = lacks;
            ends = all_given;
            empty = λ z m. false_unless (is_open (job_in s' i)) (λ (o : is_open (job_in s' i) ≡ true). empty_shut i sdu d ready z m o);
            goes = goes_on;
          }

-- A START ANSWERS AS A SEND
pub as_send : (s : State) (i : ℕ) (sdu : List ℕ) → AsSend s i sdu
as_send s i sdu =
    record {
      starts = λ w v link n. start_as_send s i sdu w link n v;
      sends = λ w v link n a. send_as_start s i sdu w link n a v;
      slot = λ w link n a. started s i sdu w link n a;
    }

-- A portion that comes at once, with the same buffer, is handed on.
pub at_once : (i : ℕ) (s : State) (w : Window) → buffer_size (slot_in s i).peer.mps (job_in s i).length ≤ length (lent w s.memory) → HandedOn i s (lent w s.memory) s w
at_once i s w h = record { job = refl; cid = refl; mps = refl; size = h; frame = λ p. refl }
