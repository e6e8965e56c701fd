-- A job's portions one after the other: what stands in slot and buffer (Filling.antt) is kept from its start on, and so the frames come one by one.
use Rattle.std.specs.Prelude.{◌≡◌, Bool, drop}
use Rattle.std.proofs.Math.Path.{refl, sym, ap, ap₂, subst}
use Rattle.std.proofs.Common.{◌∙◌, suc-add, add-suc, add-zero, zero-add, arith, length-take}
use Rattle.std.proofs.Math.Bool.{true, false}
use Rattle.std.proofs.lemmas.Bool.{false≢true}
use mathlib.Core.List.{List, [], ◌∷◌, ◌++◌}
use Prim.Native.Nat.{ℕ, zero, suc, ◌+◌, ◌≤◌}
use Rattle.std.proofs.Math.ListN.{length, take, length-append}
use Rattle.std.proofs.lemmas.List.Edits.{sets}
use Rattle.lists.specs.Choose.{choose, choose_true, choose_false}
use Rattle.octets.specs.Octets.{part}
use Rattle.octets.specs.Sets.{take_least}
use Rattle.sar_cut.specs.Cutting.{frame_at}
use Rattle.channel.specs.Limits.{frame_head}
use Rattle.channel.specs.declared.Answer.TheVariants.{Portion}
use Rattle.channel.specs.declared.OpenJob.{OpenJob}
use Rattle.channel.specs.declared.Slot.{Slot}
use Rattle.definition.specs.Mem.{fills}
use Rattle.definition.specs.Slots.{with_job}
use Rattle.definition.specs.Table.{is_open}
use Rattle.definition.specs.Outcome.{Outcome}
use Rattle.definition.specs.Ending.{itself}
use Rattle.definition.specs.Portions.{frame_size, full_with, filled_by, filled_from, filled_with}
use Rattle.definition.specs.Calls.{Window, jobs, bare, decide}
use Rattle.definition.specs.Run.{State, lent, outcome, after}
use Rattle.rules_portions.specs.Statement.{slot_in, job_in, portion_of, buffer_left, HandedOn, Delivery, rest, portion, frames_from}
use Rattle.rules_portions.specs.Filling.{Filling, Standing, filling, closed}
use Rattle.rules_portions.proofs.Filling.{full-frame, full-standing, part-standing}
use Rattle.rules_portions.specs.Answered.{Leaves, Takes}
use Rattle.rules_portions.proofs.Answered.{filling-leaves, slot_there, portion_takes}

-- ---- frames that follow one another

pub frames-append : (cid mps : ℕ) (sdu : List ℕ) (k a b : ℕ) → frames_from cid mps sdu k (a + b) ≡ frames_from cid mps sdu k a ++ frames_from cid mps sdu (k + a) b
unfolding frames_from
frames-append cid mps sdu k zero b = rw (zero-add, add-zero) refl
frames-append cid mps sdu k (suc a) b = rw (suc-add, add-suc, ← suc-add) (ap (λ (r : List (List ℕ)). frame_at cid mps sdu k ∷ r) (frames-append cid mps sdu (suc k) a b))

frames_join : (cid mps : ℕ) (sdu : List ℕ) (k : ℕ) (gs fs : List (List ℕ)) → gs ≡ frames_from cid mps sdu k (length gs) → fs ≡ frames_from cid mps sdu (k + length gs) (length fs)
    → gs ++ fs ≡ frames_from cid mps sdu k (length (gs ++ fs))
frames_join cid mps sdu k gs fs e f =
    ap₂ (λ (p q : List (List ℕ)). p ++ q) e f ∙ sym (ap (frames_from cid mps sdu k) (length-append gs fs) ∙ frames-append cid mps sdu k (length gs) (length fs))

module _ (i : ℕ) (sdu : List ℕ) where
  -- slot i of s and its buffer b, where k frames are given out
  pub record Ready (k : ℕ) (s : State) (b : List ℕ) : Type 0 where
    pub wide : 2 ≤ (slot_in s i).peer.mps
    pub is : Standing (slot_in s i).peer.cid (slot_in s i).peer.mps sdu k (job_in s i) b

  -- it stands as well where the next portion comes
  pub handed : {k : ℕ} {s u : State} {b : List ℕ} {w : Window} → HandedOn i s b u w → Ready k s b → Ready k u (lent w u.memory)
  handed {k} {s} {u} {b} {w} h r =
      record {
        wide = subst (λ (m : ℕ). 2 ≤ m) (sym h.mps) r.wide;
        is =
            subst (λ (c : ℕ). Standing c (slot_in u i).peer.mps sdu k (job_in u i) (lent w u.memory)) (sym h.cid)
            (subst (λ (m : ℕ). Standing (slot_in s i).peer.cid m sdu k (job_in u i) (lent w u.memory)) (sym h.mps)
            (subst (λ (j : OpenJob). Standing (slot_in s i).peer.cid (slot_in s i).peer.mps sdu k j (lent w u.memory)) (sym h.job)
            (stands r.is)));
      }
    where
      stands : Standing (slot_in s i).peer.cid (slot_in s i).peer.mps sdu k (job_in s i) b → Standing (slot_in s i).peer.cid (slot_in s i).peer.mps sdu k (job_in s i) (lent w u.memory)
      stands (closed e n) = closed e n
      stands (filling f) =
          filling
          (record {
            stated = f.stated;
            place = f.place;
            within = f.within;
            paid = f.paid;
            credit = f.credit;
            fits = f.fits;
            lacks = f.lacks;
            size = rw f.stated at h.size;
            stands = λ p. h.frame p ∙ f.stands p;
          })

  -- ---- one portion

  module _ (u : State) (w : Window) (c link taken : ℕ) (full : Bool) (a : (outcome u (portion_of u i sdu w c)).answer ≡ Portion link taken full) where
    abbrev x : Slot
    x = slot_in u i

    abbrev xs : List ℕ
    xs = part sdu (job_in u i).taken c

    takes : Takes u.table i (length xs) (length (lent w u.memory)) link taken full (outcome u (portion_of u i sdu w c))
    unfolding decide bare jobs
    takes = portion_takes u.table i (length xs) (length (lent w u.memory)) link taken full a

    leaves : Leaves u (portion_of u i sdu w c) i (with_job (filled_by x.peer.mps x.job (length xs)) x) (filled_from x.peer.mps x.job (length xs)) (filled_with x.peer.cid x.peer.mps x.job (length xs))
    leaves = filling-leaves u (portion_of u i sdu w c) i _ _ _ _ _ refl (slot_there u.table i takes.admits.on) takes.is

    own : xs ≡ part sdu x.job.taken (length xs)
    own = let ys = drop x.job.taken sdu in sym (ap (λ (m : ℕ). take m ys) (length-take c ys) ∙ take_least c ys)

    -- of the slot the job alone changes
    pub slot-after : slot_in (after u (portion_of u i sdu w c)) i ≡ with_job (filled_by x.peer.mps x.job (length xs)) x
    slot-after = leaves.slot

    abbrev buffer : List ℕ
    buffer = sets (lent w u.memory) (filled_from x.peer.mps x.job (length xs)) (fills itself xs u.room (filled_with x.peer.cid x.peer.mps x.job (length xs)))

    buffer-after : buffer_left u i sdu w c ≡ buffer
    unfolding jobs
    buffer-after = leaves.buffer

    -- so where that job stands, the slot does
    ready_after : {k : ℕ} → 2 ≤ x.peer.mps → Standing x.peer.cid x.peer.mps sdu k (filled_by x.peer.mps x.job (length xs)) buffer
        → Ready k (after u (portion_of u i sdu w c)) (buffer_left u i sdu w c)
    ready_after {k} wide st =
        record {
          wide = subst (λ (y : Slot). 2 ≤ y.peer.mps) (sym slot-after) wide;
          is =
              subst (λ (y : Slot). Standing y.peer.cid y.peer.mps sdu k y.job (buffer_left u i sdu w c)) (sym slot-after)
              (subst (λ (v : List ℕ). Standing x.peer.cid x.peer.mps sdu k (filled_by x.peer.mps x.job (length xs)) v) (sym buffer-after) st);
        }

    abbrev pub given_frames : List (List ℕ)
    given_frames = choose full (take (outcome u (portion_of u i sdu w c)).octets (buffer_left u i sdu w c) ∷ []) []

    -- a portion gives out the next frame, or none
    pub record Next (k : ℕ) : Type 0 where
      pub frames : given_frames ≡ frames_from x.peer.cid x.peer.mps sdu k (length given_frames)
      pub ready : Ready (k + length given_frames) (after u (portion_of u i sdu w c)) (buffer_left u i sdu w c)

    module _ {k : ℕ} (r : Ready k u (lent w u.memory)) where
      a_frame : Filling x.peer.cid x.peer.mps sdu k x.job (lent w u.memory) → full ≡ true → Next k
      unfolding frames_from
      a_frame f e =
          let t : full_with x.peer.mps x.job (length xs) ≡ true = sym takes.filled ∙ e in
          let o : (outcome u (portion_of u i sdu w c)).octets ≡ frame_head + frame_size x.peer.mps x.job = ap (λ (o : Outcome). o.octets) takes.is ∙ choose_true _ _ _ t in
          let g : given_frames ≡ frame_at x.peer.cid x.peer.mps sdu k ∷ [] =
          choose_true _ _ _ e ∙ ap (λ (l : List ℕ). l ∷ []) (ap₂ take o buffer-after ∙ full-frame r.wide f xs u.room own t) in
          let n : suc k ≡ k + length given_frames = (let m : length given_frames ≡ 1 = ap length g in omega arith) in
          record {
            frames = g ∙ ap (λ (l : List (List ℕ)). frames_from x.peer.cid x.peer.mps sdu k (length l)) (sym g);
            ready = subst (λ (m : ℕ). Ready m (after u (portion_of u i sdu w c)) (buffer_left u i sdu w c)) n (ready_after r.wide (full-standing r.wide f xs u.room own t));
          }

      no-frame : Filling x.peer.cid x.peer.mps sdu k x.job (lent w u.memory) → full ≡ false → Next k
      unfolding frames_from
      no-frame f e =
          let t : full_with x.peer.mps x.job (length xs) ≡ false = sym takes.filled ∙ e in
          let g : given_frames ≡ [] = choose_false _ _ _ e in
          let n : k ≡ k + length given_frames = (let m : length given_frames ≡ 0 = ap length g in omega arith) in
          record {
            frames = g ∙ ap (λ (l : List (List ℕ)). frames_from x.peer.cid x.peer.mps sdu k (length l)) (sym g);
            ready = subst (λ (m : ℕ). Ready m (after u (portion_of u i sdu w c)) (buffer_left u i sdu w c)) n (ready_after r.wide (part-standing r.wide f xs u.room own t));
          }

      -- the job is open: the portion was answered 0
      pub is-filling : Filling x.peer.cid x.peer.mps sdu k x.job (lent w u.memory)
      is-filling = go r.is
        where
          go : Standing x.peer.cid x.peer.mps sdu k x.job (lent w u.memory) → Filling x.peer.cid x.peer.mps sdu k x.job (lent w u.memory)
          go (filling f) = f
          go (closed e n) = absurd (false≢true (ap is_open (sym e) ∙ takes.going))

      pub next : Next k
      next = go full refl
        where
          go : (b : Bool) → full ≡ b → Next k
          go true e = a_frame is-filling e
          go false e = no-frame is-filling e

  -- ---- one after the other

  pub record Delivered (k : ℕ) (s s' : State) (b' : List ℕ) (fs : List (List ℕ)) : Type 0 where
    pub frames : fs ≡ frames_from (slot_in s i).peer.cid (slot_in s i).peer.mps sdu k (length fs)
    pub ready : Ready (k + length fs) s' b'
    pub cid : (slot_in s' i).peer.cid ≡ (slot_in s i).peer.cid
    pub mps : (slot_in s' i).peer.mps ≡ (slot_in s i).peer.mps

  pub delivered : {k : ℕ} {s s' : State} {b b' : List ℕ} {fs : List (List ℕ)} → Delivery i sdu s b s' b' fs → Ready k s b → Delivered k s s' b' fs
  unfolding frames_from
  delivered {k = k} {s = s} {b = b} rest r = record { frames = refl; ready = subst (λ (m : ℕ). Ready m s b) (omega arith) r; cid = refl; mps = refl }
  delivered {k = k} {s = s} {s' = s'} {b' = b'} (portion {u = u} {fs = fs} w c link taken full h a d) r =
      let n = next u w c link taken full a (handed h r) in
      let o = given_frames u w c link taken full a in
      let z = delivered {k = k + length (given_frames u w c link taken full a)} d n.ready in
      let e = slot-after u w c link taken full a in
      let cid-is : (slot_in (after u (portion_of u i sdu w c)) i).peer.cid ≡ (slot_in s i).peer.cid = ap (λ (y : Slot). y.peer.cid) e ∙ h.cid in
      let mps-is : (slot_in (after u (portion_of u i sdu w c)) i).peer.mps ≡ (slot_in s i).peer.mps = ap (λ (y : Slot). y.peer.mps) e ∙ h.mps in
      let m : k + length o + length fs ≡ k + length (o ++ fs) = omega (arith, length-append o fs) in
      record {
        frames =
            frames_join (slot_in s i).peer.cid (slot_in s i).peer.mps sdu k o fs
            (n.frames ∙ ap₂ (λ (p q : ℕ). frames_from p q sdu k (length o)) h.cid h.mps)
            (z.frames ∙ ap₂ (λ (p q : ℕ). frames_from p q sdu (k + length o) (length fs)) cid-is mps-is);
        ready = subst (λ (m : ℕ). Ready m s' b') m z.ready;
        cid = z.cid ∙ cid-is;
        mps = z.mps ∙ mps-is;
      }
