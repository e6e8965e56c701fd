-- Exact rejoining at the table (F), the receiving side: the frames of a job, as they come to a slot with other calls between them, leave that job
-- waiting there; a take then hands it out (Taking.antt). Rests on what one frame comes to (Join.antt) and on the jobs of a part (Waiting.antt).
use Rattle.std.specs.Prelude.{◌≡◌, Bool, true, false, ◌&&◌, ℕ, zero, suc, ◌+◌, ◌-◌, ◌*◌, ◌/◌, ◌%◌, ◌≤◌, ◌<◌, leb, get_or, take, drop, set, None, Ok, Some}
use Rattle.std.proofs.Math.Path.{refl, ap, subst}
use Rattle.std.proofs.Common.{sym, ◌∙◌, subst₂, zero-mul, zero-add, mul-le-mul_right, add-one, length-drop, take_all, take_at, drop-drop, get_or-set_same, length-take-le, le-leb, lt-ltb, le-ltb, eq-eqb, ne_eqb}
use Rattle.std.proofs.Math.Bool.{not, and-false}
use mathlib.Core.List.{List, [], ◌∷◌, ◌++◌, append_assoc}
use Rattle.std.proofs.Math.Nat.{suc-mul}
use native.Mathlib.Omega.{arith}
use Rattle.std.proofs.Math.ListN.{length, length-append}
use Rattle.std.proofs.Math.Seq.{sets, drop-append-add}
use Rattle.lists.specs.Choose.{choose, choose_true, choose_false}
use Rattle.lists.specs.Both.{and_both}
use Rattle.octets.specs.Octets.{part, le16}
use Rattle.octets.specs.Sets.{part_length}
use Rattle.credit.specs.Account.{received}
use Rattle.sar_cut.specs.Cutting.{AllWithin}
use Rattle.sar_join.specs.declared.Assembly.{Assembly}
use Rattle.sar_join.specs.Joining.{is_idle, idle, join_step}
use Rattle.channel.specs.Limits.{cid_base, handle_most, depth_most, job_head}
use Rattle.channel.specs.declared.Answer.TheVariants.{Done}
use Rattle.channel.specs.declared.Slot.{Slot}
use Rattle.channel.specs.declared.Table.{Table}
use Rattle.definition.specs.Mem.{Move, put, job, fill, move, moves, parts}
use Rattle.definition.specs.Table.{place_of, width, room_size, gap, slot_at, is_connected, with_account, with_assembly, with_queue, count_received, cid_of, is_cid, slot_of, well_formed}
use Rattle.definition.specs.Outcome.{Outcome, change, only, verdict}
use Rattle.definition.specs.Calls.{Call, jobs, bare, decide, joining}
use Rattle.definition.specs.Run.{State, outcome, after}
use Rattle.definition.specs.Frames.{queued, finishing, joined, dispatch}
use Rattle.definition.proofs.Lengths.{length-moves}
use Rattle.rules.specs.Run.{Fits, Reached, next}
use Rattle.rules.specs.Sound.{Sound}
use Rattle.rules.specs.Join.{Reaches}
use Rattle.rules.proofs.Join.{reaches_first, reaches_next, joined-part, joined-whole}
use Rattle.rules.specs.Good.{Good}
use Rattle.rules.proofs.Good.{sizes-read, within, slot_sound, good_formed, same-sizes, reached-good}
use Rattle.rules_jobs.specs.Waiting.{job_of}
use Rattle.rules_jobs.proofs.Waiting.{Waits, finish-alone, finish-joined, grown_there, grown_jobs}
use Rattle.rules_jobs.specs.Rejoin.{Arrives, Becomes, Open, Receiver, Rejoined, Rest, Step-of, Unchanged, all, between, comes, framing, job_at, last, more, part_of}

-- moves in slot i's part alone are the moves of its part
parts-only : (js : List ℕ) (w i : ℕ) (ms : List Move) (room : List ℕ) → i * w + w ≤ length room
    → part (parts (λ x. x) js w (only i ms) room) (i * w) w ≡ moves (λ x. x) js (part room (i * w) w) ms
unfolding parts only moves
parts-only js w zero ms room h =
    let z : 0 * w ≡ 0 = zero-mul w in
    rw z (take_at (moves (λ x. x) js (take w room) ms) (drop w room) w (length-moves (λ x. x) js (take w room) ms ∙ length-take-le w room (omega arith)))
parts-only js w (suc i) ms room h =
    let z : suc i * w ≡ w + i * w = omega (arith, suc-mul i w) in
    let rest = parts (λ x. x) js w (only i ms) (drop w room) in
    let l : length (take w room) ≡ w = length-take-le w room (omega arith) in
    let e : drop (w + i * w) (take w room ++ rest) ≡ drop (i * w) rest = ap (λ (n : ℕ). drop (n + i * w) (take w room ++ rest)) (sym l) ∙ drop-append-add (take w room) rest (i * w) in
    rw z (ap (take w) e ∙ parts-only js w i ms (drop w room) (rw length-drop (omega arith)) ∙ ap (λ (l : List ℕ). moves (λ x. x) js (take w l) ms) (drop-drop (i * w) w room))

-- slot i's part lies in the room
pub part-fits : {t : Table} {room : List ℕ} → Good t room → (i : ℕ) → i < t.n → i * width t + width t ≤ length room
part-fits {t} {room} g i h = let y = g.size in omega (arith, mul-le-mul_right (width t) h, suc-mul i (width t))

pub part-long : (s : State) → Good s.table s.room → (i : ℕ) → i < s.table.n → length (part_of s i) ≡ width s.table
part-long s g i h = part_length s.room (i * width s.table) (width s.table) (part-fits g i h)

pub changes : (s : State) (a : Call) → Good s.table s.room → Fits a → (i : ℕ) → i < s.table.n → (y : Slot) (ms : List Move)
    → (outcome s a).table.slots ≡ set s.table.slots i y → (outcome s a).parts ≡ only i ms → Becomes s a i y ms
unfolding after
changes s a g f i h y ms e e' =
    let t = s.table in
    let z = same-sizes s a g f in
    let w : width (outcome s a).table ≡ width t = rw (z.d, z.m) refl in
    record {
      slot = ap (λ (xs : List Slot). get_or xs i gap) e ∙ get_or-set_same t.slots i y gap (let l = within g in omega arith);
      room =
          ap (λ (n : ℕ). part (parts (λ x. x) (jobs t a) (width t) (outcome s a).parts s.room) (i * n) n) w
          ∙ ap (λ (mss : List (List Move)). part (parts (λ x. x) (jobs t a) (width t) mss s.room) (i * width t) (width t)) e'
          ∙ parts-only (jobs t a) (width t) i ms s.room (part-fits g i h);
    }

-- a job of the slot after it
pub job-after : (s : State) (a : Call) → Good s.table s.room → Fits a → (i : ℕ) (y : Slot) (new : List ℕ) → slot_at (after s a).table i ≡ y → part_of (after s a) i ≡ new → (k : ℕ)
    → job_at (after s a) i k ≡ job_of (place_of s.table) y.queue new k
job-after s a g f i y new e r k =
    ap (λ (m : ℕ). part (part_of (after s a) i) (suc k * (m - job_head)) (get_or (slot_at (after s a).table i).queue.lens k 0)) (same-sizes s a g f).m
    ∙ ap (λ (z : Slot). part (part_of (after s a) i) (suc k * place_of s.table) (get_or z.queue.lens k 0)) e
    ∙ ap (λ (xs : List ℕ). part xs (suc k * place_of s.table) (get_or y.queue.lens k 0)) r

cid_slot : (i : ℕ) → slot_of (cid_of i) ≡ i
cid_slot i = omega arith

cid_names : (t : Table) (i : ℕ) → i < t.n → is_cid t (cid_of i) ≡ true
cid_names t i h = and_both (leb cid_base (cid_of i)) _ (le-leb cid_base (cid_of i) (omega arith)) (rw (cid_slot i) (lt-ltb i t.n h))

verdict-passes : (t : Table) (room link : ℕ) → well_formed t ≡ true → room ≡ room_size t → link ≤ handle_most → verdict t (Some room) None (Some link) None ≡ Ok tt
unfolding verdict
verdict-passes t room link well size l =
    choose_false _ _ _ (ap not well) ∙ choose_false _ _ _ (ap not (eq-eqb room (room_size t) size)) ∙ choose_false _ _ _ refl
    ∙ choose_false _ _ _ (le-ltb handle_most link l) ∙ choose_false _ _ _ refl

-- (ps: the payloads that come after this frame)
module _ (s : State) (g : Good s.table s.room) (i link : ℕ) (ps : List (List ℕ)) (handle : link ≤ handle_most) (r : Receiver s i link (suc (length ps)))
    (w : AllWithin (slot_at s.table i).mps ps) where
  abbrev n : ℕ
  n = length ps

  abbrev t : Table
  t = s.table

  abbrev x : Slot
  x = slot_at t i

  -- the slot once its credit is used, and it is counted
  abbrev x' : Slot
  x' = count_received (with_account (received x.account 1) x)

  ok : Sound t.d (place_of t) x
  ok = slot_sound g i r.used

  most : t.d ≤ depth_most
  most = (sizes-read t.n t.d t.m g.sizes).d_most

  dispatched : (head : List ℕ) (k : ℕ) → dispatch t (length s.room) link (cid_of i) head k ≡ Step-of t i head k
  unfolding dispatch
  dispatched head k =
      rw (cid_slot i, verdict-passes t (length s.room) link (good_formed g) g.size handle)
      (choose_false _ _ _ (ap not (rw (cid_slot i) at (cid_names t i r.used))) ∙ choose_false _ _ _ (ap not r.on)
      ∙ choose_false _ _ _ (ap not (eq-eqb x.link link r.own)) ∙ choose_false _ _ _ (ne_eqb x.account.credits 0 (λ z. let c = r.credits in omega arith)))

  -- a first frame: its length octets are read, the rest are job octets
  idle-joining : x.assembly.want ≡ 0 → joining t (cid_of i) ≡ false
  idle-joining z =
      let e : is_idle (slot_at t (slot_of (cid_of i))).assembly ≡ true = subst (λ (k : ℕ). is_idle (slot_at t k).assembly ≡ true) (sym (cid_slot i)) (eq-eqb x.assembly.want 0 z) in
      ap (λ (b : Bool). is_cid t (cid_of i) && not b) e ∙ and-false (is_cid t (cid_of i))

  first-jobs : (len : ℕ) (js : List ℕ) → x.assembly.want ≡ 0 → jobs t (framing link i (le16 len ++ js)) ≡ js
  unfolding jobs
  first-jobs len js z = choose_false _ _ _ (idle-joining z)

  first-outcome : (len : ℕ) (js : List ℕ) → x.assembly.want ≡ 0
      → outcome s (framing link i (le16 len ++ js))
      ≡ joined t i x' (length js) (join_step x.mtu x.mps t.d x.assembly x.queue.count (2 + length js) len)
  unfolding decide bare jobs choose
  first-outcome len js z =
      let l : len % 256 + 256 * (len / 256) ≡ len = omega arith in
      ap (λ (b : Bool). dispatch t (length s.room) link (cid_of i) (choose b [] (le16 len)) (length (choose b (le16 len ++ js) js))) (idle-joining z)
      ∙ dispatched (le16 len) (length js)
      ∙ ap (λ (said : ℕ). joined t i x' (length js) (join_step x.mtu x.mps t.d x.assembly x.queue.count (2 + length js) said)) l

  -- a later one: all its octets are job octets
  open_joining : (x.assembly.want ≡ 0 → ⊥) → joining t (cid_of i) ≡ true
  open_joining z =
      let e : is_idle (slot_at t (slot_of (cid_of i))).assembly ≡ false = subst (λ (k : ℕ). is_idle (slot_at t k).assembly ≡ false) (sym (cid_slot i)) (ne_eqb x.assembly.want 0 z) in
      and_both (is_cid t (cid_of i)) _ (cid_names t i r.used) (ap not e)

  next-jobs : (js : List ℕ) → (x.assembly.want ≡ 0 → ⊥) → jobs t (framing link i js) ≡ js
  unfolding jobs
  next-jobs js z = choose_true _ _ _ (open_joining z)

  next-outcome : (js : List ℕ) → (x.assembly.want ≡ 0 → ⊥)
      → outcome s (framing link i js) ≡ joined t i x' (length js) (join_step x.mtu x.mps t.d x.assembly x.queue.count (length js) 0)
  unfolding decide bare jobs choose
  next-outcome js z =
      ap (λ (b : Bool). dispatch t (length s.room) link (cid_of i) (choose b [] (take 2 js)) (length (choose b js (drop 2 js)))) (open_joining z)
      ∙ dispatched [] (length js)
      ∙ ap (λ (len : ℕ). joined t i x' (length js) (join_step x.mtu x.mps t.d x.assembly x.queue.count len 0)) (zero-add (length js))

  -- ---- what the call leaves, by what it comes to

  module _ (a : Call) (f : Fits a) (js : List ℕ) (carries : jobs t a ≡ js) where
    -- after the call, the receiver still is one, for one frame fewer
    still_receives : (y : Slot) → slot_at (after s a).table i ≡ y → is_connected y.state ≡ true → y.link ≡ x.link → y.account.credits ≡ x.account.credits - 1
        → y.queue.count < t.d → Receiver (after s a) i link n
    still_receives y e on own credits place =
        let z = same-sizes s a g f in
        record {
          used = subst (λ (k : ℕ). i < k) (sym z.n) r.used;
          on = ap (λ (v : Slot). is_connected v.state) e ∙ on;
          own = ap (λ (v : Slot). v.link) e ∙ own ∙ r.own;
          credits = subst (λ (v : Slot). n ≤ v.account.credits) (sym e) (rw credits (let c = r.credits in omega arith));
          place = subst (λ (v : Slot). v.queue.count < (after s a).table.d) (sym e) (subst (λ (k : ℕ). y.queue.count < k) (sym z.d) place);
        }

    -- `done` is there, and the frame adds js to it
    module _ (done : List ℕ) (have : x.assembly.have ≡ length done) (there : take (length done) (part_of s i) ≡ done) where
      grows : (want : ℕ) → length (done ++ js) < want → want ≤ place_of t
          → outcome s a ≡ change t i (with_assembly (record { have = length (done ++ js); want = want }) x') (put x.assembly.have (job 0 (length js)) ∷ []) Done []
          → Open (after s a) i link ps (done ++ js) want x.queue.count (job_at s i)
      unfolding moves move fill
      grows want l h e =
          let y = with_assembly (record { have = length (done ++ js); want = want }) x' in
          let b = changes s a g f i r.used y _ (ap (λ (o : Outcome). o.table.slots) e) (ap (λ (o : Outcome). o.parts) e) in
          let xs = part_of s i in
          let long = part-long s g i r.used in
          let m = length-append done js in
          let put-there : sets xs x.assembly.have (take (length js) (jobs t a)) ≡ sets xs (length done) js = rw (carries, have) (ap (sets xs (length done)) (take_all (length js) js (omega arith))) in
          let new : part_of (after s a) i ≡ sets xs (length done) js = b.room ∙ put-there in
          record {
            receiver = still_receives y b.slot r.on refl refl r.place;
            fits = subst (λ (v : Slot). AllWithin v.mps ps) (sym b.slot) w;
            count = ap (λ (v : Slot). v.queue.count) b.slot;
            assembly = ap (λ (v : Slot). v.assembly) b.slot;
            there = ap (take (length (done ++ js))) new ∙ grown_there xs done js (omega (arith, suc-mul t.d (place_of t))) there;
            olds = λ k q. job-after s a g f i y (sets xs (length done) js) b.slot new k ∙ grown_jobs t x xs js (length done) k ok.holding long (omega arith) q;
          }

    finishes : (sdu : List ℕ) → Waits t x' (part_of s i) ok.holding (part-long s g i r.used) most r.place sdu (moves (λ v. v) js (part_of s i) (finishing t x' (length js)))
        → outcome s a ≡ change t i (with_queue (queued (length sdu) x.queue) (with_assembly idle x')) (finishing t x' (length js)) Done []
        → Rejoined (after s a) i sdu x.queue.count (job_at s i)
    finishes sdu w e =
        let y = with_queue (queued (length sdu) x.queue) (with_assembly idle x') in
        let b = changes s a g f i r.used y _ (ap (λ (o : Outcome). o.table.slots) e) (ap (λ (o : Outcome). o.parts) e) in
        let new : part_of (after s a) i ≡ moves (λ v. v) js (part_of s i) (finishing t x' (length js)) =
        b.room ∙ ap (λ (ks : List ℕ). moves (λ v. v) ks (part_of s i) (finishing t x' (length js))) carries in
        record {
          used = subst (λ (k : ℕ). i < k) (sym (same-sizes s a g f).n) r.used;
          on = ap (λ (v : Slot). is_connected v.state) b.slot ∙ r.on;
          count = ap (λ (v : Slot). v.queue.count) b.slot ∙ add-one x.queue.count;
          assembly = ap (λ (v : Slot). v.assembly) b.slot;
          whole = job-after s a g f i y _ b.slot new x.queue.count ∙ w.whole;
          olds = λ k q. job-after s a g f i y _ b.slot new k ∙ w.others k q;
        }

  -- ---- the four cases of a frame

  -- a first frame that carries a part of its job, or all of it
  module _ (z : x.assembly.want ≡ 0) where
    first_grows : (js rest : List ℕ) → 2 + length js ≤ x.mps → length (js ++ rest) ≤ x.mtu → 0 < length rest
        → Open (after s (framing link i (le16 (length (js ++ rest)) ++ js))) i link ps js (length (js ++ rest)) x.queue.count (job_at s i)
    first_grows js rest q m some =
        let len = length (js ++ rest) in
        let l : length js < len = rw (length-append js rest) (omega arith) in
        grows (framing link i (le16 len ++ js)) tt js (first-jobs len js z) [] (ok.holding.closed z) refl len l (let w = ok.mtu in omega arith)
        (first-outcome len js z
        ∙ joined-part t i x' (length js) t.d x.queue.count (length js) len _ (reaches_first x.mtu x.mps t.d x.assembly x.queue.count (length js) len q z m) ok.holding.closed l)

    first_finishes : (sdu : List ℕ) → 2 + length sdu ≤ x.mps → length sdu ≤ x.mtu
        → Rejoined (after s (framing link i (le16 (length sdu) ++ sdu))) i sdu x.queue.count (job_at s i)
    first_finishes sdu q m =
        let len = length sdu in
        finishes (framing link i (le16 len ++ sdu)) tt sdu (first-jobs len sdu z) sdu
        (finish-alone t x' (part_of s i) ok.holding (part-long s g i r.used) most r.place sdu z (let w = ok.mtu in omega arith))
        (first-outcome len sdu z
        ∙ joined-whole t i x' len t.d x.queue.count len len _ (reaches_first x.mtu x.mps t.d x.assembly x.queue.count len len q z m) refl r.place)

  -- a later one
  module _ (done js : List ℕ) (within : length js ≤ x.mps) (want : ℕ) (is : x.assembly ≡ record { have = length done; want = want }) (wants : 0 < want) (there : take (length done) (part_of s i) ≡ done) where
    some : x.assembly.want ≡ 0 → ⊥
    some e = let f = ap (λ (b : Assembly). b.want) is in omega arith

    small : want ≤ place_of t
    small = let f = ap (λ (b : Assembly). b.want) is in let w = ok.holding.want in omega arith

    reaches : Reaches t.d x.queue.count (join_step x.mtu x.mps t.d x.assembly x.queue.count (length js) 0) (length (done ++ js)) want
    reaches =
        let e : x.assembly.have + length js ≡ length (done ++ js) = ap (λ (b : Assembly). b.have + length js) is ∙ sym (length-append done js) in
        subst₂ (λ (h w : ℕ). Reaches t.d x.queue.count (join_step x.mtu x.mps t.d x.assembly x.queue.count (length js) 0) h w) e (ap (λ (b : Assembly). b.want) is)
        (reaches_next x.mtu x.mps t.d x.assembly x.queue.count (length js) 0 within some)

    next_grows : length (done ++ js) < want → Open (after s (framing link i js)) i link ps (done ++ js) want x.queue.count (job_at s i)
    next_grows l =
        grows (framing link i js) tt js (next-jobs js some) done (ap (λ (b : Assembly). b.have) is) there want l small
        (next-outcome js some ∙ joined-part t i x' (length js) t.d x.queue.count (length (done ++ js)) want _ reaches ok.holding.closed l)

    next_finishes : length (done ++ js) ≡ want → Rejoined (after s (framing link i js)) i (done ++ js) x.queue.count (job_at s i)
    next_finishes e =
        finishes (framing link i js) tt js (next-jobs js some) (done ++ js)
        (finish-joined t x' (part_of s i) ok.holding (part-long s g i r.used) most r.place done js some (ap (λ (b : Assembly). b.have) is) there (let w = small in omega arith))
        (next-outcome js some
        ∙ joined-whole t i x' (length js) t.d x.queue.count (length (done ++ js)) want _ reaches e r.place
        ∙ ap (λ (len : ℕ). change t i (with_queue (queued len x.queue) (with_assembly idle x')) (finishing t x' (length js)) Done []) (sym e))

-- ---- such a call keeps all of this

module _ (s : State) (g : Good s.table s.room) (a : Call) (f : Fits a) (i : ℕ) (u : Unchanged s (after s a) i) where
  job-kept : (k : ℕ) → job_at (after s a) i k ≡ job_at s i k
  job-kept k = job-after s a g f i (slot_at (after s a).table i) (part_of s i) refl u.room k ∙ ap (λ (v : Slot). job_of (place_of s.table) v.queue (part_of s i) k) u.slot

  receiver_kept : {link n : ℕ} → Receiver s i link n → Receiver (after s a) i link n
  receiver_kept {link} {n} r =
      let z = same-sizes s a g f in
      record {
        used = subst (λ (k : ℕ). i < k) (sym z.n) r.used;
        on = ap (λ (v : Slot). is_connected v.state) u.slot ∙ r.on;
        own = ap (λ (v : Slot). v.link) u.slot ∙ r.own;
        credits = subst (λ (v : Slot). n ≤ v.account.credits) (sym u.slot) r.credits;
        place = subst (λ (v : Slot). v.queue.count < (after s a).table.d) (sym u.slot) (subst (λ (k : ℕ). (slot_at s.table i).queue.count < k) (sym z.d) r.place);
      }

  open_kept : {link want c : ℕ} {ps : List (List ℕ)} {done : List ℕ} {jobs : ℕ → List ℕ} → Open s i link ps done want c jobs → Open (after s a) i link ps done want c jobs
  open_kept {ps = ps} {done = done} o =
      record {
        receiver = receiver_kept o.receiver;
        fits = subst (λ (v : Slot). AllWithin v.mps ps) (sym u.slot) o.fits;
        count = ap (λ (v : Slot). v.queue.count) u.slot ∙ o.count;
        assembly = ap (λ (v : Slot). v.assembly) u.slot ∙ o.assembly;
        there = ap (take (length done)) u.room ∙ o.there;
        olds = λ k l. job-kept k ∙ o.olds k l;
      }

  rejoined_kept : {sdu : List ℕ} {c : ℕ} {jobs : ℕ → List ℕ} → Rejoined s i sdu c jobs → Rejoined (after s a) i sdu c jobs
  rejoined_kept {c = c} w =
      record {
        used = subst (λ (k : ℕ). i < k) (sym (same-sizes s a g f).n) w.used;
        on = ap (λ (v : Slot). is_connected v.state) u.slot ∙ w.on;
        count = ap (λ (v : Slot). v.queue.count) u.slot ∙ w.count;
        assembly = ap (λ (v : Slot). v.assembly) u.slot ∙ w.assembly;
        whole = job-kept c ∙ w.whole;
        olds = λ k l. job-kept k ∙ w.olds k l;
      }

-- the same jobs by other names
module _ {c c' : ℕ} {jobs jobs' : ℕ → List ℕ} (e : c' ≡ c) (same : (k : ℕ) → k < c → jobs' k ≡ jobs k) where
  open_as : {s : State} {i link want : ℕ} {ps : List (List ℕ)} {done : List ℕ} → Open s i link ps done want c' jobs' → Open s i link ps done want c jobs
  open_as o =
      record { receiver = o.receiver; fits = o.fits; count = o.count ∙ e; assembly = o.assembly; there = o.there; olds = λ k l. o.olds k (subst (λ (m : ℕ). k < m) (sym e) l) ∙ same k l }

  rejoined_as : {s : State} {i : ℕ} {sdu : List ℕ} → Rejoined s i sdu c' jobs' → Rejoined s i sdu c jobs
  rejoined_as {s} {i} {sdu} w =
      record {
        used = w.used;
        on = w.on;
        count = w.count ∙ ap suc e;
        assembly = w.assembly;
        whole = subst (λ (k : ℕ). job_at s i k ≡ sdu) e w.whole;
        olds = λ k l. w.olds k (subst (λ (m : ℕ). k < m) (sym e) l) ∙ same k l;
      }

-- ---- the theorem

module _ (i link : ℕ) (handle : link ≤ handle_most) where
  -- once the job waits, it waits
  settled : {s s' : State} {sdu : List ℕ} {c : ℕ} {jobs : ℕ → List ℕ} → Arrives i link [] s s' → Reached s → Rejoined s i sdu c jobs → Rejoined s' i sdu c jobs
  settled all r w = w
  settled {s} (between a f u v) r w = settled v (next a r f) (rejoined_kept s (reached-good r) a f i u w)

  -- the frames after the first
  rest_arrives : {s s' : State} {done rest : List ℕ} {ps : List (List ℕ)} {c : ℕ} {jobs : ℕ → List ℕ} → Arrives i link ps s s' → Rest rest ps → Reached s → 0 < length rest
      → Open s i link ps done (length (done ++ rest)) c jobs → Rejoined s' i (done ++ rest) c jobs
  rest_arrives {done = done} {rest = rest} {c = c} {jobs = jobs} (all {s = s}) q r h o = elim q [ ]
  rest_arrives {s} {done = done} {c = c} {jobs = jobs} (between a f u v) q r h o = rest_arrives {done = done} {c = c} {jobs = jobs} v q (next a r f) h (open_kept s (reached-good r) a f i u o)
  rest_arrives {s} {done = done} (comes p v) (last p') r h o =
      let wants : 0 < length (done ++ p) = rw (length-append done p) (omega arith) in
      settled v (next (framing link i p) r tt)
      (rejoined_as o.count o.olds (next_finishes s (reached-good r) i link [] handle o.receiver tt done p o.fits.0 (length (done ++ p)) o.assembly wants o.there refl))
  rest_arrives {s} {s'} {done} {c = c} {jobs = jobs} (comes {ps = ps} p v) (more p' {rest} m q) r h o =
      let wants : 0 < length (done ++ (p ++ rest)) = rw (length-append done (p ++ rest)) (omega arith) in
      let e = append_assoc done p rest in
      let l : length (done ++ p) < length (done ++ (p ++ rest)) = rw (← e, length-append (done ++ p) rest) (omega arith) in
      subst (λ (sdu : List ℕ). Rejoined s' i sdu c jobs) e
      (rest_arrives {done = done ++ p} {c = c} {jobs = jobs} v q (next (framing link i p) r tt) m
      (subst (λ (sdu : List ℕ). Open (after s (framing link i p)) i link ps (done ++ p) (length sdu) c jobs) (sym e)
      (open_as o.count o.olds (next_grows s (reached-good r) i link ps handle o.receiver o.fits.1 done p o.fits.0 (length (done ++ (p ++ rest))) o.assembly wants o.there l))))

  -- from the first frame on
  from_first : {s s' : State} {sdu q : List ℕ} {ps : List (List ℕ)} → Arrives i link ps (after s (framing link i (le16 (length sdu) ++ q))) s' → Rest sdu (q ∷ ps) → Reached s
      → Receiver s i link (suc (length ps)) → AllWithin (slot_at s.table i).mps ((le16 (length sdu) ++ q) ∷ ps) → (slot_at s.table i).assembly.want ≡ 0 → length sdu ≤ (slot_at s.table i).mtu
      → Rejoined s' i sdu (slot_at s.table i).queue.count (job_at s i)
  from_first {s} v (last sdu') r n b z m =
      settled v (next (framing link i (le16 (length sdu') ++ sdu')) r tt) (first_finishes s (reached-good r) i link [] handle n tt z sdu' (let y = b.0 in omega arith) m)
  from_first {s} {sdu = sdu} v (more q {rest} {ps} h w) r n b z m =
      rest_arrives {done = q} {c = (slot_at s.table i).queue.count} {jobs = job_at s i} v w (next (framing link i (le16 (length sdu) ++ q)) r tt) h (first_grows s (reached-good r) i link ps handle n b.1 z q rest (let y = b.0 in omega arith) m h)

  -- p is the first frame's payload
  first_arrives : {s s' : State} {sdu q p : List ℕ} {ps : List (List ℕ)} → Arrives i link (p ∷ ps) s s' → p ≡ le16 (length sdu) ++ q → Rest sdu (q ∷ ps) → Reached s
      → Receiver s i link (suc (length ps)) → AllWithin (slot_at s.table i).mps (p ∷ ps) → (slot_at s.table i).assembly.want ≡ 0 → length sdu ≤ (slot_at s.table i).mtu
      → Rejoined s' i sdu (slot_at s.table i).queue.count (job_at s i)
  first_arrives {s} {sdu = sdu} {q} {p} {ps} (between a f u v) e w r n b z m =
      rejoined_as (ap (λ (x : Slot). x.queue.count) u.slot) (λ k _. job-kept s (reached-good r) a f i u k)
      (first_arrives v e w (next a r f) (receiver_kept s (reached-good r) a f i u n) (subst (λ (x : Slot). AllWithin x.mps (p ∷ ps)) (sym u.slot) b)
      (ap (λ (x : Slot). x.assembly.want) u.slot ∙ z)
      (subst (λ (x : Slot). length sdu ≤ x.mtu) (sym u.slot) m))
  first_arrives {s} {s'} {sdu = sdu} {q} {ps = ps} (comes p v) e w r n b z m =
      from_first (subst (λ (x : List ℕ). Arrives i link ps (after s (framing link i x)) s') e v) w r n
      (subst (λ (x : List ℕ). AllWithin (slot_at s.table i).mps (x ∷ ps)) e b) z m

  -- "Rejoining is exact when the receiver is Connected and idle with n credits, a free queue place, MTU ≥ L, .. and the frames arrive in order
  -- on their own link with no other change of that slot between", and "our MPS [is] no less than any frame's payload" (document 02): then the job waits, whole, behind those that waited.
  pub rejoins : {s s' : State} {sdu q : List ℕ} {ps : List (List ℕ)} → Arrives i link ((le16 (length sdu) ++ q) ∷ ps) s s' → Rest sdu (q ∷ ps) → Reached s
      → Receiver s i link (suc (length ps)) → AllWithin (slot_at s.table i).mps ((le16 (length sdu) ++ q) ∷ ps) → (slot_at s.table i).assembly.want ≡ 0 → length sdu ≤ (slot_at s.table i).mtu
      → Rejoined s' i sdu (slot_at s.table i).queue.count (job_at s i)
  rejoins v w r n b z m = first_arrives v refl w r n b z m
