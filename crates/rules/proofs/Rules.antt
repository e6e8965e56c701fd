-- The rules of every run from a made table that speak of the table: refusal 1 never comes (A), identifiers are 1 to 255 (B), credits
-- held plus received stay what they were when the connection began (C); a job handed over in portions stands only in a Connected slot, with
-- a credit set aside for each frame to come (G); a peer's MTU and MPS are at least 23, so that refusal 20 never comes (H); tallies stand only in a slot that is Connected or that its peer has left (J). They follow from what every reached state has (Good.antt).
use Rattle.std.specs.Prelude.{◌≡◌, refl, Bool, true, false, ◌&&◌, not, List, [], ◌∷◌, ℕ, zero, suc, ◌+◌, ◌-◌, ◌≤◌, ◌<◌, eqb, length, get_or}
use Rattle.std.proofs.Common.{sym, ap, ◌∙◌, subst, subst₂, add-zero, arith, get_or-set_same, eq-eqb, ne_eqb, ltb-true, ltb-false, leb-false}
use Rattle.std.proofs.lemmas.Bool.{false≢true, eqb-false, not-true, not-false}
use Rattle.lists.specs.Choose.{choose, choose_true, choose_false, if_cases}
use Rattle.codes.specs.declared.Refusal.{Refusal}
use Rattle.codes.specs.declared.LeCreditConnResultCode.TheVariants.{Success}
use Rattle.credit.specs.Account.{credit_sum}
use Rattle.sar_cut.specs.Cutting.{ceil}
use Rattle.signal_write.specs.Writer.{encode_of}
use Rattle.signal_forms.specs.declared.Signal.TheVariants.{LeCreditConnReq, LeCreditConnRes}
use Rattle.channel.specs.Limits.{credits_most, identifier_most, size_least}
use Rattle.channel.specs.declared.Answer.TheVariants.{At, Link, Portion}
use Rattle.channel.specs.declared.ChannelIndex.{ChannelIndex}
use Rattle.channel.specs.declared.ChannelState.{ChannelState}
use Rattle.channel.specs.declared.ChannelState.TheVariants.{Disconnected, Connecting, PeerConnecting, Connected, ConnectFailed, PeerDisconnecting, Disconnecting}
use Rattle.channel.specs.declared.L2capChannelConfig.{L2capChannelConfig}
use Rattle.channel.specs.declared.Slot.{Slot}
use Rattle.channel.specs.declared.Table.{Table}
use Rattle.definition.specs.Numbers.{answer_number}
use Rattle.definition.specs.Mem.{Move}
use Rattle.definition.specs.Table.{gap, slot_at, found, is_free, is_disconnected, is_peer_connecting, is_connected, is_open, no_job, no_tallies, with_job, identifier_of, index, cid_of, next_id, spent, well_formed}
use Rattle.definition.specs.Outcome.{Outcome, refuse}
use Rattle.definition.specs.Calls.{Call, jobs}
use Rattle.definition.specs.Run.{State, outcome, after, run}
use Rattle.definition.specs.Pending.{accept_pending, mtu_of, mps_of, credits_of}
use Rattle.definition.specs.Opening.{create}
use Rattle.definition.specs.Portions.{given_out, full_with, filled_by, give_portion}
use Rattle.rules.specs.Run.{Fits, AllFit, Reached, next}
use Rattle.lists.specs.Both.{and_left, and_right}
use Rattle.rules.specs.Step.{Step, hold, go, accept, free, allocate, Steps, Numbered}
use Rattle.rules.specs.Step as Step
use Rattle.rules.proofs.Forms.{live_at, gate_cases}
use Rattle.rules.proofs.Aside.{portion_aside}
use Rattle.rules.proofs.Keep.{accounting_sum}
use Rattle.rules.specs.Tests.{offered, counting}
use Rattle.rules.proofs.Tests.{least_sizes}
use Rattle.rules.specs.Sound.{Within, Below}
use Rattle.rules.specs.Good.{Good}
use Rattle.rules.proofs.Good.{within, slot_sound, good_formed, call_steps, same-sizes, next-id, reached-good}
use Rattle.rules.specs.Rules.{Begins, Change, Lasts, Uses, lasts}

-- ---- A. "the table never becomes one that refusal 1 refuses"

pub well_formed_lem : {s : State} → Reached s → well_formed s.table ≡ true
well_formed_lem r = good_formed (reached-good r)

-- So no call of the run answers 1; nor 2, since the room is always the run's.
pub never_1_nor_2 : {s : State} → Reached s → (a : Call) → Fits a → (answer_number (outcome s a).answer ≡ 1 → ⊥) × (answer_number (outcome s a).answer ≡ 2 → ⊥)
never_1_nor_2 {s} r a f =
    let n = answer_number (outcome s a).answer in
    let p : (not (eqb n 1) && (not (eqb n 2) && not (eqb n 20))) ≡ true = (call_steps s (reached-good r) a f).answer in
    (eqb-false n 1 (not-true _ (and_left (not (eqb n 1)) _ p)), eqb-false n 2 (not-true _ (and_left (not (eqb n 2)) _ (and_right (not (eqb n 1)) _ p))))

-- "a credit sum never passes 65,535"
pub credit_sum_lem : {s : State} → Reached s → (i : ℕ) → i < s.table.n → credit_sum (slot_at s.table i).account ≤ credits_most
credit_sum_lem r i h = (slot_sound (reached-good r) i h).sum

-- "0x16's sum counts credits set aside" (document 02): what the peer gave us, with what is set aside for an open job, never passes 65,535
pub peer_credit_sum : {s : State} → Reached s → (i : ℕ) → i < s.table.n → (slot_at s.table i).peer.credits + (slot_at s.table i).job.aside ≤ credits_most
peer_credit_sum r i h = (slot_sound (reached-good r) i h).owing.sum

-- ---- B. "Identifiers run 1 to 255, then 1."

pub identifiers : {s : State} → Reached s → (1 ≤ next_id s.table) × (next_id s.table ≤ identifier_most)
identifiers {s} r = let g = (reached-good r).identifier in next-id s.table g.0 g.1

-- Each call keeps the next identifier or uses it; if it uses it, it writes nothing or one signal that carries it.
pub identifier_used : {s : State} → Reached s → (a : Call) → Fits a → Numbered s.table (after s a).table.identifier (outcome s a).out
unfolding after
identifier_used {s} r a f = (call_steps s (reached-good r) a f).identifier

-- Once used, the next one follows; after 255 comes 1.
pub identifier_follows : (t : Table) → (next_id t ≡ identifier_most → (spent t).identifier ≡ 1) × ((next_id t ≡ identifier_most → ⊥) → (spent t).identifier ≡ next_id t + 1)
identifier_follows t = ((λ e. choose_true _ _ _ (eq-eqb (next_id t) identifier_most e)), (λ e. choose_false _ _ _ (ne_eqb (next_id t) identifier_most e)))

not_free : (k : ChannelState) → lasts k ≡ true → is_disconnected k ≡ true → ⊥
not_free Disconnected e f = false≢true e
not_free (Connecting i) e f = false≢true f
not_free (PeerConnecting i) e f = false≢true f
not_free Connected e f = false≢true f
not_free (ConnectFailed c) e f = false≢true f
not_free (PeerDisconnecting i) e f = false≢true f
not_free (Disconnecting a) e f = false≢true f

not-pending : (k : ChannelState) → lasts k ≡ true → is_peer_connecting k ≡ true → ⊥
not-pending Disconnected e f = false≢true e
not-pending (Connecting i) e f = false≢true f
not-pending (PeerConnecting i) e f = false≢true e
not-pending Connected e f = false≢true f
not-pending (ConnectFailed c) e f = false≢true f
not-pending (PeerDisconnecting i) e f = false≢true f
not-pending (Disconnecting a) e f = false≢true f

-- one step of one slot
step_sum : {t : Table} {k : ℕ} {x y : Slot} {ms : List Move} → Step t k x y ms → credit_sum x.account ≤ credits_most → lasts x.state ≡ true → lasts y.state ≡ true
    → credit_sum y.account ≡ credit_sum x.account
step_sum (hold h) s e f = refl
step_sum (go g a j o) s e f = accounting_sum a s
step_sum {x = x} (accept c) s e f = absurd (not-pending x.state e c.was)
step_sum (free h) s e f = absurd (false≢true f)
step_sum {x = x} (allocate c) s e f = absurd (not_free x.state e c.was)

pub steps-at : {t : Table} {k : ℕ} {xs ys : List Slot} {mss : List (List Move)} → Steps t k xs ys mss → (i : ℕ) → Change t k (get_or xs i gap) (get_or ys i gap)
steps-at {xs = xs} Step.rest i = record { moves = []; step = hold (get_or xs i gap).hold }
steps-at (Step.next {ms = ms} p r) zero = record { moves = ms; step = p }
steps-at (Step.next p r) (suc i) = steps-at r i

pub call_change : (s : State) (a : Call) → Good s.table s.room → Fits a → (i : ℕ) → i < s.table.n
    → Change s.table (length (jobs s.table a)) (slot_at s.table i) (slot_at (after s a).table i)
unfolding after
call_change s a g f i h =
    let p = call_steps s g a f in
    subst₂ (λ (x y : Slot). Change s.table (length (jobs s.table a)) x y) (live_at s.table i h) (live_at (outcome s a).table i (rw p.n h))
    (steps-at p.slots i)

-- One call: while the connection in slot i lasts, the sum stays.
pub credits_step : (s : State) (a : Call) → Good s.table s.room → Fits a → (i : ℕ) → i < s.table.n
    → lasts (slot_at s.table i).state ≡ true → lasts (slot_at (after s a).table i).state ≡ true
    → credit_sum (slot_at (after s a).table i).account ≡ credit_sum (slot_at s.table i).account
credits_step s a g f i h e e' = step_sum (call_change s a g f i h).step (slot_sound g i h).sum e e'

lasts_now : (i : ℕ) (s : State) (as' : List Call) → Lasts i s as' → lasts (slot_at s.table i).state ≡ true
lasts_now i s [] l = l
lasts_now i s (a ∷ as') l = l.0

pub credits-last : (i : ℕ) (s : State) (as' : List Call) → Reached s → AllFit as' → i < s.table.n → Lasts i s as'
    → credit_sum (slot_at (run s as').table i).account ≡ credit_sum (slot_at s.table i).account
unfolding run
credits-last i s [] r f h l = refl
credits-last i s (a ∷ as') r f h l =
    let g = reached-good r in
    credits-last i (after s a) as' (next a r f.0) f.1 (subst (λ (n : ℕ). i < n) (sym (same-sizes s a g f.0).n) h) l.1
    ∙ credits_step s a g f.0 i h l.0 (lasts_now i (after s a) as' l.1)

pub accept_credits : {t : Table} {room : List ℕ} → Good t room → (signal i : ℕ) (c : L2capChannelConfig) (link : ℕ) → (accept_pending t signal i c).answer ≡ Link link
    → Begins (accept_pending t signal i c) i (credits_of t c)
    (encode_of (identifier_of (slot_at t i).state) (LeCreditConnRes (record { dcid = cid_of i; mtu = mtu_of t c; mps = mps_of t c; credits = credits_of t c; result = Success })))
unfolding accept_pending
accept_credits {t} g signal i c link =
    gate_cases P t _ _ _ _ (λ r. never)
    (λ h. if_cases P _ (λ _. never)
    (λ _. if_cases P _ (λ _. never)
    (λ _. if_cases P _ (λ _. never)
    (λ _. if_cases P _ (λ _. never)
    (λ _ _. record { sum = ap (λ (x : Slot). credit_sum x.account) (get_or-set_same t.slots i _ gap (let l = within g in omega arith)) ∙ add-zero _; out = refl })))))
  where
    P : Outcome → Type 0
    P o = o.answer ≡ Link link
        → Begins o i (credits_of t c) (encode_of (identifier_of (slot_at t i).state) (LeCreditConnRes (record { dcid = cid_of i; mtu = mtu_of t c; mps = mps_of t c; credits = credits_of t c; result = Success })))

    never : {r : Refusal} → P (refuse t r)
    never e = let z : ◌≡◌ {A = ℕ} 0 1 = cc in absurd (omega arith)

pub create-credits : {t : Table} {room : List ℕ} → Good t room → (signal link spsm : ℕ) (c : L2capChannelConfig) (i : ℕ) → (create t signal link spsm c).answer ≡ At (index i)
    → Begins (create t signal link spsm c) i (credits_of t c) (encode_of (next_id t) (LeCreditConnReq (record { spsm = spsm; scid = cid_of i; mtu = mtu_of t c; mps = mps_of t c; credits = credits_of t c })))
unfolding create
create-credits {t} g signal link spsm c i =
    gate_cases P t _ _ _ _ (λ r. never)
    (λ _. if_cases P _ (λ _. never)
    (λ _. if_cases P _ (λ _. never)
    (λ _. if_cases P _ (λ _. never)
    (λ e f.
    let s = found is_free t in
    let j : index s ≡ index i = cc in
    let q : s ≡ i = ap (λ (z : ChannelIndex). z.0) j in
    let h = leb-false t.n s e in
    rw (← q) (record {
      sum = ap (λ (x : Slot). credit_sum x.account) (get_or-set_same t.slots s _ gap (let l = within g in omega arith)) ∙ add-zero _;
      out = refl;
    })))))
  where
    P : Outcome → Type 0
    P o = o.answer ≡ At (index i) → Begins o i (credits_of t c) (encode_of (next_id t) (LeCreditConnReq (record { spsm = spsm; scid = cid_of i; mtu = mtu_of t c; mps = mps_of t c; credits = credits_of t c })))

    never : {u : Table} {r : Refusal} → P (refuse u r)
    never e = let z : ◌≡◌ {A = ℕ} 0 1 = cc in absurd (omega arith)

-- ---- G. jobs handed over in portions (document 02): where one stands, and the credits set aside

-- "leaving Connected [closes the job]": an open job stands only in a Connected slot, and what is not Connected, as a free slot, has none
pub no_job_elsewhere : {s : State} → Reached s → (i : ℕ) → i < s.table.n → is_connected (slot_at s.table i).state ≡ false → (slot_at s.table i).job ≡ no_job
no_job_elsewhere r i h e = (slot_sound (reached-good r) i h).owing.shut e

-- A job is open while credits are set aside for it; else nothing is left of it.
pub no_job_unpaid : {s : State} → Reached s → (i : ℕ) → i < s.table.n → is_open (slot_at s.table i).job ≡ false → (slot_at s.table i).job ≡ no_job
no_job_unpaid {s} r i h e = (slot_sound (reached-good r) i h).owing.closed (let z = ltb-false 0 (slot_at s.table i).job.aside e in omega arith)

-- "gets n credits set aside": one for each frame to come. (Of the stream of L+2 octets, those that are given out are in frames that have used theirs.)
pub credits_set_aside : {s : State} → Reached s → (i : ℕ) → i < s.table.n → is_open (slot_at s.table i).job ≡ true
    → (slot_at s.table i).job.aside ≡ ceil ((slot_at s.table i).job.length + 2 - given_out (slot_at s.table i).job) (slot_at s.table i).peer.mps
credits_set_aside {s} r i h e = (slot_sound (reached-good r) i h).owing.owed (ltb-true 0 (slot_at s.table i).job.aside e)

pub portion-credits : {t : Table} {room : List ℕ} → Good t room → (i count size link k : ℕ) (full : Bool) → (give_portion t i count size).answer ≡ Portion link k full
    → Uses (slot_at t i) (slot_at (give_portion t i count size).table i) (choose full 1 0)
unfolding give_portion
portion-credits {t} g i count size link k full =
    gate_cases P t _ _ _ _ (λ r. never)
    (λ h. if_cases P _ (λ _. never)
    (λ _. if_cases P _ (λ _. never)
    (λ e. if_cases P _ (λ _. never)
    (λ _. if_cases P _ (λ _. never)
    (λ f a.
    let q : full_with x.peer.mps x.job count ≡ full = cc in
    let some = ltb-true 0 x.job.aside (not-false _ e) in
    rw (get_or-set_same t.slots i (with_job (filled_by x.peer.mps x.job count) x) gap (let l = within g in omega arith)) (record {
      aside = rw (← q) (portion_aside (is_connected x.state) x.peer x.job count some (ltb-false _ _ f) (slot_sound g i h).owing);
      credits = refl;
    }))))))
  where
    x : Slot
    x = slot_at t i

    P : Outcome → Type 0
    P o = o.answer ≡ Portion link k full → Uses x (slot_at o.table i) (choose full 1 0)

    never : {r : Refusal} → P (refuse t r)
    never e = let z : ◌≡◌ {A = ℕ} 0 1 = cc in absurd (omega arith)

-- ---- H. "Core sets 23 as the least for MTU and for MPS, so follow Core" (document 02)

-- A PeerConnecting or Connected slot's peer MTU and MPS are at least 23.
pub peer_least : {s : State} → Reached s → (i : ℕ) → i < s.table.n → offered (slot_at s.table i).state ≡ true
    → (size_least ≤ (slot_at s.table i).peer.mtu) × (size_least ≤ (slot_at s.table i).peer.mps)
peer_least {s} r i h e = least_sizes (slot_at s.table i).peer ((slot_sound (reached-good r) i h).least e)

-- So no call answers 20, "peer MPS < 23 at sending": it is for tables that no run reaches.
pub never_20 : {s : State} → Reached s → (a : Call) → Fits a → answer_number (outcome s a).answer ≡ 20 → ⊥
never_20 {s} r a f =
    let n = answer_number (outcome s a).answer in
    let p : (not (eqb n 1) && (not (eqb n 2) && not (eqb n 20))) ≡ true = (call_steps s (reached-good r) a f).answer in
    eqb-false n 20 (not-true _ (and_right (not (eqb n 2)) _ (and_right (not (eqb n 1)) _ p)))

-- ---- I. "A buffer shorter than the job should now be refused" (document 02): how long a buffer suffices

-- What waits in a slot, and what arrives there, is no longer than its MTU.
pub within-mtu : {s : State} → Reached s → (i : ℕ) → i < s.table.n → Within (slot_at s.table i).mtu (slot_at s.table i).assembly (slot_at s.table i).queue
within-mtu r i h = (slot_sound (reached-good r) i h).within

-- ---- J. "also whenever the slot is freed: S .. lets the next owner inherit them" (document 02): the tallies

-- What neither is Connected nor was left by its peer has counted nothing.
pub no_tallies_elsewhere : {s : State} → Reached s → (i : ℕ) → i < s.table.n → counting (slot_at s.table i).state ≡ false → (slot_at s.table i).tallies ≡ no_tallies
no_tallies_elsewhere r i h e = (slot_sound (reached-good r) i h).counted.none e

-- So a free slot's tallies are 0, and no owner inherits any: our attempt and the peer's begin with none.
pub free-uncounted : {s : State} → Reached s → (i : ℕ) → i < s.table.n → (slot_at s.table i).state ≡ Disconnected → (slot_at s.table i).tallies ≡ no_tallies
free-uncounted r i h e = no_tallies_elsewhere r i h (ap (λ (k : ChannelState). counting k) e)

pub owner_uncounted : {s : State} → Reached s → (i : ℕ) → i < s.table.n → (id : ℕ)
    → ((slot_at s.table i).state ≡ Connecting id → (slot_at s.table i).tallies ≡ no_tallies) × ((slot_at s.table i).state ≡ PeerConnecting id → (slot_at s.table i).tallies ≡ no_tallies)
owner_uncounted r i h id = ((λ e. no_tallies_elsewhere r i h (ap (λ (k : ChannelState). counting k) e)), (λ e. no_tallies_elsewhere r i h (ap (λ (k : ChannelState). counting k) e)))

-- "at 64 bits": every tally is below 2^64
pub tallies_below : {s : State} → Reached s → (i : ℕ) → i < s.table.n → Below (slot_at s.table i).tallies
tallies_below r i h = (slot_sound (reached-good r) i h).counted.below
