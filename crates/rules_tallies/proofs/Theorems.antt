-- THE THEOREMS of the tallies. What they say is on the page Statement.antt; they rest on the calls one by one (Quiet.antt, Counting.antt), on the rules of runs (crate rules) and on which slots
-- a call changes (crate rules_slots).
use Rattle.std.specs.Prelude.{◌≡◌, refl, false, List, [], ◌∷◌, ℕ, zero, suc, ◌+◌, ◌%◌, ◌^◌, ◌<◌, get_or, replicate}
use Rattle.std.proofs.Common.{sym, ap, ◌∙◌, subst, mod-eq_of_lt, add-zero, zero-add, arith}
use Rattle.std.proofs.Math.Nat.{mod-add-mod}
use Rattle.lists.specs.Choose.{choose_true, choose_false, if_cases}
use Rattle.channel.specs.Limits.{slots_most}
use Rattle.channel.specs.declared.Answer.TheVariants.{Done}
use Rattle.channel.specs.declared.Slot.{Slot}
use Rattle.channel.specs.declared.Table.{Table}
use Rattle.channel.specs.declared.Tallies.{Tallies}
use Rattle.definition.specs.Mem.{given}
use Rattle.definition.specs.Table.{gap, fresh, slot_at, no_tallies}
use Rattle.definition.specs.Outcome.{Outcome}
use Rattle.definition.specs.Asking.{Made, make}
use Rattle.definition.specs.Calls.{Call, frame, sends, portions, down, plain, Request, register, signals, pends, rejects_all, accepts, rejects, drops, creates, opens, gives, holds, releases, leaves, leaves_cid, announces, takes, starts, cancels, attends, asks, sends_signal, writes, Window, bare, serve, decide}
use Rattle.definition.specs.Run.{State, outcome, after, run}
use Rattle.definition.specs.Forms.{Fit, Does}
use Rattle.definition.proofs.Forms.{itself, still_does}
use Rattle.rules.specs.Run.{AllFit, Reached, start, next}
use Rattle.rules.specs.Sound.{Below}
use Rattle.rules.proofs.Good.{within, reached-good, same-sizes}
use Rattle.rules.proofs.Rules.{tallies_below}
use Rattle.rules_slots.specs.Change.{MayChange}
use Rattle.rules_slots.proofs.Changes.{change_law}
use Rattle.rules_tallies.specs.Statement.{of_send, adds, plus, plus_all, Tallied, Tells, OneCall, both, added, Unreset, Totals, EveryRun, Since, making, reset}
use Rattle.rules_tallies.specs.Kept.{Kept}
use Rattle.rules_tallies.proofs.Kept.{basis, does_kept}
use Rattle.rules_tallies.proofs.Quiet.{pends_quiet, rejects_all_quiet, accepts_quiet, rejects_quiet, drops_quiet, creates_quiet, opens_quiet, gives-quiet, holds-quiet, releases_quiet, leaves_quiet, leaves_cid_quiet, down_quiet, announces_quiet, signals_quiet, takes_quiet, portions_quiet, cancels_quiet, register_quiet, attends_quiet, asks_quiet, sends_signal_quiet}
use Rattle.rules_tallies.proofs.Counting.{send_sends, start_sends, frame_comes}

-- ---- ONE CALL

quiet : {t : Table} {o : Outcome} → Does Kept t o → (i : ℕ) → i < t.n → Tallied (slot_at t i) (slot_at o.table i) no_tallies
quiet d i h = (does_kept d i h).is

-- a request that starts no job
asked : {t : Table} {o : Outcome} → Does Kept t o → (i : ℕ) → i < t.n → Tallied (slot_at t i) (slot_at o.table i) (of_send false o.answer)
asked {t} {o} d i h = subst (λ (a : Tallies). Tallied (slot_at t i) (slot_at o.table i) a) (sym (choose_false false _ no_tallies refl)) (quiet d i h)

serve-tells : (t : Table) → Fit t → (r : Request) (v w : Window) (room out job : ℕ) → Tells t (plain r v w) (serve t r room out job)
unfolding serve
serve-tells t fit (register spsm) v w room out job = asked (register_quiet t fit spsm)
serve-tells t fit (signals link listening central pdu) v w room out job = asked (signals_quiet t fit room out link listening central pdu)
serve-tells t fit (pends link up) v w room out job = asked (pends_quiet t fit link up)
serve-tells t fit (rejects_all link) v w room out job = asked (rejects_all_quiet t fit room out link)
serve-tells t fit (accepts s c) v w room out job = asked (accepts_quiet t fit out s c)
serve-tells t fit (rejects s result) v w room out job = asked (rejects_quiet t fit room out s result)
serve-tells t fit (drops s) v w room out job = asked (drops_quiet t fit room s)
serve-tells t fit (creates link spsm c) v w room out job = asked (creates_quiet t fit out link spsm c)
serve-tells t fit (opens s link up) v w room out job = asked (opens_quiet t fit room s link up)
serve-tells t fit (gives s) v w room out job = asked (gives-quiet t fit room s)
serve-tells t fit (holds s) v w room out job = asked (holds-quiet t fit s)
serve-tells t fit (releases s) v w room out job = asked (releases_quiet t fit room s)
serve-tells t fit (leaves s) v w room out job = asked (leaves_quiet t fit room s)
serve-tells t fit (leaves_cid cid) v w room out job = asked (leaves_cid_quiet t fit room cid)
serve-tells t fit announces v w room out job = asked (announces_quiet t fit room out)
serve-tells t fit (takes s) v w room out job = asked (takes_quiet t fit room out s job)
serve-tells t fit (starts s l) v w room out job = start_sends t fit s l out
serve-tells t fit (cancels s) v w room out job = asked (cancels_quiet t fit room s)
serve-tells t fit attends v w room out job = asked (attends_quiet t fit)
serve-tells t fit (asks of s) v w room out job = asked (asks_quiet t fit of s)
serve-tells t fit (sends_signal link s) v w room out job = asked (sends_signal_quiet t fit out link s)
serve-tells t fit (writes octets) v w room out job = asked (still_does (basis fit) {a = Done} {out = given octets ∷ []} itself)

pub one_call : OneCall
unfolding decide bare
one_call t fit (frame link cid payload) count room out job = frame_comes t fit link cid room _ count
one_call t fit (sends s sdu w) count room out job = send_sends t fit s count out
one_call t fit (portions s octets w) count room out job = quiet (portions_quiet t fit s count out)
one_call t fit (down link) count room out job = quiet (down_quiet t fit room link)
one_call t fit (plain r v w) count room out job = serve-tells t fit r v w room out job

-- A call changes tallies only of the slots that are its own: those that it may change at all (crate rules_slots, Change.antt).
pub tallies_apart : (t : Table) → Fit t → (c : Call) (count room out job : ℕ) (i : ℕ) → ¬ ((i < t.n) × MayChange t c i)
    → (slot_at (decide t (bare t c) count room out job).table i).tallies ≡ (slot_at t i).tallies
tallies_apart t fit c count room out job i off = ap (λ (x : Slot). x.tallies) ((change_law t fit c count room out job).0 i off).slot

-- ---- MANY CALLS

-- below 2^64 what is added is added modulo 2^64, also where it is nothing
plus-counted : (tally n : ℕ) → tally < 2 ^ 64 → plus tally n ≡ (tally + n) % 2 ^ 64
plus-counted tally zero h = sym (ap (λ (k : ℕ). k % 2 ^ 64) (add-zero tally) ∙ mod-eq_of_lt h)
plus-counted tally (suc n) h = refl

plus_totals : (y a : Tallies) → Below y → Totals y a (plus_all y a)
plus_totals y a b =
    record {
      sent = plus-counted y.sends.frames a.sends.frames b.sent;
      blocked_sends = plus-counted y.sends.blocked a.sends.blocked b.blocked_sends;
      received = plus-counted y.receives.frames a.receives.frames b.received;
      blocked_receives = plus-counted y.receives.blocked a.receives.blocked b.blocked_receives;
    }

-- one sum after the other
then : {x c : ℕ} (y a b : ℕ) → x ≡ (y + a) % 2 ^ 64 → c ≡ (x + b) % 2 ^ 64 → c ≡ (y + (a + b)) % 2 ^ 64
then y a b e f =
    let g : y + a + b ≡ y + (a + b) = omega arith in
    f ∙ ap (λ (k : ℕ). (k + b) % 2 ^ 64) e ∙ mod-add-mod (y + a) (2 ^ 64) b ∙ ap (λ (k : ℕ). k % 2 ^ 64) g

totals_then : {y x z a b : Tallies} → Totals y a x → Totals x b z → Totals y (both a b) z
totals_then {y} {x} {z} {a} {b} p q =
    record {
      sent = then y.sends.frames a.sends.frames b.sends.frames p.sent q.sent;
      blocked_sends = then y.sends.blocked a.sends.blocked b.sends.blocked p.blocked_sends q.blocked_sends;
      received = then y.receives.frames a.receives.frames b.receives.frames p.received q.received;
      blocked_receives = then y.receives.blocked a.receives.blocked b.receives.blocked p.blocked_receives q.blocked_receives;
    }

reached_fit : {s : State} → Reached s → Fit s.table
reached_fit r = record { fits = within (reached-good r) }

-- one call of a run
call_tallied : (s : State) → Reached s → (c : Call) (i : ℕ) → i < s.table.n → Tallied (slot_at s.table i) (slot_at (after s c).table i) (adds s.table i c (outcome s c).answer)
unfolding after
call_tallied s r c i h = one_call s.table (reached_fit r) c _ _ _ _ i h

pub every-run : EveryRun
unfolding run added
every-run s r [] f i h u = plus_totals (slot_at s.table i).tallies no_tallies (tallies_below r i h)
every-run s r (c ∷ cs) f i h u =
    let x = slot_at s.table i in
    let y = slot_at (after s c).table i in
    let a = adds s.table i c (outcome s c).answer in
    let p : Totals x.tallies a y.tallies =
    subst (λ (z : Tallies). Totals x.tallies a z) (sym ((call_tallied s r c i h).is ∙ choose_false _ _ _ u.0)) (plus_totals x.tallies a (tallies_below r i h)) in
    let n : i < (after s c).table.n = rw (same-sizes s c (reached-good r) f.0).n h in
    totals_then p (every-run (after s c) (next c r f.0) cs f.1 i n u.1)

-- ---- FROM A MAKING OR A RESET ON

fresh_at : (n i : ℕ) → (get_or (replicate n (fresh 0)) i gap).tallies ≡ no_tallies
fresh_at zero i = refl
fresh_at (suc n) zero = refl
fresh_at (suc n) (suc i) = fresh_at n i

made_none : (n d m : ℕ) (room : List ℕ) (i : ℕ) → (slot_at (make n d m room).table i).tallies ≡ no_tallies
unfolding make
made_none n d m room i = if_cases P _ (λ _. fresh_at slots_most i) (λ _. if_cases P _ (λ _. fresh_at slots_most i) (λ _. fresh_at slots_most i))
  where
    P : Made → Type 0
    P x = (slot_at x.table i).tallies ≡ no_tallies

-- "S .. lets the next owner inherit them" is not so: nothing is counted where a slot was made, freed, given out, or left by our side.
pub since_none : {i : ℕ} {s : State} → Since i s → (slot_at s.table i).tallies ≡ no_tallies
since_none {i} (making n d m room memory e) = made_none n d m room i
since_none {i} (reset {s} c r f h e) = (call_tallied s r c i h).is ∙ choose_true _ _ _ e

pub since_reached : {i : ℕ} {s : State} → Since i s → Reached s
since_reached (making n d m room memory e) = start n d m room memory e
since_reached (reset c r f h e) = next c r f

module _ (i : ℕ) (s : State) (since : Since i s) (cs : List Call) (fit : AllFit cs) (h : i < s.table.n) (u : Unreset i s cs) where
  totals : Totals no_tallies (added i s cs) (slot_at (run s cs).table i).tallies
  totals = subst (λ (y : Tallies). Totals y (added i s cs) (slot_at (run s cs).table i).tallies) (since_none since) (every-run s (since_reached since) cs fit i h u)

  -- SENT is the sum of the frames of the sends and starts that answered 0, modulo 2^64, until a reset
  pub sent_is_the_sum : (slot_at (run s cs).table i).tallies.sends.frames ≡ (added i s cs).sends.frames % 2 ^ 64
  sent_is_the_sum = totals.sent ∙ ap (λ (k : ℕ). k % 2 ^ 64) (zero-add _)

  -- RECEIVED, the number of frames that used a credit
  pub received_is_the_sum : (slot_at (run s cs).table i).tallies.receives.frames ≡ (added i s cs).receives.frames % 2 ^ 64
  received_is_the_sum = totals.received ∙ ap (λ (k : ℕ). k % 2 ^ 64) (zero-add _)

  -- BLOCKED SENDS, the number of sends and starts refused by 14
  pub blocked_sends_are_the_sum : (slot_at (run s cs).table i).tallies.sends.blocked ≡ (added i s cs).sends.blocked % 2 ^ 64
  blocked_sends_are_the_sum = totals.blocked_sends ∙ ap (λ (k : ℕ). k % 2 ^ 64) (zero-add _)

  -- BLOCKED RECEIVES, the number of frames refused by 10
  pub blocked_receives_are_the_sum : (slot_at (run s cs).table i).tallies.receives.blocked ≡ (added i s cs).receives.blocked % 2 ^ 64
  blocked_receives_are_the_sum = totals.blocked_receives ∙ ap (λ (k : ℕ). k % 2 ^ 64) (zero-add _)
