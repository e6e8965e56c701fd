-- What the room rule says of a slot that is given to a new connection (E): a slot whose connection has not begun holds nothing.
use Rattle.std.specs.Prelude.{◌≡◌, refl, true, false, ℕ, ◌+◌, ◌*◌, ◌/◌, ◌%◌, ◌≤◌, ◌<◌, get_or}
use Rattle.std.proofs.Common.{sym, ap, ◌∙◌, le_of_suc-le-suc, div-add-mod', mod-lt, div-lt_iff_lt-mul, arith}
use Rattle.std.proofs.Math.Path.{subst}
use Rattle.std.proofs.lemmas.Bool.{false≢true}
use mathlib.Core.List.{List}
use Rattle.sar_join.specs.declared.Assembly.{Assembly}
use Rattle.sar_join.specs.Joining.{idle}
use Rattle.channel.specs.declared.Queue.{Queue}
use Rattle.channel.specs.declared.Slot.{Slot}
use Rattle.channel.specs.declared.Table.{Table}
use Rattle.definition.specs.Mem.{Move}
use Rattle.definition.specs.Table.{place_of, width, fresh, slot_at, is_disconnected, no_job, no_tallies}
use Rattle.definition.specs.Calls.{Call, jobs}
use Rattle.definition.specs.Run.{State, after}
use Rattle.rules.specs.Run.{Fits, Reached}
use Rattle.rules.specs.Run as Run
use Rattle.rules.specs.Tests.{begun}
use Rattle.rules.proofs.Tests.{pending-live, unbegun_off, unbegun_uncounted}
use Rattle.rules.specs.Step.{Step, hold, go, accept, free, allocate, next}
use Rattle.rules.proofs.Aside.{sending-none}
use Rattle.rules.proofs.Keep.{jobs-quiet, counts-none}
use Rattle.rules.proofs.Good.{sizes-read, slot_sound, same-sizes, reached-good}
use Rattle.rules.proofs.Rules.{call_change}
use Rattle.rules.proofs.Places.{no-job}
use Rattle.rules.specs.RoomRule.{Empty}
use Rattle.rules.proofs.RoomRule.{room_rule}

empty_part : {s : State} → Reached s → (i : ℕ) → i < s.table.n → (slot_at s.table i).assembly ≡ idle → (slot_at s.table i).queue.count ≡ 0
    → (slot_at s.table i).job ≡ no_job → (slot_at s.table i).tallies ≡ no_tallies → Empty s i
empty_part {s} r i h a q b c = record { assembly = a; jobs = q; portions = b; tallies = c; room = zero_at }
  where
    p : ℕ
    p = place_of s.table

    some : 0 < p
    some = let z = sizes-read s.table.n s.table.d s.table.m (reached-good r).sizes in let y = z.m_least in omega arith

    zero_at : (o : ℕ) → o < width s.table → get_or s.room (i * width s.table + o) 0 ≡ 0
    zero_at o l =
        let e : o / p * p + o % p ≡ o = div-add-mod' o p in
        let k : o / p ≤ s.table.d = le_of_suc-le-suc ((div-lt_iff_lt-mul some).1 l) in
        rw e at (room_rule r i (o / p) (o % p) h k (mod-lt o some)
        (rw (no-job (slot_at s.table i).assembly (slot_at s.table i).queue (o / p) (ap (λ (b : Assembly). b.have) a) q) (omega arith)))

-- In every state of a run: a slot whose connection has not begun holds nothing. A free slot is as it was made, but for its holds.
pub unbegun_empty : {s : State} → Reached s → (i : ℕ) → i < s.table.n → begun (slot_at s.table i).state ≡ false → Empty s i
unbegun_empty {s} r i h f =
    let x = slot_sound (reached-good r) i h in
    let z = x.quiet f in
    empty_part r i h z.0 z.1 (x.owing.shut (unbegun_off (slot_at s.table i).state f)) (x.counted.none (unbegun_uncounted (slot_at s.table i).state f))

pub free-fresh : {s : State} → Reached s → (i : ℕ) → i < s.table.n → is_disconnected (slot_at s.table i).state ≡ true → slot_at s.table i ≡ fresh (slot_at s.table i).hold
free-fresh r i h f = (slot_sound (reached-good r) i h).free f

-- what a step makes of a free slot that is given out, and of one whose connection begins
newcomer : {t : Table} {k : ℕ} {x y : Slot} {ms : List Move} → Step t k x y ms → is_disconnected x.state ≡ true → is_disconnected y.state ≡ false
    → (x.hold ≡ 0) × (begun y.state ≡ false)
newcomer (hold h) e f = absurd (false≢true (sym f ∙ e))
newcomer (go g a j o) e f = absurd (false≢true (sym g.was ∙ e))
newcomer {x = x} (accept c) e f = absurd (false≢true (sym (pending-live x.state c.was) ∙ e))
newcomer (free h) e f = absurd (false≢true (sym f))
newcomer (allocate c) e f = (c.unheld, c.unbegun)

beginner : {t : Table} {k : ℕ} {x y : Slot} {ms : List Move} → Step t k x y ms → begun x.state ≡ false → begun y.state ≡ true
    → (x.assembly ≡ idle) × (x.queue.count ≡ 0) → x.job ≡ no_job → x.tallies ≡ no_tallies → (y.assembly ≡ idle) × (y.queue.count ≡ 0) × (y.job ≡ no_job) × (y.tallies ≡ no_tallies)
beginner (hold h) e f q b n = (q.0, q.1, b, n)
beginner {t} {k} {x} (go g a j o) e f q b n =
    let z = jobs-quiet t k x j e q in
    (z.0, z.1, sending-none x o (unbegun_off x.state e) b, counts-none x g.counts (unbegun_uncounted x.state e) n)
beginner (accept c) e f q b n = (c.assembly ∙ q.0, ap (λ (z : Queue). z.count) c.queue ∙ q.1, c.job ∙ b, c.tallies ∙ n)
beginner (free h) e f q b n = (refl, refl, refl, refl)
beginner (allocate c) e f q b n = (c.assembly, ap (λ (z : Queue). z.count) c.queue, c.job, c.tallies)

module _ {s : State} (r : Reached s) (a : Call) (f : Fits a) (i : ℕ) (h : i < s.table.n) where
  still_in : i < (after s a).table.n
  still_in = subst (λ (n : ℕ). i < n) (sym (same-sizes s a (reached-good r) f).n) h

  -- The client's accident, excluded: a free slot that a call gives to a new connection (create, connect request) was as it was made,
  -- holds and all, and starts with no assembly, no waiting job, no open job, nothing counted and its whole part of the room zero.
  pub new_connection : is_disconnected (slot_at s.table i).state ≡ true → is_disconnected (slot_at (after s a).table i).state ≡ false
      → (slot_at s.table i ≡ fresh 0) × Empty (after s a) i
  new_connection e e' =
      let n = newcomer (call_change s a (reached-good r) f i h).step e e' in
      (free-fresh r i h e ∙ ap (λ (k : ℕ). fresh k) n.0, unbegun_empty (Run.next a r f) i still_in n.1)

  -- And so it still is when it becomes Connected, by an accept or a connect response.
  pub connection_begins : begun (slot_at s.table i).state ≡ false → begun (slot_at (after s a).table i).state ≡ true → Empty (after s a) i
  connection_begins e e' =
      let g = reached-good r in
      let x = slot_sound g i h in
      let q = beginner (call_change s a g f i h).step e e' (x.quiet e) (x.owing.shut (unbegun_off (slot_at s.table i).state e))
      (x.counted.none (unbegun_uncounted (slot_at s.table i).state e)) in
      empty_part (Run.next a r f) i still_in q.0 q.1 q.2 q.3
