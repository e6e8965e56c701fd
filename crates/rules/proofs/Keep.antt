-- Every kind of step keeps a slot sound. The credit account's own laws carry the sum; the rest is arithmetic and two laws of lists.
use Rattle.std.specs.Prelude.{◌≡◌, Bool, false, leb, take, drop, set}
use Rattle.std.proofs.Math.Path.{refl}
use Rattle.std.proofs.Common.{sym, ap, ◌∙◌, subst, subst₂, mod-lt, add-one, length-set, length-append, length-drop, le-leb}
use Rattle.std.proofs.Math.Bool.{true}
use Rattle.std.proofs.lemmas.Bool.{false≢true}
use mathlib.Core.List.{List, [], ◌∷◌, ◌++◌}
use Prim.Native.Nat.{ℕ, zero, suc, ◌+◌, ◌-◌, ◌≤◌}
use native.Mathlib.Omega.{arith}
use Rattle.std.proofs.Math.Seq.{take-nil}
use Rattle.lists.specs.Choose.{choose_true, choose_false}
use Rattle.lists.specs.Every.{every}
use Rattle.credit.specs.declared.CreditFlowControl.{CreditFlowControl}
use Rattle.credit.specs.Account.{credit_sum}
use Rattle.credit_laws.specs.AccountLaws.{received-sum, grant_settles}
use Rattle.sar_join.specs.declared.Assembly.{Assembly}
use Rattle.sar_join.specs.Joining.{idle}
use Rattle.channel.specs.Limits.{credits_most}
use Rattle.channel.specs.declared.ChannelState.{ChannelState}
use Rattle.channel.specs.declared.ChannelState.TheVariants.{Disconnected, PeerDisconnecting, Disconnecting}
use Rattle.channel.specs.declared.OpenJob.{OpenJob}
use Rattle.channel.specs.declared.Peer.{Peer}
use Rattle.channel.specs.declared.Queue.{Queue}
use Rattle.channel.specs.declared.Slot.{Slot}
use Rattle.channel.specs.declared.Table.{Table}
use Rattle.channel.specs.declared.Tallies.{Tallies}
use Rattle.definition.specs.Mem.{Move}
use Rattle.definition.specs.Table.{place_of, fresh, is_connected, below_least, with_hold, no_tallies}
use Rattle.lists.specs.Both.{and_left, and_right, and_both}
use Rattle.rules.specs.Tests.{begun, counting}
use Rattle.rules.proofs.Tests.{begun-live, pending_off, pending-offered, pending_unbegun, connected-counting, unbegun_uncounted}
use Rattle.rules.specs.Step.{Accounting, same, use_one, grant, Jobs, keep, leave, grow, finish, hand, Sending, off, Counting, uncounted, reset, parted, sent, arrived, blocked_send, blocked_receive, Goes, Step, hold, go, accept, free, allocate, Steps, rest, next}
use Rattle.rules.proofs.Aside.{none_owing, sending_owing}
use Rattle.rules.specs.Sound.{Holding, Within, Owing, Below, Counted, Sound, AllSound}

-- ---- two laws of lists: one more element that passes; one fewer at the front

module _ {A : Type 0} (p : A → Bool) where
  pub every_set : (l : List A) (n : ℕ) (a : A) → every p (take n l) ≡ true → p a ≡ true → every p (take (suc n) (set l n a)) ≡ true
  unfolding every
  every_set [] n a h e = refl
  every_set (x ∷ l) zero a h e = and_both (p a) true e refl
  every_set (x ∷ l) (suc n) a h e = and_both (p x) _ (and_left (p x) _ h) (every_set l n a (and_right (p x) _ h) e)

  every-end : (l : List A) (n : ℕ) (a : A) → every p (take n l) ≡ true → p a ≡ true → every p (take n (l ++ a ∷ [])) ≡ true
  unfolding every
  every-end l zero a h e = refl
  every-end [] (suc n) a h e = rw (take-nil {A = A} n) (and_both (p a) true e refl)
  every-end (x ∷ l) (suc n) a h e = and_both (p x) _ (and_left (p x) _ h) (every-end l n a (and_right (p x) _ h) e)

  every_shift : (l : List A) (n : ℕ) (a : A) → every p (take n l) ≡ true → p a ≡ true → every p (take (n - 1) (drop 1 l ++ a ∷ [])) ≡ true
  unfolding every
  every_shift l zero a h e = refl
  every_shift [] (suc n) a h e = let z : suc n - 1 ≡ n = omega arith in rw z (every-end [] n a (rw (take-nil {A = A} n) refl) e)
  every_shift (x ∷ l) (suc n) a h e = let z : suc n - 1 ≡ n = omega arith in rw z (every-end l n a (and_right (p x) _ h) e)

-- ---- credits: no step but a new account changes the sum

pub accounting_sum : {a b : CreditFlowControl} → Accounting a b → credit_sum a ≤ credits_most → credit_sum b ≡ credit_sum a
accounting_sum same h = refl
accounting_sum {a} (use_one some) h = received-sum a 1 h (omega arith)
accounting_sum {a} (grant {n} e) h = (grant_settles a n h e).sum

-- ---- jobs

idle_holding : (d p : ℕ) (a : Assembly) (q : Queue) → Holding d p a q → Holding d p idle q
idle_holding d p a q h = record { count = h.count; lens = h.lens; long = h.long; have = omega arith; want = omega arith; closed = λ _. refl }

module _ (t : Table) (k : ℕ) (x : Slot) where
  jobs_holding : {a : Assembly} {q : Queue} {ms : List Move} → Jobs t k x a q ms → x.mtu ≤ place_of t → Holding t.d (place_of t) x.assembly x.queue → Holding t.d (place_of t) a q
  jobs_holding keep m h = h
  jobs_holding leave m h = idle_holding t.d (place_of t) x.assembly x.queue h
  jobs_holding (grow b e l w) m h = record { count = h.count; lens = h.lens; long = h.long; have = omega arith; want = omega arith; closed = λ z. absurd (omega arith) }
  jobs_holding (finish {len} b e w f) m h =
      record {
        count = omega arith;
        lens = rw (add-one x.queue.count) (every_set (λ n. leb n (place_of t)) x.queue.lens x.queue.count len h.lens (le-leb len (place_of t) (omega arith)));
        long = length-set x.queue.lens x.queue.count len ∙ h.long;
        have = omega arith;
        want = omega arith;
        closed = λ _. refl;
      }
  jobs_holding (hand b c) m h =
      record {
        count = let g = h.count in omega arith;
        lens = every_shift (λ n. leb n (place_of t)) x.queue.lens x.queue.count 0 h.lens (le-leb 0 (place_of t) (omega arith));
        long = let g = h.long in simp (length-append, length-drop) (omega arith);
        have = h.have;
        want = h.want;
        closed = h.closed;
      }

  -- no job comes in above our MTU
  jobs-within : {a : Assembly} {q : Queue} {ms : List Move} → Jobs t k x a q ms → Within x.mtu x.assembly x.queue → Within x.mtu a q
  jobs-within keep h = h
  jobs-within leave h = record { lens = h.lens; want = omega arith }
  jobs-within (grow b e l w) h = record { lens = h.lens; want = w }
  jobs-within (finish {len} b e w f) h =
      record {
        lens = rw (add-one x.queue.count) (every_set (λ n. leb n x.mtu) x.queue.lens x.queue.count len h.lens (le-leb len x.mtu w));
        want = omega arith;
      }
  jobs-within (hand b c) h =
      record { lens = every_shift (λ n. leb n x.mtu) x.queue.lens x.queue.count 0 h.lens (le-leb 0 x.mtu (omega arith)); want = h.want }

  -- what has not begun holds nothing before and after
  pub jobs-quiet : {a : Assembly} {q : Queue} {ms : List Move} → Jobs t k x a q ms → begun x.state ≡ false → (x.assembly ≡ idle) × (x.queue.count ≡ 0) → (a ≡ idle) × (q.count ≡ 0)
  jobs-quiet keep f h = h
  jobs-quiet leave f h = (refl, h.1)
  jobs-quiet (grow b e l w) f h = absurd (false≢true (sym f ∙ b))
  jobs-quiet (finish b e w g) f h = absurd (false≢true (sym f ∙ b))
  jobs-quiet (hand b c) f h = absurd (false≢true (sym f ∙ b))

-- a Connected slot counts
no_less : (x : Slot) {A : Type 0} → is_connected x.state ≡ true → counting x.state ≡ false → A
no_less x on e = absurd (false≢true (sym e ∙ connected-counting x.state on))

-- ---- what is counted: nothing where it is reset, and below 2^64 wherever it is counted

none_below : Below no_tallies
none_below = record { sent = omega arith; blocked_sends = omega arith; received = omega arith; blocked_receives = omega arith }

none-counted : (k : ChannelState) → Counted k no_tallies
none-counted k = record { none = λ _. refl; below = none_below }

pub counts-counted : (x : Slot) {k : ChannelState} {y : Tallies} → Counting x k y → Counted x.state x.tallies → Counted k y
counts-counted x (uncounted f) c = record { none = λ e. c.none (f e); below = c.below }
counts-counted x (reset {announced} y) c = subst (λ (z : Tallies). Counted (Disconnecting announced) z) (sym (choose_true true no_tallies y refl)) (none-counted (Disconnecting announced))
counts-counted x (parted {id}) c =
    subst (λ (z : Tallies). Counted (PeerDisconnecting id) z) (sym (choose_false false no_tallies x.tallies refl))
    (record { none = λ e. absurd (false≢true (sym e)); below = c.below })
counts-counted x (sent n on) c = record { none = no_less x on; below = record { sent = mod-lt (x.tallies.sends.frames + n) (omega arith); blocked_sends = c.below.blocked_sends; received = c.below.received; blocked_receives = c.below.blocked_receives } }
counts-counted x (arrived on) c = record { none = no_less x on; below = record { sent = c.below.sent; blocked_sends = c.below.blocked_sends; received = mod-lt (x.tallies.receives.frames + 1) (omega arith); blocked_receives = c.below.blocked_receives } }
counts-counted x (blocked_send on) c = record { none = no_less x on; below = record { sent = c.below.sent; blocked_sends = mod-lt (x.tallies.sends.blocked + 1) (omega arith); received = c.below.received; blocked_receives = c.below.blocked_receives } }
counts-counted x (blocked_receive on) c = record { none = no_less x on; below = record { sent = c.below.sent; blocked_sends = c.below.blocked_sends; received = c.below.received; blocked_receives = mod-lt (x.tallies.receives.blocked + 1) (omega arith) } }

-- what counts nothing before the step has counted nothing after it
pub counts-none : (x : Slot) {k : ChannelState} {y : Tallies} → Counting x k y → counting x.state ≡ false → x.tallies ≡ no_tallies → y ≡ no_tallies
counts-none x (uncounted f) e n = n
counts-none x (reset y) e n = choose_true true no_tallies y refl
counts-none x parted e n = choose_false false no_tallies x.tallies refl ∙ n
counts-none x (sent m on) e n = no_less x on e
counts-none x (arrived on) e n = no_less x on e
counts-none x (blocked_send on) e n = no_less x on e
counts-none x (blocked_receive on) e n = no_less x on e

not-begun : (x y : Slot) → Goes x y → begun y.state ≡ false → begun x.state ≡ false
not-begun x y g f = by (begun x.state) refl
  where
    by : (b : Bool) → begun x.state ≡ b → begun x.state ≡ false
    by true e = absurd (false≢true (sym f ∙ g.stays e))
    by false e = e

-- ---- a slot

-- where nothing waits and nothing arrives, nothing is too long
nothing_within : (most : ℕ) (a : Assembly) (q : Queue) → a ≡ idle → q.count ≡ 0 → Within most a q
unfolding every
nothing_within most a q e f = record { lens = rw f refl; want = rw e (omega arith) }

pub sound_fresh : (d p h : ℕ) → Sound d p (fresh h)
unfolding every
sound_fresh d p h =
    record {
      holding = record { count = omega arith; lens = refl; long = refl; have = omega arith; want = omega arith; closed = λ _. refl };
      mtu = omega arith;
      within = nothing_within 0 idle (fresh 0).queue refl refl;
      sum = omega arith;
      owing = none_owing false _ (omega arith);
      least = λ e. absurd (false≢true e);
      counted = none-counted Disconnected;
      free = λ _. refl;
      quiet = λ _. (refl, refl);
    }

pub step_sound : {t : Table} {k : ℕ} {x y : Slot} {ms : List Move} → Step t k x y ms → Sound t.d (place_of t) x → Sound t.d (place_of t) y
step_sound {x = x} (hold h) s =
    record { holding = s.holding; mtu = s.mtu; within = s.within; sum = s.sum; owing = s.owing; least = s.least; counted = s.counted; free = λ e. ap (λ (z : Slot). with_hold h z) (s.free e); quiet = s.quiet }
step_sound {t} {k} {x} {y} (go g a j o) s =
    record {
      holding = jobs_holding t k x j s.mtu s.holding;
      mtu = rw g.mtu s.mtu;
      within = rw g.mtu (jobs-within t k x j s.within);
      sum = rw (accounting_sum a s.sum) s.sum;
      owing = sending_owing x o s.owing;
      least = g.least s.least;
      counted = counts-counted x g.counts s.counted;
      free = λ e. absurd (false≢true (sym g.is ∙ e));
      quiet = λ f. let b = not-begun x y g f in jobs-quiet t k x j b (s.quiet b);
    }
step_sound {t} {k} {x} {y} (accept c) s =
    record {
      holding = subst₂ (λ (a : Assembly) (q : Queue). Holding t.d (place_of t) a q) (sym c.assembly) (sym c.queue) s.holding;
      mtu = c.mtu;
      within = let z = s.quiet (pending_unbegun x.state c.was) in nothing_within y.mtu y.assembly y.queue (c.assembly ∙ z.0) (ap (λ (q : Queue). q.count) c.queue ∙ z.1);
      sum = c.sum;
      owing = sending_owing x (subst₂ (λ (p : Peer) (j : OpenJob). Sending x (is_connected y.state) p j) (sym c.peer) (sym c.job) (off (pending_off x.state c.was))) s.owing;
      least = λ _. subst (λ (p : Peer). below_least p ≡ false) (sym c.peer) (s.least (pending-offered x.state c.was));
      counted = subst (λ (z : Tallies). Counted y.state z) (sym (c.tallies ∙ s.counted.none (unbegun_uncounted x.state (pending_unbegun x.state c.was)))) (none-counted y.state);
      free = λ e. absurd (false≢true (sym (begun-live y.state c.is) ∙ e));
      quiet = λ f. absurd (false≢true (sym f ∙ c.is));
    }
step_sound {t} (free h) s = sound_fresh t.d (place_of t) h
step_sound {t} {y = y} (allocate c) s =
    record {
      holding = subst₂ (λ (a : Assembly) (q : Queue). Holding t.d (place_of t) a q) (sym c.assembly) (sym c.queue) (sound_fresh t.d (place_of t) 0).holding;
      mtu = c.mtu;
      within = nothing_within y.mtu y.assembly y.queue c.assembly (ap (λ (q : Queue). q.count) c.queue);
      sum = c.sum;
      owing = subst (λ (j : OpenJob). Owing (is_connected y.state) y.peer j) (sym c.job) (none_owing (is_connected y.state) y.peer c.peer);
      least = c.least;
      counted = subst (λ (z : Tallies). Counted y.state z) (sym c.tallies) (none-counted y.state);
      free = λ e. absurd (false≢true (sym c.is ∙ e));
      quiet = λ _. (c.assembly, ap (λ (q : Queue). q.count) c.queue);
    }

pub steps_sound : {t : Table} {k : ℕ} {xs ys : List Slot} {mss : List (List Move)} → Steps t k xs ys mss → AllSound t.d (place_of t) xs → AllSound t.d (place_of t) ys
steps_sound rest s = s
steps_sound (next p r) s = (step_sound p s.0, steps_sound r s.1)
