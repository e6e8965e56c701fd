-- The attention set's law, proved: `calls` of the definition says what `Calling` says, state by state, and the laws of `bitset`, `count` and
-- `first` (crate lists) do the rest.
use Rattle.std.specs.Prelude.{◌≡◌, Bool, ◌||◌, [], ltb, length, take, get_or, Result}
use Rattle.std.proofs.Math.Path.{refl, subst}
use Rattle.std.proofs.Common.{sym, ap, ◌∙◌, arith, length-take, get_or-take, ltb-true, lt-ltb}
use Rattle.std.proofs.Math.Bool.{true, false}
use Rattle.std.proofs.lemmas.Bool.{false≢true, not-true}
use Prim.Native.Nat.{ℕ, zero, suc, ◌+◌, ◌/◌, ◌%◌, ◌^◌, ◌≤◌, ◌<◌}
use Rattle.lists.specs.Choose.{if_cases}
use Rattle.lists.specs.First.{first, first_passes}
use Rattle.lists.specs.Bits.{bit, bitset, count, bitset-width, bit-says}
use Rattle.channel.specs.declared.Answer.TheVariants.{Attention}
use Rattle.channel.specs.declared.ChannelState.{ChannelState}
use Rattle.channel.specs.declared.ChannelState.TheVariants.{Disconnected, Connecting, PeerConnecting, Connected, ConnectFailed, PeerDisconnecting, Disconnecting}
use Rattle.channel.specs.declared.Slot.{Slot}
use Rattle.channel.specs.declared.Table.{Table}
use Rattle.definition.specs.Table.{gap, slot_at, live, is_due, is_connect_failed, calls}
use Rattle.definition.specs.Outcome.{verdict, passed, still}
use Rattle.definition.specs.Asking.{attention}
use Rattle.definition.specs.Calls.{bare, serve, decide}
use Rattle.definition.specs.Forms.{Fit}
use Rattle.rules_slots.specs.Attention.{Calling, job, answer_due, request_due, failed, Number, none, more, same, Attends, Told, refused, told, AttentionLaw}
use Rattle.rules_slots.proofs.Lists.{first-within, first_below, count-more}
use Rattle.codes.specs.declared.Refusal.{Refusal}

-- ---- the test says what the words say

by_state : (x : Slot) (k : ChannelState) → x.state ≡ k → (is_due k || is_connect_failed k) ≡ true → Calling x
by_state x Disconnected e f = absurd (false≢true f)
by_state x (Connecting i) e f = absurd (false≢true f)
by_state x (PeerConnecting i) e f = absurd (false≢true f)
by_state x Connected e f = absurd (false≢true f)
by_state x (ConnectFailed c) e f = failed e
by_state x (PeerDisconnecting i) e f = answer_due e
by_state x (Disconnecting true) e f = absurd (false≢true f)
by_state x (Disconnecting false) e f = request_due e

says : (x : Slot) → calls x ≡ true → Calling x
says x e = go (ltb 0 x.queue.count) refl e
  where
    go : (b : Bool) → ltb 0 x.queue.count ≡ b → (b || (is_due x.state || is_connect_failed x.state)) ≡ true → Calling x
    go true l f = job (ltb-true 0 x.queue.count l)
    go false l f = by_state x x.state refl f

or_any : (b : Bool) {c : Bool} → c ≡ true → (b || c) ≡ true
or_any true e = refl
or_any false e = e

said : (x : Slot) → Calling x → calls x ≡ true
said x (job h) = ap (λ (b : Bool). b || (is_due x.state || is_connect_failed x.state)) (lt-ltb 0 x.queue.count h)
said x (answer_due e) = or_any (ltb 0 x.queue.count) (ap (λ (k : ChannelState). is_due k || is_connect_failed k) e)
said x (request_due e) = or_any (ltb 0 x.queue.count) (ap (λ (k : ChannelState). is_due k || is_connect_failed k) e)
said x (failed e) = or_any (ltb 0 x.queue.count) (ap (λ (k : ChannelState). is_due k || is_connect_failed k) e)

unsaid : (x : Slot) → calls x ≡ false → ¬ Calling x
unsaid x e c = false≢true (sym e ∙ said x c)

-- ---- the set, the number and the lowest

module _ (t : Table) (fit : Fit t) where
  at-live : (i : ℕ) → i < t.n → get_or (live t) i gap ≡ slot_at t i
  at-live i h = get_or-take t.n t.slots i gap h

  long : length (live t) ≡ t.n
  long = omega (arith, length-take t.n t.slots, fit.fits)

  bit-of : (i : ℕ) → i < t.n → bitset calls (live t) / 2 ^ i % 2 ≡ bit (calls (slot_at t i))
  bit-of i h = bit-says calls gap (live t) i (rw long h) ∙ ap (λ (x : Slot). bit (calls x)) (at-live i h)

  one : (b : Bool) → bit b ≡ 1 → b ≡ true
  one true e = refl
  one false e = absurd (omega arith)

  numbered : (n : ℕ) → n ≤ length t.slots → Number t n (count calls (take n t.slots))
  unfolding count
  numbered zero h = none
  numbered (suc n) h = rw (count-more calls gap t.slots n h) (go (calls (slot_at t n)) refl (numbered n (omega arith)))
    where
      go : (b : Bool) → calls (slot_at t n) ≡ b → Number t n (count calls (take n t.slots)) → Number t (suc n) (count calls (take n t.slots) + bit b)
      go true e h' = subst (λ (c : ℕ). Number t (suc n) c) (omega arith) (more h' (says (slot_at t n) e))
      go false e h' = subst (λ (c : ℕ). Number t (suc n) c) (omega arith) (same h' (unsaid (slot_at t n) e))

  attending : Attends t (bitset calls (live t)) (count calls (live t)) (first calls (live t))
  attending =
      record {
        says = λ i h e. says (slot_at t i) (one _ (sym (bit-of i h) ∙ e));
        calls = λ i h c. bit-of i h ∙ ap bit (said (slot_at t i) c);
        bits = bitset-width calls t.n (live t) (omega (arith, long));
        counts = numbered t.n fit.fits;
        within = omega (arith, long, first-within calls (live t));
        stands = λ h. says (slot_at t (first calls (live t))) (ap calls (sym (at-live (first calls (live t)) h)) ∙ first_passes calls gap (live t) (omega (arith, long)));
        least = λ i h. unsaid (slot_at t i) (ap calls (sym (at-live i (omega (arith, long, first-within calls (live t))))) ∙ first_below calls gap (live t) i h);
      }

  attention-told : Told t (attention t).answer
  unfolding attention verdict
  attention-told =
      if_cases P _ (λ e. refused (not-true _ e)) λ _.
      if_cases P _ (λ e. absurd (false≢true e)) λ _. if_cases P _ (λ e. absurd (false≢true e)) λ _.
      if_cases P _ (λ e. absurd (false≢true e)) λ _. if_cases P _ (λ e. absurd (false≢true e)) λ _. told attending
    where
      P : Result (Unit {0}) Refusal → Type 0
      P v = Told t (passed t v (still t (Attention (bitset calls (live t)) (count calls (live t)) (first calls (live t))) [])).answer

pub attention_law : AttentionLaw
unfolding decide bare serve
attention_law t fit out tray jobs room signal size = attention-told t fit
