-- A call changes the tallies of one slot at most, and only of a slot of its own; but for link down, and a connect response that matches no attempt, which free several. Rests on which slots a call
-- may change (crate rules_slots, Change.antt).
use Rattle.std.specs.Prelude.{◌≡◌, refl, Bool, true, false, List, ℕ, ◌<◌, eqb, get_or}
use Rattle.std.proofs.Common.{sym, ap, ◌∙◌, subst, arith, eqb-true}
use Rattle.std.proofs.lemmas.Bool.{eqb-false}
use Rattle.sar_cut.proofs.CutLaws.{split}
use Rattle.signal_forms.specs.declared.DisconnectionReq.{DisconnectionReq}
use Rattle.signal_forms.specs.declared.DisconnectionRes.{DisconnectionRes}
use Rattle.signal_forms.specs.declared.LeCreditFlowInd.{LeCreditFlowInd}
use Rattle.channel.specs.declared.Slot.{Slot}
use Rattle.channel.specs.declared.Table.{Table}
use Rattle.definition.specs.Table.{slot_at}
use Rattle.definition.specs.Calls.{Call, frame, sends, portions, down, plain, Window, Request, register, signals, pends, rejects_all, accepts, rejects, drops, creates, opens, gives, holds, releases, leaves, leaves_cid, announces, takes, starts, cancels, attends, asks, sends_signal, writes, bare, decide}
use Rattle.definition.specs.Forms.{Fit}
use Rattle.rules_slots.specs.Words.{Attempt, OpenTo, Lowest}
use Rattle.rules_slots.specs.Change.{BySignal, disconnects, frees, connects, matches, unmatched, credits, Asking, MayChange}
use Rattle.rules_slots.proofs.Changes.{change_law}
use Rattle.rules_tallies.specs.Single.{Several, link_down, response}

lowest_same : {P : Slot → Type 0} {t : Table} {i j : ℕ} → Lowest P t i → Lowest P t j → i ≡ j
lowest_same {i = i} {j} a b =
    split i j (λ h. split j i (λ k. omega arith) (λ k. absurd (b.least i k a.stands))) (λ h. absurd (a.least j h b.stands))

-- two codes
never : {A : Type 0} {k m n : ℕ} → k ≡ m → k ≡ n → (m ≡ n → ⊥) → A
never e f off = absurd (off (sym e ∙ f))

module _ {t : Table} {l : ℕ} {pdu : List ℕ} {i j : ℕ} where
  signal-one : (get_or pdu 0 0 ≡ 0x15 → ((k : ℕ) → k < t.n → ¬ Attempt l (get_or pdu 1 0) (slot_at t k)) → ⊥) → BySignal t l pdu i → BySignal t l pdu j → i ≡ j
  signal-one off (disconnects {req} e f g h) (disconnects {req = req'} e' f' g' h') =
      let q : req ≡ req' = cc in
      let z : req.dcid ≡ req'.dcid = ap (λ (x : DisconnectionReq). x.dcid) q in
      omega arith
  signal-one off (disconnects e f g h) (frees e' f' g' h') = never e e' (λ z. omega arith)
  signal-one off (disconnects e f g h) (connects e' h') = never e e' (λ z. omega arith)
  signal-one off (disconnects e f g h) (matches e' h') = never e e' (λ z. omega arith)
  signal-one off (disconnects e f g h) (unmatched e' f' h') = absurd (off e' f')
  signal-one off (disconnects e f g h) (credits e' f' h') = never e e' (λ z. omega arith)
  signal-one off (frees e f g h) (disconnects e' f' g' h') = never e e' (λ z. omega arith)
  signal-one off (frees {res} e f g h) (frees {res = res'} e' f' g' h') =
      let q : res ≡ res' = cc in
      let z : res.scid ≡ res'.scid = ap (λ (x : DisconnectionRes). x.scid) q in
      omega arith
  signal-one off (frees e f g h) (connects e' h') = never e e' (λ z. omega arith)
  signal-one off (frees e f g h) (matches e' h') = never e e' (λ z. omega arith)
  signal-one off (frees e f g h) (unmatched e' f' h') = absurd (off e' f')
  signal-one off (frees e f g h) (credits e' f' h') = never e e' (λ z. omega arith)
  signal-one off (connects e h) (disconnects e' f' g' h') = never e e' (λ z. omega arith)
  signal-one off (connects e h) (frees e' f' g' h') = never e e' (λ z. omega arith)
  signal-one off (connects e h) (connects e' h') = lowest_same h h'
  signal-one off (connects e h) (matches e' h') = never e e' (λ z. omega arith)
  signal-one off (connects e h) (unmatched e' f' h') = absurd (off e' f')
  signal-one off (connects e h) (credits e' f' h') = never e e' (λ z. omega arith)
  signal-one off (matches e h) (disconnects e' f' g' h') = never e e' (λ z. omega arith)
  signal-one off (matches e h) (frees e' f' g' h') = never e e' (λ z. omega arith)
  signal-one off (matches e h) (connects e' h') = never e e' (λ z. omega arith)
  signal-one off (matches e h) (matches e' h') = lowest_same h h'
  signal-one off (matches e h) (unmatched e' f' h') = absurd (off e' f')
  signal-one off (matches e h) (credits e' f' h') = never e e' (λ z. omega arith)
  signal-one off (unmatched e f h) b = absurd (off e f)
  signal-one off (credits e f h) (disconnects e' f' g' h') = never e e' (λ z. omega arith)
  signal-one off (credits e f h) (frees e' f' g' h') = never e e' (λ z. omega arith)
  signal-one off (credits e f h) (connects e' h') = never e e' (λ z. omega arith)
  signal-one off (credits e f h) (matches e' h') = never e e' (λ z. omega arith)
  signal-one off (credits e f h) (unmatched e' f' h') = absurd (off e' f')
  signal-one off (credits {ind} e f h) (credits {ind = ind'} e' f' h') =
      let q : ind ≡ ind' = cc in
      lowest_same (subst (λ (x : LeCreditFlowInd). Lowest (OpenTo l x.cid) t i) q h) h'

same : {i j s : ℕ} → i ≡ s → j ≡ s → i ≡ j
same e f = e ∙ sym f

module _ (t : Table) {i j : ℕ} where
  asking-one : (r : Request) (v w : Window) → (Several t (plain r v w) → ⊥) → Asking t r i → Asking t r j → i ≡ j
  asking-one (register spsm) v w off a b = absurd a
  asking-one (signals l listening central pdu) v w off a b = signal-one (λ e f. off (response e f)) a b
  asking-one (pends l up) v w off a b = lowest_same a b
  asking-one (rejects_all l) v w off a b = lowest_same a b
  asking-one (accepts s c) v w off a b = same a b
  asking-one (rejects s result) v w off a b = same a b
  asking-one (drops s) v w off a b = same a b
  asking-one (creates l spsm c) v w off a b = lowest_same a b
  asking-one (opens s l up) v w off a b = same a.0 b.0
  asking-one (gives s) v w off a b = same a b
  asking-one (holds s) v w off a b = same a b
  asking-one (releases s) v w off a b = same a b
  asking-one (leaves s) v w off a b = same a b
  asking-one (leaves_cid cid) v w off a b = omega arith
  asking-one announces v w off a b = lowest_same a b
  asking-one (takes s) v w off a b = same a b
  asking-one (starts s l) v w off a b = same a b
  asking-one (cancels s) v w off a b = same a b
  asking-one attends v w off a b = absurd a
  asking-one (asks of s) v w off a b = absurd a
  asking-one (sends_signal l s) v w off a b = absurd a
  asking-one (writes octets) v w off a b = absurd a

  may_one : (c : Call) → (Several t c → ⊥) → MayChange t c i → MayChange t c j → i ≡ j
  may_one (frame l cid payload) off a b = let e = a.0 in let f = b.0 in omega arith
  may_one (sends s sdu out) off a b = same a b
  may_one (portions s octets out) off a b = same a b
  may_one (down l) off a b = absurd (off link_down)
  may_one (plain r v w) off a b = asking-one r v w off a b

-- ONE SLOT AT MOST: two slots whose tallies a call changes are one.
pub one-slot : (t : Table) → Fit t → (c : Call) → ¬ Several t c → (count room out job : ℕ) (i j : ℕ)
    → ¬ ((slot_at (decide t (bare t c) count room out job).table i).tallies ≡ (slot_at t i).tallies) → ¬ ((slot_at (decide t (bare t c) count room out job).table j).tallies ≡ (slot_at t j).tallies) → i ≡ j
one-slot t fit c off count room out job i j a b = by (eqb i j) refl
  where
    changed : (k : ℕ) → ¬ ((slot_at (decide t (bare t c) count room out job).table k).tallies ≡ (slot_at t k).tallies) → ¬ ¬ ((k < t.n) × MayChange t c k)
    changed k z off = z (ap (λ (x : Slot). x.tallies) ((change_law t fit c count room out job).0 k off).slot)

    by : (e : Bool) → eqb i j ≡ e → i ≡ j
    by true e = eqb-true i j e
    by false e = absurd (changed i a (λ x. changed j b (λ y. eqb-false i j e (may_one t c off x.1 y.1))))
