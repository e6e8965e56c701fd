-- A call of a public function, as its contract has it: what it gave back, and what state it leaves to the caller. ONE law for all calls: that
-- state is the next one of a run (definition, Run.antt). Rests on Lift.antt and Roomless.antt of the definition.
use Rattle.std.specs.Prelude.{◌≡◌, refl, List, ℕ, ◌≤◌, length, take, drop}
use Rattle.std.proofs.Common.{sym, ◌∙◌, arith}
use Rattle.std.proofs.Math.Path.{ap}
use Rattle.std.proofs.lemmas.List.Edits.{sets}
use Rattle.std.proofs.Math.Seq.{length-sets}
use Rattle.lists.specs.Sets.{part_length, part-before, part-after, part_same}
use Rattle.channel.specs.declared.Served.{Served}
use Rattle.definition.specs.Mem.{Fill, fills, written}
use Rattle.definition.specs.Calls.{Window, Call, jobs}
use Rattle.definition.specs.Ending.{itself, End, end_of, served_of}
use Rattle.definition.specs.Run.{State, lent, out_window, job_window, outcome, after}
use Rattle.definition.proofs.Lift.{call_after}
use Rattle.rules_code.proofs.Written.{ended, called-written}
use Rattle.rules_code.specs.Called.{Apart, Called, Lends, Within, before, behind, with-room}

-- what is written to one buffer leaves the other
lent-apart : (w v : Window) (memory tray : List ℕ) → Apart w v → Within w memory → length tray ≤ v.size → lent w (sets memory v.from tray) ≡ lent w memory
lent-apart w v memory tray (before h) l n = part-before 0 memory v.from tray w.from w.size h l
lent-apart w v memory tray (behind h) l n = part-after 0 memory v.from tray w.from w.size (omega arith) l

turned : {w v : Window} → Apart w v → Apart v w
turned (before h) = behind h
turned (behind h) = before h

written-long : (js room out : List ℕ) (at : ℕ) (fs : List Fill) → length (written itself js room at fs out) ≡ length out
unfolding written
written-long js room out at fs = length-sets out at (fills itself js room fs)

module _ {s s' : State} {c : Call} {r : Served} (p : Called s c r s') where
  out-size : length p.out ≡ (out_window c).size
  out-size = ap length (called-written p).0 ∙ written-long _ _ _ _ _ ∙ part_length s.memory (out_window c).from (out_window c).size p.lends.out

  tray-size : length p.tray ≡ (job_window c).size
  tray-size = ap length (called-written p).1 ∙ written-long _ _ _ _ _ ∙ part_length s.memory (job_window c).from (job_window c).size p.lends.tray

  abbrev trayed : List ℕ
  trayed = sets s.memory (job_window c).from p.tray

  -- ---- THE LAW

  pub called-after : s' ≡ after s c
  called-after =
      let apart = lent-apart (out_window c) (job_window c) s.memory p.tray p.lends.apart p.lends.out (omega (arith, tray-size)) in
      let e : after s c ≡ record { table = r.table; room = s'.room; memory = sets trayed (out_window c).from p.out } = call_after s c r s'.room p.out p.tray (ended p.ends) apart in
      let f : s' ≡ record { table = r.table; room = s'.room; memory = sets trayed (out_window c).from p.out } = rw (← p.table, ← p.memory) refl in
      f ∙ sym e

  -- and what it gives back is what the run has for it: answer, table, and how many octets are given out
  pub called_served : r ≡ served_of (outcome s c)
  unfolding end_of
  called_served = ap (λ (x : End). x.served) (ended p.ends)

  -- and the caller finds in each buffer what the function left there
  pub called-out : lent (out_window c) s'.memory ≡ p.out
  called-out =
      ap (lent (out_window c)) p.memory
      ∙ ap (λ (n : ℕ). take n (drop (out_window c).from (sets trayed (out_window c).from p.out))) (sym out-size)
      ∙ part_same 0 trayed (out_window c).from p.out (omega (arith, out-size, p.lends.out, length-sets s.memory (job_window c).from p.tray))

  pub called-tray : lent (job_window c) s'.memory ≡ p.tray
  called-tray =
      ap (lent (job_window c)) p.memory
      ∙ lent-apart (job_window c) (out_window c) trayed p.out (turned p.lends.apart) (rw (length-sets s.memory (job_window c).from p.tray) p.lends.tray) (omega (arith, out-size))
      ∙ ap (λ (n : ℕ). take n (drop (job_window c).from trayed)) (sym tray-size)
      ∙ part_same 0 s.memory (job_window c).from p.tray (omega (arith, tray-size, p.lends.tray))

-- ---- "that two results meeting it coincide is proved": of every call, what is given back and every octet that is left

pub called_coincide : {s s₁ s₂ : State} {c : Call} {r₁ r₂ : Served} → Called s c r₁ s₁ → Called s c r₂ s₂ → (r₁ ≡ r₂) × (s₁ ≡ s₂)
called_coincide p q = (called_served p ∙ sym (called_served q), called-after p ∙ sym (called-after q))

-- ---- and every call can so end: what the definition has for it meets the contract

pub meets : (s : State) (c : Call) → Lends s c → Called s c (served_of (outcome s c)) (after s c)
unfolding after end_of
meets s c l =
    let js = jobs s.table c in
    let o = outcome s c in
    let tray = written itself js s.room 0 o.job (lent (job_window c) s.memory) in
    let n : length tray ≤ (job_window c).size = omega (arith, written-long js s.room (lent (job_window c) s.memory) 0 o.job, part_length s.memory (job_window c).from (job_window c).size l.tray) in
    let e = lent-apart (out_window c) (job_window c) s.memory tray l.apart l.out n in
    record {
      lends = l;
      out = written itself js s.room o.at o.out (lent (out_window c) s.memory);
      tray = tray;
      ends = with-room refl;
      table = refl;
      memory = ap (λ (ys : List ℕ). sets (sets s.memory (job_window c).from tray) (out_window c).from (written itself js s.room o.at o.out ys)) e;
    }
