-- The loop that makes a run: behind `count` calls, which took `used` octets, what is left of the run comes to the whole of it. Its start, its turn, and its three ends.
use Rattle.std.specs.Prelude.{◌≡◌, List, length}
use Rattle.std.proofs.Math.Path.{sym}
use Rattle.std.proofs.Common.{ap, ◌∙◌, arith, le-leb, lt-ltb, le-ltb}
use Prim.Native.Nat.{ℕ, zero, suc, ◌+◌, ◌-◌, ◌*◌, ◌≤◌, ◌<◌}
use Rattle.std.proofs.lemmas.Bool.{lt-leb}
use Rattle.octets.specs.Octets.{part}
use Rattle.codes.specs.declared.Refusal.TheVariants.{NoRoom, Decode}
use Rattle.codes.specs.Codes.{refusal_number}
use Rattle.edge_run.specs.Run.{Lent, Ran, ended, answer_size, ran}
use Rattle.edge_run.specs.Turns.{ran_over, ran_cut, ran-full, ran_turn}

pub record Running (items : List ℕ) (size : (from : ℕ) → ℕ) (call : (from at : ℕ) → (answer : List ℕ) → Lent → Lent) (whole : Ran) (count used : ℕ) (l : Lent) : Type 0 where
  pub behind : count ≤ used  -- every call takes an octet
  pub within : used ≤ length items
  pub placed : answer_size * count ≤ length l.answers
  pub is : ran items size call (length items - count) count used l ≡ whole

pub running_start : (items : List ℕ) (size : (from : ℕ) → ℕ) (call : (from at : ℕ) → (answer : List ℕ) → Lent → Lent) (l : Lent)
    → Running items size call (ran items size call (length items) 0 0 l) 0 0 l
running_start items size call l =
    let e : length items - 0 ≡ length items = omega arith in
    record { behind = omega arith; within = omega arith; placed = omega arith; is = rw e }

module _ {items : List ℕ} {size : (from : ℕ) → ℕ} {call : (from at : ℕ) → (answer : List ℕ) → Lent → Lent} {whole : Ran} {count used : ℕ} {l : Lent}
    (r : Running items size call whole count used l) where
  -- where an octet is left, so is a turn
  left : used < length items → ran items size call (suc (length items - count - 1)) count used l ≡ whole
  left h =
      let b = r.behind in
      let e : suc (length items - count - 1) ≡ length items - count = omega arith in
      rw e r.is

  pub running_over : length items ≤ used → ended 0 count used l ≡ whole
  unfolding ran
  running_over h = go (length items - count) r.is
    where
      go : (turns : ℕ) → ran items size call turns count used l ≡ whole → ended 0 count used l ≡ whole
      go zero e = e
      go (suc turns) e = sym (ran_over items size call turns count used l (le-leb (length items) used h)) ∙ e

  module _ (h : used < length items) where
    pub running_cut : length items < used + size used → ended (refusal_number Decode) count used l ≡ whole
    running_cut f = sym (ran_cut items size call (length items - count - 1) count used l (lt-leb (length items) used h) (lt-ltb (length items) (used + size used) f)) ∙ left h

    module _ (f : used + size used ≤ length items) where
      pub running_full : length l.answers < answer_size * suc count → ended (refusal_number NoRoom) count used l ≡ whole
      running_full g =
          sym (ran-full items size call (length items - count - 1) count used l (lt-leb (length items) used h) (le-ltb (length items) (used + size used) f) (lt-ltb (length l.answers) (answer_size * suc count) g))
          ∙ left h

      pub running_turn : answer_size * suc count ≤ length l.answers → 0 < size used → (l' : Lent) → length l'.answers ≡ length l.answers
          → call used (answer_size * count) (part l.answers (answer_size * count) answer_size) l ≡ l' → Running items size call whole (count + 1) (used + size used) l'
      running_turn g some l' long called =
          let b = r.behind in
          let e : length items - (count + 1) ≡ length items - count - 1 = omega arith in
          let s : count + 1 ≡ suc count = omega arith in
          record {
            behind = omega arith;
            within = f;
            placed = rw (s, long) g;
            is =
                rw (e, s)
                (ap (ran items size call (length items - count - 1) (suc count) (used + size used)) (sym called)
                ∙ sym (ran_turn items size call (length items - count - 1) count used l (lt-leb (length items) used h) (le-ltb (length items) (used + size used) f) (le-ltb (length l.answers) (answer_size * suc count) g))
                ∙ left h);
          }
