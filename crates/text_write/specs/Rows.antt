-- What a writer of rows does: its piece is written over the buffer, and its answer is the place behind the piece, at most the buffer's end.
-- The law: two pieces written one after the other are one piece. It rests on the laws of a run of stores (octets' Sets).
use Rattle.std.specs.Prelude.{◌≡◌, refl, List, ◌++◌, ℕ, ◌+◌, ◌≤◌, min, Bool, true, false, leb, length}
use Rattle.std.proofs.Common.{sym, ◌∙◌, arith, leb-true, leb-false, length-append}
use Rattle.std.proofs.lemmas.List.Edits.{sets}
use Rattle.std.proofs.Math.Seq.{length-sets}
use Rattle.octets.specs.Sets.{sets-append, sets-out}

pub record Writes (l : List ℕ) (at : ℕ) (s : List ℕ) (r : ℕ) (out : List ℕ) : Type 0 where
  pub next : r ≡ min (at + length s) (length l)
  pub buffer : out ≡ sets l at s

pub writes-append : {l l' l'' : List ℕ} {at m r : ℕ} {s t : List ℕ} → Writes l at s m l' → Writes l' m t r l'' → Writes l at (s ++ t) r l''
writes-append {l} {l'} {l''} {at} {m} {r} {s} {t} w v =
    let long : length l' ≡ length l = rw w.buffer (length-sets l at s) in
    record {
      next = omega (arith, w.next, v.next, long, length-append s t);
      buffer = v.buffer ∙ rw w.buffer (go (leb (at + length s) (length l)) refl) ∙ sym (sets-append l at s t);
    }
  where
    go : (b : Bool) → leb (at + length s) (length l) ≡ b → sets (sets l at s) m t ≡ sets (sets l at s) (at + length s) t
    go true e =
        let q : m ≡ at + length s = omega (arith, w.next, leb-true (at + length s) (length l) e) in rw q
    go false e =
        let k : length l ≤ m = omega (arith, w.next, leb-false (at + length s) (length l) e) in
        let a : length (sets l at s) ≤ m = rw length-sets k in
        let b : length (sets l at s) ≤ at + length s = rw length-sets (omega (arith, leb-false (at + length s) (length l) e)) in
        sets-out (sets l at s) m t a ∙ sym (sets-out (sets l at s) (at + length s) t b)
