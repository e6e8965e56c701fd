-- A run unrolled by one turn, for the loop that makes it.
use Rattle.std.specs.Prelude.{◌≡◌, true, false, List, ℕ, suc, ◌+◌, ◌*◌, leb, ltb, length}
use Rattle.octets.specs.Octets.{part}
use Rattle.codes.specs.declared.Refusal.TheVariants.{NoRoom, Decode}
use Rattle.codes.specs.Codes.{refusal_number}
use Rattle.lists.specs.Choose.{choose}
use Rattle.edge_run.specs.Run.{Lent, ended, answer_size, ran}

module _ (items : List ℕ) (size : (from : ℕ) → ℕ) (call : (from at : ℕ) → (answer : List ℕ) → Lent → Lent) (turns count used : ℕ) (l : Lent) where
  pub ran_over : leb (length items) used ≡ true → ran items size call (suc turns) count used l ≡ ended 0 count used l
  unfolding ran choose
  ran_over e = rw e

  pub ran_cut : leb (length items) used ≡ false → ltb (length items) (used + size used) ≡ true → ran items size call (suc turns) count used l ≡ ended (refusal_number Decode) count used l
  unfolding ran choose
  ran_cut e f = rw (e, f)

  pub ran-full : leb (length items) used ≡ false → ltb (length items) (used + size used) ≡ false → ltb (length l.answers) (answer_size * suc count) ≡ true
      → ran items size call (suc turns) count used l ≡ ended (refusal_number NoRoom) count used l
  unfolding ran choose
  ran-full e f g = rw (e, f, g)

  pub ran_turn : leb (length items) used ≡ false → ltb (length items) (used + size used) ≡ false → ltb (length l.answers) (answer_size * suc count) ≡ false
      → ran items size call (suc turns) count used l ≡ ran items size call turns (suc count) (used + size used) (call used (answer_size * count) (part l.answers (answer_size * count) answer_size) l)
  unfolding ran choose
  ran_turn e f g = rw (e, f, g)
