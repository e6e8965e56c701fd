-- How far the exception of memory goes, in any run: an octet is marked only in a window that was lent to a send on, a portion on, or a take from,
-- a slot that was link k's. A law of the marks alone, whatever the calls come to.
use Rattle.std.specs.Prelude.{◌≡◌, refl, Bool, true, false, ◌&&◌, List, [], ◌∷◌, map, ℕ, zero, suc, ◌+◌, ◌<◌, eqb, length, take, drop, get_or, set}
use Rattle.std.proofs.Common.{sym, ◌∙◌, ap, arith, length-take, get_or-drop}
use Rattle.std.proofs.lemmas.Bool.{false≢true}
use Rattle.std.proofs.lemmas.List.Edits.{sets}
use Rattle.std.proofs.Math.Seq.{length-sets}
use Rattle.channel.specs.declared.Table.{Table}
use Rattle.definition.specs.Mem.{Fill, fills, written}
use Rattle.definition.specs.Outcome.{Outcome}
use Rattle.definition.specs.Calls.{Window, Call}
use Rattle.definition.specs.Run.{State, lent, out_window, job_window, outcome, after}
use Rattle.isolation.specs.Statement.{jobs, carries, frames_out, job_out, Marks, unmarked, mask, memory_marks, marked, marks_from, marks_of}
use Rattle.isolation.specs.Same.{nil, cons}
use Rattle.isolation.proofs.Same.{rel_map, rel_fills}
use Rattle.isolation.specs.Contained.{Off, Clean}
use Rattle.isolation.specs.Excepted.{Came, HandedOut, Step, Wrote, before, frames, here, job, later, new, now, old, put, stood}

set-came : (l : List Bool) (from : ℕ) (v : Bool) (vs : List Bool) (i : ℕ) → get_or (set l from v) i false ≡ true → Came l from (v ∷ vs) i
set-came [] from v vs i e = absurd (false≢true e)
set-came (x ∷ l) zero v vs zero e = put 0 refl (omega arith) e
set-came (x ∷ l) zero v vs (suc i) e = stood e
set-came (x ∷ l) (suc from) v vs zero e = stood e
set-came (x ∷ l) (suc from) v vs (suc i) e = up (set-came l from v vs i e)
  where
    up : Came l from (v ∷ vs) i → Came (x ∷ l) (suc from) (v ∷ vs) (suc i)
    up (stood f) = stood f
    up (put n q lt f) = put n (omega arith) lt f

came : (vs l : List Bool) (from i : ℕ) → get_or (sets l from vs) i false ≡ true → Came l from vs i
came [] l from i e = stood e
came (v ∷ vs) l from i e = back (came vs (set l from v) (suc from) i e)
  where
    back : Came (set l from v) (suc from) vs i → Came l from (v ∷ vs) i
    back (stood f) = set-came l from v vs i f
    back (put n q lt f) = put (suc n) (omega arith) (omega arith) f

taken_at : (size : ℕ) (l : List Bool) (n : ℕ) → get_or (take size l) n false ≡ true → get_or l n false ≡ true
taken_at zero l n e = absurd (false≢true e)
taken_at (suc size) [] n e = e
taken_at (suc size) (x ∷ l) zero e = e
taken_at (suc size) (x ∷ l) (suc n) e = taken_at size l n e

lent_at : (w : Window) (l : List Bool) (n : ℕ) → get_or (lent w l) n false ≡ true → get_or l (w.from + n) false ≡ true
lent_at w l n e = sym (get_or-drop w.from l n false) ∙ taken_at w.size (drop w.from l) n e

clean_at : {ms : List Bool} → Clean ms → (n : ℕ) → get_or ms n false ≡ false
clean_at nil n = refl
clean_at (cons e c) zero = e
clean_at (cons e c) (suc n) = clean_at c n

-- masked marks are none
clean_fills : (js room : List Bool) (fs : List Fill) → Clean (fills unmarked (mask false js) (mask false room) fs)
clean_fills js room fs =
    rel_fills Off unmarked unmarked unmarked (λ x. refl) (rel_map Off (λ b. false) (λ b. false) (λ b. false) (λ b. refl) js) (rel_map Off (λ b. false) (λ b. false) (λ b. false) (λ b. refl) room) fs

wrote : (own : Bool) (w : Window) (js room memory : List Bool) (at : ℕ) (fs : List Fill) (i : ℕ)
    → get_or (sets memory w.from (written unmarked (mask own js) (mask own room) at fs (lent w memory))) i false ≡ true → Wrote own w memory i
unfolding written
wrote own w js room memory at fs i e = outer own (came _ memory w.from i e)
  where
    inner : (b : Bool) (n : ℕ) → i ≡ w.from + n → n < length (sets (lent w memory) at (fills unmarked (mask b js) (mask b room) fs))
        → Came (lent w memory) at (fills unmarked (mask b js) (mask b room) fs) n → Wrote b w memory i
    inner b n q lt (stood f) = before (ap (λ (x : ℕ). get_or memory x false) q ∙ lent_at w memory n f)
    inner true n q lt (put p r lt' f) =
        here refl (record { low = omega arith; high = omega (arith, length-sets (lent w memory) at (fills unmarked (mask true js) (mask true room) fs), length-take w.size (drop w.from memory)) })
    inner false n q lt (put p r lt' f) = absurd (false≢true (sym (clean_at (clean_fills js room fs) p) ∙ f))

    outer : (b : Bool) → Came memory w.from (sets (lent w memory) at (fills unmarked (mask b js) (mask b room) fs)) i → Wrote b w memory i
    outer b (stood f) = before f
    outer b (put n q lt f) = inner b n q lt (came (fills unmarked (mask b js) (mask b room) fs) (lent w memory) at n f)

module _ (k : ℕ) (t : Table) (o : Outcome) (m : Marks) (c : Call) (js : List Bool) (i : ℕ) where
  abbrev tray : List Bool
  tray = sets m.memory (job_window c).from (written unmarked (mask (job_out k t c) js) (mask (job_out k t c) m.room) 0 o.job (lent (job_window c) m.memory))

  job_step : Wrote (job_out k t c) (job_window c) m.memory i → Step k t c m i
  job_step (before f) = old f
  job_step (here f w) = new (job f w)

  out_step : Wrote (frames_out k t c) (out_window c) tray i → Step k t c m i
  out_step (before f) = job_step (wrote (job_out k t c) (job_window c) js m.room m.memory 0 o.job i f)
  out_step (here f w) = new (frames f w)

  memory_step : get_or (memory_marks o (out_window c) (job_window c) (frames_out k t c) (job_out k t c) js m.room m.memory) i false ≡ true → Step k t c m i
  memory_step e = out_step (wrote (frames_out k t c) (out_window c) js m.room tray o.at o.out i e)

step : (k j : ℕ) (t : Table) (o : Outcome) (m : Marks) (c : Call) (i : ℕ) → get_or (marked k j t o m c).memory i false ≡ true → Step k t c m i
unfolding marked
step k j t o m c i e = memory_step k t o m c (map (λ _. eqb m.over j && carries k t c) (jobs t c)) i e

from_marks : (k j i : ℕ) (cs : List Call) (s : State) (m : Marks) → ¬ (get_or m.memory i false ≡ true) → get_or (marks_from k j s m cs).memory i false ≡ true → HandedOut k i s cs
unfolding marks_from
from_marks k j i [] s m none e = absurd (none e)
from_marks k j i (c ∷ cs) s m none e =
    split (get_or (marked k j s.table (outcome s c) m c).memory i false) refl (λ gone. from_marks k j i cs (after s c) (marked k j s.table (outcome s c) m c) gone e)
  where
    found : Step k s.table c m i → HandedOut k i s (c ∷ cs)
    found (old f) = absurd (none f)
    found (new h) = now h

    split : (b : Bool) → get_or (marked k j s.table (outcome s c) m c).memory i false ≡ b
        → (¬ (get_or (marked k j s.table (outcome s c) m c).memory i false ≡ true) → HandedOut k i (after s c) cs) → HandedOut k i s (c ∷ cs)
    split true q rest = found (step k j s.table (outcome s c) m c i q)
    split false q rest = later (rest (λ f. false≢true (sym q ∙ f)))

-- An octet of memory is excepted only where a send on, a portion on, or a take from, link k's own slot was lent it.
pub excepted : (k j i : ℕ) (s : State) (cs : List Call) → get_or (marks_of k j s cs).memory i false ≡ true → HandedOut k i s cs
excepted k j i s cs e = from_marks k j i cs s _ (λ f. false≢true (sym (clean_at (rel_map Off (λ _. false) (λ _. false) (λ _. false) (λ x. refl) s.memory) i) ∙ f)) e
