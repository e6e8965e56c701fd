-- The gate in a call's proof, by what `table_gate::gate` ensures and which arm was taken: a stopped call comes to that refusal, and of one that
-- passed only what follows the gate is left to show.
use Rattle.std.specs.Prelude.{◌≡◌, List, [], ℕ, Err, Ok, Option, Result}
use Rattle.std.proofs.Common.{sym, ap, ◌∙◌}
use Rattle.codes.specs.declared.Refusal.{Refusal}
use Rattle.channel.specs.declared.Answer.{Answer}
use Rattle.channel.specs.declared.Served.{Served}
use Rattle.channel.specs.declared.Table.{Table}
use Rattle.definition.specs.Mem.{sizes}
use Rattle.definition.specs.Outcome.{Outcome, still, refuse, verdict, passed}
use Rattle.definition.specs.Ending.{end, end_of, served_of}
use Rattle.definition.proofs.Ending.{end-still}
use Rattle.table_gate.specs.Passed.{Passed}
use Rattle.table_gate.specs.Passed as rely

-- what a call that passed may rely on
pub behind : {t : Table} {room signal link slot : Option ℕ} {v : Result (Unit {0}) Refusal} → v ≡ verdict t room signal link slot → v ≡ Ok tt → Passed t room signal link slot
behind gated told = rely.passed _ _ _ _ _ (sym gated ∙ told)

-- w is the verdict that the definition's `gate` asks for, v the one that the code was given
module _ {v w : Result (Unit {0}) Refusal} (gated : v ≡ w) where
  pub on : v ≡ Ok tt → (t : Table) (o : Outcome) → passed t w o ≡ o
  on told t o = ap (λ (v : Result (Unit {0}) Refusal). passed t v o) (sym gated ∙ told)

  pub stopped : {r : Refusal} → v ≡ Err r → (t : Table) (o : Outcome) → passed t w o ≡ refuse t r
  stopped told t o = ap (λ (v : Result (Unit {0}) Refusal). passed t v o) (sym gated ∙ told)

-- a call that only answers, as each refusal does, leaves every lent memory
pub ended : {t' : Table} {a : Answer} {x : Served} {room out job : List ℕ} → x ≡ served_of (still t' a []) → (t : Table) (jobs : List ℕ)
    → end x room out job ≡ end_of t jobs room out job (still t' a [])
unfolding sizes
ended {t'} {a} {room = room} {out = out} {job = job} e t jobs = ap (λ (x : Served). end x room out job) e ∙ sym (end-still t t' a jobs room out job)
