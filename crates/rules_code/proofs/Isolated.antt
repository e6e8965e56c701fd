-- DEMAND 3 of runs of the code: its words (isolation, Statement.antt), of the states that the code leaves and of what it gives back.
-- Rests on the proof over the definition and on the law of runs (CodeRun.antt).
use Rattle.std.specs.Prelude.{◌≡◌, List, map, ℕ, take}
use Rattle.std.proofs.Common.{sym, ap, ◌∙◌, subst, subst₂}
use Rattle.channel.specs.declared.Served.{Served}
use Rattle.definition.specs.Calls.{Call}
use Rattle.definition.specs.Ending.{served_of}
use Rattle.definition.specs.Numbers.{answer_number}
use Rattle.definition.specs.Run.{State, run, outcomes}
use Rattle.isolation.specs.Statement.{AlikeRuns, marks_of, Isolated, handed}
use Rattle.isolation.proofs.Isolation.{isolation}
use Rattle.rules_code.specs.CodeRun.{Makes, CodeRun}
use Rattle.rules_code.proofs.CodeRun.{makes_made, makes_answer, code-run, code_served}
use Rattle.rules_code.specs.Isolated.{CodeIsolated}

pub code_isolation : (k j n d m : ℕ) (room₁ room₂ memory : List ℕ) (cs ds : List Call) {a b a' b' : State} {p q : Served} {rs qs : List Served}
    → Makes n d m room₁ memory p a → answer_number p.answer ≡ 0
    → Makes n d m room₂ memory q b → answer_number q.answer ≡ 0
    → AlikeRuns k j 0 a cs ds → CodeRun a cs rs a' → CodeRun b ds qs b'
    → CodeIsolated k j a b cs ds rs qs
code_isolation k j n d m room₁ room₂ memory cs ds {a} {b} {rs = rs} {qs = qs} f e₁ g e₂ alike u v =
    let a-is = makes_made f in
    let b-is = makes_made g in
    let z = isolation k j n d m room₁ room₂ memory cs ds (ap answer_number (sym (makes_answer f)) ∙ e₁) (ap answer_number (sym (makes_answer g)) ∙ e₂)
    (subst (λ (s : State). AlikeRuns k j 0 s cs ds) a-is alike) in
    record {
      served =
          code_served u ∙ ap (λ (s : State). map served_of (outcomes s cs)) a-is ∙ ap (map served_of) z.0
          ∙ ap (λ (s : State). map served_of (outcomes s ds)) (sym b-is) ∙ sym (code_served v);
      handing = ap (λ (s : State). handed k s cs) a-is ∙ z.1 ∙ ap (λ (s : State). handed k s ds) (sym b-is);
      states = λ i u' v'.
          let w : Isolated k j (marks_of k j a (take i cs)) (run a (take i cs)) (run b (take i ds)) =
          subst₂ (λ (s t : State). Isolated k j (marks_of k j s (take i cs)) (run s (take i cs)) (run t (take i ds))) (sym a-is) (sym b-is) (z.2 i) in
          subst₂ (λ (s t : State). Isolated k j (marks_of k j a (take i cs)) s t) (sym (code-run u')) (sym (code-run v')) w;
    }
