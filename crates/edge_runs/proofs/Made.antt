-- The entries that a run makes, for any kind of call (Run.antt of `edge_run`): by the run's own tests. Where each call of it is an entry, the run leaves what they leave made one by one, and its answers
-- are theirs, one behind the other.
use Rattle.std.specs.Prelude.{◌≡◌, Bool, leb, ltb, Err, Ok, Result}
use Rattle.std.proofs.Math.Path.{refl, sym, ap}
use Rattle.std.proofs.Common.{◌∙◌, arith, ltb-false}
use Rattle.std.proofs.Math.Bool.{true, false}
use mathlib.Core.List.{List, [], ◌∷◌}
use Prim.Native.Nat.{ℕ, zero, suc, ◌+◌, ◌*◌, ◌≤◌}
use Rattle.std.proofs.Math.ListN.{length}
use Rattle.std.proofs.Math.Seq.{sets, length-sets}
use Rattle.lists.specs.Choose.{choose, if_cases}
use Rattle.octets.specs.Octets.{part}
use Rattle.octets.specs.Sets.{sets-out, sets-append, part_length}
use Rattle.channel.specs.declared.Table.{Table}
use Rattle.definition.specs.Table.{when◌then◌else◌}
use Rattle.definition.specs.Mem.{Fill, fills, written}
use Rattle.definition.specs.Ending.{End, itself}
use Rattle.definition.specs.Run.{out_window, job_window}
use Rattle.edge_layout.specs.Layout.{read}
use Rattle.edge_answer.specs.Answers.{answer_octets}
use Rattle.edge.specs.Edge.{on_table, lifted}
use Rattle.edge_run.specs.Run.{Lent, answer_size, ran, begun}
use Rattle.edge_runs.specs.Run.{EdgeState, Asked, call_in, edge_of, Apart, BuffersApart, entered, entries, told}
use Rattle.edge_runs.specs.Made.{answers_in, made_by}
use Rattle.codes.specs.declared.Refusal.{Refusal}

pub by_apart : (v : Result (Unit {0}) Refusal) (es : List Asked) → BuffersApart es → BuffersApart (made_by v es)
by_apart (Err r) es h = tt
by_apart (Ok tt) es h = h

-- a buffer of no octets stays so
pub none_written : (js room : List ℕ) (at : ℕ) (fs : List Fill) → written itself js room at fs [] ≡ []
unfolding written
none_written js room at fs = sets-out {A = ℕ} [] at (fills itself js room fs) (omega arith)

-- an answer keeps its length
pub answer-long : (table answer : List ℕ) (call : Table → End) → length (on_table table answer call).answer ≡ length answer
unfolding on_table lifted
answer-long table answer call = length-sets answer 0 (answer_octets (call (read table).table).served)

module _ (items : List ℕ) (size : (from : ℕ) → ℕ) (call : (from at : ℕ) → (answer : List ℕ) → Lent → Lent) (asked : (from : ℕ) → (answer : List ℕ) → Lent → Asked) where
  unfoldable pub made : (turns count used : ℕ) → Lent → List Asked
  made zero count used l = []
  made (suc turns) count used l =
      when leb (length items) used then []
      else when ltb (length items) (used + size used) then []
      else when ltb (length l.answers) (answer_size * suc count) then []
      else
      let answer = part l.answers (answer_size * count) answer_size in
      asked used answer l ∷ made turns (suc count) (used + size used) (call used (answer_size * count) answer l)

  -- no two of their buffers overlap, where none of one call do
  pub made-apart : ((from : ℕ) (answer : List ℕ) (l : Lent) → Apart (out_window (call_in (asked from answer l))) (job_window (call_in (asked from answer l))))
      → (turns count used : ℕ) (l : Lent) → BuffersApart (made turns count used l)
  unfolding made
  made-apart apart zero count used l = tt
  made-apart apart (suc turns) count used l =
      let answer = part l.answers (answer_size * count) answer_size in
      if_cases BuffersApart (leb (length items) used) (λ _. tt)
      (λ _. if_cases BuffersApart (ltb (length items) (used + size used)) (λ _. tt)
      (λ _. if_cases BuffersApart (ltb (length l.answers) (answer_size * suc count)) (λ _. tt)
      (λ _. (apart used answer l, made-apart apart turns (suc count) (used + size used) (call used (answer_size * count) answer l)))))

  -- what the run works on stands somewhere, something holds that every call keeps, and each call is an entry there
  module _ (stands : Lent → EdgeState) (Holds : Lent → Type 0)
      (keeps : (from at : ℕ) (answer : List ℕ) (l : Lent) → Holds l → Holds (call from at answer l))
      (step : (from at : ℕ) (answer : List ℕ) (l : Lent) → Holds l → stands (call from at answer l) ≡ entered (stands l) (asked from answer l))
      (told_so : (from at : ℕ) (answer : List ℕ) (l : Lent) → Holds l → (call from at answer l).answers ≡ sets l.answers at (edge_of (stands l) (asked from answer l)).answer)
      (long : (from : ℕ) (answer : List ℕ) (l : Lent) → length (edge_of (stands l) (asked from answer l)).answer ≡ length answer) where
    -- the entries es, behind `count` calls, come from l to x
    abbrev pub Makes : (count : ℕ) → Lent → List Asked → Lent → Type 0
    Makes count l es x = (stands x ≡ entries (stands l) es) × (x.answers ≡ sets l.answers (answer_size * count) (answers_in (told (stands l) es)))

    none : (count : ℕ) (l : Lent) → Makes count l [] l
    unfolding entries told answers_in
    none count l = (refl, refl)

    -- one call more, in front
    one : (count used : ℕ) (l : Lent) → Holds l → answer_size * suc count ≤ length l.answers → (es : List Asked) (x : Lent)
        → Makes (suc count) (call used (answer_size * count) (part l.answers (answer_size * count) answer_size) l) es x
        → Makes count l (asked used (part l.answers (answer_size * count) answer_size) l ∷ es) x
    unfolding entries told answers_in
    one count used l holds fits es x m =
        let k = answer_size * count in
        let a = part l.answers k answer_size in
        let e = asked used a l in
        let y = (edge_of (stands l) e).answer in
        let after = step used k a l holds in
        let sixteen : length y ≡ answer_size = long used a l ∙ part_length l.answers k answer_size (omega arith) in
        let next : answer_size * suc count ≡ k + length y = omega (arith, sixteen) in (
          m.0 ∙ ap (λ (s : EdgeState). entries s es) after,
          m.1
              ∙ ap (λ (xs : List ℕ). sets xs (answer_size * suc count) (answers_in (told (stands (call used k a l)) es))) (told_so used k a l holds)
              ∙ ap (λ (s : EdgeState). sets (sets l.answers k y) (answer_size * suc count) (answers_in (told s es))) after
              ∙ ap (λ (i : ℕ). sets (sets l.answers k y) i (answers_in (told (entered (stands l) e) es))) next
              ∙ sym (sets-append l.answers k y (answers_in (told (entered (stands l) e) es))),
        )

    turn : (turns count used : ℕ) (l : Lent) → Holds l
        → ((l' : Lent) → Holds l' → Makes (suc count) l' (made turns (suc count) (used + size used) l') (ran items size call turns (suc count) (used + size used) l').lent)
        → (b c d : Bool) → leb (length items) used ≡ b → ltb (length items) (used + size used) ≡ c → ltb (length l.answers) (answer_size * suc count) ≡ d
        → Makes count l (made (suc turns) count used l) (ran items size call (suc turns) count used l).lent
    unfolding ran made choose
    turn turns count used l holds later true c d e f g = rw e (none count l)
    turn turns count used l holds later false true d e f g = rw (e, f) (none count l)
    turn turns count used l holds later false false true e f g = rw (e, f, g) (none count l)
    turn turns count used l holds later false false false e f g =
        let a = part l.answers (answer_size * count) answer_size in
        let l' = call used (answer_size * count) a l in
        rw (e, f, g) (one count used l holds (ltb-false (length l.answers) (answer_size * suc count) g) _ _ (later l' (keeps used (answer_size * count) a l holds)))

    makes : (turns count used : ℕ) (l : Lent) → Holds l → Makes count l (made turns count used l) (ran items size call turns count used l).lent
    unfolding ran made
    makes zero count used l holds = none count l
    makes (suc turns) count used l holds =
        turn turns count used l holds (makes turns (suc count) (used + size used)) (leb (length items) used) (ltb (length items) (used + size used)) (ltb (length l.answers) (answer_size * suc count)) refl refl refl

    -- THE RUN IS ITS ENTRIES
    pub run_makes : (v : Result (Unit {0}) Refusal) (l : Lent) → Holds l → Makes 0 l (made_by v (made (length items) 0 0 l)) (begun v l (ran items size call (length items) 0 0 l)).lent
    run_makes (Err r) l holds = none 0 l
    run_makes (Ok tt) l holds = makes (length items) 0 0 l holds
