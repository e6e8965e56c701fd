-- "each open job has a buffer of its own" (document 02 (i)), in demand 3: a buffer that link k's own sends, portions and takes were lent no octet of
-- is equal in the two runs, octet by octet; so is every frame that another link's job gave out in it. From the demand and from how far its exception
-- goes (Excepted.antt). A buffer that passes from one job to another is not the matter here: what a frame given out there has is a theorem of crate
-- rules_portions.
use Rattle.std.specs.Prelude.{◌≡◌, refl, Bool, true, false, List, ℕ, ◌+◌, ◌-◌, ◌<◌, min, length, take, drop, get_or}
use Rattle.std.proofs.Common.{sym, ap, ◌∙◌, arith, length-take, length-drop, ext_get_or, get_or-take, get_or-drop}
use Rattle.definition.specs.Asking.{make}
use Rattle.definition.specs.Calls.{Window, Call}
use Rattle.definition.specs.Numbers.{answer_number}
use Rattle.definition.specs.Run.{State, lent, made, run}
use Rattle.isolation.specs.Statement.{AlikeRuns, marks_of, Isolated}
use Rattle.isolation.specs.Excepted.{Within}
use Rattle.isolation.proofs.Excepted.{excepted}
use Rattle.isolation.proofs.Isolation.{isolation}
use Rattle.isolation.specs.Own.{NeverLent}

window-size : (w : Window) (xs : List ℕ) → length (lent w xs) ≡ min w.size (length xs - w.from)
window-size w xs = length-take w.size (drop w.from xs) ∙ ap (λ (n : ℕ). min w.size n) (length-drop w.from xs)

octet_in : (w : Window) (xs : List ℕ) (n : ℕ) → n < w.size → get_or (lent w xs) n 0 ≡ get_or xs (w.from + n) 0
octet_in w xs n h = get_or-take w.size (drop w.from xs) n 0 h ∙ get_or-drop w.from xs n 0

pub own_buffer : (k j n d m : ℕ) (room₁ room₂ memory : List ℕ) (cs ds : List Call)
    → answer_number (make n d m room₁).answer ≡ 0
    → answer_number (make n d m room₂).answer ≡ 0
    → AlikeRuns k j 0 (made n d m room₁ memory) cs ds
    → (i : ℕ) (w : Window) → NeverLent k (made n d m room₁ memory) (take i cs) w
    → lent w (run (made n d m room₁ memory) (take i cs)).memory ≡ lent w (run (made n d m room₂ memory) (take i ds)).memory
own_buffer k j n d m room₁ room₂ memory cs ds h₁ h₂ e i w off = ext_get_or 0 (lent w a.memory) (lent w b.memory) sizes equal
  where
    s : State
    s = made n d m room₁ memory

    a : State
    a = run s (take i cs)

    b : State
    b = run (made n d m room₂ memory) (take i ds)

    both : Isolated k j (marks_of k j s (take i cs)) a b
    both = (isolation k j n d m room₁ room₂ memory cs ds h₁ h₂ e).2 i

    sizes : length (lent w a.memory) ≡ length (lent w b.memory)
    sizes = window-size w a.memory ∙ ap (λ (l : ℕ). min w.size (l - w.from)) both.size ∙ sym (window-size w b.memory)

    unmarked : (p : ℕ) → Within w p → (q : Bool) → get_or (marks_of k j s (take i cs)).memory p false ≡ q → get_or (marks_of k j s (take i cs)).memory p false ≡ false
    unmarked p h true f = absurd (off p h (excepted k j p s (take i cs) f))
    unmarked p h false f = f

    equal : (x : ℕ) → x < length (lent w a.memory) → get_or (lent w a.memory) x 0 ≡ get_or (lent w b.memory) x 0
    equal x h =
        let l : x < w.size = omega (arith, window-size w a.memory) in
        let p : Within w (w.from + x) = record { low = omega arith; high = omega arith } in
        octet_in w a.memory x l ∙ both.memory (w.from + x) (unmarked (w.from + x) p _ refl) ∙ sym (octet_in w b.memory x l)
