-- What an answer tells in the columns of its row (docs/CHANRUN.md: "ANSWER OCTETS and the columns listed").
use Rattle.std.specs.Prelude.{◌≡◌, List, [], ◌∷◌, ◌++◌, ℕ, ◌-◌, ◌≤◌, length, take, drop, replicate, eqb}
use Rattle.std.proofs.Common.{sym, ap, ap₂, ◌∙◌, arith, length-take, take-append-drop}
use Rattle.lists.specs.Choose.{choose}
use Rattle.channel_answer.specs.declared.Told.{Told}
use Rattle.channel_answer.specs.Kinds as Kind
use Rattle.channel_answer.specs.Tells.{number_told}

-- The columns of what an answer tells. Only refusal 17 has the number 17; of what a row leaves away, a link goes to whom the octets go.
unfoldable pub columns_in : Told → List ℕ
columns_in x =
    choose (eqb x.refusal 17) (x.first ∷ [])  -- "with 17: the result code"
    (choose (eqb x.kind Kind.at) (x.first ∷ [])  -- "the slot, where one is given"
    (choose (eqb x.kind Kind.opened) (1 ∷ [])  -- "1 where a hold was taken"
    (choose (eqb x.kind Kind.due) (x.first ∷ x.second ∷ [])  -- "link and slot"
    (choose (eqb x.kind Kind.frames) (x.second ∷ [])  -- the number of frames
    (choose (eqb x.kind Kind.job) (x.second ∷ x.second ∷ [])  -- "the job's length, twice"
    (choose (eqb x.kind Kind.attention) (x.first ∷ x.second ∷ x.third ∷ [])  -- "the set, the number of slots calling, the lowest"
    (choose (eqb x.kind Kind.number) (number_told x ∷ [])  -- all 64 bits
    (choose (eqb x.kind Kind.event) (x.first ∷ x.second ∷ x.third ∷ x.fourth ∷ [])  -- "min max latency timeout"
    (choose (eqb x.kind Kind.portion) (x.second ∷ x.third ∷ [])  -- "octets taken; 1 where a frame filled, 0 where not"
    [])))))))))

-- numbers of columns, at most four, and zeros behind them
pub record Tells (count : ℕ) (numbers : List ℕ) (l : List ℕ) : Type 0 where
  pub few : count ≤ 4
  pub long : length numbers ≡ 4
  pub are : take count numbers ≡ l
  pub rest : drop count numbers ≡ replicate (4 - count) 0

-- So two results that tell the same coincide.
same_count : {count : ℕ} {numbers l : List ℕ} → Tells count numbers l → count ≡ length l
same_count {count} {numbers} w = omega (arith, w.few, w.long, length-take count numbers, ap length w.are)

pub tells_coincide : {c₁ c₂ : ℕ} {n₁ n₂ l : List ℕ} → Tells c₁ n₁ l → Tells c₂ n₂ l → (c₁ ≡ c₂) × (n₁ ≡ n₂)
tells_coincide {c₁} {c₂} {n₁} {n₂} v w =
    let e : c₁ ≡ c₂ = same_count v ∙ sym (same_count w) in
    (e, sym (take-append-drop c₁ n₁) ∙ ap₂ (λ (a b : List ℕ). a ++ b) (v.are ∙ sym w.are) (v.rest ∙ ap (λ (k : ℕ). replicate (4 - k) 0) e ∙ sym w.rest) ∙ take-append-drop c₂ n₂)
