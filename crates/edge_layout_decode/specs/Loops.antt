-- The loops that compute `tabulate` and `all_below`.
use Rattle.std.specs.Prelude.{◌≡◌, refl, Bool, true, ◌&&◌, List, ℕ, zero, suc, ◌+◌, ◌-◌, ◌<◌, ◌≤◌, length, get_or, set, drop}
use Rattle.std.proofs.Common.{sym, ap, ◌∙◌, zero-add, suc-add, add-one, arith, length-set, drop_of_length-le, drop-cons}
use Rattle.std.proofs.lemmas.List.Edits.{sets}
use Rattle.lists.specs.Both.{and_left, and_right}
use Rattle.edge_layout.specs.Layout.{tabulate}
use Rattle.edge_layout.specs.Spelled.{all_below}
use Rattle.edge_layout.proofs.Columns.{tabulate-length, tabulate-at}
use Rattle.lists.specs.Sets.{sets-whole}

-- ---- f 0, f 1, ..

-- The loop that stores f 0, f 1, .. in a list of n, of which i are stored: with the rest stored too, it is the whole.
pub record Filled {A : Type 0} (f : ℕ → A) (n i : ℕ) (l : List A) : Type 0 where
  pub long : length l ≡ n
  pub is : sets l i (drop i (tabulate f n)) ≡ tabulate f n

pub filled_none : {A : Type 0} {f : ℕ → A} {n : ℕ} {l : List A} → length l ≡ n → Filled f n 0 l
filled_none {A} {f} {n} {l} e = record { long = e; is = sets-whole l (tabulate f n) (e ∙ sym (tabulate-length f n)) }

module _ {A : Type 0} {f : ℕ → A} {n i : ℕ} {l : List A} (w : Filled f n i l) where
  pub filled_more : (v : A) → v ≡ f i → i < n → Filled f n (i + 1) (set l i v)
  filled_more v e h =
      let vs = tabulate f n in
      let g : i < length vs = rw (tabulate-length f n) h in
      let r : sets (set l i (get_or vs i (f 0))) (suc i) (drop (suc i) vs) ≡ vs = rw (drop-cons vs i (f 0) g) at w.is in
      record { long = length-set l i v ∙ w.long; is = rw (add-one i, e) (rw (tabulate-at (f 0) f n i h) at r) }

  pub filled_all : n ≤ i → l ≡ tabulate f n
  filled_all h =
      let g : length (tabulate f n) ≤ i = rw (tabulate-length f n) h in
      rw (drop_of_length-le (tabulate f n) g) at w.is

-- ---- p 0, p 1, .. all pass

pub all_below_lem : (p : ℕ → Bool) (n : ℕ) → ((k : ℕ) → k < n → p k ≡ true) → all_below p n ≡ true
unfolding all_below
all_below_lem p zero h = refl
all_below_lem p (suc n) h = rw (all_below_lem p n (λ k l. h k (omega arith)), h n (omega arith))

all_under : (p : ℕ → Bool) (k m : ℕ) → all_below p (m + suc k) ≡ true → p k ≡ true
unfolding all_below
all_under p k zero e = and_right (all_below p k) (p k) (rw (zero-add (suc k)) at e)
all_under p k (suc m) e = all_under p k m (and_left (all_below p (m + suc k)) (p (m + suc k)) (rw (suc-add m (suc k)) at e))

pub all_each : (p : ℕ → Bool) (n : ℕ) → all_below p n ≡ true → (k : ℕ) → k < n → p k ≡ true
all_each p n e k h =
    let q : n - suc k + suc k ≡ n = omega arith in
    all_under p k (n - suc k) (ap (all_below p) q ∙ e)

-- The loop that tests them, of which i are tested.
pub record Held (p : ℕ → Bool) (i : ℕ) (b : Bool) : Type 0 where
  pub is : b ≡ all_below p i

pub held_none : {p : ℕ → Bool} → Held p 0 true
unfolding all_below
held_none {p} = record { is = refl }

pub held_more : {p : ℕ → Bool} {i : ℕ} {b : Bool} → Held p i b → Held p (i + 1) (b && p i)
unfolding all_below
held_more {p} {i} {b} w = record { is = rw (add-one i) (ap (λ (x : Bool). x && p i) w.is) }
