-- Octets written into a row that holds some of them already: what it holds need not be written.
use Rattle.std.specs.Prelude.{◌≡◌, refl, List, [], ◌∷◌, ◌++◌, ℕ, suc, ◌+◌, ◌-◌, ◌≤◌, ◌<◌, length, get_or, set, take, drop}
use Rattle.std.proofs.Common.{sym, ap, ◌∙◌, add-zero, zero-add, arith, length-drop, get_or-take, get_or-drop, length-take-le}
use Rattle.std.proofs.lemmas.List.{set-get_or}
use Rattle.edge_layout.specs.Layout.{cell}
use Rattle.edge_layout_write.specs.Puts.{puts}
use Rattle.edge_layout_write.specs.Cells.{place, puts_other}

-- octets written one after the other
pub puts-append : (o : List ℕ) (i c : ℕ) (xs ys : List ℕ) → puts o i c (xs ++ ys) ≡ puts (puts o i c xs) i (c + length xs) ys
unfolding puts
puts-append o i c [] ys = ap (λ (k : ℕ). puts o i k ys) (sym (add-zero c))
puts-append o i c (x ∷ xs) ys =
    let e : suc c + length xs ≡ c + suc (length xs) = omega arith in
    puts-append (set o (place i c) x) i (suc c) xs ys ∙ ap (λ (k : ℕ). puts (puts (set o (place i c) x) i (suc c) xs) i k ys) e

-- what the row holds, written over itself
pub puts-held : (o : List ℕ) (i c : ℕ) (vs : List ℕ) → ((e : ℕ) → e < length vs → get_or o (place i (c + e)) 0 ≡ get_or vs e 0) → puts o i c vs ≡ o
unfolding puts
puts-held o i c [] held = refl
puts-held o i c (v ∷ vs) held =
    let first : get_or o (place i c) 0 ≡ v = rw (add-zero c) at (held 0 (omega arith)) in
    let same : set o (place i c) v ≡ o = ap (set o (place i c)) (sym first) ∙ set-get_or o (place i c) 0 in
    ap (λ (l : List ℕ). puts l i (suc c) vs) same ∙ puts-held o i (suc c) vs (λ e h. next e h)
  where
    next : (e : ℕ) → e < length vs → get_or o (place i (suc c + e)) 0 ≡ get_or vs e 0
    next e h =
        let k : suc c + e ≡ c + suc e = omega arith in
        ap (λ (n : ℕ). get_or o (place i n) 0) k ∙ held (suc e) (omega arith)

-- A ROW THAT IS TO DIFFER IN SOME COLUMNS ONLY: these alone are written
module _ (o : List ℕ) (i : ℕ) (r : List ℕ) (holds : (e : ℕ) → e < length r → cell o i e ≡ get_or r e 0) where
  before : (c : ℕ) → c ≤ length r → puts o i 0 (take c r) ≡ o
  before c h = puts-held o i 0 (take c r) (λ e l. within e (rw (length-take-le c r h) at l))
    where
      within : (e : ℕ) → e < c → get_or o (place i (0 + e)) 0 ≡ get_or (take c r) e 0
      within e l = rw (zero-add e) (holds e (omega arith) ∙ sym (get_or-take c r e 0 l))

  behind : (c : ℕ) (ys : List ℕ) → puts (puts o i c ys) i (c + length ys) (drop (c + length ys) r) ≡ puts o i c ys
  behind c ys = puts-held (puts o i c ys) i (c + length ys) (drop (c + length ys) r) (λ e l. within e (rw (length-drop (c + length ys) r) at l))
    where
      within : (e : ℕ) → e < length r - (c + length ys) → get_or (puts o i c ys) (place i (c + length ys + e)) 0 ≡ get_or (drop (c + length ys) r) e 0
      within e l =
          puts_other o i c ys (place i (c + length ys + e)) (λ k f g q. omega arith)
          ∙ holds (c + length ys + e) (omega arith)
          ∙ sym (get_or-drop (c + length ys) r e 0)

  pub part_put : (c : ℕ) (ys : List ℕ) → c + length ys ≤ length r → puts o i 0 (take c r ++ (ys ++ drop (c + length ys) r)) ≡ puts o i c ys
  part_put c ys h =
      let long : 0 + length (take c r) ≡ c = zero-add (length (take c r)) ∙ length-take-le c r (omega arith) in
      puts-append o i 0 (take c r) (ys ++ drop (c + length ys) r)
      ∙ ap (λ (l : List ℕ). puts l i (0 + length (take c r)) (ys ++ drop (c + length ys) r)) (before c (omega arith))
      ∙ ap (λ (k : ℕ). puts o i k (ys ++ drop (c + length ys) r)) long
      ∙ puts-append o i c ys (drop (c + length ys) r)
      ∙ behind c ys
