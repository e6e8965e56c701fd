-- The pass answers what reading the whole table and testing it answers.
use Rattle.std.specs.Prelude.{◌≡◌, Bool, not, ◌&&◌, ◌||◌, List, [], ◌∷◌, ℕ, zero, suc, ◌+◌, ◌-◌, ◌*◌, ◌/◌, ◌%◌, ◌≤◌, ◌<◌, min, eqb, ltb, length, get_or, take}
use Rattle.std.proofs.Math.Path.{refl, sym}
use Rattle.std.proofs.Common.{ap, ◌∙◌, arith, length-take, get_or-take, eqb-true, le-leb, le-ltb, lt-ltb, ltb-true, ltb-false, leb-true, leb-false}
use Rattle.std.proofs.Math.Bool.{true, false, and-true}
use Rattle.std.proofs.lemmas.Bool.{false≢true, eqb-false, lt-leb}
use Rattle.std.proofs.Math.Dec.{leb}
use Rattle.std.proofs.Math.Seq.{take-nil}
use Rattle.lists.specs.Both.{and_both}
use Rattle.lists.specs.Every.{every, every-passes}
use Rattle.octets.specs.Octets.{u16_at}
use Rattle.channel.specs.Limits.{slots_most}
use Rattle.definition.specs.Table.{fresh, place_size, slot_fits, well_formed}
use Rattle.edge_layout.specs.declared.Decoded.{Decoded}
use Rattle.edge_layout.specs.Layout.{head_octets, table_octets, tabulate, cell, slot_in, taken, read}
use Rattle.edge_layout.specs.Spelled.{all_below}
use Rattle.edge_layout.proofs.Columns.{tabulate-length, tabulate-at}
use Rattle.edge_layout_decode.specs.Loops.{all_below_lem, all_each}
use Rattle.edge_layout_decode.specs.Whole.{spelled, read-passes, read-fails, read_other}
use Rattle.edge_scan.specs.Scan.{most_of, two_more, row_fits, row_passes, scanned, valid_octets}

-- ---- a number told octet by octet

-- against p + 256 * q
module _ (low high p q : ℕ) (h : low < 256) (g : p < 256) where
  level : (b : Bool) → high ≡ q → leb low p ≡ b → leb low p ≡ leb (low + 256 * high) (p + 256 * q)
  level true f r = let k = leb-true low p r in r ∙ sym (le-leb (low + 256 * high) (p + 256 * q) (omega arith))
  level false f r = let k = leb-false low p r in r ∙ sym (lt-leb (low + 256 * high) (p + 256 * q) (omega arith))

  beyond : q ≤ high → (high ≡ q → ⊥) → q < high
  beyond f n = omega arith

  last : (b : Bool) → ltb high q ≡ false → eqb high q ≡ b → most_of low high p q ≡ leb (low + 256 * high) (p + 256 * q)
  last true e r = rw (e, r) (level (leb low p) (eqb-true high q r) refl)
  last false e r =
      let k = beyond (ltb-false high q e) (eqb-false high q r) in
      rw (e, r) (sym (lt-leb (low + 256 * high) (p + 256 * q) (omega arith)))

  go : (b : Bool) → ltb high q ≡ b → most_of low high p q ≡ leb (low + 256 * high) (p + 256 * q)
  go true e = let k = ltb-true high q e in rw e (sym (le-leb (low + 256 * high) (p + 256 * q) (omega arith)))
  go false e = last (eqb high q) e refl

  pub most-is : most_of low high p q ≡ leb (low + 256 * high) (p + 256 * q)
  most-is = go (ltb high q) refl

-- at most a place
pub most-place : (low high place : ℕ) → low < 256 → most_of low high (place % 256) (place / 256) ≡ leb (low + 256 * high) place
most-place low high place h =
    let e : place % 256 + 256 * (place / 256) ≡ place = omega arith in
    most-is low high (place % 256) (place / 256) h (omega arith) ∙ ap (leb (low + 256 * high)) e

-- two tests that come to the same
alike : (a b : Bool) → (a ≡ true → b ≡ true) → (b ≡ true → a ≡ true) → a ≡ b
alike true b f g = sym (f refl)
alike false true f g = g refl
alike false false f g = refl

-- at most what is left of 65,535
pub most-left : (low high rlow rhigh : ℕ) → low < 256 → rlow < 256 → rhigh < 256 → most_of low high (255 - rlow) (255 - rhigh) ≡ leb (low + 256 * high + (rlow + 256 * rhigh)) 65535
most-left low high rlow rhigh h j k =
    most-is low high (255 - rlow) (255 - rhigh) h (omega arith)
    ∙ alike (leb (low + 256 * high) (255 - rlow + 256 * (255 - rhigh))) (leb (low + 256 * high + (rlow + 256 * rhigh)) 65535)
    (λ e. let f = leb-true (low + 256 * high) (255 - rlow + 256 * (255 - rhigh)) e in le-leb (low + 256 * high + (rlow + 256 * rhigh)) 65535 (omega arith))
    (λ e. let f = leb-true (low + 256 * high + (rlow + 256 * rhigh)) 65535 e in le-leb (low + 256 * high) (255 - rlow + 256 * (255 - rhigh)) (omega arith))

-- at most another and 2
module _ (low high l h : ℕ) (lows : low < 256) (ls : l < 256) where
  abbrev Told : Bool → Type 0
  Told b = b ≡ leb (low + 256 * high) (l + 256 * h + 2)

  yes : low + 256 * high ≤ l + 256 * h + 2 → Told true
  yes f = sym (le-leb (low + 256 * high) (l + 256 * h + 2) f)

  no : l + 256 * h + 2 < low + 256 * high → Told false
  no f = sym (lt-leb (low + 256 * high) (l + 256 * h + 2) f)

  -- the lower octet wraps
  next : (a b : Bool) → 254 ≤ l → h < high → eqb (high - 1) h ≡ a → leb low ((l + 2) % 256) ≡ b → Told (a && b)
  next false b f g e u = let d = eqb-false (high - 1) h e in no (past d)
    where
      past : (high - 1 ≡ h → ⊥) → l + 256 * h + 2 < low + 256 * high
      past d = omega arith
  next true true f g e u = let d = eqb-true (high - 1) h e in let k = leb-true low ((l + 2) % 256) u in yes (omega arith)
  next true false f g e u = let d = eqb-true (high - 1) h e in let k = leb-false low ((l + 2) % 256) u in no (omega arith)

  same-high : (a b : Bool) → high ≡ h → leb 254 l ≡ a → leb low ((l + 2) % 256) ≡ b → Told ((a || b) || (a && (eqb (high - 1) h && b)))
  same-high true b e f u = let k = leb-true 254 l f in yes (omega arith)
  same-high false true e f u = let k = leb-true low ((l + 2) % 256) u in let m = leb-false 254 l f in yes (omega arith)
  same-high false false e f u = let k = leb-false low ((l + 2) % 256) u in let m = leb-false 254 l f in no (omega arith)

  above : (a : Bool) → h < high → leb 254 l ≡ a → Told (a && (eqb (high - 1) h && leb low ((l + 2) % 256)))
  above true g f = next (eqb (high - 1) h) (leb low ((l + 2) % 256)) (leb-true 254 l f) g refl refl
  above false g f = let m = leb-false 254 l f in no (omega arith)

  not_under : (b : Bool) → h ≤ high → eqb high h ≡ b → Told ((b && (leb 254 l || leb low ((l + 2) % 256))) || (leb 254 l && (eqb (high - 1) h && leb low ((l + 2) % 256))))
  not_under true g e = same-high (leb 254 l) (leb low ((l + 2) % 256)) (eqb-true high h e) refl refl
  not_under false g e = above (leb 254 l) (apart (eqb-false high h e)) refl
    where
      apart : (high ≡ h → ⊥) → h < high
      apart d = omega arith

  under : (b : Bool) → ltb high h ≡ b → Told (two_more low high l h)
  under true e = let k = ltb-true high h e in rw e (yes (omega arith))
  under false e = rw e (not_under (eqb high h) (ltb-false high h e) refl)

  pub two_more_is : two_more low high l h ≡ leb (low + 256 * high) (l + 256 * h + 2)
  two_more_is = under (ltb high h) refl

-- nothing is set aside
none_aside : (low high : ℕ) → (eqb low 0 && eqb high 0) ≡ not (ltb 0 (low + 256 * high))
none_aside low high = go (eqb low 0) (eqb high 0) refl refl
  where
    go : (a b : Bool) → eqb low 0 ≡ a → eqb high 0 ≡ b → (eqb low 0 && eqb high 0) ≡ not (ltb 0 (low + 256 * high))
    go true true e f =
        let d = eqb-true low 0 e in
        let g = eqb-true high 0 f in
        rw (e, f, le-ltb 0 (low + 256 * high) (omega arith))
    go true false e f = let g = eqb-false high 0 f in rw (e, f, lt-ltb 0 (low + 256 * high) (omega arith))
    go false b e f = let d = eqb-false low 0 e in rw (e, lt-ltb 0 (low + 256 * high) (omega arith))

-- ---- a row

-- the first `count` of four pass
first_four : (p : ℕ → Bool) (count a b c d : ℕ) → every p (take count (a ∷ b ∷ c ∷ d ∷ [])) ≡ ((leb count 0 || p a) && ((leb count 1 || p b) && ((leb count 2 || p c) && (leb count 3 || p d))))
unfolding every
first_four p zero a b c d = refl
first_four p (suc zero) a b c d = refl
first_four p (suc (suc zero)) a b c d = refl
first_four p (suc (suc (suc zero))) a b c d = refl
first_four p (suc (suc (suc (suc count)))) a b c d =
    let n = suc (suc (suc (suc count))) in
    rw (lt-leb n 0 (omega arith), lt-leb n 1 (omega arith), lt-leb n 2 (omega arith), lt-leb n 3 (omega arith), take-nil count, and-true (p d))

module _ (f : ℕ → ℕ) (octets : (c : ℕ) → f c < 256) where
  pub row_is : (d place : ℕ) → row_fits f d (place % 256) (place / 256) ≡ slot_fits d place (slot_in f)
  unfolding row_fits slot_fits slot_in
  row_is d place =
      rw (
        most-place (f 31) (f 32) place (octets 31),
        most-place (f 33) (f 34) place (octets 33),
        most-place (f 35) (f 36) place (octets 35),
        most-place (f 37) (f 38) place (octets 37),
        most-place (f 26) (f 27) place (octets 26),
        most-place (f 28) (f 29) place (octets 28),
        most-place (f 8) (f 9) place (octets 8),
        most-left (f 13) (f 14) (f 15) (f 16) (octets 13) (octets 15) (octets 16),
        none_aside (f 45) (f 46),
        most-is (f 41) (f 42) (f 39) (f 40) (octets 41) (octets 39),
        most-is (f 43) (f 44) (f 20) (f 21) (octets 43) (octets 20),
        two_more_is (f 43) (f 44) (f 41) (f 42) (octets 43) (octets 41),
        most-left (f 24) (f 25) (f 45) (f 46) (octets 24) (octets 45) (octets 46),
        first_four (λ n. leb n place) (f 30) (f 31 + 256 * f 32) (f 33 + 256 * f 34) (f 35 + 256 * f 36) (f 37 + 256 * f 38),
      )

-- ---- all rows

every_all : {A : Type 0} (p : A → Bool) (d : A) (xs : List A) → ((i : ℕ) → i < length xs → p (get_or xs i d) ≡ true) → every p xs ≡ true
unfolding every
every_all p d [] h = refl
every_all p d (x ∷ xs) h = and_both (p x) (every p xs) (h 0 (omega arith)) (every_all p d xs (λ i k. h (suc i) (omega arith)))

or_right : (a b : Bool) → (a ≡ false → b ≡ true) → (a || b) ≡ true
or_right true b h = refl
or_right false b h = h refl

or_left : (a b : Bool) → a ≡ false → (a || b) ≡ true → b ≡ true
or_left true b e h = absurd (false≢true (sym e))
or_left false b e h = h

-- the first n of k that f gives, each tested
module _ {A : Type 0} (p : A → Bool) (x : A) (f : ℕ → A) (n k : ℕ) where
  at : (i : ℕ) → i < length (take n (tabulate f k)) → (i < n) × (i < k)
  at i h = let g : i < min n k = rw (length-take, tabulate-length f k) at h in (omega arith, omega arith)

  each_first : (i : ℕ) → i < n → i < k → get_or (take n (tabulate f k)) i x ≡ f i
  each_first i h g = get_or-take n (tabulate f k) i x h ∙ tabulate-at x f k i g

  first_forth : all_below (λ i. leb n i || p (f i)) k ≡ true → every p (take n (tabulate f k)) ≡ true
  first_forth e =
      every_all p x (take n (tabulate f k))
      (λ i h. ap p (each_first i (at i h).0 (at i h).1) ∙ or_left (leb n i) (p (f i)) (lt-leb n i (at i h).0) (all_each (λ i. leb n i || p (f i)) k e i (at i h).1))

  first_back : every p (take n (tabulate f k)) ≡ true → all_below (λ i. leb n i || p (f i)) k ≡ true
  first_back e =
      all_below_lem (λ i. leb n i || p (f i)) k
      (λ i h. or_right (leb n i) (p (f i)) (λ o. passes i (leb-false n i o) h))
    where
      passes : (i : ℕ) → i < n → i < k → p (f i) ≡ true
      passes i h g =
          let l : i < length (take n (tabulate f k)) = rw (length-take, tabulate-length f k) (omega arith) in
          sym (ap p (each_first i h g)) ∙ every-passes p x (take n (tabulate f k)) e i l

  pub first-is : all_below (λ i. leb n i || p (f i)) k ≡ every p (take n (tabulate f k))
  first-is = alike (all_below (λ i. leb n i || p (f i)) k) (every p (take n (tabulate f k))) first_forth first_back

-- ---- the table

module _ (o : List ℕ) (long : length o ≡ table_octets) (octets : (k : ℕ) → get_or o k 0 < 256) where
  row-passes : (n d place k : ℕ) → row_passes o n d place k ≡ (leb n k || slot_fits d place (slot_in (cell o k)))
  row-passes n d place k = ap (λ (b : Bool). leb n k || b) (row_is (cell o k) (λ c. octets (k + (head_octets + slots_most * c))) d place)

  rows_are : (n d place : ℕ) → all_below (row_passes o n d place) slots_most ≡ every (slot_fits d place) (take n (tabulate (λ i. slot_in (cell o i)) slots_most))
  rows_are n d place =
      ap (λ (p : ℕ → Bool). all_below p slots_most) (λ x k. row-passes n d place k x)
      ∙ first-is (slot_fits d place) (fresh 0) (λ i. slot_in (cell o i)) n slots_most

  taken_is : spelled o ≡ true → scanned o ≡ well_formed (taken o)
  unfolding scanned well_formed taken
  taken_is s = rw (s, rows_are (get_or o 1 0) (get_or o 2 0) (place_size (u16_at o 3)))

  none-taken : spelled o ≡ false → scanned o ≡ false
  unfolding scanned
  none-taken s = rw s

  -- THE PASS IS REFUSAL 1
  pub scan_is : scanned o ≡ valid_octets o
  unfolding valid_octets
  scan_is = decide (spelled o) refl
    where
      decide : (b : Bool) → spelled o ≡ b → scanned o ≡ ((read o).ok && well_formed (read o).table)
      decide true s = taken_is s ∙ sym (ap (λ (d : Decoded). d.ok && well_formed d.table) (read-passes o long octets s))
      decide false s = none-taken s ∙ sym (ap (λ (d : Decoded). d.ok && well_formed d.table) (read-fails o long octets s))

-- octets of another number are refused
pub valid_other : (o : List ℕ) → (length o ≡ table_octets → ⊥) → valid_octets o ≡ false
unfolding valid_octets
valid_other o h = ap (λ (d : Decoded). d.ok && well_formed d.table) (read_other o h)
