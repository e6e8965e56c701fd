-- DEMAND 3 AT THE ENTRIES, the statement: over octets, as a caller in C sees it. Two callers make a table each, by an l2cap_make that returns 0, and then
-- call the same entries in the same order. They may differ in the job octets that ONE link carries in ONE of its lives, and in nothing else. Then
-- every entry returns the same number, and leaves the same table octets, answer octets and signal octets; room and memory differ only where that link's
-- own job octets or frames stand; and no entry returns 1 or 2, where the PDUs are octets. Entries.antt says what an entry leaves, Run.antt what a run of them is. Proved in
-- Isolation.antt. The words for links, lives and marks are those of demand 3 (crate isolation, Statement.antt).
use Rattle.std.specs.Prelude.{◌≡◌, ◌&&◌, List, [], ◌∷◌, map, ℕ, suc, eqb, take}
use Rattle.lists.specs.Choose.{choose}
use Rattle.definition.specs.Calls.{Call}
use Rattle.isolation.specs.Statement.{is_down, Alike, Marks, marks_of, Isolated}
use Rattle.edge.specs.Edge.{Edge}
use Rattle.edge_asking.specs.Asking.{make_edge}
use Rattle.edge_runs.specs.Run.{EdgeState, state_of, Asked, call_in, edge_of, entered, BuffersApart, AllInOctets, entries, started, Told, told}

-- ---- 1. What may differ.

-- How many of link k's lives are over after this entry: a link-down of k that returns 0 ends one.
abbrev pub over_at : (k over : ℕ) → Call → Edge → ℕ
over_at k over c x = choose (is_down k c && eqb x.number 0) (suc over) over

-- Two lists of entries, alike one by one. s are the octets in which the first list starts. Two entries are alike when they are the same call, or in life j the
-- same call but for link k's job octets (another SDU or other octets of a portion on its slot, another payload of its frame, as long, and with the same length octets where no assembly
-- is open); and their answer buffers start with the same octets. Whose a slot is, is read from the table's octets.
abbrev pub AlikeEntries : (k j over : ℕ) → EdgeState → List Asked → List Asked → Type 0
AlikeEntries k j over s [] [] = Unit {0}
AlikeEntries k j over s [] (b ∷ fs) = ⊥
AlikeEntries k j over s (a ∷ es) [] = ⊥
AlikeEntries k j over s (a ∷ es) (b ∷ fs) =
    (Alike k j over (state_of s).table (call_in a) (call_in b) × (a.answer ≡ b.answer)) × AlikeEntries k j (over_at k over (call_in a) (edge_of s a)) (entered s a) es fs

-- ---- 2. What is equal after the entries so far: the table, octet by octet; room and memory as in demand 3, where m marks that life's octets.

pub record IsolatedAt (k j : ℕ) (m : Marks) (a b : EdgeState) : Type 0 where
  pub table : a.table ≡ b.table
  pub isolated : Isolated k j m (state_of a) (state_of b)

-- ---- 3. None of what is told is refusal 1 or 2.

abbrev pub Never1Nor2 : List Told → Type 0
Never1Nor2 [] = Unit {0}
Never1Nor2 (x ∷ xs) = ((x.number ≡ 1 → ⊥) × (x.number ≡ 2 → ⊥)) × Never1Nor2 xs

-- ---- 4. The demand. A `Told` (Run.antt) is the number returned, the answer's octets, the table's octets and the signal's octets.

-- s and t: what the two makings leave
pub record Undistinguished (k j : ℕ) (s t : EdgeState) (es fs : List Asked) : Type 0 where
  pub tells : told s es ≡ told t fs
  pub never : AllInOctets es → Never1Nor2 (told s es)
  -- after every number i of entries
  pub leaves : (i : ℕ) → IsolatedAt k j (marks_of k j (state_of s) (map call_in (take i es))) (entries s (take i es)) (entries t (take i fs))

abbrev pub Demand3AtEntries : Type 0
Demand3AtEntries =
    (k j n d m : ℕ) (table₁ table₂ answer₁ answer₂ room₁ room₂ memory : List ℕ) (es fs : List Asked)
    → (make_edge table₁ answer₁ room₁ n d m).number ≡ 0
    → (make_edge table₂ answer₂ room₂ n d m).number ≡ 0
    → BuffersApart es
    → AlikeEntries k j 0 (started table₁ answer₁ room₁ n d m memory) es fs
    → Undistinguished k j (started table₁ answer₁ room₁ n d m memory) (started table₂ answer₂ room₂ n d m memory) es fs
