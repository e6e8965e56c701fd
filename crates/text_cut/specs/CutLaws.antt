-- Laws of a text cut at a character: its first piece and the others, and how many there are; and what makes it the only such cut: the
-- pieces, joined by the character, are the text, and no piece has the character.
use Rattle.std.specs.Prelude.{◌≡◌, Bool, drop}
use mathlib.Core.List.{List}
use Prim.Native.Nat.{ℕ, suc, ◌+◌, ◌≤◌}
use Rattle.lists.specs.Bits.{count}

-- The loop that counts: what is counted so far, and what the rest still has.
pub record Counted {A : Type 0} (p : A → Bool) (l : List A) (i n : ℕ) : Type 0 where
  pub small : n ≤ i + 1
  pub is : n + count p (drop i l) ≡ suc (count p l)
