-- The tests by which octets are known to be a spelling: what `spelled` computes, octet by octet.
use Rattle.std.specs.Prelude.{Bool, true, ◌&&◌, ◌||◌, List, ℕ, zero, suc, ◌+◌, eqb, leb, get_or}
use Rattle.channel.specs.Limits.{slots_most}
use Rattle.edge_layout.specs.Layout.{layout_number, cell}

-- 0, 2 and 4 to 11 are result codes
abbrev pub is_result : ℕ → Bool
is_result value = eqb value 0 || (eqb value 2 || (leb 4 value && leb value 11))

-- every identifier is spelled, a result code only by its number, the announced mark by 0 or 1, nothing by 0
unfoldable pub state_spelled : (kind value : ℕ) → Bool
state_spelled kind value =
    (eqb kind 1 || (eqb kind 2 || eqb kind 5))
    || (((eqb kind 0 || eqb kind 3) && eqb value 0)
    || ((eqb kind 4 && is_result value)
    || (eqb kind 6 && leb value 1)))

unfoldable pub row_spelled : (ℕ → ℕ) → Bool
row_spelled f = state_spelled (f 0) (f 1) && leb (f 10) 1

-- every number below n passes
unfoldable pub all_below : (ℕ → Bool) → ℕ → Bool
all_below p zero = true
all_below p (suc n) = all_below p n && p n

-- line 0 has this layout's number and zeros at its end
unfoldable pub head_spelled : List ℕ → Bool
head_spelled o = eqb (get_or o 0 0) layout_number && all_below (λ k. eqb (get_or o (k + 6) 0) 0) 10

unfoldable pub rows_spelled : List ℕ → Bool
rows_spelled o = all_below (λ i. row_spelled (cell o i)) slots_most
