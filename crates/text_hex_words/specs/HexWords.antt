-- Words of hex (docs/CHANRUN.md): "lower-case hex, an even number of digits, at most 65,535 octets; `-` is no octets".
use Rattle.std.specs.Prelude.{Bool, false, ◌&&◌, ◌||◌, List, ℕ, ◌%◌, leb, ltb, eqb, length, get_or}
use Prim.Native.Char.{code}
use Rattle.lists.specs.Choose.{choose}
use Rattle.lists.specs.Every.{every}

-- `0` to `9` and `a` to `f`
abbrev pub is_hex : ℕ → Bool
is_hex c = leb (code "0") c && leb c (code "9") || leb (code "a") c && leb c (code "f")

-- 65,535 octets are 131,070 digits
unfoldable pub is_hex_word : List ℕ → Bool
is_hex_word w =
    choose (ltb (length w) 1) false
    (choose (ltb 131070 (length w)) false
    (choose (eqb (length w) 1) (eqb (get_or w 0 0) (code "-"))
    (choose (eqb (length w % 2) 1) false (every is_hex w))))
