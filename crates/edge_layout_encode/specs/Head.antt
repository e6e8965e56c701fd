-- Lines 0 to 2 of a table's octets, in the parts that are written.
use Rattle.std.specs.Prelude.{◌≡◌, refl, List, [], ◌∷◌, ℕ, ◌/◌, ◌%◌, length, replicate}
use Rattle.std.proofs.Common.{arith, take_all}
use Rattle.std.proofs.lemmas.List.Edits.{sets}
use Rattle.octets.specs.Octets.{part}
use Rattle.channel.specs.declared.Table.{Table}
use Rattle.edge_layout.specs.Layout.{layout_number, spsm_octets, head}

-- the SPSMs are the whole of what is copied
pub whole_part : (l : List ℕ) → length l ≡ spsm_octets → part l 0 spsm_octets ≡ l
whole_part l e = take_all spsm_octets l (omega arith)

-- the head's parts, written one after the other
pub head-parts : (o : List ℕ) (t : Table) →
    sets (sets (sets o 0 (layout_number ∷ t.n % 256 ∷ t.d % 256 ∷ t.m % 256 ∷ t.m / 256 % 256 ∷ t.identifier ∷ [])) 6 (replicate 10 0)) 16 t.spsms ≡ sets o 0 (head t)
unfolding head
head-parts o t = refl
