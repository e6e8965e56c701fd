-- What sizes within the limits tell: how large a slot's part of the room and the room are, and where a part lies in it.
-- The products are bounded here, once; what follows is arithmetic.
use Rattle.std.specs.Prelude.{◌≡◌, true, ℕ, suc, ◌+◌, ◌-◌, ◌*◌, ◌≤◌, ◌<◌}
use Rattle.std.proofs.Common.{mul-le-mul, mul-le-mul_right, suc-mul, arith, leb-true}
use Rattle.lists.specs.Both.{both}
use Rattle.channel.specs.Limits.{slots_most, depth_most, packet_least, packet_most}
use Rattle.channel.specs.declared.Table.{Table}
use Rattle.definition.specs.Table.{place_size, place_of, part_width, live, sizes_fit, slot_fits, well_formed}
use Rattle.lists.specs.Every.{every}

-- a table of n slots, d waiting jobs a slot and packets of m octets
pub record Sized (n d m : ℕ) : Type 0 where
  pub n_least : 1 ≤ n
  pub n-most : n ≤ slots_most
  pub d_least : 1 ≤ d
  pub d_most : d ≤ depth_most
  pub m_least : packet_least ≤ m
  pub m_most : m ≤ packet_most

pub sizes_fit_lem : (n d m : ℕ) → sizes_fit n d m ≡ true → Sized n d m
sizes_fit_lem n d m e0 =
    let (h1, e1) = both _ _ e0 in
    let (h2, e2) = both _ _ e1 in
    let (h3, e3) = both _ _ e2 in
    let (h4, e4) = both _ _ e3 in
    let (h5, h6) = both _ _ e4 in
    record {
      n_least = leb-true _ _ h1;
      n-most = leb-true _ _ h2;
      d_least = leb-true _ _ h3;
      d_most = leb-true _ _ h4;
      m_least = leb-true _ _ h5;
      m_most = leb-true _ _ h6;
    }

pub formed_sizes : (t : Table) → well_formed t ≡ true → Sized t.n t.d t.m
unfolding well_formed
formed_sizes t e = sizes_fit_lem t.n t.d t.m (both _ (every (slot_fits t.d (place_of t)) (live t)) e).0

-- the most octets of a slot's part, and of n parts
pub width-most : (d m : ℕ) → d ≤ depth_most → m ≤ packet_most → part_width d m ≤ part_width depth_most packet_most
width-most d m h l = mul-le-mul {n₂ = suc depth_most} {m₂ = place_size packet_most} (omega arith) (omega arith)

pub room_most : (n w : ℕ) → n ≤ slots_most → w ≤ part_width depth_most packet_most → n * w ≤ slots_most * part_width depth_most packet_most
room_most n w h l = mul-le-mul {n₂ = slots_most} h l

-- slot s's part ends within n of them
pub part-within : (s n w : ℕ) → s < n → s * w + w ≤ n * w
part-within s n w h = rw (suc-mul s w) at (mul-le-mul_right w h)
