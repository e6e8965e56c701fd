-- What is true of every state that a run reaches, the octets of the room apart: a made table has it, and every call keeps it.
use Rattle.std.specs.Prelude.{◌≡◌, true, List, ℕ, ◌-◌, ◌≤◌, length}
use Rattle.channel.specs.Limits.{slots_most, depth_most, packet_least, packet_most, identifier_most}
use Rattle.channel.specs.declared.Table.{Table}
use Rattle.definition.specs.Table.{place_of, room_size, live, sizes_fit}
use Rattle.rules.specs.Sound.{AllSound}

pub record Good (t : Table) (room : List ℕ) : Type 0 where
  pub sizes : sizes_fit t.n t.d t.m ≡ true
  pub long : length t.slots ≡ slots_most
  pub identifier : (1 ≤ t.identifier) × (t.identifier ≤ identifier_most)
  pub slots : AllSound t.d (place_of t) (live t)
  pub size : length room ≡ room_size t

-- ---- the sizes, read

pub record Sizes (n d m : ℕ) : Type 0 where
  pub n_least : 1 ≤ n
  pub n-most : n ≤ slots_most
  pub d_least : 1 ≤ d
  pub d_most : d ≤ depth_most
  pub m_least : packet_least ≤ m
  pub m_most : m ≤ packet_most

-- no call changes the sizes
pub record Sized (t u : Table) : Type 0 where
  pub n : u.n ≡ t.n
  pub d : u.d ≡ t.d
  pub m : u.m ≡ t.m
