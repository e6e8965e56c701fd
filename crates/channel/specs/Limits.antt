-- The limits of document 01, 'The job and its edge' and 'What a refusal says and leaves': each is named here, once.
use Rattle.std.specs.Prelude.{ℕ}
-- the longest signal that is written; credits and their sums end at 65,535; the least MTU and MPS are 23
pub use Rattle.signal_forms.specs.Limits.{signal_most}
pub use Rattle.credit.specs.Account.{credits_most}
pub use Rattle.codes.specs.Limits.{size_least}

-- N is 1..=16, D 1..=4, M 29..=1,024
abbrev pub slots_most : ℕ
slots_most = 16

abbrev pub depth_most : ℕ
depth_most = 4

abbrev pub packet_least : ℕ
packet_least = 29

abbrev pub packet_most : ℕ
packet_most = 1024

-- of a packet's M octets a frame's header takes 4, and the SDU length 2 more
abbrev pub frame_head : ℕ
frame_head = 4

abbrev pub job_head : ℕ
job_head = 6

-- local CID = 0x40 + slot
abbrev pub cid_base : ℕ
cid_base = 0x40

-- link handles are 0..=0x0EFF
abbrev pub handle_most : ℕ
handle_most = 0x0EFF

-- identifiers are 1..=255
abbrev pub identifier_most : ℕ
identifier_most = 255

-- the SPSMs that can be registered are 1..=255
abbrev pub spsm_most : ℕ
spsm_most = 255

abbrev pub holds_most : ℕ
holds_most = 255
