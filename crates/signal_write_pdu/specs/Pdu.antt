-- The PDU of one signal (Core Vol 3 Part A 3.1 and 4; document 01): its head, and its body, of fields of two octets.
use Rattle.std.specs.Prelude.{List, ◌++◌, ℕ, ◌*◌, length}
pub use Rattle.signal_write_head.specs.SignalHead.{octets_of, head_of}

abbrev pub pdu_of : ℕ → ℕ → List ℕ → List ℕ
pdu_of code id fs = head_of code id (2 * length fs) ++ octets_of fs
