-- What a buffer holds once a signal was written to it: the signal from the start, and behind it what it held before.
use Rattle.std.specs.Prelude.{◌≡◌, List, ◌++◌, ℕ, ◌+◌, ◌*◌, ◌<◌, ◌≤◌, length, take, drop}
use Rattle.std.proofs.Common.{◌∙◌, zero-add, arith, lt-ltb, le-ltb}
use Rattle.std.proofs.Math.Seq.{sets-eq, take-append_seam, drop-append_seam}
use Rattle.lists.specs.Choose.{choose_true, choose_false}
use Rattle.octets.specs.Octets.{u16_at}
use Rattle.octets.specs.Numbers.{le16_back}
use Rattle.signal_forms.specs.declared.Signal.{Signal}
use Rattle.signal_write.specs.Writer.{pdu_of, encode_of, out_of, encode_short}
use Rattle.signal_forms.specs.Limits.{signal_most}

-- length and CID stand before a signal (Core Vol 3 Part A 3.1); the length counts what follows the two
pub pdu-length : (code id : ℕ) (fs : List ℕ) → u16_at (pdu_of code id fs) 0 ≡ 4 + 2 * length fs
pdu-length code id fs = le16_back (4 + 2 * length fs)

module _ (id : ℕ) (s : Signal) (l : List ℕ) where
  abbrev x : List ℕ
  x = encode_of id s

  pub buffer-refused : length l < signal_most → out_of l x ≡ l
  unfolding out_of
  buffer-refused h = choose_true _ _ _ (lt-ltb (length l) signal_most h)

  module _ (h : signal_most ≤ length l) where
    out-is : out_of l x ≡ x ++ drop (length x) l
    unfolding out_of
    out-is =
        choose_false _ _ _ (le-ltb (length l) signal_most h)
        ∙ sets-eq x l 0 (omega (arith, encode_short id s)) ∙ rw (zero-add (length x))

    pub buffer_back : take (length x) (out_of l x) ≡ x
    buffer_back = rw out-is (take-append_seam x (drop (length x) l))

    pub buffer-kept : drop (length x) (out_of l x) ≡ drop (length x) l
    buffer-kept = rw out-is (drop-append_seam x (drop (length x) l))
