-- What a slot that hands a job out leaves, and its law: with the signal that was written it is the work of a take (Taking.antt).
use Rattle.std.specs.Prelude.{◌≡◌, refl, List, [], ◌∷◌, ◌++◌, ℕ, ◌+◌, ◌*◌, length, get_or, drop, None, Some}
use Rattle.std.proofs.Common.{sym, ◌∙◌, append-nil, arith}
use Rattle.std.proofs.lemmas.List.Edits.{sets}
use Rattle.octets.specs.Octets.{part}
use Rattle.credit.specs.Account.{granted}
use Rattle.sar_join.specs.Joining.{place}
use Rattle.signal_forms.specs.declared.LeCreditFlowInd.{LeCreditFlowInd}
use Rattle.signal_forms.specs.declared.Signal.TheVariants as Signal
use Rattle.signal_write.specs.Writer.{encode_of}
use Rattle.channel.specs.declared.Answer.{Answer}
use Rattle.channel.specs.declared.Answer.TheVariants.{Job}
use Rattle.channel.specs.declared.Slot.{Slot}
use Rattle.definition.specs.Mem.{Fill, given, sizes, fill, fills, written, parts}
use Rattle.definition.specs.Table.{place_size, part_width, with_account, with_queue}
use Rattle.definition.specs.Outcome.{only}
use Rattle.definition.specs.Ending.{itself}
use Rattle.definition.proofs.Ending.{written_none, written_given, sizes_given, parts_none}
use Rattle.definition.specs.Frames.{shifted, upwards, oldest, crediting}
use Rattle.table_endings.specs.Reply.{Replied}
use Rattle.slot_work.specs.declared.Worked.{Worked}
use Rattle.slot_work.specs.Work.{worked}
use Rattle.slot_take.specs.Taking.{keeps, hand_of, granted_of, Took}

-- a queue of four lengths without its oldest
pub shifted_four : (xs : List ℕ) → length xs ≡ 4 → get_or xs 1 0 ∷ get_or xs 2 0 ∷ get_or xs 3 0 ∷ 0 ∷ [] ≡ drop 1 xs ++ (0 ∷ [])
shifted_four (a ∷ b ∷ c ∷ d ∷ []) e = refl
shifted_four [] e = absurd (omega arith)
shifted_four (a ∷ []) e = absurd (omega arith)
shifted_four (a ∷ b ∷ []) e = absurd (omega arith)
shifted_four (a ∷ b ∷ c ∷ []) e = absurd (omega arith)
shifted_four (a ∷ b ∷ c ∷ d ∷ f ∷ xs) e = absurd (omega arith)

-- What slot s leaves, as x, once its oldest job was handed out; `octets` is what was written of a signal.
pub record Handed (d m s : ℕ) (x : Slot) (octets : ℕ) (room job : List ℕ) (r : Worked) (room' job' : List ℕ) : Type 0 where
  pub gave : r ≡ worked (Job x.link (oldest x)) (with_queue (shifted x.queue) x) octets
  pub moved : room' ≡ parts itself [] (part_width d m) (only s (upwards (place_size m) x.queue.count)) room
  pub told : job' ≡ sets job 0 (part room (s * part_width d m + place (place_size m) 1) (oldest x))

-- a slot that stays
pub took_none : (w s : ℕ) (x : Slot) (a : Answer) (room out job : List ℕ) {r : Worked} → r ≡ worked a x 0 → Took w s (keeps x a) room out job r room out job
unfolding sizes
took_none w s x a room out job e =
    record { gave = e; moved = sym (parts_none [] w s room); told = sym (written_none [] room out); handed = sym (written_none [] room job) }

module _ (d m s id : ℕ) (x : Slot) {octets : ℕ} {room job : List ℕ} {r : Worked} {room' job' : List ℕ} (h : Handed d m s x octets room job r room' job') where
  hands : (signal : List Fill) {out out' : List ℕ} → octets ≡ sizes signal → out' ≡ written itself [] room 0 signal out
      → Took (part_width d m) s (hand_of d m s x signal) room out job r room' out' job'
  unfolding written fills fill
  hands signal n o =
      record {
        gave = rw n at h.gave;
        moved = h.moved;
        told = o;
        handed = rw (append-nil (part room (s * part_width d m + place (place_size m) 1) (oldest x))) h.told;
      }

-- no credits are granted
pub took_still : (d m s id : ℕ) (x : Slot) (out : List ℕ) {room job : List ℕ} {r : Worked} {room' job' : List ℕ} → Handed d m s x 0 room job r room' job'
    → Took (part_width d m) s (granted_of d m s id x None) room out job r room' out job'
unfolding granted_of sizes
took_still d m s id x out {room = room} h = hands d m s id x h [] refl (sym (written_none [] room out))

-- the credits are booked, and their signal is written
pub took_granting : (d m s id : ℕ) (x : Slot) (out : List ℕ) {room job : List ℕ} {r : Worked} {room' job' : List ℕ} {y : Slot} {n octets : ℕ} {ind : LeCreditFlowInd} {out' : List ℕ}
    → y ≡ with_account (granted x.account n) x → ind ≡ crediting s n
    → Handed d m s y octets room job r room' job' → Replied out (encode_of id (Signal.LeCreditFlowInd ind)) octets out'
    → Took (part_width d m) s (granted_of d m s id x (Some n)) room out job r room' out' job'
unfolding granted_of
took_granting d m s id x out {room = room} {n = n} f i h w =
    let y = with_account (granted x.account n) x in
    let xs = encode_of id (Signal.LeCreditFlowInd (crediting s n)) in
    let v = rw i at w in
    hands d m s id y (rw f at h) (given xs ∷ []) (v.octets ∙ sym (sizes_given xs)) (v.buffer ∙ sym (written_given [] room out xs))
