-- How each form's code comes to the definition's end: from what was given back, what was written and what became of the room.
use Rattle.std.specs.Prelude.{◌≡◌, Bool, List, [], ◌∷◌, ℕ}
use Rattle.std.proofs.Common.{sym}
use Rattle.channel.specs.declared.Answer.{Answer}
use Rattle.channel.specs.declared.Answer.TheVariants.{Done}
use Rattle.channel.specs.declared.Served.{Served}
use Rattle.channel.specs.declared.Slot.{Slot}
use Rattle.channel.specs.declared.Table.{Table}
use Rattle.definition.specs.Mem.{given, Move, parts, written, fills, sizes}
use Rattle.definition.specs.Table.{width, put_slot}
use Rattle.definition.specs.Outcome.{still, change, only, sweep}
use Rattle.definition.specs.Ending.{itself, end, end_of, gave}
use Rattle.definition.proofs.Ending.{written_given, sizes_given, written_none, end_given, end-slot}
use Rattle.table_endings.specs.Reply.{Replied, end_slot_given}

pub tells : {t : Table} {a : Answer} {l xs l' : List ℕ} {n : ℕ} {r : Served} → r ≡ gave a t n → Replied l xs n l'
    → (t₀ : Table) (room job : List ℕ) → end r room l' job ≡ end_of t₀ [] room l job (still t a (given xs ∷ []))
tells {t} {a} {l} {xs} e w t₀ room job = rw (e, w.octets, w.buffer) (sym (end_given t₀ t a [] room l job xs))

pub alters : (t : Table) (s : ℕ) (x : Slot) (a : Answer) {r : Served} → r ≡ gave a (put_slot t s x) 0
    → (t₀ : Table) (room out job : List ℕ) → end r room out job ≡ end_of t₀ [] room out job (change t s x [] a [])
alters t s x a e t₀ room out job = rw e (sym (end-slot t₀ t s x a [] room out job))

pub alters_telling : (t : Table) (s : ℕ) (x : Slot) (a : Answer) {l xs l' : List ℕ} {n : ℕ} {r : Served} → r ≡ gave a (put_slot t s x) n → Replied l xs n l'
    → (t₀ : Table) (room job : List ℕ) → end r room l' job ≡ end_of t₀ [] room l job (change t s x [] a (given xs ∷ []))
alters_telling t s x a {l} {xs} e w t₀ room job = rw (e, w.octets, w.buffer) (sym (end_slot_given t₀ t s x a [] room l job xs))

-- a slot's part is moved in, and nothing is written
pub moves_in : (t : Table) (s : ℕ) (x : Slot) (ms : List Move) (a : Answer) (jobs room : List ℕ) {r : Served} {room' : List ℕ} → r ≡ gave a (put_slot t s x) 0
    → room' ≡ parts itself jobs (width t) (only s ms) room
    → (out job : List ℕ) → end r room' out job ≡ end_of t jobs room out job (change t s x ms a [])
unfolding end_of sizes written fills
moves_in t s x ms a jobs room e h out job = rw (e, h)

-- the same with a signal written
pub moves_in_telling : (t : Table) (s : ℕ) (x : Slot) (ms : List Move) (a : Answer) (room : List ℕ) {r : Served} {room' l xs l' : List ℕ} {n : ℕ} → r ≡ gave a (put_slot t s x) n
    → room' ≡ parts itself [] (width t) (only s ms) room → Replied l xs n l'
    → (job : List ℕ) → end r room' l' job ≡ end_of t [] room l job (change t s x ms a (given xs ∷ []))
unfolding end_of
moves_in_telling t s x ms a room {l = l} {xs = xs} e h w job =
    rw (e, h, w.octets, w.buffer, written_given [] room l xs, sizes_given xs, written_none [] room job)

pub sweeps : (t : Table) (p : Slot → Bool) (a : Answer) (room : List ℕ) {r : Served} {room' : List ℕ} → r ≡ gave a (sweep t p Done).table 0
    → room' ≡ parts itself [] (width t) (sweep t p Done).parts room
    → (out job : List ℕ) → end r room' out job ≡ end_of t [] room out job (sweep t p a)
unfolding end_of sizes written fills
sweeps t p a room e h out job = rw (e, h)
