-- THE ATTENTION SET, the law. "The attention set has one bit per slot, set exactly when a job waits, a disconnect is due or ConnectFailed
-- stands; the number of slots calling and the lowest of them are given (N when none calls)." Said of the states by name, and of no test
-- that the definition makes. (A job that is handed over in portions does not call: only what is named does.) Proved in Attends.antt.
use Rattle.std.specs.Prelude.{◌≡◌, false, ℕ, suc, ◌/◌, ◌%◌, ◌^◌, ◌≤◌, ◌<◌}
use Rattle.codes.specs.declared.LeCreditConnResultCode.{LeCreditConnResultCode}
use Rattle.codes.specs.declared.Refusal.TheVariants.{BadTable}
use Rattle.channel.specs.declared.Answer.{Answer}
use Rattle.channel.specs.declared.Answer.TheVariants.{Refused, Attention}
use Rattle.channel.specs.declared.ChannelState.TheVariants.{ConnectFailed, PeerDisconnecting, Disconnecting}
use Rattle.channel.specs.declared.Slot.{Slot}
use Rattle.channel.specs.declared.Table.{Table}
use Rattle.definition.specs.Table.{slot_at, well_formed}
use Rattle.definition.specs.Calls.{Window, plain, attends, bare, decide}
use Rattle.definition.specs.Forms.{Fit}

-- A slot calls.
pub data Calling (x : Slot) : Type 0 where
  job : 1 ≤ x.queue.count → Calling x  -- "a job waits"
  answer_due : {id : ℕ} → x.state ≡ PeerDisconnecting id → Calling x  -- "a disconnect is due": the peer's is to be answered,
  request_due : x.state ≡ Disconnecting false → Calling x  -- or ours is not yet announced
  failed : {code : LeCreditConnResultCode} → x.state ≡ ConnectFailed code → Calling x  -- "ConnectFailed stands"

-- Of the first n slots, so many call.
pub data Number (t : Table) : (n calling : ℕ) → Type 0 where
  none : Number t 0 0
  more : {n c : ℕ} → Number t n c → Calling (slot_at t n) → Number t (suc n) (suc c)
  same : {n c : ℕ} → Number t n c → ¬ Calling (slot_at t n) → Number t (suc n) c

pub record Attends (t : Table) (set number lowest : ℕ) : Type 0 where
  -- bit i of the set: "set exactly when .."
  pub says : (i : ℕ) → i < t.n → set / 2 ^ i % 2 ≡ 1 → Calling (slot_at t i)
  pub calls : (i : ℕ) → i < t.n → Calling (slot_at t i) → set / 2 ^ i % 2 ≡ 1
  -- "one bit per slot": none from N on
  pub bits : set < 2 ^ t.n
  -- "the number of slots calling"
  pub counts : Number t t.n number
  -- "and the lowest of them": N or a slot that calls, and none below it does
  pub within : lowest ≤ t.n
  pub stands : lowest < t.n → Calling (slot_at t lowest)
  pub least : (i : ℕ) → i < lowest → ¬ Calling (slot_at t i)

-- What the call answers: refusal 1 to a table that is not well formed, and else this.
pub data Told (t : Table) : Answer → Type 0 where
  refused : well_formed t ≡ false → Told t (Refused BadTable)
  told : {set number lowest : ℕ} → Attends t set number lowest → Told t (Attention set number lowest)

abbrev pub AttentionLaw : Type 0
AttentionLaw = (t : Table) → Fit t → (out tray : Window) (count room signal job : ℕ) → Told t (decide t (bare t (plain attends out tray)) count room signal job).answer
