-- What a call from another language leaves: its number, the table's octets, the answer's octets, and the lent buffers. It is the end of the
-- call (Ending.antt of `definition`), lifted through the table's layout and the answer's.
use Rattle.std.specs.Prelude.{◌≡◌, Bool, not, List, [], ℕ, eqb, ltb, length, Option, None, Some}
use Rattle.std.proofs.Common.{sym, ap, ◌∙◌}
use Rattle.std.proofs.lemmas.List.Edits.{sets}
use Rattle.lists.specs.Choose.{choose}
use Rattle.credit.specs.declared.CreditFlowPolicy.{CreditFlowPolicy}
use Rattle.credit.specs.declared.CreditFlowPolicy.TheVariants.{Every, MinThreshold}
use Rattle.channel.specs.declared.L2capChannelConfig.{L2capChannelConfig}
use Rattle.channel.specs.declared.Served.{Served}
use Rattle.channel.specs.declared.Table.{Table}
use Rattle.definition.specs.Table.{when◌then◌else◌}
use Rattle.definition.specs.Ending.{End, end}
use Rattle.edge_layout.specs.Layout.{read, written, table_octets}
use Rattle.edge_layout.proofs.Back.{written_back}
use Rattle.edge_layout.specs.declared.Decoded.{Decoded}
use Rattle.channel_answer.specs.Tells.{tells, answer_number}
use Rattle.edge_answer.specs.Answers.{told_octets, answer_octets}

pub record Edge : Type 0 where
  pub number : ℕ  -- 0, or the refusal's
  pub table : List ℕ
  pub answer : List ℕ
  pub room : List ℕ
  pub out : List ℕ  -- the signal buffer or frame output
  pub job : List ℕ  -- a take's job buffer

abbrev pub edge : ℕ → (table answer room out job : List ℕ) → Edge
edge number table answer room out job = record { number = number; table = table; answer = answer; room = room; out = out; job = job }

-- "that two results meeting it coincide is proved": what two calls leave that meet one entry's contract is the same, the number that is returned and every
-- lent octet
pub record Coincide (number₁ number₂ : ℕ) (table₁ table₂ answer₁ answer₂ room₁ room₂ out₁ out₂ job₁ job₂ : List ℕ) : Type 0 where
  pub number : number₁ ≡ number₂
  pub table : table₁ ≡ table₂
  pub answer : answer₁ ≡ answer₂
  pub room : room₁ ≡ room₂
  pub out : out₁ ≡ out₂
  pub job : job₁ ≡ job₂

pub coincide : {e : Edge} {number₁ number₂ : ℕ} {table₁ table₂ answer₁ answer₂ room₁ room₂ out₁ out₂ job₁ job₂ : List ℕ}
    → edge number₁ table₁ answer₁ room₁ out₁ job₁ ≡ e → edge number₂ table₂ answer₂ room₂ out₂ job₂ ≡ e
    → Coincide number₁ number₂ table₁ table₂ answer₁ answer₂ room₁ room₂ out₁ out₂ job₁ job₂
coincide p q =
    let h = p ∙ sym q in
    record {
      number = ap (λ (x : Edge). x.number) h;
      table = ap (λ (x : Edge). x.table) h;
      answer = ap (λ (x : Edge). x.answer) h;
      room = ap (λ (x : Edge). x.room) h;
      out = ap (λ (x : Edge). x.out) h;
      job = ap (λ (x : Edge). x.job) h;
    }

-- The table is written back where its octets are a table's (ok); the answer is written over the start of the lent answer.
unfoldable pub lifted : (ok : Bool) (table answer : List ℕ) → End → Edge
lifted ok table answer e =
    record {
      number = answer_number e.served.answer;
      table = choose ok (written table e.served.table) table;
      answer = sets answer 0 (answer_octets e.served);
      room = e.room;
      out = e.out;
      job = e.job;
    }

-- A call on the table that the octets spell. Octets that spell none are read as a table of no slots, which every call refuses by 1: table, room
-- and buffers stay as they were (NoTable.antt and Entries.antt of `edge_laws`).
unfoldable pub on_table : (table answer : List ℕ) → (Table → End) → Edge
on_table table answer call = lifted (read table).ok table answer (call (read table).table)

-- A making: whatever the octets said, they are the table's afterwards, if they are as many (ok).
unfoldable pub made_on : (table answer : List ℕ) → (Bool → End) → Edge
made_on table answer call = lifted (eqb (length table) table_octets) table answer (call (eqb (length table) table_octets))

-- a call that is lent nothing else
abbrev pub alone : Served → End
alone s = end s [] [] []

-- ---- by which an entry's proof reads it

pub on_table_lem : (o a : List ℕ) (f : Table → End) {d : Decoded} {e : Edge} {x : End} → d ≡ read o → e ≡ lifted d.ok o a x → x ≡ f d.table → e ≡ on_table o a f
unfolding on_table
on_table_lem o a f {d} known stored called =
    stored ∙ ap (lifted d.ok o a) called ∙ ap (λ (r : Decoded). lifted r.ok o a (f r.table)) known

-- A question gives back the table that it was given, so the table's octets stay, and the answer alone is written.
pub on_asked : (o a : List ℕ) (f : Table → Served) → ((t : Table) → (f t).table ≡ t)
    → {d : Decoded} {s : Served} {number : ℕ} {answer : List ℕ} → d ≡ read o → s ≡ f d.table → number ≡ answer_number s.answer → answer ≡ sets a 0 (told_octets (tells s.answer) s.octets)
    → edge number o answer [] [] [] ≡ on_table o a (λ t. alone (f t))
unfolding on_table lifted answer_octets
on_asked o a f keeps known called numbered told = rw (numbered, told, called, known, keeps (read o).table, written_back o)

pub made_on_lem : (o a : List ℕ) (f : Bool → End) {e : Edge} {x : End} → e ≡ lifted (eqb (length o) table_octets) o a x → x ≡ f (eqb (length o) table_octets) → e ≡ made_on o a f
unfolding made_on
made_on_lem o a f stored called = stored ∙ ap (lifted (eqb (length o) table_octets) o a) called

-- ---- what numbers say

-- a flag: 0 is false
abbrev pub flag : ℕ → Bool
flag n = not (eqb n 0)

-- a setting above 65,535 is the default
unfoldable pub setting_of : ℕ → Option ℕ
setting_of n = when ltb 65535 n then None else Some n

-- kind 0 is Every, another MinThreshold
unfoldable pub policy_by : (kind value : ℕ) → CreditFlowPolicy
policy_by kind value = when eqb kind 0 then Every value else MinThreshold value

abbrev pub config_of : (mtu mps kind value credits : ℕ) → L2capChannelConfig
config_of mtu mps kind value credits = record { mtu = setting_of mtu; mps = setting_of mps; policy = policy_by kind value; credits = setting_of credits }
