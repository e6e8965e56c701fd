-- The rules of runs of the code: what rules/specs says of every state that a run reaches, of every state that the code leaves and of what it
-- gives back. Rests on those rules and on the law of runs (CodeRun.antt).
use Rattle.std.specs.Prelude.{◌≡◌, Bool, true, false, List, ℕ, ◌+◌, ◌-◌, ◌*◌, ◌≤◌, ◌<◌, length, get_or}
use Rattle.std.proofs.Common.{sym, ap, ◌∙◌, subst}
use Rattle.lists.specs.Choose.{choose}
use Rattle.credit.specs.Account.{credit_sum}
use Rattle.sar_cut.specs.Cutting.{ceil}
use Rattle.channel.specs.Limits.{credits_most, identifier_most, size_least}
use Rattle.channel.specs.declared.Answer.TheVariants.{Portion}
use Rattle.channel.specs.declared.ChannelState.TheVariants.{Disconnected, Connecting, PeerConnecting}
use Rattle.channel.specs.declared.Served.{Served}
use Rattle.definition.specs.Table.{place_of, width, fresh, slot_at, is_disconnected, is_connected, is_open, no_job, no_tallies, next_id, well_formed}
use Rattle.definition.specs.Portions.{given_out}
use Rattle.definition.specs.Calls.{Window, Call, portions, jobs, bare, decide}
use Rattle.definition.specs.Numbers.{answer_number}
use Rattle.definition.specs.Run.{State, lent, outcome, after}
use Rattle.rules.specs.Run.{Fits, AllFit, Reached, start}
use Rattle.rules.proofs.Run.{run-reached}
use Rattle.rules.specs.Tests.{begun, offered, counting}
use Rattle.rules.specs.Step.{Numbered}
use Rattle.rules.specs.Places.{job_in}
use Rattle.rules.specs.Rules.{Lasts, Uses}
use Rattle.rules.proofs.Rules.{well_formed_lem, never_1_nor_2, credit_sum_lem, peer_credit_sum, no_job_elsewhere, no_job_unpaid, credits_set_aside, identifiers, identifier_used, credits-last, portion-credits, peer_least, never_20, within-mtu, no_tallies_elsewhere, free-uncounted, owner_uncounted, tallies_below}
use Rattle.rules.specs.Sound.{Within, Below}
use Rattle.rules.proofs.Good.{reached-good}
use Rattle.rules.specs.RoomRule.{Empty}
use Rattle.rules.proofs.RoomRule.{room_rule}
use Rattle.rules.proofs.Fresh.{unbegun_empty, free-fresh, new_connection, connection_begins}
use Rattle.rules_code.specs.Called.{Called}
use Rattle.rules_code.proofs.Called.{called-after, called_served}
use Rattle.rules_code.specs.CodeRun.{CodeRun, none, call}
use Rattle.rules_code.proofs.CodeRun.{makes_made, makes_answer, code-run}
use Rattle.rules_code.specs.Rules.{CodeLasts, CodeReached, reached}

-- So a run reaches it, and every rule of runs holds of it.
pub code-reached : {s : State} → CodeReached s → Reached s
code-reached (reached {n} {d} {m} {room} {memory} {a = a} {cs = cs} f e q fit) =
    subst (λ (u : State). Reached u) (sym (code-run q))
    (run-reached a cs (subst (λ (u : State). Reached u) (sym (makes_made f)) (start n d m room memory (sym (makes_answer f) ∙ e))) fit)

module _ {s : State} (g : CodeReached s) where
  -- ---- "the table never becomes one that refusal 1 refuses"

  pub code_well_formed : well_formed s.table ≡ true
  code_well_formed = well_formed_lem (code-reached g)

  -- "a credit sum never passes 65,535"
  pub code_credit_sum : (i : ℕ) → i < s.table.n → credit_sum (slot_at s.table i).account ≤ credits_most
  code_credit_sum = credit_sum_lem (code-reached g)

  -- and of the peer's credits, those set aside for an open job counted (document 02)
  pub code_peer_credit_sum : (i : ℕ) → i < s.table.n → (slot_at s.table i).peer.credits + (slot_at s.table i).job.aside ≤ credits_most
  code_peer_credit_sum = peer_credit_sum (code-reached g)

  -- a job is open in Connected slots alone; where none is, nothing is left of one; and a credit is set aside for each frame to come
  pub code_no_job_elsewhere : (i : ℕ) → i < s.table.n → is_connected (slot_at s.table i).state ≡ false → (slot_at s.table i).job ≡ no_job
  code_no_job_elsewhere = no_job_elsewhere (code-reached g)

  pub code_no_job_unpaid : (i : ℕ) → i < s.table.n → is_open (slot_at s.table i).job ≡ false → (slot_at s.table i).job ≡ no_job
  code_no_job_unpaid = no_job_unpaid (code-reached g)

  pub code_credits_set_aside : (i : ℕ) → i < s.table.n → is_open (slot_at s.table i).job ≡ true
      → (slot_at s.table i).job.aside ≡ ceil ((slot_at s.table i).job.length + 2 - given_out (slot_at s.table i).job) (slot_at s.table i).peer.mps
  code_credits_set_aside = credits_set_aside (code-reached g)

  -- a PeerConnecting or Connected slot's peer MTU and MPS are at least 23 (document 02)
  pub code_peer_least : (i : ℕ) → i < s.table.n → offered (slot_at s.table i).state ≡ true
      → (size_least ≤ (slot_at s.table i).peer.mtu) × (size_least ≤ (slot_at s.table i).peer.mps)
  code_peer_least = peer_least (code-reached g)

  -- what waits in a slot, and what arrives there, is no longer than its MTU (document 02)
  pub code_within_mtu : (i : ℕ) → i < s.table.n → Within (slot_at s.table i).mtu (slot_at s.table i).assembly (slot_at s.table i).queue
  code_within_mtu = within-mtu (code-reached g)

  -- what neither is Connected nor was left by its peer has counted nothing; so a free slot's tallies are 0, and no owner inherits any; and each is below 2^64 (document 02)
  pub code_no_tallies_elsewhere : (i : ℕ) → i < s.table.n → counting (slot_at s.table i).state ≡ false → (slot_at s.table i).tallies ≡ no_tallies
  code_no_tallies_elsewhere = no_tallies_elsewhere (code-reached g)

  pub code_free_uncounted : (i : ℕ) → i < s.table.n → (slot_at s.table i).state ≡ Disconnected → (slot_at s.table i).tallies ≡ no_tallies
  code_free_uncounted = free-uncounted (code-reached g)

  pub code_owner_uncounted : (i : ℕ) → i < s.table.n → (id : ℕ)
      → ((slot_at s.table i).state ≡ Connecting id → (slot_at s.table i).tallies ≡ no_tallies) × ((slot_at s.table i).state ≡ PeerConnecting id → (slot_at s.table i).tallies ≡ no_tallies)
  code_owner_uncounted = owner_uncounted (code-reached g)

  pub code_tallies_below : (i : ℕ) → i < s.table.n → Below (slot_at s.table i).tallies
  code_tallies_below = tallies_below (code-reached g)

  -- "Identifiers run 1 to 255"
  pub code_identifiers : (1 ≤ next_id s.table) × (next_id s.table ≤ identifier_most)
  code_identifiers = identifiers (code-reached g)

  -- "Every octet of room that holds no octet of a live job is zero"
  pub code_room_rule : (i k j : ℕ) → i < s.table.n → k ≤ s.table.d → j < place_of s.table
      → job_in (slot_at s.table i).assembly (slot_at s.table i).queue k ≤ j → get_or s.room (i * width s.table + (k * place_of s.table + j)) 0 ≡ 0
  code_room_rule = room_rule (code-reached g)

  pub code_unbegun_empty : (i : ℕ) → i < s.table.n → begun (slot_at s.table i).state ≡ false → Empty s i
  code_unbegun_empty = unbegun_empty (code-reached g)

  pub code_free_fresh : (i : ℕ) → i < s.table.n → is_disconnected (slot_at s.table i).state ≡ true → slot_at s.table i ≡ fresh (slot_at s.table i).hold
  code_free_fresh = free-fresh (code-reached g)

  -- ---- the next call

  module _ {s' : State} {c : Call} {r : Served} (p : Called s c r s') (f : Fits c) where
    -- no call answers 1, nor 2
    pub code_never_1_nor_2 : (answer_number r.answer ≡ 1 → ⊥) × (answer_number r.answer ≡ 2 → ⊥)
    code_never_1_nor_2 = subst (λ (x : Served). (answer_number x.answer ≡ 1 → ⊥) × (answer_number x.answer ≡ 2 → ⊥)) (sym (called_served p)) (never_1_nor_2 (code-reached g) c f)

    -- and none 20
    pub code_never_20 : answer_number r.answer ≡ 20 → ⊥
    code_never_20 = subst (λ (x : Served). answer_number x.answer ≡ 20 → ⊥) (sym (called_served p)) (never_20 (code-reached g) c f)

    -- it keeps the next identifier, or uses it, and then writes nothing or one signal that carries it
    pub code_identifier_used : Numbered s.table s'.table.identifier (outcome s c).out
    code_identifier_used = subst (λ (u : State). Numbered s.table u.table.identifier (outcome s c).out) (sym (called-after p)) (identifier_used (code-reached g) c f)

    -- a free slot that it gives to a new connection was as it was made, and starts empty, its whole part of the room zero
    pub code_new_connection : (i : ℕ) → i < s.table.n → is_disconnected (slot_at s.table i).state ≡ true → is_disconnected (slot_at s'.table i).state ≡ false
        → (slot_at s.table i ≡ fresh 0) × Empty s' i
    code_new_connection i h =
        subst (λ (u : State). is_disconnected (slot_at s.table i).state ≡ true → is_disconnected (slot_at u.table i).state ≡ false → (slot_at s.table i ≡ fresh 0) × Empty u i)
        (sym (called-after p)) (new_connection (code-reached g) c f i h)

    -- and so it still is when it becomes Connected
    pub code_connection_begins : (i : ℕ) → i < s.table.n → begun (slot_at s.table i).state ≡ false → begun (slot_at s'.table i).state ≡ true → Empty s' i
    code_connection_begins i h =
        subst (λ (u : State). begun (slot_at s.table i).state ≡ false → begun (slot_at u.table i).state ≡ true → Empty u i) (sym (called-after p))
        (connection_begins (code-reached g) c f i h)

code-lasts : (i : ℕ) {s s' : State} {cs : List Call} {rs : List Served} (q : CodeRun s cs rs s') → CodeLasts i q → Lasts i s cs
code-lasts i none l = l
code-lasts i (call {cs = cs} p q) l = (l.0, subst (λ (u : State). Lasts i u cs) (called-after p) (code-lasts i q l.1))

pub code_credits_last : (i : ℕ) {s s' : State} {cs : List Call} {rs : List Served} → CodeReached s → (q : CodeRun s cs rs s') → AllFit cs → i < s.table.n → CodeLasts i q
    → credit_sum (slot_at s'.table i).account ≡ credit_sum (slot_at s.table i).account
code_credits_last i {s} {cs = cs} g q f h l =
    ap (λ (u : State). credit_sum (slot_at u.table i).account) (code-run q) ∙ credits-last i s cs (code-reached g) f h (code-lasts i q l)

-- ---- a portion that gives out a frame uses one of the credits set aside, any other none; the peer's credits stay

pub code_portion_credits : {s s' : State} {r : Served} → CodeReached s → (i : ℕ) (octets : List ℕ) (w : Window) (link k : ℕ) (full : Bool)
    → Called s (portions i octets w) r s' → r.answer ≡ Portion link k full → Uses (slot_at s.table i) (slot_at s'.table i) (choose full 1 0)
unfolding decide bare jobs after
code_portion_credits {s} g i octets w link k full p e =
    subst (λ (u : State). Uses (slot_at s.table i) (slot_at u.table i) (choose full 1 0)) (sym (called-after p))
    (portion-credits (reached-good (code-reached g)) i (length octets) (length (lent w s.memory)) link k full (ap (λ (x : Served). x.answer) (sym (called_served p)) ∙ e))
