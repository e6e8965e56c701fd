-- Laws of one row: a slot is read back from its row, and a row that passes the tests is the spelling of the slot read from it.
use Rattle.std.specs.Prelude.{◌≡◌, refl, Bool, true, false, ◌||◌, ℕ, zero, suc, ◌+◌, ◌*◌, ◌<◌, ◌/◌, ◌%◌, leb, eqb, length}
use Rattle.std.proofs.Common.{sym, arith, eqb-true, ne_eqb, le-leb}
use Rattle.std.proofs.Math.Path.{ap}
use Rattle.std.proofs.lemmas.Bool.{false≢true, lt-leb}
use mathlib.Core.List.{List, [], ◌∷◌}
use Rattle.std.proofs.Math.ListN.{get_or}
use Rattle.lists.specs.Choose.{choose, if_cases}
use Rattle.lists.specs.Both.{both}
use Rattle.octets.specs.Limbs.{limb₀, limb₁, limb₂, limb₃, of_limbs, limbs_back, limb₀_back, limb₁_back, limb₂_back, limb₃_back}
use Rattle.octets.specs.Numbers.{le16_back, lo_back, hi_back}
use Rattle.codes.specs.Codes.{result_number, result_of, result_back}
use Rattle.codes.specs.declared.LeCreditConnResultCode.{LeCreditConnResultCode}
use Rattle.codes.specs.declared.LeCreditConnResultCode.TheVariants.{Success, SpsmNotSupported, NoResources, InsufficientAuthentication, InsufficientAuthorization, EncryptionKeyTooShort, InsufficientEncryption, InvalidSourceId, ScidAlreadyAllocated, UnacceptableParameters}
use Rattle.credit.specs.declared.CreditFlowPolicy.{CreditFlowPolicy}
use Rattle.credit.specs.declared.CreditFlowPolicy.TheVariants.{Every, MinThreshold}
use Rattle.channel.specs.Limits.{depth_most}
use Rattle.channel.specs.declared.ChannelState.{ChannelState}
use Rattle.channel.specs.declared.ChannelState.TheVariants.{Disconnected, Connecting, PeerConnecting, Connected, ConnectFailed, PeerDisconnecting, Disconnecting}
use Rattle.channel.specs.declared.Slot.{Slot}
use Rattle.edge_layout.specs.Layout.{column_count, state_kind, state_value, state_octets, policy_kind, policy_value, row, tabulate, state_of, failed_by, policy_of, number_in, long_in, slot_in}
use Rattle.edge_layout.specs.Spelled.{is_result, state_spelled, row_spelled}

-- a result code's number is one octet
pub result_octet : (c : LeCreditConnResultCode) → result_number c < 256
result_octet Success = omega arith
result_octet SpsmNotSupported = omega arith
result_octet NoResources = omega arith
result_octet InsufficientAuthentication = omega arith
result_octet InsufficientAuthorization = omega arith
result_octet EncryptionKeyTooShort = omega arith
result_octet InsufficientEncryption = omega arith
result_octet InvalidSourceId = omega arith
result_octet ScidAlreadyAllocated = omega arith
result_octet UnacceptableParameters = omega arith

-- ---- a state and a policy, spelled and read again

pub state_back : (k : ChannelState) → state_of (state_kind k) (state_value k) ≡ k
unfolding state_of choose
state_back Disconnected = refl
state_back (Connecting identifier) = refl
state_back (PeerConnecting identifier) = refl
state_back Connected = refl
state_back (ConnectFailed result) = rw (result_back result)
state_back (PeerDisconnecting identifier) = refl
state_back (Disconnecting true) = refl
state_back (Disconnecting false) = refl

pub policy_back : (p : CreditFlowPolicy) → policy_of (policy_kind p) (policy_value p) ≡ p
unfolding policy_of choose
policy_back (Every k) = refl
policy_back (MinThreshold t) = refl

-- a spelled state and policy pass the tests
pub state-passes : (k : ChannelState) → state_spelled (state_kind k) (state_value k) ≡ true
unfolding state_spelled
state-passes Disconnected = refl
state-passes (Connecting identifier) = refl
state-passes (PeerConnecting identifier) = refl
state-passes Connected = refl
state-passes (ConnectFailed Success) = refl
state-passes (ConnectFailed SpsmNotSupported) = refl
state-passes (ConnectFailed NoResources) = refl
state-passes (ConnectFailed InsufficientAuthentication) = refl
state-passes (ConnectFailed InsufficientAuthorization) = refl
state-passes (ConnectFailed EncryptionKeyTooShort) = refl
state-passes (ConnectFailed InsufficientEncryption) = refl
state-passes (ConnectFailed InvalidSourceId) = refl
state-passes (ConnectFailed ScidAlreadyAllocated) = refl
state-passes (ConnectFailed UnacceptableParameters) = refl
state-passes (PeerDisconnecting identifier) = refl
state-passes (Disconnecting true) = refl
state-passes (Disconnecting false) = refl

pub policy_passes : (p : CreditFlowPolicy) → leb (policy_kind p) 1 ≡ true
policy_passes (Every k) = refl
policy_passes (MinThreshold t) = refl

-- ---- octets that pass the tests, read and spelled again

result_forth : (v : ℕ) → is_result v ≡ true → state_octets (failed_by (result_of v)) ≡ 4 ∷ v ∷ []
unfolding result_of
result_forth zero h = refl
result_forth (suc zero) h = absurd (false≢true h)
result_forth (suc (suc zero)) h = refl
result_forth (suc (suc (suc zero))) h = absurd (false≢true h)
result_forth (suc (suc (suc (suc zero)))) h = refl
result_forth (suc (suc (suc (suc (suc zero))))) h = refl
result_forth (suc (suc (suc (suc (suc (suc zero)))))) h = refl
result_forth (suc (suc (suc (suc (suc (suc (suc zero))))))) h = refl
result_forth (suc (suc (suc (suc (suc (suc (suc (suc zero)))))))) h = refl
result_forth (suc (suc (suc (suc (suc (suc (suc (suc (suc zero))))))))) h = refl
result_forth (suc (suc (suc (suc (suc (suc (suc (suc (suc (suc zero)))))))))) h = refl
result_forth (suc (suc (suc (suc (suc (suc (suc (suc (suc (suc (suc zero))))))))))) h = refl
result_forth (suc (suc (suc (suc (suc (suc (suc (suc (suc (suc (suc (suc v)))))))))))) h = let n = suc (suc (suc (suc (suc (suc (suc (suc (suc (suc (suc (suc v))))))))))) in absurd (false≢true (rw (ne_eqb n 0 (λ e. omega arith), ne_eqb n 2 (λ e. omega arith), lt-leb n 11 (omega arith), le-leb 4 n (omega arith)) at h))

or_false : (b : Bool) → b || false ≡ true → b ≡ true
or_false true h = refl
or_false false h = h

pub state_forth : (k v : ℕ) → state_spelled k v ≡ true → state_octets (state_of k v) ≡ k ∷ v ∷ []
unfolding state_spelled state_of choose
state_forth zero v h = ap (λ (n : ℕ). 0 ∷ n ∷ []) (sym (eqb-true v 0 (or_false (eqb v 0) h)))
state_forth (suc zero) v h = refl
state_forth (suc (suc zero)) v h = refl
state_forth (suc (suc (suc zero))) v h = ap (λ (n : ℕ). 3 ∷ n ∷ []) (sym (eqb-true v 0 (or_false (eqb v 0) h)))
state_forth (suc (suc (suc (suc zero)))) v h = result_forth v (or_false (is_result v) h)
state_forth (suc (suc (suc (suc (suc zero))))) v h = refl
state_forth (suc (suc (suc (suc (suc (suc zero)))))) zero h = refl
state_forth (suc (suc (suc (suc (suc (suc zero)))))) (suc zero) h = refl
state_forth (suc (suc (suc (suc (suc (suc zero)))))) (suc (suc v)) h = absurd (false≢true (rw (lt-leb (suc (suc v)) 1 (omega arith)) at h))
state_forth (suc (suc (suc (suc (suc (suc (suc k))))))) v h =
    let n = suc (suc (suc (suc (suc (suc (suc k)))))) in
    absurd (false≢true (rw (ne_eqb n 1 (λ e. omega arith), ne_eqb n 2 (λ e. omega arith), ne_eqb n 5 (λ e. omega arith), ne_eqb n 0 (λ e. omega arith), ne_eqb n 3 (λ e. omega arith), ne_eqb n 4 (λ e. omega arith), ne_eqb n 6 (λ e. omega arith)) at h))

pub policy_kind_forth : (k v : ℕ) → leb k 1 ≡ true → policy_kind (policy_of k v) ≡ k
unfolding policy_of choose
policy_kind_forth zero v h = refl
policy_kind_forth (suc zero) v h = refl
policy_kind_forth (suc (suc k)) v h = absurd (false≢true (rw (lt-leb (suc (suc k)) 1 (omega arith)) at h))

pub policy_value_forth : (k v : ℕ) → policy_value (policy_of k v) ≡ v
unfolding policy_of choose
policy_value_forth k v = if_cases (λ p. policy_value p ≡ v) (eqb k 1) (λ e. refl) (λ e. refl)

-- ---- the row

four : (l : List ℕ) → length l ≡ depth_most → get_or l 0 0 ∷ get_or l 1 0 ∷ get_or l 2 0 ∷ get_or l 3 0 ∷ [] ≡ l
four [] e = absurd (omega arith)
four (a ∷ []) e = absurd (omega arith)
four (a ∷ b ∷ []) e = absurd (omega arith)
four (a ∷ b ∷ c ∷ []) e = absurd (omega arith)
four (a ∷ b ∷ c ∷ d ∷ []) e = refl
four (a ∷ b ∷ c ∷ d ∷ x ∷ l) e = absurd (omega arith)

-- a slot's row has every column
pub row-length : (x : Slot) → length (row x) ≡ column_count
unfolding row
row-length x = refl

-- a number of 64 bits, spelled and read again
long_back : (n : ℕ)
    → of_limbs (limb₀ n % 256 + 256 * (limb₀ n / 256)) (limb₁ n % 256 + 256 * (limb₁ n / 256)) (limb₂ n % 256 + 256 * (limb₂ n / 256)) (limb₃ n % 256 + 256 * (limb₃ n / 256)) ≡ n
long_back n = rw (le16_back (limb₀ n), le16_back (limb₁ n), le16_back (limb₂ n), le16_back (limb₃ n)) (limbs_back n)

-- a slot is read back from its row
pub row_back : (x : Slot) → length x.queue.lens ≡ depth_most → slot_in (λ c. get_or (row x) c 0) ≡ x
unfolding slot_in row
row_back x e =
    let y = x.tallies in
    rw (long_back y.sends.frames, long_back y.sends.blocked, long_back y.receives.frames, long_back y.receives.blocked)
    (simp (le16_back, state_back, policy_back, four x.queue.lens e))

-- its row passes the tests
pub row-passes : (x : Slot) → row_spelled (λ c. get_or (row x) c 0) ≡ true
unfolding row_spelled row
row-passes x = rw (state-passes x.state, policy_passes x.account.policy)

-- octets that pass them are the row of the slot that they say
module _ (f : ℕ → ℕ) (octets : (c : ℕ) → f c < 256) where
  low : (c : ℕ) → number_in f c % 256 ≡ f c
  low c = lo_back (f c) (f (suc c)) (octets c)

  high : (c : ℕ) → number_in f c / 256 ≡ f (suc c)
  high c = hi_back (f c) (f (suc c)) (octets c)

  -- a number of 64 bits, read and cut again
  small : (c : ℕ) → number_in f c < 65536
  small c = omega (arith, octets c, octets (suc c))

  at₀ : (c : ℕ) → limb₀ (long_in f c) ≡ number_in f c
  at₀ c = limb₀_back (number_in f c) (number_in f (2 + c)) (number_in f (4 + c)) (number_in f (6 + c)) (small c)

  at₁ : (c : ℕ) → limb₁ (long_in f c) ≡ number_in f (2 + c)
  at₁ c = limb₁_back (number_in f c) (number_in f (2 + c)) (number_in f (4 + c)) (number_in f (6 + c)) (small c) (small (2 + c))

  at₂ : (c : ℕ) → limb₂ (long_in f c) ≡ number_in f (4 + c)
  at₂ c = limb₂_back (number_in f c) (number_in f (2 + c)) (number_in f (4 + c)) (number_in f (6 + c)) (small c) (small (2 + c)) (small (4 + c))

  at₃ : (c : ℕ) → limb₃ (long_in f c) ≡ number_in f (6 + c)
  at₃ c = limb₃_back (number_in f c) (number_in f (2 + c)) (number_in f (4 + c)) (number_in f (6 + c)) (small c) (small (2 + c)) (small (4 + c))

  pub row_forth : row_spelled f ≡ true → row (slot_in f) ≡ tabulate f column_count
  unfolding row_spelled slot_in row tabulate
  row_forth h =
      let tests = both (state_spelled (f 0) (f 1)) (leb (f 10) 1) h in
      let state = state_forth (f 0) (f 1) tests.0 in
      let kind : state_kind (state_of (f 0) (f 1)) ≡ f 0 = ap (λ (l : List ℕ). get_or l 0 0) state in
      let value : state_value (state_of (f 0) (f 1)) ≡ f 1 = ap (λ (l : List ℕ). get_or l 1 0) state in
      simp (at₀ 47, at₁ 47, at₂ 47, at₃ 47, at₀ 55, at₁ 55, at₂ 55, at₃ 55, at₀ 63, at₁ 63, at₂ 63, at₃ 63, at₀ 71, at₁ 71, at₂ 71, at₃ 71, low, high, kind, value, policy_kind_forth (f 10) (number_in f 11) tests.1, policy_value_forth)
