-- The paper's number for each refusal (document 01, 'What a refusal says and leaves'; 24 and on, document 02) and each result code (Core Vol 3 Part A 4.23).
use Rattle.std.specs.Prelude.{◌≡◌, refl, Bool, true, false, cond, ℕ, eqb, None, Option, Some}
use Rattle.std.proofs.Common.{sym, ◌∙◌, arith, eqb-true}
use Rattle.codes.specs.declared.LeCreditConnResultCode.{LeCreditConnResultCode}
use Rattle.codes.specs.declared.LeCreditConnResultCode.TheVariants.{Success, SpsmNotSupported, NoResources, InsufficientAuthentication, InsufficientAuthorization, EncryptionKeyTooShort, InsufficientEncryption, InvalidSourceId, ScidAlreadyAllocated, UnacceptableParameters}
use Rattle.codes.specs.declared.Refusal.{Refusal}
use Rattle.codes.specs.declared.Refusal.TheVariants as Refusal

abbrev pub result_number : LeCreditConnResultCode → ℕ
result_number Success = 0
result_number SpsmNotSupported = 2
result_number NoResources = 4
result_number InsufficientAuthentication = 5
result_number InsufficientAuthorization = 6
result_number EncryptionKeyTooShort = 7
result_number InsufficientEncryption = 8
result_number InvalidSourceId = 9
result_number ScidAlreadyAllocated = 10
result_number UnacceptableParameters = 11

-- "Result codes: 0, 2 and 4 to 11; another number is Decode."
unfoldable pub result_of : ℕ → Option LeCreditConnResultCode
result_of n =
    cond (eqb n 0) (Some Success)
    (cond (eqb n 2) (Some SpsmNotSupported)
    (cond (eqb n 4) (Some NoResources)
    (cond (eqb n 5) (Some InsufficientAuthentication)
    (cond (eqb n 6) (Some InsufficientAuthorization)
    (cond (eqb n 7) (Some EncryptionKeyTooShort)
    (cond (eqb n 8) (Some InsufficientEncryption)
    (cond (eqb n 9) (Some InvalidSourceId)
    (cond (eqb n 10) (Some ScidAlreadyAllocated)
    (cond (eqb n 11) (Some UnacceptableParameters)
    None)))))))))

-- the number of a code is read as that code
pub result_back : (c : LeCreditConnResultCode) → result_of (result_number c) ≡ Some c
unfolding result_of
result_back Success = refl
result_back SpsmNotSupported = refl
result_back NoResources = refl
result_back InsufficientAuthentication = refl
result_back InsufficientAuthorization = refl
result_back EncryptionKeyTooShort = refl
result_back InsufficientEncryption = refl
result_back InvalidSourceId = refl
result_back ScidAlreadyAllocated = refl
result_back UnacceptableParameters = refl

-- and a number that is read as a code is that code's number
read_as : (n k : ℕ) (d : LeCreditConnResultCode) {rest : Option LeCreditConnResultCode} → result_number d ≡ k → ((c : LeCreditConnResultCode) → rest ≡ Some c → result_number c ≡ n)
    → (c : LeCreditConnResultCode) → cond (eqb n k) (Some d) rest ≡ Some c → result_number c ≡ n
read_as n k d {rest} number later c = go (eqb n k) refl
  where
    go : (b : Bool) → eqb n k ≡ b → cond b (Some d) rest ≡ Some c → result_number c ≡ n
    go true t e = let same : d ≡ c = cc in rw (← same) (number ∙ sym (eqb-true n k t))
    go false t e = later c e

pub result_exact : (n : ℕ) (c : LeCreditConnResultCode) → result_of n ≡ Some c → result_number c ≡ n
unfolding result_of
result_exact n =
    read_as n 0 Success refl
    (read_as n 2 SpsmNotSupported refl
    (read_as n 4 NoResources refl
    (read_as n 5 InsufficientAuthentication refl
    (read_as n 6 InsufficientAuthorization refl
    (read_as n 7 EncryptionKeyTooShort refl
    (read_as n 8 InsufficientEncryption refl
    (read_as n 9 InvalidSourceId refl
    (read_as n 10 ScidAlreadyAllocated refl
    (read_as n 11 UnacceptableParameters refl
    (λ c e. let no : ◌≡◌ {A = ℕ} 0 1 = cc in absurd (omega arith)))))))))))

abbrev pub refusal_number : Refusal → ℕ
refusal_number Refusal.BadTable = 1
refusal_number Refusal.BadRoom = 2
refusal_number Refusal.NoRoom = 3
refusal_number Refusal.BadHandle = 4
refusal_number Refusal.BadSpsm = 5
refusal_number Refusal.BadSlot = 6
refusal_number Refusal.InvalidChannelId = 7
refusal_number Refusal.NotFound = 8
refusal_number Refusal.InvalidValue = 9
refusal_number Refusal.OutOfMemory = 10
refusal_number Refusal.ChannelClosed = 11
refusal_number Refusal.InsufficientSpace = 12
refusal_number Refusal.NoChannelAvailable = 13
refusal_number Refusal.Busy = 14
refusal_number Refusal.Decode = 15
refusal_number Refusal.NotSupported = 16
refusal_number (Refusal.ConnectError c) = 17
refusal_number Refusal.Disconnected = 18
refusal_number Refusal.ShortFrame = 19
refusal_number Refusal.BadMps = 20
refusal_number Refusal.QueueFull = 21
refusal_number Refusal.Held = 22
refusal_number Refusal.TooLong = 23
refusal_number Refusal.JobOpen = 24
refusal_number Refusal.WrongLength = 25

-- the result code that refusal 17 carries; 0 of every other
unfoldable pub result_in : Refusal → ℕ
result_in Refusal.BadTable = 0
result_in Refusal.BadRoom = 0
result_in Refusal.NoRoom = 0
result_in Refusal.BadHandle = 0
result_in Refusal.BadSpsm = 0
result_in Refusal.BadSlot = 0
result_in Refusal.InvalidChannelId = 0
result_in Refusal.NotFound = 0
result_in Refusal.InvalidValue = 0
result_in Refusal.OutOfMemory = 0
result_in Refusal.ChannelClosed = 0
result_in Refusal.InsufficientSpace = 0
result_in Refusal.NoChannelAvailable = 0
result_in Refusal.Busy = 0
result_in Refusal.Decode = 0
result_in Refusal.NotSupported = 0
result_in (Refusal.ConnectError c) = result_number c
result_in Refusal.Disconnected = 0
result_in Refusal.ShortFrame = 0
result_in Refusal.BadMps = 0
result_in Refusal.QueueFull = 0
result_in Refusal.Held = 0
result_in Refusal.TooLong = 0
result_in Refusal.JobOpen = 0
result_in Refusal.WrongLength = 0
