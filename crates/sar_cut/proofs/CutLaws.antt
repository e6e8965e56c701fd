-- Laws of cutting: the count of frames, and the cases of the plan. They rest on the definitions of Cutting.antt and on division.
use Rattle.std.specs.Prelude.{◌≡◌, refl, List, ℕ, zero, suc, ◌+◌, ◌-◌, ◌*◌, ◌≤◌, ◌<◌, length, drop, Ok, Err}
use Rattle.std.proofs.Common.{ap, ◌∙◌, lt_of_not-le, div-mul-le_self, div-le_self, suc-mul, zero-mul, arith, length-take}
use Rattle.std.proofs.Math.Nat.{div-eq_of_lt, div-eq-sub-div, div-zero, lt-div-mul-add}
use Rattle.std.proofs.Math.Decide.{dec_le}
use borrow.Author.Tests.{lt-ltb, le-ltb}
use Rattle.lists.specs.Choose.{choose}
use Rattle.codes.specs.declared.Refusal.{Refusal}
use Rattle.codes.specs.Limits.{size_least}
use Rattle.codes.specs.declared.Refusal.TheVariants as Refusal
use Rattle.sar_cut.specs.declared.Framed.{Framed}
use Rattle.sar_cut.specs.Cutting.{ceil, frame_count, frames_length, stream, piece_at, pieces_from, pieces, payloads, AllWithin, longest_job, plan_send}
use Rattle.sar_cut.specs.CutLaws.{Allowed, Counted, Holds}

-- two cases: m at most x, or x below m
pub split {ℓ} : {P : Type ℓ} (m x : ℕ) → (m ≤ x → P) → (x < m → P) → P
split m x f g = elim (dec_le m x) [ yes h ↦ f h | no h ↦ g (lt_of_not-le h) ]

-- ---- how many

pub ceil_zero : (m : ℕ) → 0 < m → ceil 0 m ≡ 0
unfolding ceil
ceil_zero m p = div-eq_of_lt (omega arith)

-- one stretch, and those of the rest
pub ceil-more : (x m : ℕ) → 0 < m → 0 < x → ceil x m ≡ suc (ceil (x - m) m)
unfolding ceil
ceil-more x m p h =
    div-eq-sub-div p (omega arith) ∙ split m x
    (λ l. let e : x + (m - 1) - m ≡ x - m + (m - 1) = omega arith in rw e (omega arith))
    (λ l. let e : x - m + (m - 1) ≡ m - 1 = omega arith in
    rw (e, div-eq_of_lt {n = m - 1} {m = m} (omega arith), div-eq_of_lt {n = x + (m - 1) - m} {m = m} (omega arith)) refl)

pub ceil-holds : (x m : ℕ) → 0 < m → Holds x m (ceil x m)
unfolding ceil
ceil-holds x m p =
    let b = div-mul-le_self (x + (m - 1)) m in
    let t = lt-div-mul-add {a = x + (m - 1)} {b = m} p in
    record { enough = omega arith; needed = omega arith }

suc_sub_one : (n : ℕ) → suc n - 1 ≡ n
suc_sub_one n = omega arith

pub count-holds : (l mps : ℕ) → 0 < mps → Counted l mps (frame_count l mps)
unfolding frame_count
count-holds l mps p = go (ceil (l + 2) mps) (ceil-holds (l + 2) mps p)
  where
    go : (n : ℕ) → Holds (l + 2) mps n → Counted l mps n
    go zero h = absurd (omega (arith, h.enough, zero-mul mps))
    go (suc n) h = record { some = omega arith; enough = h.enough; needed = rw (suc_sub_one n) (omega (arith, h.needed, suc-mul n mps)) }

-- one frame, where it holds the whole stream
pub count-one : (l mps : ℕ) → l + 2 ≤ mps → frame_count l mps ≡ 1
unfolding frame_count
count-one l mps h =
    let e : l + 2 - mps ≡ 0 = omega arith in
    ceil-more (l + 2) mps (omega arith) (omega arith) ∙ rw (e, ceil_zero mps (omega arith))

pub count_none : (l : ℕ) → frame_count l 0 ≡ 0
unfolding frame_count ceil
count_none l = div-zero _

-- no more frames than octets of the stream and the MPS together
pub count_small : (l mps : ℕ) → frame_count l mps ≤ l + 2 + (mps - 1)
unfolding frame_count ceil
count_small l mps = div-le_self (l + 2 + (mps - 1)) mps

-- ---- what they carry

-- a job cut at m has no payload above m, nor above any mps from m on
pub payloads-within : (m mps : ℕ) (sdu : List ℕ) → m ≤ mps → AllWithin mps (payloads m sdu)
unfolding payloads pieces pieces_from piece_at
payloads-within m mps sdu h = go (stream sdu) 0 (ceil (length (stream sdu)) m)
  where
    go : (xs : List ℕ) (k c : ℕ) → AllWithin mps (pieces_from m xs k c)
    go xs k zero = tt
    go xs k (suc c) = (omega (arith, length-take m (drop (k * m) xs)), go xs (suc k) c)

-- ---- the plan, case by case
module _ (l mtu mps credits room : ℕ) where
  pub plan_above_mtu : mtu < l → Err Refusal.InsufficientSpace ≡ plan_send l mtu mps credits room
  unfolding plan_send choose
  plan_above_mtu h = rw (lt-ltb mtu l h)

  module _ (fits : l ≤ mtu) where
    pub plan_too_long : longest_job < l → Err Refusal.TooLong ≡ plan_send l mtu mps credits room
    unfolding plan_send choose
    plan_too_long h = rw (le-ltb mtu l fits, lt-ltb longest_job l h)

    module _ (short : l ≤ longest_job) where
      pub plan_bad_mps : mps < size_least → Err Refusal.BadMps ≡ plan_send l mtu mps credits room
      unfolding plan_send choose
      plan_bad_mps h = rw (le-ltb mtu l fits, le-ltb longest_job l short, lt-ltb mps size_least h)

      module _ (wide : size_least ≤ mps) where
        pub plan_busy : credits < frame_count l mps → Err Refusal.Busy ≡ plan_send l mtu mps credits room
        unfolding plan_send choose
        plan_busy h = rw (le-ltb mtu l fits, le-ltb longest_job l short, le-ltb mps size_least wide, lt-ltb credits (frame_count l mps) h)

        module _ (paid : frame_count l mps ≤ credits) where
          pub plan_no_room : room < frames_length l mps → Err Refusal.NoRoom ≡ plan_send l mtu mps credits room
          unfolding plan_send choose
          plan_no_room h =
              rw (le-ltb mtu l fits, le-ltb longest_job l short, le-ltb mps size_least wide, le-ltb credits (frame_count l mps) paid, lt-ltb room (frames_length l mps) h)

          pub plan_frames : frames_length l mps ≤ room → Ok (record { n = frame_count l mps; octets = frames_length l mps }) ≡ plan_send l mtu mps credits room
          unfolding plan_send choose
          plan_frames h =
              rw (le-ltb mtu l fits, le-ltb longest_job l short, le-ltb mps size_least wide, le-ltb credits (frame_count l mps) paid, le-ltb room (frames_length l mps) h)

pub plan_allowed : (l mtu mps credits room n octets : ℕ) → plan_send l mtu mps credits room ≡ Ok (record { n = n; octets = octets }) → Allowed l mtu mps credits room n octets
plan_allowed l mtu mps credits room n octets e =
    split l mtu
    (λ fits. split l longest_job
    (λ short. split size_least mps
    (λ wide. split (frame_count l mps) credits
    (λ paid. split (frames_length l mps) room
    (λ holds.
    let q = plan_frames l mtu mps credits room fits short wide paid holds in
    let same : ◌≡◌ {A = Framed} (record { n = n; octets = octets }) (record { n = frame_count l mps; octets = frames_length l mps }) = cc in
    record { fits = fits; short = short; wide = wide; paid = paid; holds = holds; frames = ap (λ (f : Framed). f.n) same; long = ap (λ (f : Framed). f.octets) same })
    (λ h. never (plan_no_room l mtu mps credits room fits short wide paid h)))
    (λ h. never (plan_busy l mtu mps credits room fits short wide h)))
    (λ h. never (plan_bad_mps l mtu mps credits room fits short h)))
    (λ h. never (plan_too_long l mtu mps credits room fits h)))
    (λ h. never (plan_above_mtu l mtu mps credits room h))
  where
    never : {r : Refusal} → Err r ≡ plan_send l mtu mps credits room → Allowed l mtu mps credits room n octets
    never q = let z : ◌≡◌ {A = ℕ} 0 1 = cc in absurd (omega arith)
