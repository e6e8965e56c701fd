-- One portion of an open job, in its numbers and the octets of its buffer: what stands in the buffer is the frame that is being filled, and a full
-- frame is the job's next. Rests on the frames of a job (crate sar_cut) and on the laws of `sets` and `part`.
use Rattle.std.specs.Prelude.{◌≡◌, Bool, true, false, ◌||◌, List, ◌++◌, ℕ, suc, ◌+◌, ◌-◌, ◌*◌, ◌≤◌, ◌<◌, min, eqb, drop}
use Rattle.std.proofs.Math.Path.{refl, subst}
use Rattle.std.proofs.Common.{sym, ap, ap₂, ◌∙◌, append-nil, suc-mul, mul-le-mul_right, not-suc-le-zero, zero-mul, arith, length-drop, length-take, take-add, drop-drop, length-take-le, take-take, lt-ltb, eq-eqb, ne_eqb, eqb-true}
use Rattle.std.proofs.Math.Bool.{not}
use Rattle.std.proofs.lemmas.Bool.{false≢true, eqb-false}
use Rattle.std.proofs.Math.ListN.{length, take}
use Rattle.std.proofs.lemmas.List.Edits.{sets}
use Rattle.std.proofs.Math.Seq.{length-sets}
use Rattle.lists.specs.Choose.{choose, choose_true, choose_false, if_cases}
use Rattle.octets.specs.Octets.{part}
use Rattle.octets.specs.Sets.{part-before, part_same, take_least}
use Rattle.sar_cut.specs.Cutting.{frame_count, stream, piece_at, frame, frame_at}
use Rattle.sar_cut.specs.CutLaws.{Counted}
use Rattle.sar_cut.proofs.CutLaws.{split}
use Rattle.sar_cut.proofs.CutLaws.{count-holds}
use Rattle.channel.specs.Limits.{frame_head}
use Rattle.channel.specs.declared.OpenJob.{OpenJob}
use Rattle.definition.specs.Mem.{Fill, fill, fills}
use Rattle.definition.specs.Slots.{no_job}
use Rattle.definition.specs.Table.{is_open}
use Rattle.definition.specs.Ending.{itself}
use Rattle.definition.specs.Frames.{header, first_header}
use Rattle.definition.specs.Portions.{given_out, longest, buffer_size, frame_size, begun, taking, full_with, filled_by, begins, filled_from, filled_with}
use Rattle.rules_portions.specs.Filling.{Filling, Standing, closed, filling}

-- ---- octets

-- what is written behind what stands at the start
behind : (b ys : List ℕ) (at : ℕ) → at + length ys ≤ length b → take (at + length ys) (sets b at ys) ≡ take at b ++ ys
behind b ys at h =
    take-add at (length ys) (sets b at ys)
    ∙ ap₂ (λ (p q : List ℕ). p ++ q) (part-before 0 b at ys 0 at (omega arith) (omega arith)) (part_same 0 b at ys h)

-- two stretches that follow one another are one
stretch : (xs : List ℕ) (from a b : ℕ) → part xs from (a + b) ≡ part xs from a ++ part xs (from + a) b
stretch xs from a b = take-add a b (drop from xs) ∙ ap (λ (r : List ℕ). take a (drop from xs) ++ take b r) (drop-drop a from xs)

-- the job's octets stand in its stream behind the two of its length
stream-part : (sdu : List ℕ) (from n : ℕ) → part (stream sdu) (from + 2) n ≡ part sdu from n
unfolding stream
stream-part sdu from n = let e : from + 2 ≡ suc (suc from) = omega arith in rw e refl

-- a header and as much of the stream as a frame carries is that frame
frame_is : (cid mps : ℕ) (sdu : List ℕ) (k p : ℕ) → p ≡ min mps (length sdu + 2 - k * mps) → header cid p ++ part (stream sdu) (k * mps) p ≡ frame_at cid mps sdu k
unfolding frame_at frame piece_at stream
frame_is cid mps sdu k p e =
    let xs = drop (k * mps) (stream sdu) in
    let l : p ≡ min mps (length xs) = rw length-drop (omega arith) in
    let q : take p xs ≡ take mps xs = rw l (take_least mps xs) in
    let m : length (take mps xs) ≡ p = length-take mps xs ∙ sym l in
    rw (m, q) refl

-- ---- numbers: c octets are given, a frame of `size` octets has `filled`; g octets of the stream of l + 2 are given out

-- what is taken fits the frame, and where it isn't filled by them it lacks octets
taken-fits : (c size filled : ℕ) → filled ≤ size → filled + min c (size - filled) ≤ size
taken-fits c size filled h = omega arith

taken_lacks : (c size filled : ℕ) → filled ≤ size → (filled + min c (size - filled) ≡ size → ⊥) → filled + min c (size - filled) < size
taken_lacks c size filled h e = omega arith

-- it is no more than is left of the job
taken-within : (l g taken filled size t : ℕ) → taken + 2 ≡ g + filled → filled + t ≤ size → size ≤ l + 2 - g → g < l + 2 → taken + t ≤ l
taken-within l g taken filled size t e h k m = omega arith

-- a frame that doesn't end the stream has MPS octets, and the stream goes on behind it
full-mps : (l g mps size : ℕ) → size ≡ min mps (l + 2 - g) → g < l + 2 → (g + size ≡ l + 2 → ⊥) → size ≡ mps
full-mps l g mps size e h k = omega arith

full-more : (l g mps size : ℕ) → size ≡ min mps (l + 2 - g) → g < l + 2 → (g + size ≡ l + 2 → ⊥) → g + size < l + 2
full-more l g mps size e h k = omega arith

size-more : (l g mps out : ℕ) → out ≡ g → g < l + 2 → 0 < mps → 0 < min mps (l + 2 - out)
size-more l g mps out e h k = omega arith

module _ {cid mps : ℕ} {sdu : List ℕ} {k : ℕ} {j : OpenJob} {b : List ℕ} (wide : 2 ≤ mps) (f : Filling cid mps sdu k j b) where
  abbrev l : ℕ
  l = length sdu

  abbrev n : ℕ
  n = frame_count l mps

  counted : Counted l mps n
  counted = count-holds l mps (omega arith)

  pub out-whole : given_out j ≡ k * mps
  out-whole = let p = f.place in omega arith

  -- the frame that is filled has octets: frame k is one of the n
  some : k * mps < l + 2
  some =
      let p = f.paid in
      let c = f.credit in
      let h : k ≤ n - 1 = omega arith in
      let m = mul-le-mul_right mps h in
      let q = counted.needed in
      omega arith

  pub size_is : frame_size mps j ≡ min mps (l + 2 - k * mps)
  size_is = rw (out-whole, f.stated) refl

  pub size_some : 0 < frame_size mps j
  size_some = let e = size_is in let s = some in omega arith

  size-longest : frame_size mps j ≤ longest mps l
  size-longest = let e = size_is in omega arith

  -- the next octets of the job
  module _ (xs room : List ℕ) (own : xs ≡ part sdu j.taken (length xs)) where
    abbrev c : ℕ
    c = length xs

    abbrev t : ℕ
    t = taking mps j c

    abbrev b' : List ℕ
    b' = sets b (filled_from mps j c) (fills itself xs room (filled_with cid mps j c))

    next_own : take t xs ≡ part (stream sdu) (k * mps + j.filled) t
    next_own =
        let e : take t xs ≡ part sdu j.taken t = ap (take t) own ∙ take-take t c (drop j.taken sdu) (omega arith) in
        rw (← f.place) (e ∙ sym (stream-part sdu j.taken t))

    long : length (take t xs) ≡ t
    long = length-take-le t xs (omega arith)

    room-left : frame_head + j.filled + t ≤ length b
    room-left = let q = size-longest in let v = f.size in let u = f.fits in omega arith

    starts : j.filled ≡ 0 → 0 < t → begins mps j c ≡ true
    starts z h = rw (eq-eqb j.filled 0 z, lt-ltb 0 t h) refl

    goes : (j.filled ≡ 0 → ⊥) → begins mps j c ≡ false
    goes z = rw (ne_eqb j.filled 0 z) refl

    -- ---- what stands in the buffer then
    standing : 0 < j.filled + t → take (frame_head + (j.filled + t)) b' ≡ header cid (frame_size mps j) ++ part (stream sdu) (k * mps) (j.filled + t)
    unfolding fills fill
    standing h = split 1 j.filled old new
      where
        P : Type 0
        P = take (frame_head + (j.filled + t)) b' ≡ header cid (frame_size mps j) ++ part (stream sdu) (k * mps) (j.filled + t)

        old : 1 ≤ j.filled → P
        old s =
            let g = goes (λ z. omega arith) in
            let w : b' ≡ sets b (frame_head + j.filled) (take t xs) =
            ap₂ (λ (at : ℕ) (fs : List Fill). sets b at (fills itself xs room fs)) (choose_false _ _ _ g) (choose_false _ _ _ g)
            ∙ ap (sets b (frame_head + j.filled)) (append-nil (take t xs)) in
            let e : frame_head + (j.filled + t) ≡ frame_head + j.filled + length (take t xs) = rw long (omega arith) in
            let big : frame_head + j.filled + length (take t xs) ≤ length b = rw long room-left in
            ap₂ take e w ∙ behind b (take t xs) (frame_head + j.filled) big ∙ ap₂ (λ (p q : List ℕ). p ++ q) (f.stands s) next_own
            ∙ ap (λ (r : List ℕ). header cid (frame_size mps j) ++ r) (sym (stretch (stream sdu) (k * mps) j.filled t))

        new : j.filled < 1 → P
        new s =
            let z : j.filled ≡ 0 = omega arith in
            let g = starts z (omega arith) in
            let from : k * mps + j.filled ≡ k * mps = omega arith in
            let count : t ≡ j.filled + t = omega arith in
            let ys = header cid (frame_size mps j) ++ take t xs in
            let w : b' ≡ sets b 0 ys =
            ap₂ (λ (at : ℕ) (fs : List Fill). sets b at (fills itself xs room fs)) (choose_true _ _ _ g) (choose_true _ _ _ g)
            ∙ ap (λ (r : List ℕ). sets b 0 (header cid (frame_size mps j) ++ r)) (append-nil (take t xs)) in
            let e : frame_head + (j.filled + t) ≡ 0 + length ys = rw (long, z) (omega arith) in
            let big : 0 + length ys ≤ length b = rw long (let q = room-left in omega arith) in
            let o : take t xs ≡ part (stream sdu) (k * mps) (j.filled + t) = next_own ∙ ap₂ (λ (a c : ℕ). part (stream sdu) a c) from count in
            ap₂ take e w ∙ behind b ys 0 big ∙ ap (λ (r : List ℕ). header cid (frame_size mps j) ++ r) o

    -- ---- the job's place in its stream then
    next_place : j.taken + t + 2 ≡ k * mps + (j.filled + t)
    next_place = let p = f.place in omega arith

    next-within : j.taken + t ≤ l
    next-within =
        let e : frame_size mps j ≤ l + 2 - k * mps = (let z = size_is in omega arith) in
        taken-within l (k * mps) j.taken j.filled (frame_size mps j) t f.place (taken-fits c (frame_size mps j) j.filled f.fits) e some

    same-long : length b' ≡ length b
    same-long = length-sets b (filled_from mps j c) (fills itself xs room (filled_with cid mps j c))

    -- ---- the frame is full: it is the job's next

    module _ (full : full_with mps j c ≡ true) where
      whole : j.filled + t ≡ frame_size mps j
      whole = eqb-true (j.filled + t) (frame_size mps j) full

      pub full-frame : take (frame_head + frame_size mps j) b' ≡ frame_at cid mps sdu k
      full-frame =
          let h : 0 < j.filled + t = rw whole size_some in
          ap (λ (m : ℕ). take (frame_head + m) b') (sym whole) ∙ standing h
          ∙ ap (λ (m : ℕ). header cid (frame_size mps j) ++ part (stream sdu) (k * mps) m) whole ∙ frame_is cid mps sdu k (frame_size mps j) size_is

      -- it was the last: the job closes
      last_one : given_out j + frame_size mps j ≡ l + 2 → suc k ≡ n
      last_one e =
          let o = out-whole in
          let z = size_is in
          let q : l + 2 ≤ suc k * mps = omega (arith, suc-mul k mps) in
          let u = counted.needed in
          let v = f.paid in
          let w = f.credit in
          split (suc (suc k)) n
          (λ (h : suc (suc k) ≤ n). let g : suc k ≤ n - 1 = omega arith in let m = mul-le-mul_right mps g in absurd (omega arith))
          (λ (h : n < suc (suc k)). omega arith)

      pub full-standing : Standing cid mps sdu (suc k) (filled_by mps j c) b'
      unfolding choose
      full-standing = subst (λ (i : OpenJob). Standing cid mps sdu (suc k) i b') (sym (choose_false _ _ _ (ap not full))) (go _ _ refl refl)
        where
          job_next : OpenJob
          job_next = record { length = j.length; taken = j.taken + t; filled = 0; aside = j.aside - 1 }

          on : frame_size mps j ≡ mps → k * mps + frame_size mps j < l + 2 → (j.aside ≡ 1 → ⊥) → Filling cid mps sdu (suc k) job_next b'
          on m s a =
              let w = whole in
              let p = next_place in
              let q : j.taken + t + 2 ≡ suc k * mps = omega (arith, suc-mul k mps) in
              let out : given_out job_next ≡ suc k * mps = omega arith in
              let more : 0 < frame_size mps job_next = size-more j.length (suc k * mps) mps (given_out job_next) out (rw f.stated (omega (arith, suc-mul k mps))) (omega arith) in
              record {
                stated = f.stated;
                place = omega arith;
                within = next-within;
                paid = (let v = f.paid in let u = f.credit in omega arith);
                credit = (let u = f.credit in omega arith);
                fits = omega arith;
                lacks = λ _. more;
                size = rw same-long f.size;
                stands = λ h. absurd (not-suc-le-zero h);
              }

          go : (p q : Bool) → eqb (given_out j + frame_size mps j) (j.length + 2) ≡ p → eqb j.aside 1 ≡ q → Standing cid mps sdu (suc k) (choose (p || q) no_job job_next) b'
          go true q e g = closed refl (last_one (eqb-true _ _ e ∙ ap (λ (m : ℕ). m + 2) f.stated))
          go false true e g = closed refl (let a : j.aside ≡ 1 = eqb-true _ _ g in let v = f.paid in omega arith)
          go false false e g =
              let ne : k * mps + frame_size mps j ≡ l + 2 → ⊥ = (λ h. eqb-false _ _ e (ap (λ (m : ℕ). m + frame_size mps j) out-whole ∙ h ∙ ap (λ (m : ℕ). m + 2) (sym f.stated))) in
              let m = full-mps l (k * mps) mps (frame_size mps j) size_is some ne in
              let s = full-more l (k * mps) mps (frame_size mps j) size_is some ne in
              filling (on m s (eqb-false _ _ g))

    -- ---- it is not: the job goes on with it

    module _ (full : full_with mps j c ≡ false) where
      pub part-standing : Standing cid mps sdu k (filled_by mps j c) b'
      part-standing = subst (λ (i : OpenJob). Standing cid mps sdu k i b') (sym (choose_true _ _ _ (ap not full))) (filling goes_on)
        where
          job_on : OpenJob
          job_on = record { length = j.length; taken = j.taken + t; filled = j.filled + t; aside = j.aside }

          same : frame_size mps job_on ≡ frame_size mps j
          same =
              let pl = f.place in
              let e : given_out job_on ≡ given_out j = omega arith in
              ap (λ (g : ℕ). min mps (j.length + 2 - g)) e

          goes_on : Filling cid mps sdu k job_on b'
          goes_on =
              let fits = taken-fits c (frame_size mps j) j.filled f.fits in
              record {
                stated = f.stated;
                place = next_place;
                within = next-within;
                paid = f.paid;
                credit = f.credit;
                fits = rw same fits;
                lacks = λ _. rw same (taken_lacks c (frame_size mps j) j.filled f.fits (eqb-false _ _ full));
                size = rw same-long f.size;
                stands = λ h. rw same (standing h);
              }

-- ---- the start: no frame is given out, and the first is begun

pub begun-filling : (cid mps : ℕ) (sdu : List ℕ) (n : ℕ) (b : List ℕ) → 3 ≤ mps → n ≡ frame_count (length sdu) mps → buffer_size mps (length sdu) ≤ length b
    → Filling cid mps sdu 0 (begun (length sdu) n) (sets b 0 (first_header cid (longest mps (length sdu)) (length sdu)))
unfolding stream
begun-filling cid mps sdu n b wide count big =
    let l = length sdu in
    let c = (count-holds l mps (omega arith)).some in
    let e : frame_size mps (begun l n) ≡ longest mps l = omega arith in
    let ys = first_header cid (longest mps l) l in
    let z : 0 * mps ≡ 0 = zero-mul mps in
    record {
      stated = refl;
      place = omega arith;
      within = omega arith;
      paid = omega arith;
      credit = omega arith;
      fits = rw e (omega arith);
      lacks = λ h. rw e (omega arith);
      size = rw length-sets big;
      stands = λ _. rw (e, z) (part_same 0 b 0 ys (omega arith));
    }

-- ---- a job lacks octets while it is open, and each portion of one or more takes some: it ends

module _ {cid mps : ℕ} {sdu : List ℕ} {k : ℕ} {j : OpenJob} {b : List ℕ} (wide : 2 ≤ mps) (f : Filling cid mps sdu k j b) where
  pub taken_less : 0 < length sdu → j.taken < length sdu
  taken_less h =
      let e = size_is wide f in
      let g = f.lacks h in
      let p = f.place in
      omega arith

  pub takes_some : (c : ℕ) → 0 < length sdu → 0 < c → 0 < taking mps j (length (part sdu j.taken c))
  takes_some c h s =
      let g = f.lacks h in
      let t = taken_less h in
      let m : 0 < length (part sdu j.taken c) = rw (length-take, length-drop) (omega arith) in
      some_of (length (part sdu j.taken c)) (frame_size mps j) j.filled m g
    where
      some_of : (c size filled : ℕ) → 0 < c → filled < size → 0 < min c (size - filled)
      some_of c size filled h g = omega arith

-- what is taken counts, as long as the job stays open
pub taken_then : (mps : ℕ) (j : OpenJob) (c : ℕ) → is_open (filled_by mps j c) ≡ true → (filled_by mps j c).taken ≡ j.taken + taking mps j c
taken_then mps j c = if_cases P _ (λ _ _. refl) (λ _. if_cases P _ (λ _ e. absurd (false≢true e)) (λ _ _. refl))
  where
    P : OpenJob → Type 0
    P z = is_open z ≡ true → z.taken ≡ j.taken + taking mps j c

-- a job of 0 octets is one frame, which stands full from the start
pub empty_full : {cid mps : ℕ} {sdu : List ℕ} {k : ℕ} {j : OpenJob} {b : List ℕ} → 2 ≤ mps → Filling cid mps sdu k j b → length sdu ≡ 0 → (c : ℕ) → full_with mps j c ≡ true
empty_full {mps = mps} {sdu = sdu} {k = k} {j = j} wide f z c =
    eq-eqb (j.filled + taking mps j c) (frame_size mps j)
    (full-of c (frame_size mps j) j.filled (whole_of (length sdu) (k * mps) mps j.taken j.filled (frame_size mps j) f.place f.within z (size_is wide f) wide))
  where
    whole_of : (l g mps taken filled size : ℕ) → taken + 2 ≡ g + filled → taken ≤ l → l ≡ 0 → size ≡ min mps (l + 2 - g) → 2 ≤ mps → filled ≡ size
    whole_of l g mps taken filled size e h z m w = omega arith

    full-of : (c size filled : ℕ) → filled ≡ size → filled + min c (size - filled) ≡ size
    full-of c size filled e = omega arith

-- and the only one
pub empty_one : (mps : ℕ) → 2 ≤ mps → frame_count 0 mps ≤ 1
empty_one mps wide =
    let c = count-holds 0 mps (omega arith) in
    split 2 (frame_count 0 mps)
    (λ (h : 2 ≤ frame_count 0 mps). let g : 1 ≤ frame_count 0 mps - 1 = omega arith in let m = mul-le-mul_right mps g in let u = c.needed in absurd (omega (arith, suc-mul 0 mps, zero-mul mps)))
    (λ (h : frame_count 0 mps < 2). omega arith)
