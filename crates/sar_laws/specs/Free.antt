-- WHAT A JOIN STEP LEAVES of the room: nothing changes outside the slot's part, and what holds no octet of a job is zero after it as before it.
-- It rests on where the step writes: in the place for assembly up to what is there, in the job's own place up to its length.
use Rattle.std.specs.Prelude.{◌≡◌, refl, ◌⊎◌, List, ◌++◌, ℕ, suc, ◌+◌, ◌-◌, ◌*◌, ◌≤◌, ◌<◌, length, get_or, set, replicate, Result, Ok, Err}
use Rattle.std.proofs.Common.{ap, ◌∙◌, ⊎_elim, zero-add, suc-mul, mul-le-mul_right, add-one, arith, length-append, get_or-set_same, get_or-set_other, eq-eqb, ne_eqb}
use Rattle.std.proofs.lemmas.List.{length-replicate, get_or-replicate}
use Rattle.std.proofs.lemmas.List.Edits.{sets}
use Rattle.std.proofs.Math.Seq.{length-sets}
use Rattle.octets.specs.Octets.{part, u16_at}
use Rattle.octets.specs.Sets.{sets-append, sets-before, sets-after, sets_inside, part_length}
use Rattle.lists.specs.Choose.{choose, if_cases}
use Rattle.sar_cut.proofs.CutLaws.{split}
use Rattle.sar_join.specs.declared.Assembly.{Assembly}
use Rattle.sar_join.specs.declared.Joined.{Joined}
use Rattle.sar_join.specs.declared.Joined.TheVariants.{Dropped, Finished, Assembling}
use Rattle.sar_join.specs.Joining.{is_idle, idle, join_step, assembled, job_octets, queue_at}
use Rattle.sar_join_room.specs.SarPlaces.{finish}
use Rattle.sar_join_room.specs.SarRoom.{join_part}
use Rattle.sar_join_room.specs.RoomLaws.{total, wanted, wanted-next, step_cases}
use Rattle.codes.specs.declared.Refusal.{Refusal}

-- ---- what is written

assembled_le : (a : Assembly) → assembled a ≤ a.have
unfolding assembled
assembled_le a = if_cases (λ (n : ℕ). n ≤ a.have) (is_idle a) (λ t. omega arith) (λ t. omega arith)

-- the whole job: what was assembled, and the payload's octets of it
abbrev job : Assembly → List ℕ → List ℕ → List ℕ
job a xs p = part xs 0 (assembled a) ++ job_octets a p

assembled-none : (a : Assembly) → a.want ≡ 0 → assembled a ≡ 0
unfolding assembled choose
assembled-none a none = rw (eq-eqb a.want 0 none)

assembled_some : (a : Assembly) → (a.want ≡ 0 → ⊥) → assembled a ≡ a.have
unfolding assembled choose
assembled_some a some = rw (ne_eqb a.want 0 some)

finish_cases : (P : List ℕ → Type 0) (place : ℕ) (a : Assembly) (at : ℕ) (xs p : List ℕ) → a.have ≤ length xs
    → (a.want ≡ 0 → P (sets xs at (job a xs p))) → ((a.want ≡ 0 → ⊥) → P (sets (sets xs at (job a xs p)) 0 (replicate place 0))) → P (finish place a at xs p)
unfolding finish assembled job_octets choose
finish_cases P place a at xs p h f g =
    split 1 a.want
    (λ w.
    let some : a.want ≡ 0 → ⊥ = λ z. omega arith in
    let e = sets-append xs at (part xs 0 a.have) p in
    let l : length (part xs 0 a.have) ≡ a.have = part_length xs 0 a.have (omega arith) in
    rw (ne_eqb a.want 0 some) (rw (ne_eqb a.want 0 some, e, l) at (g some)))
    (λ w. let none : a.want ≡ 0 = omega arith in rw (eq-eqb a.want 0 none) (rw (eq-eqb a.want 0 none) at (f none)))

job-length : (a : Assembly) (xs p : List ℕ) → a.have ≤ length xs → length (job a xs p) ≡ total a p
job-length a xs p h =
    let l : assembled a ≤ a.have = assembled_le a in
    length-append (part xs 0 (assembled a)) (job_octets a p) ∙ ap (λ (n : ℕ). n + length (job_octets a p)) (part_length xs 0 (assembled a) (omega arith))

-- ---- outside

pub join_length : (place : ℕ) (a : Assembly) (queued : ℕ) (r : Result Joined Refusal) (xs p : List ℕ) → length (join_part place a queued r xs p) ≡ length xs
unfolding join_part finish
join_length place a queued (Err r) xs p = refl
join_length place a queued (Ok Dropped) xs p = length-sets xs 0 (replicate place 0)
join_length place a queued (Ok (Assembling b)) xs p = length-sets xs (assembled a) (job_octets a p)
join_length place a queued (Ok (Finished n)) xs p =
    if_cases (λ (ys : List ℕ). length ys ≡ length xs) (is_idle a) (λ t. simp length-sets) (λ t. simp length-sets)

-- the slot's part is the w octets of the room from b on: every other octet of the room stays
pub join_outside : (place : ℕ) (a : Assembly) (queued : ℕ) (r : Result Joined Refusal) (room p : List ℕ) (b w i : ℕ) → b + w ≤ length room → (i < b) ⊎ (b + w ≤ i)
    → get_or (sets room b (join_part place a queued r (part room b w) p)) i 0 ≡ get_or room i 0
join_outside place a queued r room p b w i h o =
    let ys = join_part place a queued r (part room b w) p in
    let l : length ys ≡ w = join_length place a queued r (part room b w) p ∙ part_length room b w h in
    ⊎_elim (λ k. sets-before 0 room b ys i k) (λ k. sets-after 0 room b ys i (omega arith)) o

-- ---- inside

-- Every octet of the part that holds no octet of a job is zero. `lens` are the lengths of the jobs that wait, 0 for a place that is free.
pub record Clean (place d : ℕ) (a : Assembly) (lens xs : List ℕ) : Type 0 where
  pub assembly : (k : ℕ) → assembled a ≤ k → k < place → get_or xs k 0 ≡ 0
  pub queue : (j k : ℕ) → j < d → get_or lens j 0 ≤ k → k < place → get_or xs (suc j * place + k) 0 ≡ 0

-- what the step makes of the assembly and the lengths
unfoldable pub CleanAfter : (place d : ℕ) (a : Assembly) (queued : ℕ) (lens : List ℕ) → Result Joined Refusal → List ℕ → Type 0
CleanAfter place d a queued lens (Err r) xs = Clean place d a lens xs
CleanAfter place d a queued lens (Ok Dropped) xs = Clean place d idle lens xs
CleanAfter place d a queued lens (Ok (Assembling b)) xs = Clean place d b lens xs
CleanAfter place d a queued lens (Ok (Finished n)) xs = Clean place d idle (set lens queued n) xs

-- a slot as a valid table has it: every job within its place
pub record Sized (mtu d place : ℕ) (a : Assembly) (queued : ℕ) (lens xs : List ℕ) : Type 0 where
  pub mtu-fits : mtu ≤ place
  pub have-fits : a.have ≤ place
  pub want_fits : a.want ≤ place
  pub part-long : (d + 1) * place ≤ length xs
  pub lens_long : d ≤ length lens
  pub next-free : get_or lens queued 0 ≡ 0

-- the places of the jobs lie behind the place for assembly, and one behind the other
behind : (place j : ℕ) → place ≤ suc j * place
behind place j = omega (arith, suc-mul j place)

apart : (place i j : ℕ) → i < j → suc i * place + place ≤ suc j * place
apart place i j h = let m : suc (suc i) * place ≤ suc j * place = mul-le-mul_right place (omega arith) in omega (arith, suc-mul (suc i) place)

-- zeros over the place for assembly
module _ (place d : ℕ) (a : Assembly) (lens xs : List ℕ) (long : place ≤ length xs) where
  wiped : (k : ℕ) → k < place → get_or (sets xs 0 (replicate place 0)) k 0 ≡ 0
  wiped k h =
      let l : length (replicate {A = ℕ} place 0) ≡ place = length-replicate {A = ℕ} place 0 in
      rw zero-add at (sets_inside 0 xs 0 (replicate place 0) k (omega arith) (omega arith)) ∙ get_or-replicate place k 0 0 h

  wiped_far : (j k : ℕ) → get_or (sets xs 0 (replicate place 0)) (suc j * place + k) 0 ≡ get_or xs (suc j * place + k) 0
  wiped_far j k = sets-after 0 xs 0 (replicate place 0) (suc j * place + k) (omega (arith, length-replicate {A = ℕ} place 0, behind place j))

-- a job of at most `place` octets at the next free place
module _ (place d queued : ℕ) (lens xs ys : List ℕ) (fits : length ys ≤ place) (room : queued < length lens) (none : get_or lens queued 0 ≡ 0)
    (was : (j k : ℕ) → j < d → get_or lens j 0 ≤ k → k < place → get_or xs (suc j * place + k) 0 ≡ 0) where
  queued_clean : (j k : ℕ) → j < d → get_or (set lens queued (length ys)) j 0 ≤ k → k < place → get_or (sets xs (suc queued * place) ys) (suc j * place + k) 0 ≡ 0
  queued_clean j k h l s =
      split queued j
      (λ x. split j queued
      (λ y. let e : j ≡ queued = omega arith in here e)
      (λ y.
      let o : get_or lens j 0 ≤ k = rw (get_or-set_other lens queued j (length ys) 0 (λ z. omega arith)) at l in
      sets-after 0 xs (suc queued * place) ys (suc j * place + k) (omega (arith, apart place queued j y)) ∙ was j k h o s))
      (λ x.
      let o : get_or lens j 0 ≤ k = rw (get_or-set_other lens queued j (length ys) 0 (λ z. omega arith)) at l in
      sets-before 0 xs (suc queued * place) ys (suc j * place + k) (omega (arith, apart place j queued x)) ∙ was j k h o s)
    where
      here : j ≡ queued → get_or (sets xs (suc queued * place) ys) (suc j * place + k) 0 ≡ 0
      here e =
          let o : length ys ≤ k = rw (e, get_or-set_same lens queued (length ys) 0 room) at l in
          rw e (sets-after 0 xs (suc queued * place) ys (suc queued * place + k) (omega arith) ∙ was queued k (rw e at h) (omega arith) s)

  near_clean : (k : ℕ) → k < place → get_or (sets xs (suc queued * place) ys) k 0 ≡ get_or xs k 0
  near_clean k h = sets-before 0 xs (suc queued * place) ys k (omega (arith, behind place queued))

-- THE THEOREM: of a clean part, a step makes a clean part. (A refusal leaves it to the caller to zero the place for assembly.)
pub step_clean : (mtu mps d place : ℕ) (a : Assembly) (queued : ℕ) (lens xs p : List ℕ) → Sized mtu d place a queued lens xs → Clean place d a lens xs
    → let r = join_step mtu mps d a queued (length p) (u16_at p 0) in CleanAfter place d a queued lens r (join_part place a queued r xs p)
unfolding CleanAfter join_part
step_clean mtu mps d place a queued lens xs p z w =
    step_cases mtu mps d a queued p (λ (r : Result Joined Refusal). CleanAfter place d a queued lens r (join_part place a queued r xs p)) (λ n s. w) w
    (λ m s. growing m s)
    (λ e f. record { assembly = λ k g h. wiped place d a lens xs long k h; queue = λ j k h l s. wiped_far place d a lens xs long j k ∙ w.queue j k h l s })
    (λ m e f. whole m e f)
  where
    long : place ≤ length xs
    long = omega (arith, z.part-long, suc-mul d place, ap (λ (k : ℕ). k * place) (add-one d))

    fits : (a.want ≡ 0 → wanted a p ≤ mtu) → wanted a p ≤ place
    fits m = split 1 a.want
        (λ s. rw (wanted-next a p (λ n. omega arith)) z.want_fits)
        (λ n. omega (arith, m (omega arith), z.mtu-fits))

    growing : (a.want ≡ 0 → wanted a p ≤ mtu) → total a p < wanted a p
        → Clean place d (record { have = total a p; want = wanted a p }) lens (sets xs (assembled a) (job_octets a p))
    growing m s =
        let b : Assembly = record { have = total a p; want = wanted a p } in
        let e : assembled b ≡ total a p = assembled_some b (λ n. omega arith) in
        record {
          assembly = λ k g h. sets-after 0 xs (assembled a) (job_octets a p) k (omega arith) ∙ w.assembly k (omega arith) h;
          queue = λ j k h l t. sets-after 0 xs (assembled a) (job_octets a p) (suc j * place + k) (omega (arith, fits m, behind place j)) ∙ w.queue j k h l t;
        }

    whole : (a.want ≡ 0 → wanted a p ≤ mtu) → total a p ≡ wanted a p → queued < d
        → Clean place d idle (set lens queued (wanted a p)) (finish place a (queue_at place queued) xs p)
    whole m e f =
        let ys = job a xs p in
        let n : length ys ≡ wanted a p = job-length a xs p (omega (arith, z.have-fits, long)) ∙ e in
        let o : length ys ≤ place = omega (arith, fits m) in
        let q = queued_clean place d queued lens xs ys o (omega (arith, z.lens_long)) z.next-free w.queue in
        finish_cases (λ (us : List ℕ). Clean place d idle (set lens queued (wanted a p)) us) place a (queue_at place queued) xs p (omega (arith, z.have-fits, long))
        (λ none. record {
          assembly = λ k g h. near_clean place d queued lens xs ys o (omega (arith, z.lens_long)) z.next-free w.queue k h ∙ w.assembly k (rw (assembled-none a none) (omega arith)) h;
          queue = λ j k h l t. q j k h (rw n l) t;
        })
        (λ some. record {
          assembly = λ k g h. wiped place d a lens (sets xs (queue_at place queued) ys) (rw length-sets long) k h;
          queue = λ j k h l t. wiped_far place d a lens (sets xs (queue_at place queued) ys) (rw length-sets long) j k ∙ q j k h (rw n l) t;
        })
