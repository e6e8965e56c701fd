-- THE ROUND TRIP: the payloads of a job that was cut, joined from idle under an MTU that admits it and an MPS that no payload passes, with a queue place free, are that job.
-- It rests on the stretches taken one by one (sar_cut) and on the cases of the step (sar_join).
use Rattle.std.specs.Prelude.{◌≡◌, refl, replicate, leb, Result, Ok}
use Rattle.std.proofs.Math.Path.{sym, ap}
use Rattle.std.proofs.Common.{◌∙◌, zero-add, take-append-drop, take-add, add-one, le-leb}
use mathlib.Core.List.{List, [], ◌∷◌, ◌++◌, map}
use Prim.Native.Nat.{ℕ, zero, suc, ◌+◌, ◌-◌, ◌*◌, ◌≤◌, ◌<◌}
use native.Mathlib.Omega.{arith}
use Rattle.std.proofs.Math.ListN.{length, take, drop, length-drop, length-replicate}
use Rattle.std.proofs.lemmas.List.{length-map}
use Rattle.std.proofs.Math.Seq.{sets, length-sets, take_all, length-take-le, drop-drop}
use Rattle.octets.specs.Octets.{part, le16, u16_at}
use Rattle.std.proofs.lemmas.Bool.{lt-leb}
use Rattle.lists.specs.Choose.{choose, choose_true, choose_false}
use Rattle.octets.specs.Sets.{sets-append, sets_comm, part_length, part_same, part-after, sets_hide}
use Rattle.sar_cut.specs.Cutting.{frame_count, stream, pieces, payloads, AllWithin, frame, plan_send}
use Rattle.sar_cut.proofs.CutLaws.{split}
use Rattle.sar_cut.proofs.CutLaws.{plan_allowed}
use Rattle.sar_frames.specs.FrameLaws.{pieces_nil, pieces_more}
use Rattle.sar_frames.specs.Theorems.{cut}
use Rattle.sar_join.specs.declared.Assembly.{Assembly}
use Rattle.sar_join.specs.declared.Joined.{Joined}
use Rattle.sar_join.specs.declared.Joined.TheVariants.{Finished, Assembling}
use Rattle.sar_join.specs.Joining.{idle, join_step, queue_at}
use Rattle.sar_join_room.specs.SarPlaces.{finish}
use Rattle.sar_join_room.specs.SarRoom.{join_part}
use Rattle.sar_join.specs.JoinLaws.{reached-part, reached-whole, first_reaches, next_reaches}
use Rattle.sar_join_room.specs.PlaceLaws.{grow_first, grow_next, finish-first, finish-joined}
use Rattle.sar_join_room.specs.RoomLaws.{within}
use Rattle.sar_laws.specs.Run.{Side, ran, after, step_on, run}
use Rattle.codes.specs.declared.Refusal.{Refusal}

-- the part of the room that a whole job leaves: the job at its place's start and, where it took more than one frame, zeros in the place for assembly
unfoldable pub places_after : (mps place queued : ℕ) (sdu xs : List ℕ) → List ℕ
places_after mps place queued sdu xs =
    choose (leb (length sdu + 2) mps) (sets xs (queue_at place queued) sdu) (sets (sets xs (queue_at place queued) sdu) 0 (replicate place 0))

-- a step whose case is known
step_is : (mtu mps d place : ℕ) (s : Side) (p : List ℕ) (r : Result Joined Refusal) → join_step mtu mps d s.assembly s.queued (length p) (u16_at p 0) ≡ r
    → step_on mtu mps d place s p ≡ after place s (join_part place s.assembly s.queued r s.places p) r
unfolding step_on
step_is mtu mps d place s p r e = ap (λ (x : Result Joined Refusal). after place s (join_part place s.assembly s.queued x s.places p) x) e

-- a whole list is a part of itself
part_all : (p : List ℕ) → part p 0 (length p) ≡ p
part_all p = take_all (length p) p (omega arith)

-- The sender cuts at m. The receiving side has its own MTU and MPS, d places of `place` octets, of which `queued` are taken.
module _ (m mtu mps d place queued : ℕ) (sdu xs : List ℕ) (jobs : List (List ℕ))
    (wide : 2 ≤ m) (admits : length sdu ≤ mtu) (holds : mtu ≤ place) (long : (d + 1) * place ≤ length xs) (free : queued < d) where
  abbrev q : ℕ
  q = queue_at place queued

  -- while `have` octets of the job are there
  abbrev open_at : ℕ → Side
  open_at have = record { assembly = record { have = have; want = length sdu }; queued = queued; places = sets xs 0 (take have sdu); jobs = jobs }

  abbrev finished : List ℕ → Side
  finished ys = record { assembly = idle; queued = suc queued; places = ys; jobs = jobs ++ (sdu ∷ []) }

  inside : q + place ≤ length xs
  inside = omega (arith, (within place d queued (length xs) free long).inside, ap (λ (k : ℕ). k * place) (add-one queued))

  behind : place ≤ q
  behind = omega (arith, (within place d queued (length xs) free long).behind, ap (λ (k : ℕ). k * place) (add-one queued))

  -- a payload of k octets that leaves the job open
  more_step : (have k : ℕ) → have + k < length sdu → k ≤ mps → step_on mtu mps d place (open_at have) (part sdu have k) ≡ ran (open_at (have + k))
  unfolding after join_part
  more_step have k h w =
      let p = part sdu have k in
      let l : length p ≡ k = part_length sdu have k (omega arith) in
      let t : length (take have sdu) ≡ have = length-take-le have sdu (omega arith) in
      let a : Assembly = record { have = have; want = length sdu } in
      let e : join_step mtu mps d a queued (length p) (u16_at p 0) ≡ Ok (Assembling (record { have = have + k; want = length sdu })) =
      sym (reached-part d queued (length sdu) (have + k) h ∙ rw l (next_reaches mtu mps d a queued k (u16_at p 0) w (λ z. omega arith))) in
      let v : sets (sets xs 0 (take have sdu)) have p ≡ sets xs 0 (take (have + k) sdu) =
      rw (take-add have k sdu) (rw (t, zero-add) at (sym (sets-append xs 0 (take have sdu) p))) in
      let g : sets (sets xs 0 (take have sdu)) have p ≡ _ = rw (part_all p) at (grow_next a (sets xs 0 (take have sdu)) p (λ z. omega arith)) in
      step_is mtu mps d place (open_at have) p (Ok (Assembling (record { have = have + k; want = length sdu }))) e
      ∙ ap (λ (ys : List ℕ). ran (record { assembly = record { have = have + k; want = length sdu }; queued = queued; places = ys; jobs = jobs })) (sym g ∙ v)

  -- the job at its place
  job_there : part (sets xs q sdu) q (length sdu) ≡ sdu
  job_there = part_same 0 xs q sdu (omega (arith, inside))

  job-kept : part (sets (sets xs q sdu) 0 (replicate place 0)) q (length sdu) ≡ sdu
  job-kept =
      part-after 0 (sets xs q sdu) 0 (replicate place 0) q (length sdu) (omega (arith, behind, length-replicate {A = ℕ} place 0)) (rw length-sets (omega (arith, inside)))
      ∙ job_there

  -- the last payload of a job that is open
  last_step : (have : ℕ) → have < length sdu → length (drop have sdu) ≤ mps → step_on mtu mps d place (open_at have) (drop have sdu) ≡ ran (finished (sets (sets xs q sdu) 0 (replicate place 0)))
  unfolding after join_part
  last_step have h w =
      let p = drop have sdu in
      let ys = sets xs 0 (take have sdu) in
      let l : length p ≡ length sdu - have = length-drop have sdu in
      let t : length (take have sdu) ≡ have = length-take-le have sdu (omega arith) in
      let a : Assembly = record { have = have; want = length sdu } in
      let e : join_step mtu mps d a queued (length p) (u16_at p 0) ≡ Ok (Finished (length sdu)) =
      sym (reached-whole d queued (length sdu) (have + length p) (omega arith) free ∙ next_reaches mtu mps d a queued (length p) (u16_at p 0) w (λ z. omega arith)) in
      let u : part ys 0 have ≡ take have sdu = rw t at (part_same 0 xs 0 (take have sdu) (omega (arith, inside, behind))) in
      let v : sets (sets ys q (take have sdu)) (q + have) p ≡ sets ys q sdu =
      rw t at (sym (sets-append ys q (take have sdu) p)) ∙ ap (sets ys q) (take-append-drop have sdu) in
      let c : sets ys q sdu ≡ sets (sets xs q sdu) 0 (take have sdu) = sets_comm xs 0 (take have sdu) q sdu (omega (arith, behind)) in
      let z : sets (sets (sets xs q sdu) 0 (take have sdu)) 0 (replicate place 0) ≡ sets (sets xs q sdu) 0 (replicate place 0) =
      sets_hide (sets xs q sdu) 0 (take have sdu) (replicate place 0) (omega (arith, length-replicate {A = ℕ} place 0)) in
      let f : finish place a q ys p ≡ sets (sets xs q sdu) 0 (replicate place 0) =
      sym (rw (part_all p, u) at (finish-joined a ys p place q (λ n. omega arith))) ∙ ap (λ (r : List ℕ). sets r 0 (replicate place 0)) (v ∙ c) ∙ z in
      step_is mtu mps d place (open_at have) p (Ok (Finished (length sdu))) e
      ∙ rw (f, job-kept)

  -- all payloads after the first
  rest : (f have : ℕ) → length (drop have sdu) ≤ f → have < length sdu → AllWithin mps (pieces m (drop have sdu))
      → run mtu mps d place (pieces m (drop have sdu)) (ran (open_at have)) ≡ ran (finished (sets (sets xs q sdu) 0 (replicate place 0)))
  unfolding run
  rest zero have h k a = absurd (omega (arith, length-drop have sdu))
  rest (suc f) have h k a =
      let ys = drop have sdu in
      let l : length ys ≡ length sdu - have = length-drop have sdu in
      let some : 0 < m = omega arith in
      let b : AllWithin mps (take m ys ∷ pieces m (drop m ys)) = rw (pieces_more m ys some (omega arith)) at a in
      split (length ys) m
      (λ w.
      let t : take m ys ≡ ys = take_all m ys w in
      let n : pieces m (drop m ys) ≡ [] = pieces_nil m (drop m ys) (omega arith) (rw length-drop (omega arith)) in
      rw (pieces_more m ys (omega arith) (omega arith), t, n) (last_step have k (rw t at b.0)))
      (λ w.
      let n : drop m ys ≡ drop (have + m) sdu = drop-drop m have sdu in
      let t : length (take m ys) ≡ m = length-take-le m ys (omega arith) in
      rw (pieces_more m ys (omega arith) (omega arith)) (ap (run mtu mps d place (pieces m (drop m ys))) (more_step have m (omega arith) (rw t at b.0))
      ∙ rw n (rest f (have + m) (rw length-drop (omega arith)) (omega arith) (rw n at b.1))))

  -- the whole job in one payload, from a side with no assembly open
  alone_step : (a : Assembly) → a.want ≡ 0 → length (le16 (length sdu) ++ sdu) ≤ mps → step_on mtu mps d place (record { assembly = a; queued = queued; places = xs; jobs = jobs }) (le16 (length sdu) ++ sdu) ≡ ran (finished (sets xs q sdu))
  unfolding after join_part
  alone_step a none w =
      let p = le16 (length sdu) ++ sdu in
      let s : u16_at p 0 ≡ length sdu = omega arith in
      let e : join_step mtu mps d a queued (length p) (u16_at p 0) ≡ Ok (Finished (length sdu)) =
      sym (reached-whole d queued (length sdu) (length p - 2) (omega arith) free ∙ rw s (first_reaches mtu mps d a queued (length p) (length sdu) w none (omega arith) admits)) in
      let t : part p 2 (length p - 2) ≡ sdu = take_all (length p - 2) sdu (omega arith) in
      let f : finish place a q xs p ≡ sets xs q sdu = sym (rw t at (finish-first a xs p place q none)) in
      step_is mtu mps d place (record { assembly = a; queued = queued; places = xs; jobs = jobs }) p (Ok (Finished (length sdu))) e ∙ rw (f, job_there)

  -- the first of several
  first_step : (a : Assembly) → a.want ≡ 0 → m - 2 < length sdu → length (le16 (length sdu) ++ take (m - 2) sdu) ≤ mps
      → step_on mtu mps d place (record { assembly = a; queued = queued; places = xs; jobs = jobs }) (le16 (length sdu) ++ take (m - 2) sdu) ≡ ran (open_at (m - 2))
  unfolding after join_part
  first_step a none h w =
      let k = m - 2 in
      let p = le16 (length sdu) ++ take k sdu in
      let l : length (take k sdu) ≡ k = length-take-le k sdu (omega arith) in
      let s : u16_at p 0 ≡ length sdu = omega arith in
      let n : length p - 2 ≡ k = omega arith in
      let r : Ok (Assembling (record { have = length p - 2; want = length sdu })) ≡ join_step mtu mps d a queued (length p) (u16_at p 0) =
      reached-part d queued (length sdu) (length p - 2) (omega arith) ∙ rw s (first_reaches mtu mps d a queued (length p) (length sdu) w none (omega arith) admits) in
      let e : join_step mtu mps d a queued (length p) (u16_at p 0) ≡ Ok (Assembling (record { have = k; want = length sdu })) = sym (rw n at r) in
      let t : part p 2 (length p - 2) ≡ take k sdu = take_all (length p - 2) (take k sdu) (omega arith) in
      let g : sets xs 0 (take k sdu) ≡ _ = rw t at (grow_first a xs p none) in
      step_is mtu mps d place (record { assembly = a; queued = queued; places = xs; jobs = jobs }) p (Ok (Assembling (record { have = k; want = length sdu }))) e
      ∙ ap (λ (ys : List ℕ). ran (record { assembly = record { have = k; want = length sdu }; queued = queued; places = ys; jobs = jobs })) (sym g)

  -- the first payload, and the stretches that are left
  first_piece : payloads m sdu ≡ (le16 (length sdu) ++ take (m - 2) sdu) ∷ pieces m (drop (m - 2) sdu)
  unfolding payloads stream
  first_piece =
      let e : m ≡ suc (suc (m - 2)) = omega arith in
      pieces_more m (le16 (length sdu) ++ sdu) (omega arith) (omega arith)
      ∙ ap (λ (k : ℕ). take k (le16 (length sdu) ++ sdu) ∷ pieces m (drop k (le16 (length sdu) ++ sdu))) e

  -- Joined from idle, they are the job, in n frames, and nothing is refused.
  pub record Rejoined (a : Assembly) : Type 0 where
    pub frames : length (payloads m sdu) ≡ frame_count (length sdu) m
    pub is : run mtu mps d place (payloads m sdu) (ran (record { assembly = a; queued = queued; places = xs; jobs = jobs })) ≡ ran (finished (places_after m place queued sdu xs))

  pub rejoin : (a : Assembly) → a.want ≡ 0 → AllWithin mps (payloads m sdu) → Rejoined a
  unfolding run places_after
  rejoin a none fits =
      let b : AllWithin mps ((le16 (length sdu) ++ take (m - 2) sdu) ∷ pieces m (drop (m - 2) sdu)) = rw first_piece at fits in
      record {
        frames = (cut m 0 sdu (omega arith)).count;
        is = split (length sdu) (m - 2)
            (λ h.
            let t : take (m - 2) sdu ≡ sdu = take_all (m - 2) sdu h in
            let n : pieces m (drop (m - 2) sdu) ≡ [] = pieces_nil m (drop (m - 2) sdu) (omega arith) (rw length-drop (omega arith)) in
            rw (first_piece, t, n, choose_true _ (sets xs q sdu) (sets (sets xs q sdu) 0 (replicate place 0)) (le-leb (length sdu + 2) m (omega arith))) (alone_step a none (rw t at b.0)))
            (λ h.
            rw (first_piece, choose_false _ (sets xs q sdu) (sets (sets xs q sdu) 0 (replicate place 0)) (lt-leb (length sdu + 2) m (omega arith)))
            (ap (run mtu mps d place (pieces m (drop (m - 2) sdu))) (first_step a none h b.0) ∙ rest (length sdu) (m - 2) (rw length-drop (omega arith)) h b.1));
      }

-- a frame's payload is what it was made of
payload_of : (cid : ℕ) (ps : List (List ℕ)) → map (drop 4) (map (frame cid) ps) ≡ ps
unfolding frame
payload_of cid [] = refl
payload_of cid (p ∷ ps) = ap (λ (l : List (List ℕ)). p ∷ l) (payload_of cid ps)

-- What is sent arrives: where the plan of a send is n frames, the payloads of its frames, joined as above, are the job. (`payloads-within` of crate sar_cut: no payload
-- passes our MPS where the sender's peer MPS is at most ours.)
pub sent_rejoins : (peer-mtu m credits room cid mtu mps d place queued n octets : ℕ) (a : Assembly) (sdu xs : List ℕ) (jobs : List (List ℕ))
    → plan_send (length sdu) peer-mtu m credits room ≡ Ok (record { n = n; octets = octets })
    → a.want ≡ 0 → length sdu ≤ mtu → AllWithin mps (payloads m sdu) → mtu ≤ place → (d + 1) * place ≤ length xs → queued < d
    → (length (map (frame cid) (payloads m sdu)) ≡ n)
    × (run mtu mps d place (map (drop 4) (map (frame cid) (payloads m sdu))) (ran (record { assembly = a; queued = queued; places = xs; jobs = jobs }))
    ≡ ran (record { assembly = idle; queued = suc queued; places = places_after m place queued sdu xs; jobs = jobs ++ (sdu ∷ []) }))
sent_rejoins peer-mtu m credits room cid mtu mps d place queued n octets a sdu xs jobs e none admits fits holds long free =
    let w = plan_allowed (length sdu) peer-mtu m credits room n octets e in
    let r = rejoin m mtu mps d place queued sdu xs jobs (omega arith) admits holds long free a none fits in
    (length-map (payloads m sdu) (frame cid) ∙ r.frames ∙ sym w.frames, rw (payload_of cid (payloads m sdu)) r.is)
