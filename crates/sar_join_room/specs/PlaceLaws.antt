-- Laws of what is written, case by case.
use Rattle.std.specs.Prelude.{◌≡◌, ℕ, ◌+◌, ◌-◌, ◌≤◌, List, ◌++◌, length, take, drop, replicate}
use Rattle.std.proofs.lemmas.List.Edits.{sets}
use Rattle.std.proofs.Math.Seq.{take-length}
use Rattle.std.proofs.Common.{sym, ap, ◌∙◌, eq-eqb, ne_eqb, add-zero, arith, length-take-le, take-append-drop, take-take}
use Rattle.std.proofs.lemmas.List.{length-replicate}
use Rattle.lists.specs.Choose.{choose}
use Rattle.octets.specs.Octets.{part}
use Rattle.octets.specs.Sets.{tail-part, sets_append_left, sets_append_right}
use Rattle.sar_join.specs.declared.Assembly.{Assembly}
use Rattle.sar_join.specs.Joining.{assembled, job_octets}
use Rattle.sar_join_room.specs.SarPlaces.{finish}

module _ (a : Assembly) (xs p : List ℕ) where
  pub grow_first : a.want ≡ 0 → sets xs 0 (part p 2 (length p - 2)) ≡ sets xs (assembled a) (job_octets a p)
  unfolding assembled job_octets choose
  grow_first none = rw (eq-eqb a.want 0 none, tail-part 2 p)

  pub grow_next : (a.want ≡ 0 → ⊥) → sets xs a.have (part p 0 (length p)) ≡ sets xs (assembled a) (job_octets a p)
  unfolding assembled job_octets choose
  grow_next some = rw (ne_eqb a.want 0 some, take-length p)

  pub finish-first : (place at : ℕ) → a.want ≡ 0 → sets xs at (part p 2 (length p - 2)) ≡ finish place a at xs p
  unfolding finish choose
  finish-first place at none = rw (eq-eqb a.want 0 none, tail-part 2 p)

  pub finish-joined : (place at : ℕ) → (a.want ≡ 0 → ⊥)
      → sets (sets (sets xs at (part xs 0 a.have)) (at + a.have) (part p 0 (length p))) 0 (replicate place 0) ≡ finish place a at xs p
  unfolding finish choose
  finish-joined place at some = rw (ne_eqb a.want 0 some, take-length p)

  -- the same, in the two parts of the list that lie before `at` and behind it
  pub finish-split : (place at : ℕ) → (a.want ≡ 0 → ⊥) → at ≤ length xs → place ≤ at → a.have ≤ at
      → sets (take at xs) 0 (replicate place 0) ++ sets (sets (drop at xs) 0 (part (take at xs) 0 a.have)) a.have (part p 0 (length p)) ≡ finish place a at xs p
  finish-split place at some in-list zeros-fit have-fits =
      let front = take at xs in
      let first = part front 0 a.have in
      let behind : (ys vs : List ℕ) (i : ℕ) → front ++ sets ys i vs ≡ sets (front ++ ys) (at + i) vs = λ ys vs i. sym (rw (length-take-le at xs in-list) at (sets_append_right vs front ys i)) in
      let moved : front ++ sets (drop at xs) 0 first ≡ sets xs at (part xs 0 a.have) =
      behind (drop at xs) first 0 ∙ rw (take-append-drop, add-zero) (ap (sets xs at) (take-take a.have at xs have-fits)) in
      sym (sets_append_left (replicate place 0) front _ 0 (rw (length-replicate, length-take-le at xs in-list) (omega arith)))
      ∙ ap (λ (ys : List ℕ). sets ys 0 (replicate place 0)) (behind _ (part p 0 (length p)) a.have ∙ ap (λ (ys : List ℕ). sets ys (at + a.have) (part p 0 (length p))) moved)
      ∙ finish-joined place at some
