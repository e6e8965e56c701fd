-- Laws of the number of stretches: k payloads within m hold at most k·m octets, and one stretch fewer than ours would not hold them all. They rest on the count (crate sar_cut, `ceil-holds`) and
-- on the stretches taken one by one (crate sar_frames, `pieces_more`).
use Rattle.std.specs.Prelude.{◌≡◌, refl, ℕ, zero, suc, ◌*◌, ◌≤◌, ◌<◌, drop}
use Rattle.std.proofs.Math.Path.{sym, ap}
use mathlib.Core.List.{List, [], ◌∷◌, ◌++◌, append-nil}
use Rattle.std.proofs.Math.Nat.{suc-mul}
use Rattle.std.proofs.Common.{lt_of_mul-lt-mul_right, not-suc-le-zero, length-take-le, take_at}
use native.Mathlib.Omega.{arith}
use Rattle.std.proofs.Math.ListN.{length, length-append, length-drop}
use Rattle.std.proofs.Math.Seq.{take_all, drop_at}
use Rattle.sar_cut.specs.Cutting.{pieces, AllWithin, joined}
use Rattle.sar_cut.specs.CutLaws.{Holds}
use Rattle.sar_cut.proofs.CutLaws.{split}
use Rattle.sar_cut.proofs.CutLaws.{ceil-holds}
use Rattle.sar_frames.specs.FrameLaws.{pieces_nil, pieces_more, pieces-count}
use Rattle.sar_fewest.specs.Fewest.{FullButLast}

module _ (m : ℕ) where
  -- k payloads within m hold at most k·m octets
  joined-within : (ps : List (List ℕ)) → AllWithin m ps → length (joined ps) ≤ length ps * m
  unfolding joined
  joined-within [] a = omega arith
  joined-within (p ∷ ps) a =
      let l = length-append p (joined ps) in
      let b = a.0 in
      let r = joined-within ps a.1 in
      let s = suc-mul (length ps) m in
      omega arith

  -- so ours are no more than any that hold the same
  pub no_fewer : (ps : List (List ℕ)) → 0 < m → AllWithin m ps → length (pieces m (joined ps)) ≤ length ps
  no_fewer ps p a =
      let n = length (pieces m (joined ps)) in
      let h : Holds (length (joined ps)) m n = rw (pieces-count m (joined ps)) (ceil-holds (length (joined ps)) m p) in
      let b = joined-within ps a in
      let s = suc-mul (length ps) m in
      let c : n * m < suc (length ps) * m = (let q = h.needed in omega arith) in
      let k : n < suc (length ps) = lt_of_mul-lt-mul_right m c in
      omega arith

  -- a stretch that another follows is full
  pub pieces-full : (f : ℕ) (xs : List ℕ) → 0 < m → length xs ≤ f → FullButLast m (pieces m xs)
  pieces-full zero [] p h = rw (pieces_nil m [] p refl) tt
  pieces-full zero (x ∷ xs) p h = absurd (not-suc-le-zero h)
  pieces-full (suc f) [] p h = rw (pieces_nil m [] p refl) tt
  pieces-full (suc f) (x ∷ xs) p h =
      let ys = x ∷ xs in
      rw (pieces_more m ys p (omega arith)) (
        λ q. split m (length ys)
            (λ l. length-take-le m ys l)
            (λ l. let e = ap length (pieces_nil m (drop m ys) p (rw length-drop (omega arith))) in absurd (omega arith)),
        pieces-full f (drop m ys) p (rw length-drop (omega arith)),
      )

  -- and a list of no more payloads, each of which is full where another follows, is ours
  pub only-pieces : (ps : List (List ℕ)) → 0 < m → AllWithin m ps → FullButLast m ps → length ps ≤ length (pieces m (joined ps)) → ps ≡ pieces m (joined ps)
  unfolding joined
  only-pieces [] p a f n = sym (pieces_nil m [] p refl)
  only-pieces (x ∷ []) p a f n =
      let b = a.0 in
      rw (append-nil x) (split 1 (length x)
      (λ h. rw (pieces_more m x p h, take_all m x b, pieces_nil m (drop m x) p (rw length-drop (omega arith))))
      (λ h. let e = ap length (pieces_nil m (x ++ []) p (rw (append-nil x) (omega arith))) in absurd (omega arith)))
  only-pieces (x ∷ y ∷ ps) p a f n =
      let r = joined (y ∷ ps) in
      let w : length x ≡ m = f.0 (omega arith) in
      let e : pieces m (x ++ r) ≡ x ∷ pieces m r = rw (take_at x r m w, drop_at x r m w) at (pieces_more m (x ++ r) p (rw length-append (omega arith))) in
      let l = ap length e in
      rw e (ap (λ (rest : List (List ℕ)). x ∷ rest) (only-pieces (y ∷ ps) p a.1 f.1 (omega arith)))
