-- What stands at the place of word k is word k: going from each word to the next one meets the pieces of the cut one by one (cut_first).
use Rattle.std.specs.Prelude.{◌≡◌, Bool, true, false, ltb, length, get_or}
use Rattle.std.proofs.Math.Path.{refl}
use Rattle.std.proofs.Common.{sym, ap, ◌∙◌, add-zero, add-one, arith, ltb-true, ltb-false, lt-ltb, le-ltb, length-drop, drop-drop, get_or-drop}
use mathlib.Core.List.{List, []}
use Prim.Native.Char.{code}
use Prim.Native.Nat.{ℕ, zero, suc, ◌+◌, ◌-◌, ◌≤◌}
use Rattle.std.proofs.Math.ListN.{drop}
use Rattle.std.proofs.Math.Seq.{drop-length}
use Rattle.lists.specs.Choose.{choose}
use Rattle.lists.specs.First.{first}
use Rattle.octets.specs.Sets.{tail-part}
use Rattle.text_cut.proofs.CutLaws.{cut_first}
use Rattle.text_words.specs.Words.{is_space, words_of, word, text_of, word_at, word_after, place}
use Rattle.text_words.specs.declared.Word.{Word}

-- w stands where the words from k on begin, or at the line's end where there is none
data Stands (line : List ℕ) (k : ℕ) (w : Word) : Type 0 where
  here : w.start ≤ length line → w.end ≡ w.start + first is_space (drop w.start line) → drop k (words_of line) ≡ words_of (drop w.start line) → Stands line k w
  past : w.start ≡ length line → w.end ≡ length line → drop k (words_of line) ≡ [] → Stands line k w

module _ (line : List ℕ) where
  end-at : (at : ℕ) → (word_at line at).end ≡ at + first is_space (drop at line)
  end-at at = ap (λ l. at + first is_space l) (tail-part at line)

  end-last : (word_at line (length line)).end ≡ length line
  unfolding first
  end-last = end-at (length line) ∙ rw (drop-length line) (add-zero (length line))

  next-tail : (k : ℕ) (ps qs : List (List ℕ)) → drop k ps ≡ qs → drop (suc k) ps ≡ drop 1 qs
  next-tail k ps qs e = ap (λ m. drop m ps) (sym (add-one k)) ∙ sym (drop-drop 1 k ps) ∙ ap (drop 1) e

  -- behind the last word
  last : (k : ℕ) → drop (suc k) (words_of line) ≡ [] → Stands line (suc k) (word_at line (length line))
  last k d = past refl end-last d

  stands-next : (k : ℕ) (w : Word) → Stands line k w → Stands line (suc k) (word_after line w)
  unfolding word_after choose
  stands-next k w (past s e d) = rw (le-ltb w.end (length line) (omega arith)) (last k (next-tail k (words_of line) [] d))
  stands-next k w (here s e d) = go (ltb w.end (length line)) refl
    where
      rest : List ℕ
      rest = drop w.start line

      n : ℕ
      n = first is_space rest

      tail : drop (suc k) (words_of line) ≡ choose (ltb n (length rest)) (words_of (drop (suc n) rest)) []
      tail = next-tail k (words_of line) (words_of rest) d ∙ ap (drop 1) (cut_first (code " ") rest)

      go : (b : Bool) → ltb w.end (length line) ≡ b → Stands line (suc k) (choose b (word_at line (w.end + 1)) (word_at line (length line)))
      go true t =
          let h = ltb-true w.end (length line) t in
          let f : w.start + suc n ≡ w.end + 1 = omega arith in
          here (omega arith) (end-at (w.end + 1))
          (tail ∙ rw (lt-ltb n (length rest) (rw length-drop (omega arith)), drop-drop (suc n) w.start line, f))
      go false t =
          let h = ltb-false w.end (length line) t in
          last k (tail ∙ rw (le-ltb n (length rest) (rw length-drop (omega arith))))

  stands : (k : ℕ) → Stands line k (place line k)
  unfolding place
  stands zero = here (omega arith) (end-at 0) refl
  stands (suc k) = stands-next k (place line k) (stands k)

  at-k : (k : ℕ) (ps qs : List (List ℕ)) → drop k ps ≡ qs → get_or ps k [] ≡ get_or qs 0 []
  at-k k ps qs e = ap (λ m. get_or ps m []) (sym (add-zero k)) ∙ sym (get_or-drop k ps 0 []) ∙ ap (λ r. get_or r 0 []) e

  text-of : (k : ℕ) (w : Word) → Stands line k w → text_of line w ≡ word line k
  text-of k w (past s e d) =
      let f : w.end - w.start ≡ 0 = omega arith in
      rw f (sym (at-k k (words_of line) [] d))
  text-of k w (here s e d) =
      let rest = drop w.start line in
      let n = first is_space rest in
      let f : w.end - w.start ≡ n = omega arith in
      rw f (sym (at-k k (words_of line) (words_of rest) d ∙ ap (λ ps. get_or ps 0 []) (cut_first (code " ") rest)))

  pub place-word : (k : ℕ) → text_of line (place line k) ≡ word line k
  place-word k = text-of k (place line k) (stands k)
