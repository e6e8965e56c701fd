-- Memory is treated as things that are copied and never looked at (Mem.antt of crate definition): whatever relation holds of three
-- memories before, place by place, holds after. Proved once, for every relation; no call has to prove anything of it.
use Rattle.std.specs.Prelude.{◌≡◌, refl, ℕ, zero, suc, length, take, drop, set, replicate}
use Rattle.std.proofs.Common.{ap}
use mathlib.Core.List.{List, [], ◌∷◌, ◌++◌, map}
use Rattle.std.proofs.lemmas.List.Edits.{sets}
use Rattle.definition.specs.Mem.{Fill, zeros, given, job, held, Move, put, wipe, fill, move, moves, parts, fills, written}
use Rattle.definition.specs.Outcome.{Outcome}
use Rattle.definition.specs.Calls.{Window}
use Rattle.definition.specs.Run.{lent, memory_left}
use Rattle.isolation.specs.Same.{Rel, cons, nil}

module _ {A B C : Type 0} (R : A → B → C → Type 0) where
  pub rel_take : (n : ℕ) {la : List A} {lb : List B} {lc : List C} → Rel R la lb lc → Rel R (take n la) (take n lb) (take n lc)
  rel_take zero r = nil
  rel_take (suc n) nil = nil
  rel_take (suc n) (cons h r) = cons h (rel_take n r)

  pub rel_drop : (n : ℕ) {la : List A} {lb : List B} {lc : List C} → Rel R la lb lc → Rel R (drop n la) (drop n lb) (drop n lc)
  rel_drop zero r = r
  rel_drop (suc n) nil = nil
  rel_drop (suc n) (cons h r) = rel_drop n r

  pub rel_append : {la la' : List A} {lb lb' : List B} {lc lc' : List C} → Rel R la lb lc → Rel R la' lb' lc' → Rel R (la ++ la') (lb ++ lb') (lc ++ lc')
  rel_append nil r = r
  rel_append (cons h q) r = cons h (rel_append q r)

  pub rel_set : (i : ℕ) {a : A} {b : B} {c : C} {la : List A} {lb : List B} {lc : List C} → R a b c → Rel R la lb lc → Rel R (set la i a) (set lb i b) (set lc i c)
  rel_set i h nil = nil
  rel_set zero h (cons g r) = cons h r
  rel_set (suc i) h (cons g r) = cons g (rel_set i h r)

  pub rel_sets : (i : ℕ) {la vs : List A} {lb ws : List B} {lc xs : List C} → Rel R la lb lc → Rel R vs ws xs → Rel R (sets la i vs) (sets lb i ws) (sets lc i xs)
  rel_sets i r nil = r
  rel_sets i r (cons h q) = rel_sets (suc i) (rel_set i h r) q

  pub rel_replicate : (n : ℕ) {a : A} {b : B} {c : C} → R a b c → Rel R (replicate n a) (replicate n b) (replicate n c)
  rel_replicate zero h = nil
  rel_replicate (suc n) h = cons h (rel_replicate n h)

  pub rel_map : {X : Type 0} (f : X → A) (g : X → B) (h : X → C) → ((x : X) → R (f x) (g x) (h x)) → (xs : List X) → Rel R (map f xs) (map g xs) (map h xs)
  rel_map f g h e [] = nil
  rel_map f g h e (x ∷ xs) = cons (e x) (rel_map f g h e xs)

  pub rel_const : {a : A} {b : B} {c : C} {la : List A} {lb : List B} {lc : List C} → R a b c → Rel R la lb lc → Rel R (map (λ _. a) la) (map (λ _. b) lb) (map (λ _. c) lc)
  rel_const h nil = nil
  rel_const h (cons g r) = cons h (rel_const h r)

  pub rel_length : {la : List A} {lb : List B} {lc : List C} → Rel R la lb lc → length la ≡ length lb
  rel_length nil = refl
  rel_length (cons h r) = ap suc (rel_length r)

  pub rel_lent : (w : Window) {la : List A} {lb : List B} {lc : List C} → Rel R la lb lc → Rel R (lent w la) (lent w lb) (lent w lc)
  rel_lent w r = rel_take w.size (rel_drop w.from r)

  module _ (f : ℕ → A) (g : ℕ → B) (h : ℕ → C) (e : (x : ℕ) → R (f x) (g x) (h x)) {ja : List A} {jb : List B} {jc : List C} (j : Rel R ja jb jc) where
    pub rel_fill : {la : List A} {lb : List B} {lc : List C} → Rel R la lb lc → (x : Fill) → Rel R (fill f ja la x) (fill g jb lb x) (fill h jc lc x)
    unfolding fill
    rel_fill r (zeros n) = rel_replicate n (e 0)
    rel_fill r (given xs) = rel_map f g h e xs
    rel_fill r (job from n) = rel_take n (rel_drop from j)
    rel_fill r (held from n) = rel_take n (rel_drop from r)

    pub rel_move : {la : List A} {lb : List B} {lc : List C} → Rel R la lb lc → (m : Move) → Rel R (move f ja la m) (move g jb lb m) (move h jc lc m)
    unfolding move
    rel_move r (put at x) = rel_sets at r (rel_fill r x)
    rel_move r wipe = rel_const (e 0) r

    pub rel_moves : {la : List A} {lb : List B} {lc : List C} → Rel R la lb lc → (ms : List Move) → Rel R (moves f ja la ms) (moves g jb lb ms) (moves h jc lc ms)
    unfolding moves
    rel_moves r [] = r
    rel_moves {la = la} {lb = lb} {lc = lc} r (m ∷ ms) = rel_moves {la = move f ja la m} {lb = move g jb lb m} {lc = move h jc lc m} (rel_move r m) ms

    pub rel_parts : (w : ℕ) {la : List A} {lb : List B} {lc : List C} → Rel R la lb lc → (mss : List (List Move)) → Rel R (parts f ja w mss la) (parts g jb w mss lb) (parts h jc w mss lc)
    unfolding parts
    rel_parts w r [] = r
    rel_parts w {la = la} {lb = lb} {lc = lc} r (ms ∷ mss) =
        rel_append (rel_moves (rel_take w r) ms) (rel_parts w {la = drop w la} {lb = drop w lb} {lc = drop w lc} (rel_drop w r) mss)

    pub rel_fills : {la : List A} {lb : List B} {lc : List C} → Rel R la lb lc → (xs : List Fill) → Rel R (fills f ja la xs) (fills g jb lb xs) (fills h jc lc xs)
    unfolding fills
    rel_fills r [] = nil
    rel_fills r (x ∷ xs) = rel_append (rel_fill r x) (rel_fills r xs)

    pub rel_written : {la oa : List A} {lb ob : List B} {lc oc : List C} → Rel R la lb lc → (at : ℕ) (xs : List Fill) → Rel R oa ob oc
        → Rel R (written f ja la at xs oa) (written g jb lb at xs ob) (written h jc lc at xs oc)
    unfolding written
    rel_written r at xs o = rel_sets at o (rel_fills r xs)

    pub rel_memory : (o : Outcome) (v w : Window) {la ma : List A} {lb mb : List B} {lc mc : List C} → Rel R la lb lc → Rel R ma mb mc
        → Rel R (memory_left f ja o v w la ma) (memory_left g jb o v w lb mb) (memory_left h jc o v w lc mc)
    rel_memory o v w r m =
        let first = rel_sets w.from m (rel_written r 0 o.job (rel_lent w m)) in
        rel_sets v.from first (rel_written r o.at o.out (rel_lent v first))
