-- Memory is treated as things that are copied and never looked at (Mem.antt of crate definition): whatever relation holds of three
-- memories before, place by place, holds after. Proved once, for every relation; no call has to prove anything of it.
use mathlib.Core.List.{List, [], ◌∷◌}

pub data Rel {A B C : Type 0} (R : A → B → C → Type 0) : List A → List B → List C → Type 0 where
  nil : Rel R [] [] []
  cons : {a : A} {b : B} {c : C} {la : List A} {lb : List B} {lc : List C} → R a b c → Rel R la lb lc → Rel R (a ∷ la) (b ∷ lb) (c ∷ lc)
