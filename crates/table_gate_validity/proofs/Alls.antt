-- What the library's `all` answers of the first elements is `every` of them.
use Rattle.std.proofs.Common.{◌≡◌, ◌∙◌, ℕ, Bool, ◌&&◌, List, refl, take, length, min}
use Rattle.std.proofs.lemmas.List.{take_min}
use Rattle.std.proofs.lemmas.List.Recursion.{same_from_clauses}
use Rattle.std.specs.List.{list_all}
use Rattle.lists.specs.Every.{every}

pub all_first : {X : Type 0} (p : X → Bool) (n m : ℕ) (xs : List X) → m ≡ min n (length xs) → list_all p (take m xs) ≡ every p (take n xs)
unfolding every
all_first p n m xs e = same_from_clauses (list_all p) (every p) (λ x b. p x && b) refl (λ _ _. refl) (λ _ _. refl) (take m xs) ∙ rw (e, take_min)
