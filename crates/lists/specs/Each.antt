-- The first n elements changed by f, the rest kept; and the loop that does so in place.
use Rattle.std.specs.Prelude.{ℕ, zero, suc, ◌+◌, ◌≤◌, ◌<◌, min, ◌≡◌, refl, List, [], ◌∷◌, ◌++◌, map, leb, Bool, true, false, length, get_or, take, drop, set}
use Rattle.std.proofs.Common.{sym, ap, ◌∙◌, append_assoc, arith, leb-true, leb-false, add-one, length-append, length-drop, drop_of_length-le, drop-cons, take-suc, length-take-le, take_all}
use Rattle.std.proofs.lemmas.List.{length-map, set_at, get_or_at}

abbrev pub map_first : {A : Type 0} → ℕ → (A → A) → List A → List A
map_first n f l = map f (take n l) ++ drop n l

map_app : {A : Type 0} (f : A → A) (xs ys : List A) → map f (xs ++ ys) ≡ map f xs ++ map f ys
map_app f [] ys = refl
map_app f (x ∷ xs) ys = ap (λ l. f x ∷ l) (map_app f xs ys)

pub take-map_first : {A : Type 0} (n : ℕ) (f : A → A) (l : List A) → take n (map_first n f l) ≡ map f (take n l)
take-map_first zero f l = refl
take-map_first (suc n) f [] = refl
take-map_first (suc n) f (x ∷ l) = ap (λ r. f x ∷ r) (take-map_first n f l)

pub length-map_first : {A : Type 0} (n : ℕ) (f : A → A) (l : List A) → length (map_first n f l) ≡ length l
length-map_first zero f l = refl
length-map_first (suc n) f [] = refl
length-map_first (suc n) f (x ∷ l) = ap suc (length-map_first n f l)

-- the first i are changed
pub record Mapped {A : Type 0} (f : A → A) (l : List A) (i : ℕ) (us : List A) : Type 0 where
  pub is : us ≡ map_first i f l

pub mapped_none : {A : Type 0} {f : A → A} {l : List A} → Mapped f l 0 l
mapped_none = record { is = refl }

pub mapped_length : {A : Type 0} {f : A → A} {l us : List A} {i : ℕ} → Mapped f l i us → i ≤ length l → length us ≡ length l
mapped_length {A} {f} {l} {us} {i} e h =
    let a : length (take i l) ≡ i = length-take-le i l h in
    ap length e.is ∙ simp (length-append, length-map, length-drop, a) (omega arith)

pub mapped_more : {A : Type 0} {f : A → A} {l us : List A} {i : ℕ} → Mapped f l i us → (d : A) → i < length l → Mapped f l (i + 1) (set us i (f (get_or us i d)))
mapped_more {A} {f} {l} {us} {i} e d h =
    let k : i ≤ length l = omega arith in
    let x = get_or l i d in
    let p = map f (take i l) in
    let a : length p ≡ i = length-map (take i l) f ∙ length-take-le i l k in
    let u : us ≡ p ++ x ∷ drop (suc i) l = e.is ∙ ap (λ r. p ++ r) (drop-cons l i d h) in
    let g : get_or us i d ≡ x = ap (λ r. get_or r i d) u ∙ get_or_at p x (drop (suc i) l) d i a in
    let s : set us i (f x) ≡ p ++ f x ∷ drop (suc i) l = ap (λ r. set r i (f x)) u ∙ set_at p x (drop (suc i) l) (f x) i a in
    let q : map_first (suc i) f l ≡ p ++ f x ∷ drop (suc i) l =
    ap (λ r. map f r ++ drop (suc i) l) (take-suc l i d h) ∙ ap (λ r. r ++ drop (suc i) l) (map_app f (take i l) (x ∷ []))
    ∙ append_assoc p (f x ∷ []) (drop (suc i) l) in
    record { is = ap (λ y. set us i (f y)) g ∙ s ∙ sym q ∙ ap (λ m. map_first m f l) (sym (add-one i)) }

pub mapped_all : {A : Type 0} {f : A → A} {l us : List A} {i : ℕ} → Mapped f l i us → (n : ℕ) → i ≡ min n (length l) → us ≡ map_first n f l
mapped_all {A} {f} {l} {us} {i} e n h = go (leb n (length l)) refl
  where
    go : (b : Bool) → leb n (length l) ≡ b → us ≡ map_first n f l
    go true t =
        let k = leb-true n (length l) t in
        let q : i ≡ n = omega arith in
        e.is ∙ ap (λ m. map_first m f l) q
    go false t =
        let k : length l ≤ n = omega (arith, leb-false n (length l) t) in
        let q : length l ≤ i = omega arith in
        e.is ∙ rw (take_all i l q, take_all n l k, drop_of_length-le l q, drop_of_length-le l k)
