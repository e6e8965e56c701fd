-- In a table that passed refusal 1, what a slot Holds of an assembly fits its place.
use Rattle.std.specs.Prelude.{◌≡◌, Bool, true, List, [], ◌∷◌, ℕ, zero, suc, ◌≤◌, ◌<◌, leb, get_or, take}
use Rattle.std.proofs.Common.{sym, ap, ◌∙◌, arith, get_or-take, leb-true, le-leb}
use Rattle.lists.specs.Both.{and_left, and_right}
use Rattle.lists.specs.Every.{every}
use Rattle.channel.specs.declared.Slot.{Slot}
use Rattle.channel.specs.declared.Table.{Table}
use Rattle.definition.specs.Table.{place_of, gap, slot_at, live, sizes_fit, slot_fits, well_formed}

every_any : {A : Type 0} (p : A → Bool) (d : A) (xs : List A) → every p xs ≡ true → p d ≡ true → (i : ℕ) → p (get_or xs i d) ≡ true
unfolding every
every_any p d [] e f i = f
every_any p d (x ∷ xs) e f zero = and_left (p x) _ e
every_any p d (x ∷ xs) e f (suc i) = every_any p d xs (and_right (p x) _ e) f i

gap-fits : (d place : ℕ) → slot_fits d place gap ≡ true
unfolding slot_fits every
gap-fits d place = rw (le-leb 0 d (omega arith), le-leb 0 place (omega arith))

have-of : (d place : ℕ) (x : Slot) → slot_fits d place x ≡ true → x.assembly.have ≤ place
unfolding slot_fits
have-of d place x e =
    let waiting = and_right (leb x.queue.count d) _ e in
    let jobs-fit = and_right (every (λ n. leb n place) (take x.queue.count x.queue.lens)) _ waiting in
    leb-true x.assembly.have place (and_left (leb x.assembly.have place) _ jobs-fit)

pub have-fits : (t : Table) (s : ℕ) → well_formed t ≡ true → s < t.n → (slot_at t s).assembly.have ≤ place_of t
unfolding well_formed
have-fits t s well h =
    let all : every (slot_fits t.d (place_of t)) (live t) ≡ true = and_right (sizes_fit t.n t.d t.m) _ well in
    let fit : slot_fits t.d (place_of t) (slot_at t s) ≡ true =
    ap (slot_fits t.d (place_of t)) (sym (get_or-take t.n t.slots s gap h)) ∙ every_any (slot_fits t.d (place_of t)) gap (live t) all (gap-fits t.d (place_of t)) s in
    have-of t.d (place_of t) (slot_at t s) fit
