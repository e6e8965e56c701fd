-- What stands when a call has ended: what it gave back, and every lent memory. A call's contract is one equation with `end_of` of its
-- outcome. And the laws by which a call's proof reads `end_of`: one for each form that an outcome has.
use Rattle.std.specs.Prelude.{◌≡◌, refl, List, [], ◌∷◌, ◌++◌, map, ℕ, zero, suc, ◌+◌, length, take, drop}
use Rattle.std.proofs.Common.{sym, ap, ◌∙◌, append-nil, add-zero, take-append-drop}
use Rattle.std.proofs.lemmas.List.Edits.{sets}
use Rattle.channel.specs.declared.Answer.{Answer}
use Rattle.channel.specs.declared.Served.{Served}
use Rattle.channel.specs.declared.Slot.{Slot}
use Rattle.channel.specs.declared.Table.{Table}
use Rattle.definition.specs.Mem.{given, size, sizes, fill, fills, written, moves, parts}
use Rattle.definition.specs.Table.{width, put_slot}
use Rattle.definition.specs.Outcome.{still, only, change}
use Rattle.definition.specs.Ending.{Coincide, End, end, end_of, gave, itself}

pub coincide : {e : End} {r₁ r₂ : Served} {room₁ room₂ out₁ out₂ job₁ job₂ : List ℕ} → end r₁ room₁ out₁ job₁ ≡ e → end r₂ room₂ out₂ job₂ ≡ e
    → Coincide r₁ r₂ room₁ room₂ out₁ out₂ job₁ job₂
coincide p q =
    let h = p ∙ sym q in
    record { served = ap (λ (x : End). x.served) h; room = ap (λ (x : End). x.room) h; out = ap (λ (x : End). x.out) h; job = ap (λ (x : End). x.job) h }

-- ---- what the forms come to

-- nothing is written
pub end-still : (t t' : Table) (a : Answer) (jobs room out job : List ℕ) → end_of t jobs room out job (still t' a []) ≡ end (gave a t' 0) room out job
unfolding end_of parts written fills sizes
end-still t t' a jobs room out job = refl

pub written_none : (jobs room out : List ℕ) → written itself jobs room 0 [] out ≡ out
unfolding written fills
written_none jobs room out = refl

map-itself : (xs : List ℕ) → map itself xs ≡ xs
map-itself [] = refl
map-itself (x ∷ xs) = ap (λ (r : List ℕ). x ∷ r) (map-itself xs)

-- given octets, written from a buffer's start
pub written_given : (jobs room out xs : List ℕ) → written itself jobs room 0 (given xs ∷ []) out ≡ sets out 0 xs
unfolding written fills fill
written_given jobs room out xs = ap (sets out 0) (append-nil (map itself xs) ∙ map-itself xs)

pub sizes_given : (xs : List ℕ) → sizes (given xs ∷ []) ≡ length xs
unfolding sizes size
sizes_given xs = add-zero (length xs)

-- given octets are all that changes
pub end_given : (t t' : Table) (a : Answer) (jobs room out job xs : List ℕ)
    → end_of t jobs room out job (still t' a (given xs ∷ [])) ≡ end (gave a t' (length xs)) room (sets out 0 xs) job
unfolding end_of parts
end_given t t' a jobs room out job xs = rw (written_given jobs room out xs, sizes_given xs, written_none jobs room job)

-- a slot that changes without a move leaves the room
pub parts_none : (jobs : List ℕ) (w s : ℕ) (room : List ℕ) → parts itself jobs w (only s []) room ≡ room
unfolding parts moves only
parts_none jobs w zero room = take-append-drop w room
parts_none jobs w (suc s) room = ap (λ (r : List ℕ). take w room ++ r) (parts_none jobs w s (drop w room)) ∙ take-append-drop w room

pub end-slot : (t t' : Table) (s : ℕ) (x : Slot) (a : Answer) (jobs room out job : List ℕ)
    → end_of t jobs room out job (change t' s x [] a []) ≡ end (gave a (put_slot t' s x) 0) room out job
unfolding end_of written fills sizes
end-slot t t' s x a jobs room out job = rw (parts_none jobs (width t) s room)
