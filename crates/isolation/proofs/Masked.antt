-- Only a take from, a send on, or a portion on a slot of the link hands its marks out: what any other call writes to memory is the same, whether
-- the marks are masked or not. From what each call hands out (Handed.antt of crate definition) and where marks stand (Contained.antt).
use Rattle.std.specs.Prelude.{◌≡◌, Bool, true, ◌&&◌, ℕ, zero, suc, ◌+◌, ◌-◌, ◌*◌, ◌≤◌, drop, get_or}
use Rattle.std.proofs.Math.Path.{refl, sym, ap, ap₂}
use Rattle.std.proofs.Common.{◌∙◌, subst, arith, drop-drop, take-take}
use Rattle.std.proofs.Math.Bool.{false}
use mathlib.Core.List.{List, [], ◌∷◌, ◌++◌}
use Rattle.std.proofs.Math.ListN.{take}
use Rattle.channel.specs.declared.Slot.{Slot}
use Rattle.channel.specs.declared.Table.{Table}
use Rattle.definition.specs.Mem.{Fill, fill, fills, written}
use Rattle.definition.specs.Table.{gap}
use Rattle.definition.specs.Outcome.{Outcome}
use Rattle.definition.specs.Calls.{Window, Holder, holder, is_by}
use Rattle.definition.specs.Run.{memory_left}
use Rattle.definition.specs.Handed.{OwnPart, OwnFill, zeroed, worked, carried, stored, OwnFills, none, more, Hands}
use Rattle.isolation.specs.Statement.{unmarked, mask, memory_marks}
use Rattle.isolation.specs.Same.{nil, cons}
use Rattle.isolation.proofs.Same.{rel_take, rel_drop, rel_map, rel_fills}
use Rattle.isolation.specs.Contained.{Off, Clean}
use Rattle.isolation.proofs.Contained.{Contained, contained_slot}
use Rattle.isolation.specs.Masked.{written-two}

-- ---- a stretch within a part

stretch : (w r n : ℕ) (l : List Bool) → r + n ≤ w → take n (drop r (take w l)) ≡ take n (drop r l)
stretch zero r n l h = let e : n ≡ 0 = omega arith in rw e refl
stretch (suc w) zero n l h = take-take n (suc w) l (omega arith)
stretch (suc w) (suc r) n [] h = refl
stretch (suc w) (suc r) n (x ∷ l) h = stretch w r n l (omega arith)

pub clean_stretch : (k w : ℕ) (lasts : Bool) (xs : List Slot) (ms : List Bool) (s from n : ℕ) → Contained k w lasts xs ms → is_by k (holder (get_or xs s gap)) ≡ false
    → s * w ≤ from → from + n ≤ s * w + w → Clean (take n (drop from ms))
clean_stretch k w lasts xs ms s from n c e low high =
    let r : ℕ = from - s * w in
    let q : s * w + r ≡ from = omega arith in
    subst (λ (l : List Bool). Clean (take n l)) (drop-drop r (s * w) ms ∙ ap (λ (i : ℕ). drop i ms) q)
    (subst Clean (stretch w r n (drop (s * w) ms) (omega arith)) (rel_take Off n (rel_drop Off r (contained_slot k w lasts xs ms s c e))))

-- ---- marks that no call hands out: masked or not, what is written is the same

pub clean_masked : {ms : List Bool} → Clean ms → ms ≡ mask false ms
clean_masked nil = refl
clean_masked (cons e r) = ap₂ (λ (b : Bool) (l : List Bool). b ∷ l) e (clean_masked r)

all_masked : (ms : List Bool) → ms ≡ mask true ms
all_masked [] = refl
all_masked (m ∷ ms) = ap (λ (l : List Bool). m ∷ l) (all_masked ms)

take-mask : (own : Bool) (n : ℕ) (ms : List Bool) → take n (mask own ms) ≡ mask own (take n ms)
take-mask own zero ms = refl
take-mask own (suc n) [] = refl
take-mask own (suc n) (m ∷ ms) = ap (λ (l : List Bool). (own && m) ∷ l) (take-mask own n ms)

drop-mask : (own : Bool) (n : ℕ) (ms : List Bool) → drop n (mask own ms) ≡ mask own (drop n ms)
drop-mask own zero ms = refl
drop-mask own (suc n) [] = refl
drop-mask own (suc n) (m ∷ ms) = drop-mask own n ms

-- k's octets are in nothing that is h's: neither in the call's job octets, where they are h's, nor in h's parts of the room
module _ (t : Table) (c h : Holder) (js room : List Bool) (carried-clean : c ≡ h → Clean js) (stored-clean : (from n : ℕ) → OwnPart t h from n → Clean (take n (drop from room))) where
  fill_masked : {f : Fill} → OwnFill t c h f → fill unmarked js room f ≡ fill unmarked (mask false js) (mask false room) f
  unfolding fill
  fill_masked zeroed = refl
  fill_masked worked = refl
  fill_masked (carried {from = from} {n = n} e) = ap (λ (l : List Bool). take n (drop from l)) (clean_masked (carried-clean e))
  fill_masked (stored {from = from} {n = n} p) =
      clean_masked (stored-clean from n p) ∙ sym (ap (take n) (drop-mask false from room) ∙ take-mask false n (drop from room))

  pub fills_masked : {fs : List Fill} → OwnFills t c h fs → fills unmarked js room fs ≡ fills unmarked (mask false js) (mask false room) fs
  unfolding fills
  fills_masked none = refl
  fills_masked (more p ps) = ap₂ (λ (a b : List Bool). a ++ b) (fill_masked p) (fills_masked ps)

clean_mask : (ms : List Bool) → Clean (mask false ms)
clean_mask ms = rel_map Off (λ b. false) (λ b. false) (λ b. false) (λ b. refl) ms

-- what is nobody's is unmarked
pub clean_nobodys : (t : Table) (c h : Holder) (js room : List Bool) → (c ≡ h → Clean js) → ((from n : ℕ) → OwnPart t h from n → Clean (take n (drop from room)))
    → {fs : List Fill} → OwnFills t c h fs → Clean (fills unmarked js room fs)
clean_nobodys t c h js room cj cr {fs} p =
    subst Clean (sym (fills_masked t c h js room cj cr p)) (rel_fills Off unmarked unmarked unmarked (λ x. refl) (clean_mask js) (clean_mask room) fs)

-- the same for whatever holder
fills_own : (t : Table) (k : ℕ) (c h : Holder) (js room : List Bool) → (is_by k h ≡ false → c ≡ h → Clean js)
    → (is_by k h ≡ false → (from n : ℕ) → OwnPart t h from n → Clean (take n (drop from room)))
    → {fs : List Fill} → OwnFills t c h fs → (b : Bool) → is_by k h ≡ b → fills unmarked js room fs ≡ fills unmarked (mask b js) (mask b room) fs
fills_own t k c h js room cj cr {fs} p true e = ap₂ (λ (a b : List Bool). fills unmarked a b fs) (all_masked js) (all_masked room)
fills_own t k c h js room cj cr p false e = fills_masked t c h js room (cj e) (cr e) p

pub memory_masked : (t : Table) (k : ℕ) (c f h : Holder) (js room memory : List Bool) (o : Outcome) (v w : Window) → Hands t c f h o
    → ((g : Holder) → is_by k g ≡ false → c ≡ g → Clean js) → ((g : Holder) → is_by k g ≡ false → (from n : ℕ) → OwnPart t g from n → Clean (take n (drop from room)))
    → memory_left unmarked js o v w room memory ≡ memory_marks o v w (is_by k f) (is_by k h) js room memory
unfolding written
memory_masked t k c f h js room memory o v w p cj cr =
    ap₂ (written-two o.at v w memory) (fills_own t k c f js room (cj f) (cr f) p.out (is_by k f) refl) (fills_own t k c h js room (cj h) (cr h) p.tray (is_by k h) refl)
