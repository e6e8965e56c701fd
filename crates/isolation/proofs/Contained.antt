-- Marks stand in the link's own slots alone, and only while that life lasts: what every safe call (Safe.antt of crate definition) keeps.
use Rattle.std.specs.Prelude.{◌≡◌, refl, true, ◌&&◌, ℕ, zero, suc, ◌*◌, take, drop, get_or}
use Rattle.std.proofs.Common.{sym, ◌∙◌, suc-mul, add_comm, zero-mul, take-append-drop, drop-drop}
use Rattle.std.proofs.Math.Path.{ap, subst}
use Rattle.std.proofs.Math.Bool.{Bool, false, and-false}
use Rattle.std.proofs.lemmas.Bool.{false≢true}
use mathlib.Core.List.{List, [], ◌∷◌, map}
use Rattle.std.proofs.Math.ListN.{length}
use Rattle.lists.specs.Both.{and_left, and_right}
use Rattle.lists.specs.Sets.{take_split, drop_split}
use Rattle.channel.specs.declared.Slot.{Slot}
use Rattle.definition.specs.Mem.{zeros, given, job, held, Move, put, wipe, fill, move, moves, parts}
use Rattle.definition.specs.Table.{gap}
use Rattle.definition.specs.Calls.{Holder, holder, is_by}
use Rattle.definition.specs.Forms.{Each, rest, next}
use Rattle.definition.proofs.Lengths.{length-moves, length-parts}
use Rattle.definition.specs.Safe.{jobless_move, jobless, SafeSlot, kept, mine, allotted, wiped, Without}
use Rattle.isolation.specs.Statement.{unmarked}
use Rattle.isolation.specs.Same.{nil}
use Rattle.isolation.proofs.Same.{rel_take, rel_drop, rel_append, rel_map, rel_moves}
use Rattle.isolation.specs.Contained.{Clean, Off}

pub clean_dark : {A : Type 0} (xs : List A) → Clean (map (λ _. false) xs)
clean_dark xs = rel_map Off (λ _. false) (λ _. false) (λ _. false) (λ x. refl) xs

clean_moves : {js part : List Bool} → Clean js → Clean part → (ms : List Move) → Clean (moves unmarked js part ms)
clean_moves j p ms = rel_moves Off unmarked unmarked unmarked (λ x. refl) j p ms

-- moves that put no job octet do not look at them
jobless-move : (js part : List Bool) (m : Move) → jobless_move m ≡ true → move unmarked js part m ≡ move unmarked [] part m
unfolding move fill
jobless-move js part (put at (zeros n)) e = refl
jobless-move js part (put at (given xs)) e = refl
jobless-move js part (put at (job from n)) e = absurd (false≢true e)
jobless-move js part (put at (held from n)) e = refl
jobless-move js part wipe e = refl

jobless-moves : (js part : List Bool) (ms : List Move) → jobless ms ≡ true → moves unmarked js part ms ≡ moves unmarked [] part ms
unfolding moves
jobless-moves js part [] e = refl
jobless-moves js part (m ∷ ms) e =
    ap (λ (p : List Bool). moves unmarked js p ms) (jobless-move js part m (and_left (jobless_move m) (jobless ms) e))
    ∙ jobless-moves js (move unmarked [] part m) ms (and_right (jobless_move m) (jobless ms) e)

clean_jobless : (js : List Bool) {part : List Bool} → Clean part → (ms : List Move) → jobless ms ≡ true → Clean (moves unmarked js part ms)
clean_jobless js {part} p ms e = subst Clean (sym (jobless-moves js part ms e)) (clean_moves nil p ms)

-- ---- marks stand in the link's own slots, and while the life lasts (`lasts`)

module _ (k w : ℕ) where
  abbrev pub Contained : Bool → List Slot → List Bool → Type 0
  Contained lasts [] ms = Clean ms
  Contained lasts (x ∷ xs) ms = ((lasts && is_by k (holder x)) ≡ false → Clean (take w ms)) × Contained lasts xs (drop w ms)

  module _ (lasts : Bool) (l : Holder) (js : List Bool) (cj : (lasts && is_by k l) ≡ false → Clean js) where
    safe_slot : {x y : Slot} {ms : List Move} {part : List Bool} → SafeSlot l x y ms → ((lasts && is_by k (holder x)) ≡ false → Clean part)
        → (lasts && is_by k (holder y)) ≡ false → Clean (moves unmarked js part ms)
    unfolding moves move
    safe_slot {ms = ms} (kept e f) c g = clean_jobless js (c (ap (λ (h : Holder). lasts && is_by k h) (sym e) ∙ g)) ms f
    safe_slot {x = x} {ms = ms} (mine e f) c g =
        let gx : (lasts && is_by k (holder x)) ≡ false = ap (λ (h : Holder). lasts && is_by k h) (sym e) ∙ g in
        clean_moves (cj (ap (λ (h : Holder). lasts && is_by k h) (sym f) ∙ gx)) (c gx) ms
    safe_slot {ms = ms} (allotted e f) c g = clean_jobless js (c (ap (λ (h : Holder). lasts && is_by k h) e ∙ and-false lasts)) ms f
    safe_slot {part = part} wiped c g = clean_dark part

    pub contained_step : {xs ys : List Slot} {mss : List (List Move)} → Each (SafeSlot l) xs ys mss → (ms : List Bool) → Contained lasts xs ms → Contained lasts ys (parts unmarked js w mss ms)
    unfolding parts
    contained_step rest ms c = c
    contained_step (next {ms = m} {ys = ys} {mss = mss} h r) ms c =
        let y : List Bool = moves unmarked js (take w ms) m in
        let z : List Bool = parts unmarked js w mss (drop w ms) in
        let ly : length y ≡ length (take w ms) = length-moves unmarked js (take w ms) m in
        let lz : length z ≡ length (drop w ms) = length-parts unmarked js w mss (drop w ms) in (
          (λ g. subst Clean (sym (take_split w ms y z ly lz)) (safe_slot h c.0 g)),
          subst (Contained lasts ys) (sym (drop_split w ms y z ly lz)) (contained_step r (drop w ms) c.1),
        )

  -- ---- what it gives in the end

  clean_join : (ms : List Bool) → Clean (take w ms) → Clean (drop w ms) → Clean ms
  clean_join ms a b = subst Clean (take-append-drop w ms) (rel_append Off a b)

  pub contained_without : (lasts : Bool) (xs : List Slot) (ms : List Bool) → Without k xs → Contained lasts xs ms → Clean ms
  contained_without lasts [] ms h c = c
  contained_without lasts (x ∷ xs) ms h c =
      clean_join ms (c.0 (ap (λ (b : Bool). lasts && b) h.0 ∙ and-false lasts)) (contained_without lasts xs (drop w ms) h.1 c.1)

  pub contained_dead : (xs : List Slot) (ms : List Bool) → Contained false xs ms → Clean ms
  contained_dead [] ms c = c
  contained_dead (x ∷ xs) ms c = clean_join ms (c.0 refl) (contained_dead xs (drop w ms) c.1)

  pub contained_clean : (lasts : Bool) (xs : List Slot) (ms : List Bool) → Clean ms → Contained lasts xs ms
  contained_clean lasts [] ms c = c
  contained_clean lasts (x ∷ xs) ms c = ((λ g. rel_take Off w c), contained_clean lasts xs (drop w ms) (rel_drop Off w c))

  pub contained_slot : (lasts : Bool) (xs : List Slot) (ms : List Bool) (s : ℕ) → Contained lasts xs ms → is_by k (holder (get_or xs s gap)) ≡ false
      → Clean (take w (drop (s * w) ms))
  contained_slot lasts [] ms s c e = rel_take Off w (rel_drop Off (s * w) c)
  contained_slot lasts (x ∷ xs) ms zero c e = rw zero-mul (c.0 (ap (λ (b : Bool). lasts && b) e ∙ and-false lasts))
  contained_slot lasts (x ∷ xs) ms (suc s) c e =
      subst (λ (r : List Bool). Clean (take w r)) (drop-drop (s * w) w ms ∙ ap (λ (n : ℕ). drop n ms) (add_comm w (s * w) ∙ sym (suc-mul s w)))
      (contained_slot lasts xs (drop w ms) s c.1 e)
