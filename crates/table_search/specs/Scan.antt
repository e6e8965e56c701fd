-- The search against the library's and against the table's own; and the same search record by record, for who walks a run by an index: that no record below i is
-- free, its start, its step and its two ends, each from the search of crate lists (First), whose first n elements are all of them here.
use Rattle.std.specs.Prelude.{ℕ, suc, ◌+◌, ◌≤◌, ◌<◌, ◌≡◌, refl, Bool, true, false, List, Some, None, ltb, length, get_or}
use Rattle.std.specs.List.{position, position_or_len}
use Rattle.std.proofs.Common.{ap, sym, ◌∙◌, arith, lt-ltb, le-ltb, cond}
use Rattle.std.proofs.Math.Seq.{take-length}
use Rattle.std.proofs.lemmas.List.Recursion.{is_position_or_len}
use Rattle.lists.specs.Choose.{choose, choose_true, choose_false}
use Rattle.lists.specs.First.{first, Passed, passed_none, passed-more, passed_hit, passed_all}
use Rattle.channel.specs.declared.Slot.{Slot}
use Rattle.channel.specs.declared.Table.{Table}
use Rattle.definition.specs.Table.{live, found, is_free}
use Rattle.definition.specs.Asking.{lowest_free}
use Rattle.table_search.specs.Found.{found_in}

chosen : {A : Type 0} (b : Bool) (x y : A) → choose b x y ≡ cond b x y
unfolding choose
chosen true x y = refl
chosen false x y = refl

first_position : (l : List Slot) → first is_free l ≡ position_or_len is_free l
unfolding first
first_position l = is_position_or_len (first is_free) is_free refl (λ x xs. chosen (is_free x) 0 (suc (first is_free xs)) ∙ ap (cond (is_free x) 0) (omega arith)) l

-- the library's `position` is this search
pub searched : (l : List Slot) → position is_free l ≡ found_in l
searched l = rw (chosen, first_position)

abbrev pub Scanned : List Slot → ℕ → Type 0
Scanned l i = Passed is_free (length l) l i

pub scan_start : (l : List Slot) → Scanned l 0
scan_start l = passed_none

pub scan_more : (l : List Slot) (d : Slot) (i : ℕ) → Scanned l i → is_free (get_or l i d) ≡ false → i < length l → Scanned l (i + 1)
scan_more l d i s f h = passed-more s d f h h

-- a free record was met: the lowest
pub hit_is : (l : List Slot) (d : Slot) (i : ℕ) → Scanned l i → is_free (get_or l i d) ≡ true → i < length l → Some i ≡ found_in l
hit_is l d i s f h =
    let e : i ≡ lowest_free l = passed_hit s d f h h ∙ ap (first is_free) (take-length l) in
    sym (choose_true (ltb i (length l)) (Some i) None (lt-ltb i (length l) h)) ∙ ap (λ k. choose (ltb k (length l)) (Some k) None) e

-- the run is over: none is free
pub none_is : (l : List Slot) (i : ℕ) → Scanned l i → length l ≤ i → None ≡ found_in l
none_is l i s h =
    let e : i ≡ lowest_free l = passed_all s (omega arith) ∙ ap (first is_free) (take-length l) in
    sym (choose_false (ltb i (length l)) (Some i) None (le-ltb i (length l) h)) ∙ ap (λ k. choose (ltb k (length l)) (Some k) None) e

-- the table's own search is this one over the slots in use
pub same_search : (t : Table) → found is_free t ≡ lowest_free (live t)
same_search t = refl
