-- From the contracts to runs. A call that ends as its contract says leaves what stands next in a run: ONE law for all calls. And what the
-- contract of a call that is not lent the room says without it (Roomless.antt) holds with the run's room, which stays as it was.
use Rattle.std.specs.Prelude.{◌≡◌, refl, true, List, [], ◌∷◌, ◌++◌, ℕ, length}
use Rattle.std.proofs.Common.{ap, ap₂}
use Rattle.std.proofs.lemmas.Bool.{false≢true}
use Rattle.std.proofs.lemmas.List.Edits.{sets}
use Rattle.lists.specs.Both.{and_left, and_right}
use Rattle.channel.specs.declared.Served.{Served}
use Rattle.channel.specs.declared.Table.{Table}
use Rattle.definition.specs.Mem.{Fill, zeros, given, job, held, fill, fills, written}
use Rattle.definition.specs.Outcome.{Outcome}
use Rattle.definition.specs.Calls.{Call, frame, jobs, bare, frame_in, decide}
use Rattle.definition.specs.Ending.{itself, End, end, end_of, room_after}
use Rattle.definition.specs.Run.{State, lent, out_window, job_window, outcome, after}
use Rattle.definition.specs.Roomless.{unheld, unheld_all, Roomless}

-- ---- one law for all calls. (The two buffers of a take do not overlap: what is written to one leaves the other.)

pub call_after : (s : State) (c : Call) (r : Served) (room out tray : List ℕ)
    → end r room out tray ≡ end_of s.table (jobs s.table c) s.room (lent (out_window c) s.memory) (lent (job_window c) s.memory) (outcome s c)
    → lent (out_window c) (sets s.memory (job_window c).from tray) ≡ lent (out_window c) s.memory
    → after s c ≡ record { table = r.table; room = room; memory = sets (sets s.memory (job_window c).from tray) (out_window c).from out }
unfolding after end_of
call_after s c r room out tray h apart =
    let o = outcome s c in
    let js = jobs s.table c in
    let e : r.table ≡ o.table = ap (λ (x : End). x.served.table) h in
    let f : room ≡ room_after s.table js s.room o = ap (λ (x : End). x.room) h in
    let g : out ≡ written itself js s.room o.at o.out (lent (out_window c) s.memory) = ap (λ (x : End). x.out) h in
    let i : tray ≡ written itself js s.room 0 o.job (lent (job_window c) s.memory) = ap (λ (x : End). x.job) h in
    rw (e, f, g, i)
    (ap (λ (l : List ℕ). record { table = o.table; room = room_after s.table js s.room o; memory = sets (sets s.memory (job_window c).from (written itself js s.room 0 o.job (lent (job_window c) s.memory))) (out_window c).from (written itself js s.room o.at o.out l) })
    (rw i at apart))

-- ---- frame in

-- what frame in comes to from its payload is what a run has for that frame
pub frame_in_lem : (s : State) (link cid : ℕ) (p : List ℕ) → outcome s (frame link cid p) ≡ frame_in s.table (length s.room) link cid p
unfolding decide bare
frame_in_lem s link cid p = refl

-- ---- the calls that are not lent the room

-- what is written does not hang on the room
fill-unheld : (js room : List ℕ) (f : Fill) → unheld f ≡ true → fill itself js [] f ≡ fill itself js room f
unfolding fill
fill-unheld js room (zeros n) e = refl
fill-unheld js room (given xs) e = refl
fill-unheld js room (job from n) e = refl
fill-unheld js room (held from n) e = absurd (false≢true e)

fills-unheld : (js room : List ℕ) (fs : List Fill) → unheld_all fs ≡ true → fills itself js [] fs ≡ fills itself js room fs
unfolding fills
fills-unheld js room [] e = refl
fills-unheld js room (f ∷ fs) e = ap₂ (λ (a b : List ℕ). a ++ b) (fill-unheld js room f (and_left (unheld f) _ e)) (fills-unheld js room fs (and_right (unheld f) _ e))

-- So the end that such a call's contract names, without the room, is its end in a run, and the room is as it was.
pub roomless-end : (t : Table) (o : Outcome) → Roomless t o → (js room out tray : List ℕ) (r : Served) (out' tray' : List ℕ)
    → end r [] out' tray' ≡ end_of t js [] out tray o → end r room out' tray' ≡ end_of t js room out tray o
unfolding end_of written
roomless-end t o p js room out tray r out' tray' h =
    let e : r ≡ _ = ap (λ (x : End). x.served) h in
    let g : out' ≡ sets out o.at (fills itself js [] o.out) = ap (λ (x : End). x.out) h in
    let i : tray' ≡ sets tray 0 (fills itself js [] o.job) = ap (λ (x : End). x.job) h in
    rw (e, g, i, fills-unheld js room o.out p.out, fills-unheld js room o.job p.tray, p.room js room)
