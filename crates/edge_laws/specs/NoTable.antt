-- Octets that spell no table are read as a table of no slots (Layout.antt of `edge_layout`). Row 1 of document 01 stands first in every call: a table that
-- is not well formed is refused by 1, whatever is asked and whatever is lent, and nothing changes. So an entry on octets that spell no table
-- returns 1, tells that refusal, and leaves the table's octets, the room and the buffers as they were.
use Rattle.std.specs.Prelude.{◌≡◌, refl, Bool, true, false, not, List, ◌∷◌, ℕ, length, replicate, Err, None, Option, Result, Some}
use Rattle.std.proofs.Common.{sym, ap, ◌∙◌}
use Rattle.std.proofs.lemmas.Bool.{false≢true}
use Rattle.std.proofs.lemmas.List.Edits.{sets}
use Rattle.lists.specs.Choose.{choose, choose_true}
use Rattle.codes.specs.Codes.{result_in}
use Rattle.codes.specs.declared.Refusal.TheVariants.{BadTable}
use Rattle.channel.specs.declared.Answer.TheVariants.{Refused}
use Rattle.channel.specs.declared.Table.{Table}
use Rattle.definition.specs.Table.{well_formed}
use Rattle.definition.specs.Outcome.{Outcome, refuse, verdict, passed, gate}
use Rattle.definition.specs.Asking.{no_slots, register_spsm, attention, query, send_signal}
use Rattle.definition.specs.Closing.{inc_ref, dec_ref, disconnect, disconnect_by_cid, disconnected, next_disconnect}
use Rattle.definition.specs.Frames.{dispatch, send, receive}
use Rattle.definition.specs.Opening.{create, opened, give_up}
use Rattle.definition.specs.Pending.{next_pending, reject_all_pending, accept_pending, reject_pending, not_code, drop_pending}
use Rattle.definition.specs.Portions.{start_job, give_portion, cancel_job}
use Rattle.definition.specs.Signals.{signalled}
use Rattle.definition.specs.Calls.{Call, frame, sends, portions, down, plain, Request, register, signals, pends, rejects_all, accepts, rejects, drops, creates, opens, gives, holds, releases, leaves, leaves_cid, announces, takes, starts, cancels, attends, asks, sends_signal, writes, jobs, serve, decide}
use Rattle.definition.specs.Ending.{End, end, gave, end_of}
use Rattle.definition.proofs.Ending.{end-still}
use Rattle.edge_layout.specs.declared.Decoded.{Decoded}
use Rattle.edge_layout.specs.Layout.{read}
use Rattle.edge_answer.specs.Answers.{answer_octets}
use Rattle.edge.specs.Edge.{Edge, edge, lifted, on_table}
use Rattle.codes.specs.declared.Refusal.{Refusal}

-- ---- the gate is shut

pub stopped : (t : Table) (room signal link slot : Option ℕ) → well_formed t ≡ false → verdict t room signal link slot ≡ Err BadTable
unfolding verdict
stopped t room signal link slot bad = choose_true (not (well_formed t)) _ _ (ap not bad)

pub shut : (t : Table) (room signal link slot : Option ℕ) (o : Outcome) → well_formed t ≡ false → gate t room signal link slot o ≡ refuse t BadTable
shut t room signal link slot o bad = ap (λ (v : Result (Unit {0}) Refusal). passed t v o) (stopped t room signal link slot bad)

-- ---- every call, for every argument and whatever is lent

-- all but the caller's own writing
abbrev pub is_request : Request → Bool
is_request (register spsm) = true
is_request (signals link listening central pdu) = true
is_request (pends link up) = true
is_request (rejects_all link) = true
is_request (accepts s c) = true
is_request (rejects s result) = true
is_request (drops s) = true
is_request (creates link spsm c) = true
is_request (opens s link up) = true
is_request (gives s) = true
is_request (holds s) = true
is_request (releases s) = true
is_request (leaves s) = true
is_request (leaves_cid cid) = true
is_request announces = true
is_request (takes s) = true
is_request (starts s l) = true
is_request (cancels s) = true
is_request attends = true
is_request (asks of s) = true
is_request (sends_signal link s) = true
is_request (writes octets) = false

abbrev pub is_call : Call → Bool
is_call (frame link cid payload) = true
is_call (sends s sdu out) = true
is_call (portions s octets out) = true
is_call (down link) = true
is_call (plain r out job) = is_request r

module _ (t : Table) (bad : well_formed t ≡ false) where
  pub serve_refuses : (r : Request) → is_request r ≡ true → (room out job : ℕ) → serve t r room out job ≡ refuse t BadTable
  unfolding serve register_spsm signalled next_pending reject_all_pending accept_pending reject_pending not_code drop_pending create opened give_up inc_ref dec_ref disconnect disconnect_by_cid next_disconnect receive start_job cancel_job attention query send_signal
  serve_refuses (register spsm) is room out job = shut t _ _ _ _ _ bad
  serve_refuses (signals link listening central pdu) is room out job = shut t _ _ _ _ _ bad
  serve_refuses (pends link up) is room out job = shut t _ _ _ _ _ bad
  serve_refuses (rejects_all link) is room out job = shut t _ _ _ _ _ bad
  serve_refuses (accepts s c) is room out job = shut t _ _ _ _ _ bad
  serve_refuses (rejects s (Some result)) is room out job = shut t _ _ _ _ _ bad
  serve_refuses (rejects s None) is room out job = shut t _ _ _ _ _ bad
  serve_refuses (drops s) is room out job = shut t _ _ _ _ _ bad
  serve_refuses (creates link spsm c) is room out job = shut t _ _ _ _ _ bad
  serve_refuses (opens s link up) is room out job = shut t _ _ _ _ _ bad
  serve_refuses (gives s) is room out job = shut t _ _ _ _ _ bad
  serve_refuses (holds s) is room out job = shut t _ _ _ _ _ bad
  serve_refuses (releases s) is room out job = shut t _ _ _ _ _ bad
  serve_refuses (leaves s) is room out job = shut t _ _ _ _ _ bad
  serve_refuses (leaves_cid cid) is room out job = shut t _ _ _ _ _ bad
  serve_refuses announces is room out job = shut t _ _ _ _ _ bad
  serve_refuses (takes s) is room out job = shut t _ _ _ _ _ bad
  serve_refuses (starts s l) is room out job = shut t _ _ _ _ _ bad
  serve_refuses (cancels s) is room out job = shut t _ _ _ _ _ bad
  serve_refuses attends is room out job = shut t _ _ _ _ _ bad
  serve_refuses (asks of s) is room out job = shut t _ _ _ _ _ bad
  serve_refuses (sends_signal link s) is room out job = shut t _ _ _ _ _ bad
  serve_refuses (writes octets) is room out job = absurd (false≢true is)

  pub decide_refuses : (c : Call) → is_call c ≡ true → (count room out job : ℕ) → decide t c count room out job ≡ refuse t BadTable
  unfolding decide dispatch send give_portion disconnected
  decide_refuses (frame link cid head) is count room out job = shut t _ _ _ _ _ bad
  decide_refuses (sends s sdu w) is count room out job = shut t _ _ _ _ _ bad
  decide_refuses (portions s octets w) is count room out job = shut t _ _ _ _ _ bad
  decide_refuses (down link) is count room out job = shut t _ _ _ _ _ bad
  decide_refuses (plain r w v) is count room out job = serve_refuses r is room out job

-- ---- the table of no slots is not well formed

pub no-slots : well_formed no_slots ≡ false
unfolding well_formed
no-slots = refl

-- "Unless a row says more, table, room and buffers stay unchanged"
pub none-ends : (js room out job : List ℕ) (o : Outcome) → o ≡ refuse no_slots BadTable → end_of no_slots js room out job o ≡ end (gave (Refused BadTable) no_slots 0) room out job
none-ends js room out job o e = ap (end_of no_slots js room out job) e ∙ end-still no_slots no_slots (Refused BadTable) js room out job

-- ---- on octets

abbrev read_as : Bool → Table → Decoded
read_as ok t = record { ok = ok; table = t }

by_test : (b : Bool) (t u : Table) → (choose b (read_as true t) (read_as false u)).ok ≡ false → choose b (read_as true t) (read_as false u) ≡ read_as false u
unfolding choose
by_test true t u e = absurd (false≢true (sym e))
by_test false t u e = refl

none_read : (o : List ℕ) → (read o).ok ≡ false → read o ≡ read_as false no_slots
unfolding read
none_read o none = by_test _ _ _ none

-- refusal 1 as it is told: its kind and its number, and zeros
abbrev pub refusal_one : List ℕ
refusal_one = 1 ∷ 1 ∷ replicate 14 0

-- 1 is returned, and the answer is written; all else is as it was
abbrev pub left_alone : (table answer room out job : List ℕ) → Edge
left_alone table answer room out job = edge 1 table (sets answer 0 refusal_one) room out job

one_told : (o a room out job : List ℕ) → lifted false o a (end (gave (Refused BadTable) no_slots 0) room out job) ≡ left_alone o a room out job
unfolding lifted choose answer_octets result_in
one_told o a room out job = refl

pub on_none : (o a room out job : List ℕ) (f : Table → End) → (read o).ok ≡ false → f no_slots ≡ end (gave (Refused BadTable) no_slots 0) room out job
    → on_table o a f ≡ left_alone o a room out job
unfolding on_table
on_none o a room out job f none ends =
    ap (λ (r : Decoded). lifted r.ok o a (f r.table)) (none_read o none) ∙ ap (lifted false o a) ends ∙ one_told o a room out job

-- Every call on octets that spell no table, whatever is lent.
pub call_on_none : (o a room out job : List ℕ) (c : Call) (count : ℕ) → is_call c ≡ true → (read o).ok ≡ false
    → on_table o a (λ t. end_of t (jobs t c) room out job (decide t c count (length room) (length out) (length job))) ≡ left_alone o a room out job
call_on_none o a room out job c count is none =
    on_none o a room out job _ none (none-ends _ room out job _ (decide_refuses no_slots no-slots c is count (length room) (length out) (length job)))
