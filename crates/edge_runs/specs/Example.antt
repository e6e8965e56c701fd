-- The premises of demand 3 at the entries can be met by two runs that differ: the worked run of crate definition, as entries, whatever its job octets.
use Rattle.std.specs.Prelude.{◌≡◌, List, [], ◌∷◌, ℕ, replicate}
use Rattle.definition.specs.Calls.{Window}
use Rattle.edge_runs.specs.Entries.{Entry, register_spsm, signal, next_pending, accept_pending, dispatch, receive, send, disconnect, next_disconnect, disconnected, dec_ref}
use Rattle.edge_runs.specs.Run.{EdgeState, Asked, started}

-- ---- calls that are alike are entries that are alike, where their answers are lent alike

abbrev pub SameAnswers : List Asked → List Asked → Type 0
SameAnswers [] [] = Unit {0}
SameAnswers [] (b ∷ fs) = ⊥
SameAnswers (a ∷ es) [] = ⊥
SameAnswers (a ∷ es) (b ∷ fs) = (a.answer ≡ b.answer) × SameAnswers es fs

-- ---- the worked run: a phone opens a channel, a job comes in two frames and is taken, one is sent, a job comes, and all ends with a link-down

abbrev pub window : (from size : ℕ) → Window
window from size = record { from = from; size = size }

-- each with 16 octets for its answer
abbrev pub ask : Entry → Asked
ask e = record { entry = e; answer = replicate 16 7 }

abbrev pub channel : (id a b c x y e : ℕ) → List Asked
channel id a b c x y e =
    ask (register_spsm 0x80)
    ∷ ask (signal (window 0 18) 1 1 1 (0x14 ∷ id ∷ 10 ∷ 0 ∷ 0x80 ∷ 0 ∷ 0x50 ∷ 0 ∷ 64 ∷ 0 ∷ 23 ∷ 0 ∷ 5 ∷ 0 ∷ []))
    ∷ ask (next_pending 1 1)
    ∷ ask (accept_pending (window 0 18) 0 65536 65536 0 1 5)
    ∷ ask (dispatch 1 0x40 (3 ∷ 0 ∷ a ∷ b ∷ []))
    ∷ ask (dispatch 1 0x40 (c ∷ []))
    ∷ ask (receive (window 0 18) (window 18 4) 0)
    ∷ ask (send (window 22 8) 0 (x ∷ y ∷ []))
    ∷ ask (dispatch 1 0x40 (1 ∷ 0 ∷ e ∷ []))
    ∷ ask (disconnect 0)
    ∷ ask (next_disconnect (window 0 18))
    ∷ ask (disconnected 1)
    ∷ ask (dec_ref 0)
    ∷ []

abbrev pub begun : ℕ → EdgeState
begun z = started (replicate 1312 z) [] (replicate 92 z) 2 1 29 (replicate 30 9)
