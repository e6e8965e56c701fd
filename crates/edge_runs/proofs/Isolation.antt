-- Demand 3 at the entries, proved: a run of entries is the definition's run, spelled (Lift, Start), and what it tells is what that run's outcomes say
-- and hand out (Telling); so `isolation` and the rule that refusals 1 and 2 never come (crates isolation and rules) hold of it. No entry gives credits above 65,535,
-- and a PDU is octets, which is all that the rule asks (`entry_fits`).
use Rattle.std.specs.Prelude.{◌≡◌, refl, ◌&&◌, List, [], ◌∷◌, map, ℕ, zero, suc, eqb, ltb, length, take}
use Rattle.std.proofs.Common.{sym, ap, ap₂, ◌∙◌, subst, subst₂, arith, ltb-false}
use Rattle.lists.specs.Choose.{choose, if_cases}
use Rattle.channel.specs.declared.Answer.TheVariants as Answer
use Rattle.channel.specs.declared.Table.{Table}
use Rattle.definition.specs.Calls.{Call}
use Rattle.definition.specs.Numbers.{answer_number}
use Rattle.definition.specs.Outcome.{Outcome}
use Rattle.definition.specs.Run.{State, out_window, job_window, outcome, after, made, run}
use Rattle.edge_layout.specs.declared.Decoded.{Decoded}
use Rattle.edge_layout.specs.Layout.{spell}
use Rattle.edge_layout.specs.Back.{Sized}
use Rattle.edge_layout.proofs.Back.{read_back}
use Rattle.isolation.specs.Statement.{is_down, over_after, sent, portioned, framed, Alike, same, exchanged, AlikeRuns, Marks, marks_of, Isolated, Handed}
use Rattle.isolation.proofs.Isolation.{isolation}
use Rattle.rules.specs.Run.{SettingFits, Fits, Reached, start, next}
use Rattle.rules.proofs.Rules.{never_1_nor_2}
use Rattle.edge.specs.Edge.{setting_of}
use Rattle.edge_sized.proofs.Sized.{after-sized, run-sized}
use Rattle.edge_runs.specs.Entries.{Entry, register_spsm, spsm, mtu, mps, peer_mtu, peer_mps, tally_sent, tally_received, tally_blocked_sends, tally_blocked_receives, attention, send_conn_param_update_req, send_conn_param_update_res, next_pending, accept_pending, reject_pending, reject_all_pending, drop_pending, create, opened, give_up, inc_ref, dec_ref, disconnect, disconnect_by_cid, disconnected, next_disconnect, signal, dispatch, send, start_job, give_portion, cancel_job, receive, own, call_of}
use Rattle.edge_runs.specs.Run.{EdgeState, state_of, Asked, call_in, edge_of, entered, BuffersApart, InOctets, AllInOctets, entries, signal_in, told}
use Rattle.edge_runs.specs.Lift.{spelled}
use Rattle.edge_runs.proofs.Lift.{number_is, entered-spelled, entries-spelled}
use Rattle.edge_runs.proofs.Start.{starting}
use Rattle.edge_runs.specs.Telling.{tellings}
use Rattle.edge_runs.proofs.Telling.{told-spelled}
use Rattle.edge_runs.specs.Statement.{over_at, AlikeEntries, IsolatedAt, Never1Nor2, Undistinguished, Demand3AtEntries}

-- ---- the table that a spelling says

pub state_back : (s : State) → Sized s.table → state_of (spelled s) ≡ s
state_back s w = ap (λ (d : Decoded). record { table = d.table; room = s.room; memory = s.memory }) (read_back s.table w)

-- ---- alike entries are alike calls

out_alike : {k j over : ℕ} {t : Table} {c d : Call} → Alike k j over t c d → out_window d ≡ out_window c
out_alike same = refl
out_alike (exchanged g (sent h e)) = refl
out_alike (exchanged g (portioned h e)) = refl
out_alike (exchanged g (framed e f)) = refl

job_alike : {k j over : ℕ} {t : Table} {c d : Call} → Alike k j over t c d → job_window d ≡ job_window c
job_alike same = refl
job_alike (exchanged g (sent h e)) = refl
job_alike (exchanged g (portioned h e)) = refl
job_alike (exchanged g (framed e f)) = refl

signal_alike : {k j over : ℕ} {t : Table} {c d : Call} → Alike k j over t c d → (xs : List ℕ) → signal_in d xs ≡ signal_in c xs
signal_alike same xs = refl
signal_alike (exchanged g (sent h e)) xs = refl
signal_alike (exchanged g (portioned h e)) xs = refl
signal_alike (exchanged g (framed e f)) xs = refl

apart_alike : (k j over : ℕ) (s : EdgeState) (es fs : List Asked) → AlikeEntries k j over s es fs → BuffersApart es → BuffersApart fs
apart_alike k j over s [] [] e h = tt
apart_alike k j over s [] (b ∷ fs) e h = absurd e
apart_alike k j over s (a ∷ es) [] e h = absurd e
apart_alike k j over s (a ∷ es) (b ∷ fs) e h = (rw (out_alike e.0.0, job_alike e.0.0) h.0, apart_alike k j (over_at k over (call_in a) (edge_of s a)) (entered s a) es fs e.1 h.1)

-- what is told hangs on the answers and on how much is lent
tellings_alike : (memory : List ℕ) (k j over : ℕ) (s : EdgeState) (es fs : List Asked) → AlikeEntries k j over s es fs → (os : List Outcome) (hs : List Handed) → tellings memory es os hs ≡ tellings memory fs os hs
unfolding tellings
tellings_alike memory k j over s [] [] e os hs = refl
tellings_alike memory k j over s [] (b ∷ fs) e os hs = absurd e
tellings_alike memory k j over s (a ∷ es) [] e os hs = absurd e
tellings_alike memory k j over s (a ∷ es) (b ∷ fs) e [] hs = refl
tellings_alike memory k j over s (a ∷ es) (b ∷ fs) e (o ∷ os) [] = refl
tellings_alike memory k j over s (a ∷ es) (b ∷ fs) e (o ∷ os) (x ∷ hs) = rw (out_alike e.0.0, signal_alike e.0.0 x.out, e.0.1, tellings_alike memory k j (over_at k over (call_in a) (edge_of s a)) (entered s a) es fs e.1 os hs) refl

pub over_is : (k over : ℕ) (s : State) (w : Sized s.table) (a : Asked) → over_at k over (call_in a) (edge_of (spelled s) a) ≡ over_after k over (outcome s (call_in a)) (call_in a)
unfolding over_after
over_is k over s w a = ap (λ (n : ℕ). choose (is_down k (call_in a) && eqb n 0) (suc over) over) (number_is s w a)

runs_alike : (k j over : ℕ) (s : State) → Sized s.table → (es fs : List Asked) → BuffersApart es → AlikeEntries k j over (spelled s) es fs → AlikeRuns k j over s (map call_in es) (map call_in fs)
runs_alike k j over s w [] [] h e = tt
runs_alike k j over s w [] (b ∷ fs) h e = e
runs_alike k j over s w (a ∷ es) [] h e = e
runs_alike k j over s w (a ∷ es) (b ∷ fs) h e = (
  subst (λ (t : Table). Alike k j over t (call_in a) (call_in b)) (ap (λ (x : State). x.table) (state_back s w)) e.0.0,
  runs_alike k j (over_after k over (outcome s (call_in a)) (call_in a)) (after s (call_in a)) (after-sized s (call_in a) w) es fs h.1
      (subst (λ (x : EdgeState). AlikeEntries k j (over_after k over (outcome s (call_in a)) (call_in a)) x es fs) (entered-spelled s w a h.0)
      (subst (λ (n : ℕ). AlikeEntries k j n (entered (spelled s) a) es fs) (over_is k over s w a) e.1)),
)

-- ---- "a setting above 65,535 is the default": no entry offers more credits than an account holds

setting_fits : (n : ℕ) → SettingFits (setting_of n)
unfolding setting_of
setting_fits n = if_cases SettingFits (ltb 65535 n) (λ _. tt) (λ e. let h = ltb-false 65535 n e in omega arith)

pub entry_fits : (e : Entry) → InOctets e → Fits (call_of e)
entry_fits (register_spsm number) h = tt
entry_fits (spsm slot) h = tt
entry_fits (mtu slot) h = tt
entry_fits (mps slot) h = tt
entry_fits (peer_mtu slot) h = tt
entry_fits (peer_mps slot) h = tt
entry_fits (tally_sent slot) h = tt
entry_fits (tally_received slot) h = tt
entry_fits (tally_blocked_sends slot) h = tt
entry_fits (tally_blocked_receives slot) h = tt
entry_fits attention h = tt
entry_fits (send_conn_param_update_req w link min max latency timeout) h = tt
entry_fits (send_conn_param_update_res w link result) h = tt
entry_fits (next_pending link up) h = tt
entry_fits (accept_pending w slot ourMtu ourMps kind value credits) h = setting_fits credits
entry_fits (reject_pending w slot result) h = tt
entry_fits (reject_all_pending w link) h = tt
entry_fits (drop_pending slot) h = tt
entry_fits (create w link number ourMtu ourMps kind value credits) h = setting_fits credits
entry_fits (opened slot link up) h = tt
entry_fits (give_up slot) h = tt
entry_fits (inc_ref slot) h = tt
entry_fits (dec_ref slot) h = tt
entry_fits (disconnect slot) h = tt
entry_fits (disconnect_by_cid cid) h = tt
entry_fits (disconnected link) h = tt
entry_fits (next_disconnect w) h = tt
entry_fits (signal w link listening central pdu) h = h
entry_fits (dispatch link cid payload) h = tt
entry_fits (send w slot sdu) h = tt
entry_fits (start_job w slot length) h = tt
entry_fits (give_portion w slot octets) h = tt
entry_fits (cancel_job slot) h = tt
entry_fits (receive w v slot) h = tt
entry_fits (own w octets) h = tt

-- ---- no entry of a run returns 1 or 2

never : (s : State) → Reached s → Sized s.table → (es : List Asked) → BuffersApart es → AllInOctets es → Never1Nor2 (told (spelled s) es)
unfolding told
never s r w [] h o = tt
never s r w (a ∷ es) h o =
    let c = call_in a in
    let p = never_1_nor_2 r c (entry_fits a.entry o.0) in
    let e : (edge_of (spelled s) a).number ≡ answer_number (outcome s c).answer = number_is s w a in (
      ((λ f. p.0 (sym e ∙ f)), (λ f. p.1 (sym e ∙ f))),
      subst (λ (x : EdgeState). Never1Nor2 (told x es)) (sym (entered-spelled s w a h.0)) (never (after s c) (next c r (entry_fits a.entry o.0)) (after-sized s c w) es h.1 o.1),
    )

-- ---- as far as any entry

map-take : (i : ℕ) (es : List Asked) → map call_in (take i es) ≡ take i (map call_in es)
map-take zero es = refl
map-take (suc i) [] = refl
map-take (suc i) (a ∷ es) = ap (λ (cs : List Call). call_in a ∷ cs) (map-take i es)

pub apart-take : (i : ℕ) (es : List Asked) → BuffersApart es → BuffersApart (take i es)
apart-take zero es h = tt
apart-take (suc i) [] h = tt
apart-take (suc i) (a ∷ es) h = (h.0, apart-take i es h.1)

-- what stands after i entries, from the states of the definition's runs
isolated_at : (k j : ℕ) (m : Marks) (s₁ s₂ : State) → Sized s₁.table → Sized s₂.table → Isolated k j m s₁ s₂ → IsolatedAt k j m (spelled s₁) (spelled s₂)
isolated_at k j m s₁ s₂ w₁ w₂ h = record { table = ap spell h.table; isolated = rw (state_back s₁ w₁, state_back s₂ w₂) h }

-- ---- the demand

module _ (k j : ℕ) (s₁ s₂ : State) (w₁ : Sized s₁.table) (w₂ : Sized s₂.table) (es fs : List Asked) (h₁ : BuffersApart es) (h₂ : BuffersApart fs) where
  states : (i : ℕ) → Isolated k j (marks_of k j s₁ (take i (map call_in es))) (run s₁ (take i (map call_in es))) (run s₂ (take i (map call_in fs)))
      → IsolatedAt k j (marks_of k j (state_of (spelled s₁)) (map call_in (take i es))) (entries (spelled s₁) (take i es)) (entries (spelled s₂) (take i fs))
  states i h =
      rw (state_back s₁ w₁, entries-spelled s₁ w₁ (take i es) (apart-take i es h₁), entries-spelled s₂ w₂ (take i fs) (apart-take i fs h₂), map-take i es, map-take i fs)
      (isolated_at k j _ _ _ (run-sized s₁ (take i (map call_in es)) w₁) (run-sized s₂ (take i (map call_in fs)) w₂) h)

pub isolation_at_entries : Demand3AtEntries
isolation_at_entries k j n d m table₁ table₂ answer₁ answer₂ room₁ room₂ memory es fs h₁ h₂ apart alike =
    let a = starting table₁ answer₁ room₁ n d m memory h₁ in
    let b = starting table₂ answer₂ room₂ n d m memory h₂ in
    let s₁ : State = made n d m room₁ memory in
    let s₂ : State = made n d m room₂ memory in
    let e : AlikeEntries k j 0 (spelled s₁) es fs = subst (λ (x : EdgeState). AlikeEntries k j 0 x es fs) a.is alike in
    let p = apart_alike k j 0 (spelled s₁) es fs e apart in
    let q = isolation k j n d m room₁ room₂ memory (map call_in es) (map call_in fs) a.number b.number (runs_alike k j 0 s₁ a.sized es fs apart e) in
    subst₂ (λ (x y : EdgeState). Undistinguished k j x y es fs) (sym a.is) (sym b.is)
    (record {
      tells = told-spelled k s₁ a.sized es apart memory refl
          ∙ ap₂ (λ (os : List Outcome) (hs : List Handed). tellings memory es os hs) q.0 q.1
          ∙ tellings_alike memory k j 0 (spelled s₁) es fs e _ _
          ∙ sym (told-spelled k s₂ b.sized fs p memory refl);
      never = λ o. never s₁ (start n d m room₁ memory a.answer) a.sized es apart o;
      leaves = λ i. states k j s₁ s₂ a.sized b.sized es fs apart p i (q.2 i);
    })
