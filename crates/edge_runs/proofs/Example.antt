-- The premises of demand 3 at the entries can be met by two runs that differ: the worked run of crate definition, as entries, whatever its job octets.
use Rattle.std.specs.Prelude.{◌≡◌, refl, true, List, [], ◌∷◌, map, ℕ, zero, suc, ◌<◌, ltb, replicate}
use Rattle.std.proofs.Common.{sym, ap, subst, subst₂, inl, inr, arith, lt-ltb, ltb-true}
use Rattle.lists.specs.Choose.{choose}
use Rattle.lists.specs.Both.{and_left, and_right}
use Rattle.lists.specs.Every.{every}
use Rattle.channel.specs.declared.Table.{Table}
use Rattle.definition.specs.Asking.{make}
use Rattle.definition.specs.Calls.{Call}
use Rattle.definition.specs.Example.{calls}
use Rattle.definition.specs.Run.{State, outcome, after, made}
use Rattle.edge_layout.specs.Back.{Sized}
use Rattle.isolation.specs.Statement.{over_after, Alike, AlikeRuns}
use Rattle.isolation.proofs.Example.{alike}
use Rattle.rules.specs.Run.{Octets}
use Rattle.edge.specs.Edge.{lifted, made_on, setting_of, policy_by}
use Rattle.edge_asking.specs.Asking.{make_edge}
use Rattle.edge_sized.proofs.Sized.{after-sized}
use Rattle.edge_runs.specs.Run.{EdgeState, Asked, call_in, entered, BuffersApart, AllInOctets}
use Rattle.edge_runs.specs.Lift.{spelled}
use Rattle.edge_runs.proofs.Lift.{entered-spelled}
use Rattle.edge_runs.proofs.Start.{starting}
use Rattle.edge_runs.specs.Statement.{AlikeEntries, Undistinguished}
use Rattle.edge_runs.proofs.Isolation.{state_back, over_is, isolation_at_entries}
use Rattle.edge_runs.specs.Example.{SameAnswers, begun, channel}

entries_alike : (k j over : ℕ) (s : State) → Sized s.table → (es fs : List Asked) → BuffersApart es → SameAnswers es fs → AlikeRuns k j over s (map call_in es) (map call_in fs)
    → AlikeEntries k j over (spelled s) es fs
entries_alike k j over s w [] [] h q e = tt
entries_alike k j over s w [] (b ∷ fs) h q e = e
entries_alike k j over s w (a ∷ es) [] h q e = e
entries_alike k j over s w (a ∷ es) (b ∷ fs) h q e = (
  (subst (λ (t : Table). Alike k j over t (call_in a) (call_in b)) (sym (ap (λ (x : State). x.table) (state_back s w))) e.0, q.0),
  subst (λ (n : ℕ). AlikeEntries k j n (entered (spelled s) a) es fs) (sym (over_is k over s w a))
      (subst (λ (x : EdgeState). AlikeEntries k j (over_after k over (outcome s (call_in a)) (call_in a)) x es fs) (sym (entered-spelled s w a h.0))
      (entries_alike k j (over_after k over (outcome s (call_in a)) (call_in a)) (after s (call_in a)) (after-sized s (call_in a) w) es fs h.1 q.1 e.1)),
)

are_calls : (id a b c x y e : ℕ) → map call_in (channel id a b c x y e) ≡ calls id a b c x y e
unfolding setting_of policy_by choose
are_calls id a b c x y e = refl

pub apart : (id a b c x y e : ℕ) → BuffersApart (channel id a b c x y e)
apart id a b c x y e =
    (inr (omega arith), (inr (omega arith), (inr (omega arith), (inr (omega arith), (inr (omega arith), (inr (omega arith), (inl (omega arith), (inr (omega arith), (inr (omega arith), (inr (omega arith), (inr (omega arith), (inr (omega arith), (inr (omega arith), tt)))))))))))))

octets_all : (xs : List ℕ) → every (λ x. ltb x 256) xs ≡ true → Octets xs
unfolding every
octets_all [] e k = omega arith
octets_all (x ∷ xs) e zero = ltb-true x 256 (and_left (ltb x 256) _ e)
octets_all (x ∷ xs) e (suc k) = octets_all xs (and_right (ltb x 256) _ e) k

-- its PDU is octets, if its identifier is one
request : (id : ℕ) → id < 256 → Octets (0x14 ∷ id ∷ 10 ∷ 0 ∷ 0x80 ∷ 0 ∷ 0x50 ∷ 0 ∷ 64 ∷ 0 ∷ 23 ∷ 0 ∷ 5 ∷ 0 ∷ [])
unfolding every
request id h = octets_all (0x14 ∷ id ∷ 10 ∷ 0 ∷ 0x80 ∷ 0 ∷ 0x50 ∷ 0 ∷ 64 ∷ 0 ∷ 23 ∷ 0 ∷ 5 ∷ 0 ∷ []) (rw (lt-ltb id 256 h))

pub octets : (id a b c x y e : ℕ) → id < 256 → AllInOctets (channel id a b c x y e)
octets id a b c x y e h = (tt, (request id h, (tt, (tt, (tt, (tt, (tt, (tt, (tt, (tt, (tt, (tt, (tt, tt)))))))))))))

-- Two makings over rooms and octets of any contents: both return 0.
pub made_well : (z : ℕ) → (make_edge (replicate 1312 z) [] (replicate 92 z) 2 1 29).number ≡ 0
unfolding made_on lifted make choose
made_well z = refl

-- Whatever the two jobs that came and the one that was sent, the runs are alike in life 0 of link 1: the theorem speaks of them.
pub both_alike : (id a b c x y e a' b' c' x' y' e' : ℕ) → AlikeEntries 1 0 0 (begun 5) (channel id a b c x y e) (channel id a' b' c' x' y' e')
both_alike id a b c x y e a' b' c' x' y' e' =
    let es = channel id a b c x y e in
    let fs = channel id a' b' c' x' y' e' in
    let s : State = made 2 1 29 (replicate 92 5) (replicate 30 9) in
    let p = starting (replicate 1312 5) [] (replicate 92 5) 2 1 29 (replicate 30 9) (made_well 5) in
    let runs : AlikeRuns 1 0 0 s (map call_in es) (map call_in fs) =
    subst₂ (λ (cs ds : List Call). AlikeRuns 1 0 0 s cs ds) (sym (are_calls id a b c x y e)) (sym (are_calls id a' b' c' x' y' e')) (alike id a b c x y e a' b' c' x' y' e') in
    subst (λ (x : EdgeState). AlikeEntries 1 0 0 x es fs) (sym p.is)
    (entries_alike 1 0 0 s p.sized es fs (apart id a b c x y e) (refl, (refl, (refl, (refl, (refl, (refl, (refl, (refl, (refl, (refl, (refl, (refl, (refl, tt))))))))))))) runs)

pub worked : (id a b c x y e a' b' c' x' y' e' : ℕ) → Undistinguished 1 0 (begun 5) (begun 6) (channel id a b c x y e) (channel id a' b' c' x' y' e')
worked id a b c x y e a' b' c' x' y' e' =
    isolation_at_entries 1 0 2 1 29 (replicate 1312 5) (replicate 1312 6) [] [] (replicate 92 5) (replicate 92 6) (replicate 30 9) (channel id a b c x y e) (channel id a' b' c' x' y' e')
    (made_well 5) (made_well 6) (apart id a b c x y e) (both_alike id a b c x y e a' b' c' x' y' e')
