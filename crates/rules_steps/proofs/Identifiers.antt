-- An identifier is used up exactly where the table of Told.antt says so. Carried by that table (Telling.antt) and by no row being in both of its parts.
use Rattle.std.specs.Prelude.{◌≡◌, refl, List, [], ◌∷◌, ℕ, ◌+◌, eqb, length}
use Rattle.std.proofs.Common.{sym, ap, ◌∙◌, subst, arith, eqb-true}
use Rattle.std.proofs.lemmas.Bool.{false≢true}
use Rattle.lists.specs.Choose.{choose, if_cases}
use Rattle.signal_forms.specs.declared.Signal.{Signal}
use Rattle.channel.specs.Limits.{identifier_most}
use Rattle.channel.specs.declared.Answer.{Answer}
use Rattle.channel.specs.declared.ChannelState.TheVariants.{PeerDisconnecting}
use Rattle.channel.specs.declared.Table.{Table}
use Rattle.definition.specs.Mem.{Fill}
use Rattle.definition.specs.Table.{slot_at, is_disconnecting, spent}
use Rattle.definition.specs.Calls.{Call, Request}
use Rattle.rules_steps.specs.Told.{Asks, disconnect, Replies, disconnected, speaks, Uses, request, refused_12, refused_13, Keeps, reply, silent, Told, uses, keeps, IdentifiersUsed, connect, credits, parameters, begin-out, own}
use Rattle.rules_steps.proofs.Telling.{every_call_tells}
use Rattle.rules_steps.specs.Identifiers.{due_at}

-- ---- no request is a reply: the one call that writes either, of one slot in one state

asks_replies : {t : Table} {r : Request} {a b : Answer} {id : ℕ} {s u : Signal} → a ≡ b → Asks t r a s → Replies t r b id u → ⊥
asks_replies e connect x = elim x [ ]
asks_replies e (credits _ _) x = elim x [ ]
asks_replies e parameters x = elim x [ ]
asks_replies {t} e (disconnect {s = i} p) (disconnected {s = j} {id = id} q) =
    let same : i ≡ j = ap due_at e in
    false≢true (sym (ap is_disconnecting (subst (λ (k : ℕ). (slot_at t k).state ≡ PeerDisconnecting id) (sym same) q)) ∙ ap is_disconnecting p)

-- ---- and no row is in both parts

some≢none : {f : Fill} {fs : List Fill} → f ∷ fs ≡ [] → ⊥
some≢none e = let z = ap length e in omega arith

apart : {t : Table} {c : Call} {a b : Answer} {x y : List Fill} → a ≡ b → x ≡ y → Uses t c a x → Keeps t c b y → ⊥
apart e o (request p) (reply q) = asks_replies e p q
apart e o (request p) (silent q) = some≢none o
apart e o (request p) begin-out = elim p [ ]
apart e o (request p) own = elim p [ ]
apart e o refused_12 (reply q) = elim q [ ]
apart e o refused_13 (reply q) = elim q [ ]
apart e o refused_12 (silent {r = r} q) = false≢true (sym q ∙ sym (ap (speaks r) e))
apart e o refused_13 (silent {r = r} q) = false≢true (sym q ∙ sym (ap (speaks r) e))

-- ---- the next identifier is another one

moves : (t : Table) → (spent t).identifier ≡ t.identifier → ⊥
moves t =
    if_cases (λ n. choose (eqb n identifier_most) 1 (n + 1) ≡ t.identifier → ⊥) _
    (λ e. if_cases (λ n. n ≡ t.identifier → ⊥) _ (λ _ z. let o = eqb-true t.identifier 0 e in omega arith) (λ _ z. let o = eqb-true t.identifier 0 e in omega arith))
    (λ _. if_cases (λ n. n ≡ t.identifier → ⊥) _ (λ e z. let o = eqb-true t.identifier identifier_most e in omega arith) (λ _ z. omega arith))

exactly : {t : Table} {c : Call} {a : Answer} {n : ℕ} {out : List Fill} → Told t c a n out → (Uses t c a out → n ≡ (spent t).identifier) × ((¬ Uses t c a out → n ≡ t.identifier) × (¬ (n ≡ t.identifier) → Uses t c a out))
exactly (uses u) = ((λ _. refl), ((λ no. absurd (no u)), (λ _. u)))
exactly (keeps k) = ((λ u. absurd (apart refl refl u k)), ((λ _. refl), (λ no. absurd (no refl))))

pub identifiers_used : IdentifiersUsed
identifiers_used t fit c count room out job =
    let e = exactly (every_call_tells t fit c count room out job) in
    record { used = e.0; kept = e.1.0; moved = e.1.1; differ = moves t }
