-- The tallies, at the octets: a run of entries is a run of the definition (`entries-state`), so what its rules say of the tallies holds of the octets (rules_tallies, Statement.antt).
use Rattle.std.specs.Prelude.{◌≡◌, refl, List, [], ◌∷◌, false, ℕ, ◌+◌, ◌%◌, ◌^◌, ◌<◌}
use Rattle.std.proofs.Common.{sym, ap, ◌∙◌, subst, zero-add}
use Rattle.channel.specs.declared.ChannelState.TheVariants.{Disconnected, Connecting, PeerConnecting}
use Rattle.channel.specs.declared.Tallies.{Tallies}
use Rattle.definition.specs.Table.{slot_at, no_tallies}
use Rattle.definition.specs.Run.{State, run}
use Rattle.rules.specs.Run.{AllFit}
use Rattle.rules.specs.Tests.{counting}
use Rattle.rules.specs.Sound.{Below}
use Rattle.rules.proofs.Rules.{no_tallies_elsewhere, free-uncounted, owner_uncounted, tallies_below}
use Rattle.rules_tallies.specs.Statement.{added, Unreset, Totals}
use Rattle.rules_tallies.proofs.Theorems.{every-run}
use Rattle.edge_runs.specs.Run.{EdgeState, state_of, Asked, entered, entries, BuffersApart, AllInOctets}
use Rattle.edge_runs.proofs.Isolation.{entry_fits}
use Rattle.edge_runs.specs.Rules.{ReachedAt, next, slot_in}
use Rattle.edge_runs.proofs.Rules.{reached, entered-state}
use Rattle.edge_runs.specs.Tallies.{calls_in}

-- ---- a slot that is neither Connected nor PeerDisconnecting has counted nothing: so a free one, and one that is given to a new owner. Each tally is below 2^64.

pub no_tallies_elsewhere_at : {s : EdgeState} → ReachedAt s → (i : ℕ) → i < (state_of s).table.n → counting (slot_in s i).state ≡ false → (slot_in s i).tallies ≡ no_tallies
no_tallies_elsewhere_at r = no_tallies_elsewhere (reached r)

pub free_uncounted_at : {s : EdgeState} → ReachedAt s → (i : ℕ) → i < (state_of s).table.n → (slot_in s i).state ≡ Disconnected → (slot_in s i).tallies ≡ no_tallies
free_uncounted_at r = free-uncounted (reached r)

pub owner_uncounted_at : {s : EdgeState} → ReachedAt s → (i : ℕ) → i < (state_of s).table.n → (id : ℕ)
    → ((slot_in s i).state ≡ Connecting id → (slot_in s i).tallies ≡ no_tallies) × ((slot_in s i).state ≡ PeerConnecting id → (slot_in s i).tallies ≡ no_tallies)
owner_uncounted_at r = owner_uncounted (reached r)

pub tallies_below_at : {s : EdgeState} → ReachedAt s → (i : ℕ) → i < (state_of s).table.n → Below (slot_in s i).tallies
tallies_below_at r = tallies_below (reached r)

all_fit : (es : List Asked) → AllInOctets es → AllFit (calls_in es)
all_fit [] o = tt
all_fit (a ∷ es) o = (entry_fits a.entry o.0, all_fit es o.1)

pub entries-state : {s : EdgeState} → ReachedAt s → (es : List Asked) → BuffersApart es → AllInOctets es → state_of (entries s es) ≡ run (state_of s) (calls_in es)
unfolding entries run
entries-state r [] a o = refl
entries-state {s = s} r (e ∷ es) a o = entries-state {s = entered s e} (next e r a.0 o.0) es a.1 o.1 ∙ ap (λ (x : State). run x (calls_in es)) (entered-state r e a.0 o.0)

module _ {s : EdgeState} (r : ReachedAt s) (es : List Asked) (a : BuffersApart es) (o : AllInOctets es) (i : ℕ) (h : i < (state_of s).table.n) (u : Unreset i (state_of s) (calls_in es)) where
  -- UNTIL A RESET: what stood before, and what the calls add, modulo 2^64
  pub totals_at : Totals (slot_in s i).tallies (added i (state_of s) (calls_in es)) (slot_in (entries s es) i).tallies
  totals_at =
      subst (λ (x : State). Totals (slot_in s i).tallies (added i (state_of s) (calls_in es)) (slot_at x.table i).tallies) (sym (entries-state r es a o))
      (every-run (state_of s) (reached r) (calls_in es) (all_fit es o) i h u)

  -- and where nothing was counted before, sent is the sum of the frames of the sends and starts that returned 0
  pub sent_is_the_sum_at : (slot_in s i).tallies ≡ no_tallies → (slot_in (entries s es) i).tallies.sends.frames ≡ (added i (state_of s) (calls_in es)).sends.frames % 2 ^ 64
  sent_is_the_sum_at e =
      totals_at.sent ∙ ap (λ (y : Tallies). (y.sends.frames + (added i (state_of s) (calls_in es)).sends.frames) % 2 ^ 64) e ∙ ap (λ (k : ℕ). k % 2 ^ 64) (zero-add _)
