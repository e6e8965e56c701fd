-- What is job and what is public in a call (Calls.antt), checked against document 01's words: the octets of a frame are its length octets
-- and its job octets, and the call that `decide` sees stays the same whatever the job octets are, as long as there are as many.
use Rattle.std.specs.Prelude.{◌≡◌, Bool, ◌&&◌, not, List, [], ◌++◌, ℕ, ◌+◌, ◌-◌, leb, length, take, drop}
use Rattle.std.proofs.Math.Path.{refl, sym, ap}
use Rattle.std.proofs.Common.{ap₂, subst, ◌∙◌, arith, take-append-drop, le-leb, lt-ltb, ne_eqb, leb-true, ltb-true}
use Rattle.std.proofs.Math.Bool.{true, false}
use Rattle.std.proofs.lemmas.Bool.{false≢true, eqb-false, not-true}
use Rattle.std.proofs.Math.ListN.{length-drop}
use Rattle.lists.specs.Choose.{choose}
use Rattle.lists.specs.Both.{and_left, and_right}
use Rattle.channel.specs.Limits.{cid_base}
use Rattle.channel.specs.declared.Table.{Table}
use Rattle.definition.specs.Table.{slot_at, is_cid, slot_of}
use Rattle.definition.specs.Calls.{Window, frame, sends, portions, joining, head_of, jobs, bare}
use Rattle.definition.specs.Public.{Assembling}

-- `joining` says just that
pub assembling_joins : (t : Table) (cid : ℕ) → Assembling t cid → joining t cid ≡ true
assembling_joins t cid a =
    let e : slot_of cid ≡ a.slot = omega (arith, a.named) in
    ap₂ (λ (b c : Bool). b && c)
    (ap₂ (λ (b c : Bool). b && c) (le-leb cid_base cid (omega (arith, a.named))) (lt-ltb (slot_of cid) t.n (omega (arith, a.within))))
    (ap not (ne_eqb (slot_at t (slot_of cid)).assembly.want 0 (λ z. a.wants (subst (λ (s : ℕ). (slot_at t s).assembly.want ≡ 0) e z))))

pub joins_assembling : (t : Table) (cid : ℕ) → joining t cid ≡ true → Assembling t cid
joins_assembling t cid e =
    let c : is_cid t cid ≡ true = and_left (is_cid t cid) _ e in
    record {
      slot = slot_of cid;
      named = omega (arith, leb-true cid_base cid (and_left (leb cid_base cid) _ c));
      within = ltb-true _ _ (and_right (leb cid_base cid) _ c);
      wants = eqb-false _ _ (not-true _ (and_right (is_cid t cid) _ e));
    }

-- no octet of a frame is lost
whole : (b : Bool) (x : List ℕ) → choose b [] (take 2 x) ++ choose b x (drop 2 x) ≡ x
unfolding choose
whole true x = refl
whole false x = take-append-drop 2 x

pub frame-whole : (t : Table) (link cid : ℕ) (x : List ℕ) → head_of t cid x ++ jobs t (frame link cid x) ≡ x
unfolding jobs
frame-whole t link cid x = whole (joining t cid) x

module _ (t : Table) where
  -- ---- a frame with other job octets

  heads : (b : Bool) (x y : List ℕ) → (b ≡ false → take 2 x ≡ take 2 y) → ◌≡◌ {A = List ℕ} (choose b [] (take 2 x)) (choose b [] (take 2 y))
  unfolding choose
  heads true x y e = refl
  heads false x y e = e refl

  counts : (b : Bool) (x y : List ℕ) → length x ≡ length y → length (choose b x (drop 2 x)) ≡ length (choose b y (drop 2 y))
  unfolding choose
  counts true x y e = e
  counts false x y e = length-drop 2 x ∙ ap (λ (n : ℕ). n - 2) e ∙ sym (length-drop 2 y)

  pub framed-bare : (link cid : ℕ) (x y : List ℕ) → (¬ Assembling t cid → take 2 x ≡ take 2 y) → bare t (frame link cid x) ≡ bare t (frame link cid y)
  unfolding bare
  framed-bare link cid x y e =
      ap (frame link cid) (heads (joining t cid) x y (λ f. e (λ a. absurd (false≢true (sym f ∙ assembling_joins t cid a)))))

  pub framed-count : (link cid : ℕ) (x y : List ℕ) → length x ≡ length y → length (jobs t (frame link cid x)) ≡ length (jobs t (frame link cid y))
  unfolding jobs
  framed-count link cid x y e = counts (joining t cid) x y e

  -- ---- a send of another SDU

  pub sent-bare : (s : ℕ) (x y : List ℕ) (out : Window) → bare t (sends s x out) ≡ bare t (sends s y out)
  unfolding bare
  sent-bare s x y out = refl

  pub sent-count : (s : ℕ) (x y : List ℕ) (out : Window) → length x ≡ length y → length (jobs t (sends s x out)) ≡ length (jobs t (sends s y out))
  unfolding jobs
  sent-count s x y out e = e

  -- ---- a portion of other octets

  pub portioned-bare : (s : ℕ) (x y : List ℕ) (out : Window) → bare t (portions s x out) ≡ bare t (portions s y out)
  unfolding bare
  portioned-bare s x y out = refl

  pub portioned-count : (s : ℕ) (x y : List ℕ) (out : Window) → length x ≡ length y → length (jobs t (portions s x out)) ≡ length (jobs t (portions s y out))
  unfolding jobs
  portioned-count s x y out e = e
