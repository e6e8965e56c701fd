-- A signal, written (Core Vol 3 Part A 3.1 and 4; document 01): the PDU of its form's code and fields.
use Rattle.std.specs.Prelude.{◌≡◌, List, [], ◌∷◌, ℕ, ◌≤◌, ◌<◌, length, ltb, None, Option, Some}
use Rattle.std.proofs.lemmas.List.Edits.{sets}
use Rattle.std.proofs.Common.{lit≤, lt-ltb, le-ltb}
use Rattle.lists.specs.Choose.{choose}
pub use Rattle.signal_write_pdu.specs.Pdu.{octets_of, head_of, pdu_of}
use Rattle.codes.specs.Codes.{result_number}
use Rattle.signal_forms.specs.Limits.{signal_most}
use Rattle.signal_forms.specs.declared.Signal.{Signal}
use Rattle.signal_forms.specs.declared.Signal.TheVariants.{CommandRejectRes, DisconnectionReq, DisconnectionRes, ConnParamUpdateReq, ConnParamUpdateRes, LeCreditConnReq, LeCreditConnRes, LeCreditFlowInd}

-- each form's code, and its fields in Core's order
abbrev pub code_of : Signal → ℕ
code_of (CommandRejectRes f) = 0x01
code_of (DisconnectionReq f) = 0x06
code_of (DisconnectionRes f) = 0x07
code_of (ConnParamUpdateReq f) = 0x12
code_of (ConnParamUpdateRes f) = 0x13
code_of (LeCreditConnReq f) = 0x14
code_of (LeCreditConnRes f) = 0x15
code_of (LeCreditFlowInd f) = 0x16

abbrev pub fields_of : Signal → List ℕ
fields_of (CommandRejectRes f) = f.reason ∷ []
fields_of (DisconnectionReq f) = f.dcid ∷ f.scid ∷ []
fields_of (DisconnectionRes f) = f.dcid ∷ f.scid ∷ []
fields_of (ConnParamUpdateReq f) = f.min ∷ f.max ∷ f.latency ∷ f.timeout ∷ []
fields_of (ConnParamUpdateRes f) = f.result ∷ []
fields_of (LeCreditConnReq f) = f.spsm ∷ f.scid ∷ f.mtu ∷ f.mps ∷ f.credits ∷ []
fields_of (LeCreditConnRes f) = f.dcid ∷ f.mtu ∷ f.mps ∷ f.credits ∷ result_number f.result ∷ []
fields_of (LeCreditFlowInd f) = f.cid ∷ f.credits ∷ []

unfoldable pub encode_of : ℕ → Signal → List ℕ
encode_of id s = pdu_of (code_of s) id (fields_of s)

-- what is answered, and what the buffer l holds, once the octets x were to be written: a buffer under `signal_most` octets is refused
unfoldable pub written_of : List ℕ → List ℕ → Option ℕ
written_of l x = choose (ltb (length l) signal_most) None (Some (length x))

unfoldable pub out_of : List ℕ → List ℕ → List ℕ
out_of l x = choose (ltb (length l) signal_most) l (sets l 0 x)

pub record Writes (l x : List ℕ) (r : Option ℕ) (out : List ℕ) : Type 0 where
  pub answer : r ≡ written_of l x
  pub buffer : out ≡ out_of l x

-- no signal is longer
pub encode_short : (id : ℕ) (s : Signal) → length (encode_of id s) ≤ signal_most
unfolding encode_of
encode_short id (CommandRejectRes f) = lit≤ tt
encode_short id (DisconnectionReq f) = lit≤ tt
encode_short id (DisconnectionRes f) = lit≤ tt
encode_short id (ConnParamUpdateReq f) = lit≤ tt
encode_short id (ConnParamUpdateRes f) = lit≤ tt
encode_short id (LeCreditConnReq f) = lit≤ tt
encode_short id (LeCreditConnRes f) = lit≤ tt
encode_short id (LeCreditFlowInd f) = lit≤ tt

-- the two ways that a buffer is met
pub writes-none : {l x : List ℕ} → length l < signal_most → Writes l x None l
unfolding written_of out_of choose
writes-none {l} h = let e = lt-ltb (length l) signal_most h in record { answer = rw e; buffer = rw e }

pub writes_all : {l out : List ℕ} (id : ℕ) {s s' : Signal} → s ≡ s' → signal_most ≤ length l → out ≡ sets l 0 (encode_of id s')
    → Writes l (encode_of id s) (Some (length (encode_of id s'))) out
unfolding written_of out_of choose
writes_all {l} id e h p = let f = le-ltb (length l) signal_most h in record { answer = rw (e, f); buffer = rw (e, f) p }
