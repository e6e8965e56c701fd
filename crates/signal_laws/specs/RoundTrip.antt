-- What is written decodes to what was meant, and a body that decodes is what is written of the result.
use Rattle.std.specs.Prelude.{◌≡◌, true, List, ℕ, ◌*◌, length, eqb, ltb, Option, None, Some, Result, Ok, Err}
use Rattle.std.proofs.Math.Path.{refl}
use Rattle.std.proofs.Common.{sym, subst, arith, eqb-true}
use Rattle.lists.specs.Choose.{choose, if_cases}
use Rattle.octets.specs.Octets.{u16_at}
use Rattle.octets.specs.Numbers.{le16_back}
use Rattle.codes.specs.Codes.{result_of, result_back, result_exact}
use Rattle.signal_bodies.specs.Bodies.{command_reject_res, disconnection_req, disconnection_res, conn_param_update_req, conn_param_update_res}
use Rattle.signal_bodies.specs.LeCreditBodies.{le_credit_conn_req, le_credit_conn_res, le_credit_flow_ind, res_if}
use Rattle.signal_read.specs.SignalRead.{from_body, signal_of}
use Rattle.codes.specs.declared.Refusal.{Refusal}
use Rattle.codes.specs.declared.Refusal.TheVariants.{Decode, NotSupported}
use Rattle.signal_forms.specs.declared.Signal.{Signal}
use Rattle.signal_forms.specs.declared.Signal.TheVariants.{CommandRejectRes, DisconnectionReq, DisconnectionRes, ConnParamUpdateReq, ConnParamUpdateRes, LeCreditConnReq, LeCreditConnRes, LeCreditFlowInd}
use Rattle.signal_write.specs.Writer.{octets_of, code_of, fields_of}
use Rattle.signal_laws.specs.Fields.{Below, fields_at, octets_back}
use Rattle.codes.specs.declared.LeCreditConnResultCode.{LeCreditConnResultCode}

-- what is written decodes to what was meant, in every form
pub round_trip : (s : Signal) → signal_of (code_of s) (octets_of (fields_of s)) ≡ Ok s
unfolding signal_of command_reject_res disconnection_req disconnection_res conn_param_update_req conn_param_update_res le_credit_conn_req le_credit_conn_res le_credit_flow_ind choose
round_trip (CommandRejectRes f) = simp le16_back
round_trip (DisconnectionReq f) = simp le16_back
round_trip (DisconnectionRes f) = simp le16_back
round_trip (ConnParamUpdateReq f) = simp le16_back
round_trip (ConnParamUpdateRes f) = simp le16_back
round_trip (LeCreditConnReq f) = simp le16_back
round_trip (LeCreditConnRes f) = simp (le16_back, result_back)
round_trip (LeCreditFlowInd f) = simp le16_back

-- The body that a form was read from, where it has no octet more than the form, is what is written of the form.
module _ (code : ℕ) (body : List ℕ) (o : Below 256 body) where
  abbrev Exact : Signal → Type 0
  Exact s = length body ≡ 2 * length (fields_of s) → (code_of s ≡ code) × (octets_of (fields_of s) ≡ body)

  -- what is shown of an answer: where it is a signal, the signal is exact
  abbrev Says : Signal → Result Signal Refusal → Type 0
  Says s r = r ≡ Ok s → Exact s

  none : (s : Signal) → Says s (Err Decode)
  none s e = let no : ◌≡◌ {A = ℕ} 0 1 = cc in absurd (omega arith)

  unknown : (s : Signal) → Says s (Err NotSupported)
  unknown s e = let no : ◌≡◌ {A = ℕ} 0 1 = cc in absurd (omega arith)

  one : (s t : Signal) (n : ℕ) → eqb code (code_of t) ≡ true → fields_of t ≡ fields_at n 0 body → length (fields_of t) ≡ n → Says s (Ok t)
  one s t n c f l e = let same : t ≡ s = cc in subst Exact same
      (λ k. (sym (eqb-true code (code_of t) c), rw f (octets_back n body (omega arith) o)))

  res : (s : Signal) → eqb code 0x15 ≡ true → (r : Option LeCreditConnResultCode) → result_of (u16_at body 8) ≡ r → Says s (from_body LeCreditConnRes (res_if r body))
  res s c (Some k) e = one s (LeCreditConnRes (record { dcid = u16_at body 0; mtu = u16_at body 2; mps = u16_at body 4; credits = u16_at body 6; result = k })) 5 c (rw (result_exact (u16_at body 8) k e)) refl
  res s c None e = none s

  pub exact : (s : Signal) → signal_of code body ≡ Ok s → length body ≡ 2 * length (fields_of s) → (code_of s ≡ code) × (octets_of (fields_of s) ≡ body)
  unfolding signal_of command_reject_res disconnection_req disconnection_res conn_param_update_req conn_param_update_res le_credit_conn_req le_credit_conn_res le_credit_flow_ind
  exact s =
      if_cases (Says s) (eqb code 0x01) (λ c. if_cases (λ r. Says s (from_body CommandRejectRes r)) (ltb (length body) 2) (λ _. none s) (λ _. one s (CommandRejectRes (record { reason = u16_at body 0 })) 1 c refl refl))
      (λ _. if_cases (Says s) (eqb code 0x06) (λ c. if_cases (λ r. Says s (from_body DisconnectionReq r)) (eqb (length body) 4) (λ _. one s (DisconnectionReq (record { dcid = u16_at body 0; scid = u16_at body 2 })) 2 c refl refl) (λ _. none s))
      (λ _. if_cases (Says s) (eqb code 0x07) (λ c. if_cases (λ r. Says s (from_body DisconnectionRes r)) (eqb (length body) 4) (λ _. one s (DisconnectionRes (record { dcid = u16_at body 0; scid = u16_at body 2 })) 2 c refl refl) (λ _. none s))
      (λ _. if_cases (Says s) (eqb code 0x12) (λ c. if_cases (λ r. Says s (from_body ConnParamUpdateReq r)) (eqb (length body) 8) (λ _. one s (ConnParamUpdateReq (record { min = u16_at body 0; max = u16_at body 2; latency = u16_at body 4; timeout = u16_at body 6 })) 4 c refl refl) (λ _. none s))
      (λ _. if_cases (Says s) (eqb code 0x13) (λ c. if_cases (λ r. Says s (from_body ConnParamUpdateRes r)) (eqb (length body) 2) (λ _. one s (ConnParamUpdateRes (record { result = u16_at body 0 })) 1 c refl refl) (λ _. none s))
      (λ _. if_cases (Says s) (eqb code 0x14) (λ c. if_cases (λ r. Says s (from_body LeCreditConnReq r)) (eqb (length body) 10) (λ _. one s (LeCreditConnReq (record { spsm = u16_at body 0; scid = u16_at body 2; mtu = u16_at body 4; mps = u16_at body 6; credits = u16_at body 8 })) 5 c refl refl) (λ _. none s))
      (λ _. if_cases (Says s) (eqb code 0x15) (λ c. if_cases (λ r. Says s (from_body LeCreditConnRes r)) (eqb (length body) 10) (λ _. res s c (result_of (u16_at body 8)) refl) (λ _. none s))
      (λ _. if_cases (Says s) (eqb code 0x16) (λ c. if_cases (λ r. Says s (from_body LeCreditFlowInd r)) (eqb (length body) 4) (λ _. one s (LeCreditFlowInd (record { cid = u16_at body 0; credits = u16_at body 2 })) 2 c refl refl) (λ _. none s))
      (λ _. unknown s))))))))
