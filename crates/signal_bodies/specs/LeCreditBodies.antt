-- The bodies of the signals of LE credit based connections, read: fields of two octets in Core's order, each form with its section of Core
-- Vol 3 Part A. A body whose length is not the form's is Decode.
use Rattle.std.specs.Prelude.{List, ℕ, length, eqb, None, Option, Some}
use Rattle.lists.specs.Choose.{choose}
use Rattle.octets.specs.Octets.{u16_at}
use Rattle.codes.specs.Codes.{result_of}
use Rattle.codes.specs.declared.LeCreditConnResultCode.{LeCreditConnResultCode}
use Rattle.signal_forms.specs.declared.LeCreditConnReq.{LeCreditConnReq}
use Rattle.signal_forms.specs.declared.LeCreditConnRes.{LeCreditConnRes}
use Rattle.signal_forms.specs.declared.LeCreditFlowInd.{LeCreditFlowInd}

-- 4.22: SPSM, source CID, MTU, MPS, initial credits
unfoldable pub le_credit_conn_req : List ℕ → Option LeCreditConnReq
le_credit_conn_req s =
    choose (eqb (length s) 10)
    (Some (record { spsm = u16_at s 0; scid = u16_at s 2; mtu = u16_at s 4; mps = u16_at s 6; credits = u16_at s 8 }))
    None

-- 4.23: destination CID, MTU, MPS, initial credits, result
abbrev pub res_if : Option LeCreditConnResultCode → List ℕ → Option LeCreditConnRes
res_if (Some c) s = Some (record { dcid = u16_at s 0; mtu = u16_at s 2; mps = u16_at s 4; credits = u16_at s 6; result = c })
res_if None s = None

unfoldable pub le_credit_conn_res : List ℕ → Option LeCreditConnRes
le_credit_conn_res s = choose (eqb (length s) 10) (res_if (result_of (u16_at s 8)) s) None

-- 4.24: CID, credits
unfoldable pub le_credit_flow_ind : List ℕ → Option LeCreditFlowInd
le_credit_flow_ind s = choose (eqb (length s) 4) (Some (record { cid = u16_at s 0; credits = u16_at s 2 })) None
