-- Any signal, read: its body by its code (Core Vol 3 Part A 4).
use Rattle.std.specs.Prelude.{List, ℕ, eqb, Option, None, Some, Result, Ok, Err}
use Rattle.lists.specs.Choose.{choose}
use Rattle.signal_bodies.specs.Bodies.{command_reject_res, disconnection_req, disconnection_res, conn_param_update_req, conn_param_update_res}
use Rattle.signal_bodies.specs.LeCreditBodies.{le_credit_conn_req, le_credit_conn_res, le_credit_flow_ind}
use Rattle.codes.specs.declared.Refusal.{Refusal}
use Rattle.codes.specs.declared.Refusal.TheVariants.{Decode, NotSupported}
use Rattle.signal_forms.specs.declared.Signal.{Signal}
use Rattle.signal_forms.specs.declared.Signal.TheVariants as Signal

-- a body that was read, as its signal; a bad one is Decode
abbrev pub from_body : {A : Type 0} → (A → Signal) → Option A → Result Signal Refusal
from_body form None = Err Decode
from_body form (Some f) = Ok (form f)

-- a body by its code
unfoldable pub signal_of : ℕ → List ℕ → Result Signal Refusal
signal_of code s =
    choose (eqb code 0x01) (from_body Signal.CommandRejectRes (command_reject_res s))
    (choose (eqb code 0x06) (from_body Signal.DisconnectionReq (disconnection_req s))
    (choose (eqb code 0x07) (from_body Signal.DisconnectionRes (disconnection_res s))
    (choose (eqb code 0x12) (from_body Signal.ConnParamUpdateReq (conn_param_update_req s))
    (choose (eqb code 0x13) (from_body Signal.ConnParamUpdateRes (conn_param_update_res s))
    (choose (eqb code 0x14) (from_body Signal.LeCreditConnReq (le_credit_conn_req s))
    (choose (eqb code 0x15) (from_body Signal.LeCreditConnRes (le_credit_conn_res s))
    (choose (eqb code 0x16) (from_body Signal.LeCreditFlowInd (le_credit_flow_ind s))
    (Err NotSupported))))))))
