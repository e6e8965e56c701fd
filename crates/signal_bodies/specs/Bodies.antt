-- The bodies of the signals, read, but those of LE credit based connections: fields of two octets in Core's order, each form with its section
-- of Core Vol 3 Part A. A body whose length is not the form's is Decode.
use Rattle.std.specs.Prelude.{List, ℕ, length, eqb, ltb, None, Option, Some}
use Rattle.lists.specs.Choose.{choose}
use Rattle.octets.specs.Octets.{u16_at}
use Rattle.signal_forms.specs.declared.CommandRejectRes.{CommandRejectRes}
use Rattle.signal_forms.specs.declared.ConnParamUpdateReq.{ConnParamUpdateReq}
use Rattle.signal_forms.specs.declared.ConnParamUpdateRes.{ConnParamUpdateRes}
use Rattle.signal_forms.specs.declared.DisconnectionReq.{DisconnectionReq}
use Rattle.signal_forms.specs.declared.DisconnectionRes.{DisconnectionRes}

-- 4.1: reason; longer bodies carry data
unfoldable pub command_reject_res : List ℕ → Option CommandRejectRes
command_reject_res s = choose (ltb (length s) 2) None (Some (record { reason = u16_at s 0 }))

-- 4.6: destination CID, source CID
unfoldable pub disconnection_req : List ℕ → Option DisconnectionReq
disconnection_req s = choose (eqb (length s) 4) (Some (record { dcid = u16_at s 0; scid = u16_at s 2 })) None

-- 4.7: destination CID, source CID
unfoldable pub disconnection_res : List ℕ → Option DisconnectionRes
disconnection_res s = choose (eqb (length s) 4) (Some (record { dcid = u16_at s 0; scid = u16_at s 2 })) None

-- 4.20: interval min, interval max, latency, timeout
unfoldable pub conn_param_update_req : List ℕ → Option ConnParamUpdateReq
conn_param_update_req s =
    choose (eqb (length s) 8)
    (Some (record { min = u16_at s 0; max = u16_at s 2; latency = u16_at s 4; timeout = u16_at s 6 }))
    None

-- 4.21: result
unfoldable pub conn_param_update_res : List ℕ → Option ConnParamUpdateRes
conn_param_update_res s = choose (eqb (length s) 2) (Some (record { result = u16_at s 0 })) None
