-- A refused connect response (Core Vol 3 Part A 4.23; document 01: 'Refused responses carry zeros before the result').
use Rattle.codes.specs.declared.LeCreditConnResultCode.{LeCreditConnResultCode}
use Rattle.signal_forms.specs.declared.LeCreditConnRes.{LeCreditConnRes}

abbrev pub reject_res : LeCreditConnResultCode → LeCreditConnRes
reject_res code = record { dcid = 0; mtu = 0; mps = 0; credits = 0; result = code }
