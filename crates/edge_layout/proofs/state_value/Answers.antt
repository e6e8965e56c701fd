-- `edge_layout::state_value` meets its contract: a result code's number is one octet (result_octet).
use Rattle.edge_layout.proofs.Rows.{result_octet}
use Rattle.edge_layout.proofs.state_value.Goals as goal

pub overflow_cast-result : goal.overflow_cast-result
overflow_cast-result c = record { fits = rw c.result_number.ensures (result_octet c.in-ConnectFailed.c) }
