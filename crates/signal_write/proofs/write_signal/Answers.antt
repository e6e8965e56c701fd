-- `signal_write::write_signal` meets its contract: in each arm the stores are the run of the form's octets (writes_all).
use Rattle.signal_write.specs.Writer.{encode_of, writes-none, writes_all}
use Rattle.signal_write.proofs.write_signal.Goals as goal

pub returns-then-out-lt-SIGNAL_MOST : goal.returns-then-out-lt-SIGNAL_MOST
returns-then-out-lt-SIGNAL_MOST c = writes-none c.if-out-lt-SIGNAL_MOST.true

pub returns-in-CommandRejectRes : goal.returns-in-CommandRejectRes
unfolding encode_of
returns-in-CommandRejectRes c =
    writes_all c.args.id c.in-CommandRejectRes.is c.if-out-lt-SIGNAL_MOST.false c.put_one.ensures

pub returns-in-DisconnectionReq : goal.returns-in-DisconnectionReq
unfolding encode_of
returns-in-DisconnectionReq c =
    writes_all c.args.id c.in-DisconnectionReq.is c.if-out-lt-SIGNAL_MOST.false c.put_two.ensures

pub returns-in-DisconnectionRes : goal.returns-in-DisconnectionRes
unfolding encode_of
returns-in-DisconnectionRes c =
    writes_all c.args.id c.in-DisconnectionRes.is c.if-out-lt-SIGNAL_MOST.false c.put_two-in-DisconnectionRes.ensures

pub returns-in-ConnParamUpdateReq : goal.returns-in-ConnParamUpdateReq
unfolding encode_of
returns-in-ConnParamUpdateReq c =
    writes_all c.args.id c.in-ConnParamUpdateReq.is c.if-out-lt-SIGNAL_MOST.false c.put_four.ensures

pub returns-in-ConnParamUpdateRes : goal.returns-in-ConnParamUpdateRes
unfolding encode_of
returns-in-ConnParamUpdateRes c =
    writes_all c.args.id c.in-ConnParamUpdateRes.is c.if-out-lt-SIGNAL_MOST.false c.put_one-in-ConnParamUpdateRes.ensures

pub returns-in-LeCreditConnReq : goal.returns-in-LeCreditConnReq
unfolding encode_of
returns-in-LeCreditConnReq c =
    writes_all c.args.id c.in-LeCreditConnReq.is c.if-out-lt-SIGNAL_MOST.false c.put_five.ensures

pub returns-in-LeCreditConnRes : goal.returns-in-LeCreditConnRes
unfolding encode_of
returns-in-LeCreditConnRes c =
    writes_all c.args.id c.in-LeCreditConnRes.is c.if-out-lt-SIGNAL_MOST.false (rw c.result_number.ensures at c.put_five-in-LeCreditConnRes.ensures)

pub returns-in-LeCreditFlowInd : goal.returns-in-LeCreditFlowInd
unfolding encode_of
returns-in-LeCreditFlowInd c =
    writes_all c.args.id c.in-LeCreditFlowInd.is c.if-out-lt-SIGNAL_MOST.false c.put_two-in-LeCreditFlowInd.ensures
