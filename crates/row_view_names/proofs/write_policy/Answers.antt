-- `row_view_names::write_policy` meets its contract: in each arm what the match told is the definition's case.
use Rattle.row_view_names.specs.Names.{policy_text}
use Rattle.row_view_names.proofs.write_policy.Goals as goal

pub returns-in-Every : goal.returns-in-Every
unfolding policy_text
returns-in-Every c = rw c.in-Every.is c.write_named.ensures

pub returns-in-MinThreshold : goal.returns-in-MinThreshold
unfolding policy_text
returns-in-MinThreshold c = rw c.in-MinThreshold.is c.write_named-in-MinThreshold.ensures
