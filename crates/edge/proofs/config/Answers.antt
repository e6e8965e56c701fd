-- `edge::config` meets its contract: each part is what its function ensures.
use Rattle.edge.proofs.config.Goals as goal

pub returns : goal.returns
returns c = rw (c.setting-credits.ensures, c.setting-mps.ensures, c.setting-mtu.ensures, c.policy-policy.ensures)
