-- `script_fields_config::config_of` meets its contract: by what the four calls say.
use Rattle.script_fields_config.proofs.config_of.Goals as goal

pub returns : goal.returns
returns c = rw (c.setting_of-a.ensures, c.setting_of-b.ensures, c.policy_of-p.ensures, c.setting_of-k.ensures)
