-- `script_fields_config::is_config` meets its contract: by what the four calls say.
use Rattle.script_fields_config.proofs.is_config.Goals as goal

pub returns : goal.returns
returns c = rw (c.is_setting.ensures, c.is_setting-2.ensures, c.is_policy.ensures, c.is_setting-3.ensures)
