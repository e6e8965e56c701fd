-- What the four words of a configuration say (docs/CHANRUN.md), with their test.
use Rattle.std.specs.Prelude.{Bool, ◌&&◌, List, ℕ}
use Rattle.channel.specs.declared.L2capChannelConfig.{L2capChannelConfig}
use Rattle.script_fields.specs.Fields.{is_setting, setting_of, is_policy, policy_of}

-- `mtu mps policy credits`
abbrev pub is_config : (mtu mps policy credits : List ℕ) → Bool
is_config mtu mps policy credits = is_setting mtu && is_setting mps && is_policy policy && is_setting credits

abbrev pub config_of : (mtu mps policy credits : List ℕ) → L2capChannelConfig
config_of mtu mps policy credits = record { mtu = setting_of mtu; mps = setting_of mps; policy = policy_of policy; credits = setting_of credits }
