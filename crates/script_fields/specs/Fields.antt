-- What the words of a configuration say (docs/CHANRUN.md), each kind with its test.
use Rattle.std.specs.Prelude.{Bool, true, ◌&&◌, ◌||◌, List, ℕ, eqb, get_or, drop, None, Option, Some}
use Prim.Native.Char.{code}
use Rattle.lists.specs.Choose.{choose}
use Rattle.credit.specs.declared.CreditFlowPolicy.{CreditFlowPolicy}
use Rattle.credit.specs.declared.CreditFlowPolicy.TheVariants as CreditFlowPolicy
use Rattle.script_fields_plain.specs.PlainFields.{is_number, number_of, is_one}

-- a number, or "`-` is the default"
abbrev pub is_setting : List ℕ → Bool
is_setting w = is_one (code "-") w || is_number w

unfoldable pub setting_of : List ℕ → Option ℕ
setting_of w = choose (is_one (code "-") w) None (Some (number_of w))

-- "policy `eK` is Every(K), `mT` MinThreshold(T)"; the default is Every(1), as in the original
unfoldable pub is_policy : List ℕ → Bool
is_policy w = choose (is_one (code "-") w) true ((eqb (get_or w 0 0) (code "e") || eqb (get_or w 0 0) (code "m")) && is_number (drop 1 w))

unfoldable pub policy_of : List ℕ → CreditFlowPolicy
policy_of w =
    choose (is_one (code "-") w) (CreditFlowPolicy.Every 1)
    (choose (eqb (get_or w 0 0) (code "e")) (CreditFlowPolicy.Every (number_of (drop 1 w))) (CreditFlowPolicy.MinThreshold (number_of (drop 1 w))))
