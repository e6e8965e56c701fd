-- Every call makes only steps of the few kinds (Step.antt): proofs/Every.antt has one lemma a call, its tests in the definition's order.
use Rattle.std.specs.Prelude.{◌≤◌, None, Option, Some}
use Rattle.channel.specs.Limits.{credits_most}
use Rattle.signal_forms.specs.declared.LeCreditConnReq.{LeCreditConnReq}
use Rattle.signal_forms.specs.declared.LeCreditConnRes.{LeCreditConnRes}

abbrev pub RequestGives : Option LeCreditConnReq → Type 0
RequestGives None = Unit {0}
RequestGives (Some req) = req.credits ≤ credits_most

abbrev pub ResponseGives : Option LeCreditConnRes → Type 0
ResponseGives None = Unit {0}
ResponseGives (Some res) = res.credits ≤ credits_most
