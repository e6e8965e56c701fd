-- `on_rejects::refuse` meets its contract: the response is `reject_res`, and what was told is the end of `still`.
use Rattle.on_rejects.proofs.refuse.Goals as goal

pub returns : goal.returns
returns c t₀ room job = rw c.reject-res.ensures at (c.tell.ensures t₀ room job)
