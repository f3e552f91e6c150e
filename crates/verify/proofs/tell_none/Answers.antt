use mathlib.Core.Path.{◌≡◌, ◌∙◌}
use Rattle.octets.proofs.Laws.{bytes_known}
use Rattle.rules.specs.Group.{only}
use Rattle.handler.specs.Sending.{headed_in}
use Rattle.verify.proofs.Ways.{none_ends}
use Rattle.verify.proofs.tell_none.Goals as goal

pub returns : goal.returns
returns c = let a = c.args in let e : c.headed-h.result ≡ headed_in a.state.now 19 a.to_group (only a.to) = c.headed-h.ensures ∙ rw c.only-mask.ensures in let t = rw e at c.tell.ensures in (none_ends a.shape a.state.now _ _ c.requires.0 (bytes_known a.state.now (λ i. (c.type_inv.state i).fits)) t.0, t.1)
