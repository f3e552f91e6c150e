use Prim.Native.Nat.{ℕ}
use mathlib.Core.Path.{ap, ◌∙◌}
use native.Mathlib.Omega.{arith}
use Rattle.rules.specs.Read.{entry_at}
use Rattle.places.proofs.Logged.{log_room, log_at}
use Rattle.places.proofs.log_entry.Goals as goal

pub log_place-requires : goal.log_place-requires
log_place-requires c = (c.requires.0.fits, omega (arith, log_room _ _ c.requires.0, c.requires.1))

pub returns : goal.returns
returns c = c.entry_at.ensures ∙ ap (λ (a : ℕ). entry_at c.args.state.now a) c.log_place.ensures.0 ∙ log_at _ _ c.requires.0 _ c.requires.1
