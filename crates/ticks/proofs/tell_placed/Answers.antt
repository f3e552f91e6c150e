use Prim.Native.Nat.{◌+◌}
use mathlib.Core.Path.{refl}
use Rattle.ticks.proofs.Telling.{placed_room, placed_told}
use Rattle.ticks.proofs.tell_placed.Goals as goal

pub tell-requires : goal.tell-requires
tell-requires c = placed_room c.requires.0 c.log_place-from.result (c.log_place-from.result + 24) c.args.n c.log_place-from.ensures.0 refl c.requires.1 _ _ c.requires.2

pub returns : goal.returns
returns c = placed_told c.requires.0 c.log_place-from.result (c.log_place-from.result + 24) c.args.n c.log_place-from.ensures.0 refl c.requires.1 _ _ _ _ _ _ c.headed.ensures c.tell.ensures
