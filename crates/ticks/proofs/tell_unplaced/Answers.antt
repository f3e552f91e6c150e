use Prim.Native.Nat.{◌+◌}
use mathlib.Core.Path.{refl}
use Rattle.ticks.proofs.Telling.{unplaced_room, unplaced_told}
use Rattle.ticks.proofs.tell_unplaced.Goals as goal

pub tell-requires : goal.tell-requires
tell-requires c = unplaced_room c.requires.0 c.early_place-from.result (c.early_place-from.result + 24) 0 c.early_place-from.ensures.0 refl c.requires.1 _ c.requires.2

pub returns : goal.returns
returns c = unplaced_told c.requires.0 c.early_place-from.result (c.early_place-from.result + 24) 0 c.early_place-from.ensures.0 refl c.requires.1 _ _ _ _ _ c.headed.ensures c.log_digest-sum.ensures c.tell.ensures
