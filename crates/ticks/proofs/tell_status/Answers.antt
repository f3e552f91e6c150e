use Rattle.places.proofs.Sections.{midway_laid}
use native.Mathlib.Omega.{arith}
use native.Mathlib.Nat.{mod-lt}
use Prim.Native.Nat.{◌%◌, ◌<◌}
use Rattle.handler.proofs.Sends.{sender, own_group}
use Rattle.ticks.proofs.Telling.{sized, status_room, status_told}
use Rattle.ticks.proofs.tell_status.Goals as goal

pub view_at-view-requires : goal.view_at-view-requires
view_at-view-requires c = (sized c.requires.0, omega (arith, c.get_group.ensures, own_group (midway_laid c.requires.0.midway) (sender c.requires.0.midway.holds), c.requires.0.own.group))

pub only-leader-requires : goal.only-leader-requires
only-leader-requires c = let h : 0 < c.args.shape.n = omega (arith, c.requires.0.midway.fits.least) in let m : c.view_at-view.result % c.args.shape.n < c.args.shape.n = mod-lt c.view_at-view.result h in omega (arith, c.requires.0.midway.fits.most)

pub tell-requires : goal.tell-requires
tell-requires c = status_room c.requires.0 _ _ c.requires.1

pub returns : goal.returns
returns c = status_told c.requires.0 _ _ _ _ _ _ _ _ _ _ c.get8.ensures c.get_group.ensures c.view_at-view.ensures c.only-leader.ensures c.get_sync.ensures c.headed-header.ensures c.tell.ensures
