use Prim.Native.Nat.{◌+◌}
use mathlib.Core.Path.{refl}
use Rattle.releases.proofs.LogBytes.{digest_runs}
use Rattle.releases.proofs.Next.{went}
use Rattle.releases.proofs.release_one.Goals as goal

pub returns : goal.returns
returns c = let w = went c.args.state.now _ _ c.early_entry-e.ensures c.log_takes.ensures in let p = c.log_place-at.result in (w, digest_runs c.requires.0 _ p (p + 24) _ _ _ w c.requires.1 c.requires.4 c.log_place-at.ensures.0 refl c.digest_on.ensures)
