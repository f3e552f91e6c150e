use Rattle.std.proofs.Common.{◌^◌, refl}
use Rattle.digest.proofs.Laws.{plus, plus_one}
use Rattle.digest.proofs.half_times_435.Goals as goal

pub returns : goal.returns
returns c = let x = c.args.x in plus_one (2 ^ 32) x 434 _ _ (plus (2 ^ 32) x 432 2 _ _ (plus (2 ^ 32) x 416 16 _ _ (plus (2 ^ 32) x 384 32 _ _ (plus (2 ^ 32) x 256 128 _ _ refl c.wrapping_add_u32-r.ensures.value) c.wrapping_add_u32-r-2.ensures.value) c.wrapping_add_u32-r-3.ensures.value) c.wrapping_add_u32-r-4.ensures.value) c.wrapping_add_u32.ensures.value
