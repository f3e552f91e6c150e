use native.Mathlib.Omega.{arith}
use mathlib.Core.Path.{refl}
use native.Mathlib.Nat.{mul-le-mul_left}
use Rattle.rules.specs.Image.{note_length}
use Rattle.early.proofs.Noted.{note_within, move_law}
use Rattle.early.proofs.move_note.Goals as goal

pub move_down-requires : goal.move_down-requires
move_down-requires c = (omega (arith, mul-le-mul_left (note_length c.args.s) c.requires.2), omega (arith, note_within c.requires.0 _ c.requires.1))

pub returns : goal.returns
returns c = move_law c.requires.0 _ _ _ _ _ _ c.requires.1 c.requires.2 c.place-to.ensures.0 c.place-from.ensures.0 refl c.move_down.ensures
