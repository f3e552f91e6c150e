use native.Mathlib.Omega.{arith}
use Rattle.early.proofs.Noted.{note_within, note_looked}
use Rattle.early.proofs.note_listed.Goals as goal

pub get32-requires : goal.get32-requires
get32-requires c = omega (arith, note_within c.requires.0 _ c.requires.1)

pub get16-requires : goal.get16-requires
get16-requires c = omega (arith, note_within c.requires.0 _ c.requires.1)

pub returns : goal.returns
returns c = note_looked c.requires.0 _ _ _ _ _ _ c.requires.1 c.place-at.ensures.0 c.get32.ensures c.get16.ensures c.is_listed.ensures
