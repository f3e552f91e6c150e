use mathlib.Core.Path.{refl}
use mathlib.Core.List.{List, [], ◌∷◌, ◌++◌}
use Rattle.rules.specs.declared.Entry.{Entry}
use Rattle.entries.proofs.Table.{decoded, is_table, and_then}
use Rattle.places.proofs.Midway.{late_here, late_comes}
use Rattle.arrivals.proofs.add_late.Goals as goal

pub append-requires : goal.append-requires
append-requires c = let h = late_here c.requires.0 _ _ c.places_of-layout.ensures.late c.places_of-layout.ensures.notes in (is_table _ _ _ h, rw (decoded _ _ _ h) c.requires.1)

pub returns : goal.returns
returns c = let h = late_here c.requires.0 _ _ c.places_of-layout.ensures.late c.places_of-layout.ensures.notes in late_comes c.requires.0 _ _ _ (and_then _ _ _ h (λ (es : List Entry). es ++ (c.args.e ∷ [])) _ c.append.ensures) c.places_of-layout.ensures.late c.places_of-layout.ensures.notes refl
