use mathlib.Core.Path.{refl}
use mathlib.Core.List.{List, ◌++◌}
use Prim.Native.Nat.{◌+◌}
use lib.ListN.{take, drop}
use Rattle.rules.specs.Entry.{place}
use Rattle.rules.specs.declared.Entry.{Entry}
use Rattle.entries.proofs.Table.{decoded, is_table, and_then}
use Rattle.places.proofs.Midway.{early_here, early_comes}
use Rattle.stamps.proofs.put_early.Goals as goal

pub places_of-layout-requires : goal.places_of-layout-requires
places_of-layout-requires c = c.requires.0.fits

pub lift-requires : goal.lift-requires
lift-requires c = let h = early_here c.requires.0 _ _ c.places_of-layout.ensures.early c.places_of-layout.ensures.late in (is_table _ _ _ h, rw (decoded _ _ _ h) c.requires.1, rw (decoded _ _ _ h) c.requires.2, rw (decoded _ _ _ h) c.requires.3)

pub returns : goal.returns
returns c = let h = early_here c.requires.0 _ _ c.places_of-layout.ensures.early c.places_of-layout.ensures.late in early_comes c.requires.0 _ _ _ (and_then _ _ _ h (λ (es : List Entry). place c.args.d (take c.args.i es ++ drop (c.args.i + 1) es)) _ c.lift.ensures) c.places_of-layout.ensures.early c.places_of-layout.ensures.late refl
