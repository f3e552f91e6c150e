use borrow.Enum.Refused.{opened}
use mathlib.Core.Path.{sym, ap}
use mathlib.Core.List.{◌∷◌}
use lib.ListN.{length}
use Rattle.rules.specs.Kind.{kinds}
use Rattle.rules.specs.Wire.{offset_in}
use Rattle.wire.proofs.Rest.{upwards, no_offset}
use Rattle.wire.proofs.decode.offset_of.Goals as goal

pub returns-in-Malformed : goal.returns-in-Malformed
returns-in-Malformed c = sym (ap offset_in c.in-Malformed.is)

pub returns-in_default : goal.returns-in_default
returns-in_default c = no_offset c.args.m (0 ∷ upwards 2 (length kinds)) (opened c.in_default.in_default-own.keys2) tt
