use mathlib.Core.Path.{◌≡◌, ap}
use Rattle.rules.specs.Kind.{numbers_in}
use Rattle.kinds.specs.declared.Row.{Row}
use Rattle.kinds.proofs.Readings.{few_numbers}
use Rattle.kinds.proofs.numbers_in.Goals as goal

pub returns : goal.returns
returns c = let e : c.row_of.result.numbers ≡ numbers_in c.args.kind = ap (λ (r : Row). r.numbers) c.row_of.ensures in (e, rw e (few_numbers c.args.kind))
