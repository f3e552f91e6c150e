use borrow.Enum.Refused.{opened}
use mathlib.Core.Path.{sym, ap}
use native.Mathlib.Omega.{arith}
use lib.ListN.{length}
use Rattle.rules.specs.Kind.{kinds}
use Rattle.rules.specs.Wire.{answer_of}
use Rattle.wire.proofs.Rest.{upwards, no_answer}
use Rattle.wire.proofs.decode.answer_of.Goals as goal

pub returns-in-WrongSizes : goal.returns-in-WrongSizes
returns-in-WrongSizes c = (sym (ap answer_of c.in-WrongSizes.is), omega arith)

pub returns-in-Malformed : goal.returns-in-Malformed
returns-in-Malformed c = (sym (ap answer_of c.in-Malformed.is), omega arith)

pub returns-in_default : goal.returns-in_default
returns-in_default c = (no_answer c.args.m (upwards 2 (length kinds)) (opened c.in_default.in_default-own.keys3) tt tt, omega arith)
