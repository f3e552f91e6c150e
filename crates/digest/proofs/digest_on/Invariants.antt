use Rattle.std.proofs.Common.{◌≡◌, ◌^◌, ◌<◌, drop}
use Rattle.rules.specs.Digest.{digest_from}
use Rattle.digest.specs.Halves.{whole_of}
use Rattle.digest.proofs.digest_on.Given as goal

abbrev pub invariant-loop-byte : goal.invariant-loop-byte
invariant-loop-byte l = record { left : digest_from l.h l.bytes ≡ digest_from (whole_of l.sum) (drop l.byte-index l.bytes); low_fits : l.sum.low < 2 ^ 32 }
