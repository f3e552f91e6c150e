use mathlib.Core.Path.{◌≡◌}
use mathlib.Core.Bool.{false}
use Prim.Native.Nat.{◌≤◌, ◌<◌, ◌-◌, ◌+◌, ◌*◌}
use Rattle.repeats.specs.Rows.{key_of}
use Rattle.repeats.specs.Repeat.{seen_key, repeat_place}
use Rattle.repeats.proofs.nested.Given as goal

abbrev pub invariant-loop-j : goal.invariant-loop-j
invariant-loop-j l = (l.j ≤ l.i) × (l.i < l.m) × (l.low + l.high * 4294967296 ≡ key_of l.b l.sp l.i) × (seen_key (key_of l.b l.sp) (key_of l.b l.sp l.i) l.j ≡ false)

abbrev pub invariant-search : goal.invariant-search
invariant-search l = (l.i ≤ l.m) × (repeat_place (key_of l.b l.sp) l.i ≡ l.i)

abbrev pub decreases-search : goal.decreases-search
decreases-search l = l.m - l.i
