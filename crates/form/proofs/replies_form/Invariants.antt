use Prim.Native.Nat.{◌*◌}
use mathlib.Core.Path.{◌≡◌}
use Rattle.octets.specs.Bytes.{part, flat, items}
use Rattle.rules.specs.Choice.{same}
use Rattle.rules.specs.Image.{reply_length, reply_bytes, reply_at}
use Rattle.form.proofs.replies_form.Given as goal

abbrev pub invariant-loop-i : goal.invariant-loop-i
invariant-loop-i l = l.fine ≡ same (flat (reply_bytes l.c) (items (reply_at l.c l.b) (reply_length l.c) 0 l.i)) (part l.b 0 (reply_length l.c * l.i))
