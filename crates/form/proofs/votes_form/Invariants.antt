use Prim.Native.Nat.{◌*◌}
use mathlib.Core.Path.{◌≡◌}
use Rattle.octets.specs.Bytes.{part, flat, items}
use Rattle.rules.specs.Choice.{same}
use Rattle.rules.specs.Image.{vote_length, vote_bytes, vote_at}
use Rattle.form.proofs.votes_form.Given as goal

abbrev pub invariant-loop-i : goal.invariant-loop-i
invariant-loop-i l = l.fine ≡ same (flat (vote_bytes l.c) (items (vote_at l.c l.b) (vote_length l.c) 0 l.i)) (part l.b 0 (vote_length l.c * l.i))
