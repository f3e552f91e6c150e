use native.Mathlib.Omega.{arith}
use Rattle.rules.specs.Image.{reply_length, reply_bytes, reply_at}
use Rattle.form.proofs.Same.{flag_long, row_none, row_next, row_end, row_whole, next_within}
use Rattle.form.proofs.Parts.{reply_place}
use Rattle.form.proofs.replies_form.Goals as goal

pub loop-i-init : goal.loop-i-init
loop-i-init c = row_none (reply_bytes _) (reply_at _) (reply_length _) (flag_long (reply_place _)) _ _

pub loop-i-preserved : goal.loop-i-preserved
loop-i-preserved c = let h = next_within (reply_length c.args.c) c.loop-i.i c.args.s (omega arith) in row_next (reply_bytes _) (reply_at _) (reply_length _) (flag_long (reply_place _)) _ _ _ _ _ _ (omega arith) (omega arith) c.loop-i.invariant c.reply_form-fine.ensures

pub returns : goal.returns
returns c = row_whole _ _ _ _ c.requires.0 (row_end (reply_bytes _) (reply_at _) (reply_length _) (flag_long (reply_place _)) _ _ _ _ _ (omega arith) (omega arith) c.loop-i.invariant)
