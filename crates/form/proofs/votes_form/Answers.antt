use native.Mathlib.Omega.{arith}
use Rattle.rules.specs.Image.{vote_length, vote_bytes, vote_at}
use Rattle.form.proofs.Same.{flag_long, row_none, row_next, row_end, row_whole, next_within}
use Rattle.form.proofs.Parts.{vote_place}
use Rattle.form.proofs.votes_form.Goals as goal

pub loop-i-init : goal.loop-i-init
loop-i-init c = row_none (vote_bytes _) (vote_at _) (vote_length _) (flag_long (vote_place _)) _ _

pub loop-i-preserved : goal.loop-i-preserved
loop-i-preserved c = let h = next_within (vote_length c.args.c) c.loop-i.i c.args.n (omega arith) in row_next (vote_bytes _) (vote_at _) (vote_length _) (flag_long (vote_place _)) _ _ _ _ _ _ (omega arith) (omega arith) c.loop-i.invariant c.vote_form-fine.ensures

pub returns : goal.returns
returns c = row_whole _ _ _ _ c.requires.0 (row_end (vote_bytes _) (vote_at _) (vote_length _) (flag_long (vote_place _)) _ _ _ _ _ (omega arith) (omega arith) c.loop-i.invariant)
