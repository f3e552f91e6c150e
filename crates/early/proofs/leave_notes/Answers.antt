use mathlib.Core.Path.{refl, subst, ◌∙◌}
use mathlib.Core.List.{List}
use native.Mathlib.Omega.{arith}
use Rattle.rules.specs.State.{Note}
use Rattle.notes.specs.Notes.{NotesHold}
use Rattle.early.proofs.Sifting.{sift_start, sift_end}
use Rattle.early.proofs.Noted.{notes_turn}
use borrow.Author.Rules.{rules}
use Rattle.early.proofs.leave_notes.Goals as goal

pub count-n-requires : goal.count-n-requires
count-n-requires c = omega (arith, c.requires.0.size)

pub loop-i-init : goal.loop-i-init
loop-i-init c = (c.count-n.ensures ∙ c.requires.0.count, refl, c.requires.0, sift_start _ _)

pub sift_note-kept-requires : goal.sift_note-kept-requires
sift_note-kept-requires c = (c.loop-i.invariant.2, omega (arith, c.loop-i.invariant.3.long), c.loop-i.invariant.3.within, c.requires.1)

pub loop-i-preserved : goal.loop-i-preserved
loop-i-preserved c = let l = c.loop-i in let k = c.sift_note-kept.ensures in let w = notes_turn _ _ l.i l.kept _ _ _ _ _ l.invariant.3 (omega arith) k.0 k.1 in (l.invariant.0, search rules, w.0, w.1)

pub truncate_notes-requires : goal.truncate_notes-requires
truncate_notes-requires c = (c.loop-i.invariant.2, omega (arith, c.loop-i.invariant.3.long, c.loop-i.invariant.3.within))

pub returns : goal.returns
returns c = let l = c.loop-i in subst (λ (ds : List Note). NotesHold c.args.c c.args.s ds c.truncate_notes.new.t) (sift_end _ _ l.i l.kept _ l.invariant.3 (omega arith)) c.truncate_notes.ensures
