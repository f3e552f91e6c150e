use Prim.Native.Nat.{◌+◌, ◌*◌, ◌-◌}
use mathlib.Core.Path.{◌≡◌, sym}
use native.Mathlib.Omega.{arith}
use lib.ListN.{length}
use Rattle.octets.proofs.Codecs.{length_items}
use Rattle.rules.specs.Image.{note_length}
use Rattle.rules.specs.Read.{entry_at}
use Rattle.early.specs.Listed.{indexed}
use Rattle.syncs.proofs.Home.{is_both, late_asked, notes_asked, taken_over}
use Rattle.syncs.proofs.sync_state.Goals as goal

pub settle-requires : goal.settle-requires
settle-requires c = let p = c.places_of-places in let q = c.requires in let m : p.result.notes - p.result.early ≡ 4 + 24 * c.args.shape.c + (4 + 24 * c.args.shape.c) = omega (arith, p.ensures.early, p.ensures.notes) in (is_both q.0 (indexed c.args.log) c.args.last q.2 p.result.early _ p.ensures.early m, late_asked q.0 (indexed c.args.log) c.args.last q.2 p.result.early _ p.ensures.early m q.4, q.1)

pub leave_notes-requires : goal.leave_notes-requires
leave_notes-requires c = let p = c.places_of-places in let q = c.requires in let m : p.result.notes - p.result.early ≡ 4 + 24 * c.args.shape.c + (4 + 24 * c.args.shape.c) = omega (arith, p.ensures.early, p.ensures.notes) in let w : p.result.votes - p.result.notes ≡ 4 + note_length c.args.shape.s * c.args.shape.c = omega (arith, p.ensures.notes, p.ensures.votes) in (notes_asked q.0 (indexed c.args.log) c.args.last q.2 p.result.early _ p.ensures.early m _ c.settle.ensures p.result.notes _ p.ensures.notes w, q.1)

pub returns : goal.returns
returns c = let p = c.places_of-places in let q = c.requires in let a = c.args in let m : p.result.notes - p.result.early ≡ 4 + 24 * a.shape.c + (4 + 24 * a.shape.c) = omega (arith, p.ensures.early, p.ensures.notes) in let w : p.result.votes - p.result.notes ≡ 4 + note_length a.shape.s * a.shape.c = omega (arith, p.ensures.notes, p.ensures.votes) in let z : length (indexed a.log) ≡ a.log.listed.count = length_items (entry_at a.log.bytes.now) 24 a.log.listed.at a.log.listed.count in taken_over q.0 (indexed a.log) a.last q.2 p.result.early _ p.ensures.early m _ c.settle.ensures p.result.notes _ p.ensures.notes w _ _ _ _ _ c.leave_notes.ensures (omega (arith, q.3)) p.ensures.log c.put_table.ensures c.put_sync.ensures (sym z)
