use native.Mathlib.Omega.{arith}
use Rattle.octets.proofs.Laws.{bytes_known}
use Rattle.writer.proofs.Writer.{message_put, message_end}
use Rattle.writer.proofs.put_message.Goals as goal

-- LEFT part-put-numbers-end : slice-bounds-put-numbers-end
-- room_said c.before.before.before.before.before.before.before.before.before.before.before.before.before.before.before.before.before.before.before.before.before.before.before.args.m _ c.before.before.before.before.before.before.before.before.before.before.before.before.before.before.before.before.before.before.before.said_of.ensures.0

pub overflow_add-last-3 : goal.overflow_add-last-3
overflow_add-last-3 c = omega (arith, c.requires.room, c.said_of-said.ensures.1, c.well_formed)

pub overflow_add-result : goal.overflow_add-result
overflow_add-result c = omega (arith, c.requires.room, c.said_of-said.ensures.1, c.well_formed)

pub overflow_add-result-2 : goal.overflow_add-result-2
overflow_add-result-2 c = omega (arith, c.requires.room, c.said_of-said.ensures.1, c.well_formed)

pub returns : goal.returns
returns c = (message_end c.args.m c.args.views.now c.args.entries.now c.args.at _ c.requires c.said_of-said.result c.said_of-said.ensures.0 (bytes_known c.args.views.now (λ i. (c.type_inv.views i).fits)) (bytes_known c.args.entries.now (λ i. (c.type_inv.entries i).fits)), message_put c.args.m c.args.views.now c.args.entries.now c.args.at _ c.requires c.said_of-said.result c.said_of-said.ensures.0 (bytes_known c.args.views.now (λ i. (c.type_inv.views i).fits)) (bytes_known c.args.entries.now (λ i. (c.type_inv.entries i).fits)) _ _ _ _ _ _ _ c.put_header.ensures c.put32.ensures c.copy_in.ensures c.put32-2.ensures c.put_numbers.ensures c.put32-3.ensures c.copy_in-2.ensures)
