use native.Mathlib.Omega.{arith}
use Rattle.rules.specs.Choice.{pick}
use Rattle.rules.specs.Read.{decoded}
use Rattle.wire.proofs.Reader.{fits, groups, read_as, in_bytes}
use borrow.Author.Tests.{not-true}
use Rattle.wire.proofs.read.Goals as goal

pub returns-then-not-sizes_fit : goal.returns-then-not-sizes_fit
unfolding decoded pick
returns-then-not-sizes_fit c = simp (← c.sizes_fit.ensures, not-true c.sizes_fit.result c.if-not-sizes_fit.true-raw)

pub parts_at-p-requires : goal.parts_at-p-requires
parts_at-p-requires c = groups c.args.n c.args.s c.sizes_fit.result c.sizes_fit.ensures c.if-not-sizes_fit.false-raw

pub numbers_at-requires : goal.numbers_at-requires
numbers_at-requires c = groups c.args.n c.args.s c.sizes_fit.result c.sizes_fit.ensures c.if-not-sizes_fit.false-raw

pub numbers_from-room-requires : goal.numbers_from-room-requires
numbers_from-room-requires c = (omega (arith, c.numbers_at.ensures), omega (arith, c.numbers_in-count.ensures))

pub entries_at-at-requires : goal.entries_at-at-requires
entries_at-at-requires c = groups c.args.n c.args.s c.sizes_fit.result c.sizes_fit.ensures c.if-not-sizes_fit.false-raw

pub message_wrong-v-requires : goal.message_wrong-v-requires
message_wrong-v-requires c = record { groups = groups c.args.n c.args.s c.sizes_fit.result c.sizes_fit.ensures c.if-not-sizes_fit.false-raw; near = omega (arith, c.entries_at-at.ensures.1); few = omega (arith, c.parts_at-p.ensures.1, c.min-seen.ensures); inside = in_bytes _ _ _ c.whole_in-whole.ensures }

pub length_for-end-requires : goal.length_for-end-requires
length_for-end-requires c = (groups c.args.n c.args.s c.sizes_fit.result c.sizes_fit.ensures c.if-not-sizes_fit.false-raw, c.parts_at-p.ensures.1)

pub returns : goal.returns
returns c = read_as c.args.s c.args.b.now c.args.n (fits c.args.n c.args.s c.sizes_fit.result c.sizes_fit.ensures c.if-not-sizes_fit.false-raw) c.parts_at-p.result c.parts_at-p.ensures.0 c.numbers_at.result c.numbers_in-count.result c.numbers_at.ensures.0 c.numbers_in-count.ensures.0 c.numbers_from-room.result c.numbers_from-room.ensures c.entries_at-at.result c.whole_in-whole.result c.min-seen.result c.length_for-end.result c.message_wrong-v.result c.case_with.result c.judged.result c.entries_at-at.ensures.0 c.whole_in-whole.ensures c.min-seen.ensures c.message_wrong-v.ensures c.length_for-end.ensures c.case_with.ensures c.judged.ensures
