use Rattle.readers.proofs.Next.{few_groups, wrong_sizes, no_kind, cut_short, whole}
use borrow.Author.Rules.{rules}
use Rattle.readers.proofs.message_length.Goals as goal

pub returns-then-not-sizes_fit : goal.returns-then-not-sizes_fit
returns-then-not-sizes_fit c = wrong_sizes _ _ _ _ c.sizes_fit.ensures c.if-not-sizes_fit.true-raw

pub returns-then-not-known : goal.returns-then-not-known
returns-then-not-known c = no_kind _ _ _ _ c.look8-kind.ensures _ c.known.ensures c.if-not-known.true-raw

pub entries_at-requires : goal.entries_at-requires
entries_at-requires c = few_groups c.args.n c.args.s _ c.sizes_fit.ensures c.if-not-sizes_fit.false-raw

pub length_for-length-requires : goal.length_for-length-requires
length_for-length-requires c = (few_groups c.args.n c.args.s _ c.sizes_fit.ensures c.if-not-sizes_fit.false-raw, search rules)

pub returns-then-bytes-length : goal.returns-then-bytes-length
returns-then-bytes-length c = cut_short _ _ _ _ c.look8-kind.ensures _ _ _ c.entries_at.ensures.0 c.look32-count.ensures c.length_for-length.ensures c.if-bytes-length.true

pub returns : goal.returns
returns c = whole _ _ _ _ c.look8-kind.ensures _ _ _ c.entries_at.ensures.0 c.look32-count.ensures c.length_for-length.ensures _ _ c.sizes_fit.ensures c.if-not-sizes_fit.false-raw c.known.ensures c.if-not-known.false-raw c.if-bytes-length.false
