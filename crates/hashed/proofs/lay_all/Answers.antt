use Rattle.std.proofs.Common.{arith}
use Rattle.std.proofs.lemmas.Option.{IfSome_then}
use Rattle.repeats.specs.Rows.{count_of, key_of}
use Rattle.hashed.proofs.Table.{holds_none, free_all}
use Rattle.hashed.proofs.lay_all.Goals as goal

pub lay-requires : goal.lay-requires
lay-requires c = (c.requires.0, omega arith, omega arith, omega arith, omega arith, holds_none (key_of c.args.b.now c.args.sp) (count_of c.args.sp) _)

pub returns : goal.returns
returns c = IfSome_then c.lay.result c.lay.ensures (λ r h. (h.1.placed (free_all _ _ c.fill.ensures.len (c.fill.ensures.after (λ y e. e))) h.0, h.1.whole))
