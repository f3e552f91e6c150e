use mathlib.Core.Path.{◌∙◌}
use Rattle.rebuild.specs.declared.Votes.{Votes}
use Rattle.rebuild.proofs.Begun.{starts, prefixed}
use Rattle.rebuild.proofs.rebuild.Goals as goal

pub take_prefix-basis-requires : goal.take_prefix-basis-requires
take_prefix-basis-requires c = (c.index_votes-count.ensures.1.given, c.requires.1, c.index_votes-count.ensures.0 ∙ c.top_normal-top.ensures c.args.message.now)

pub add_all-requires : goal.add_all-requires
add_all-requires c = let v : Votes = record { shape = c.args.shape; state = c.args.state; message = c.args.message; cast = c.args.cast } in (starts v c.index_votes-count.result c.take_prefix-basis.result c.take_prefix-basis.ensures.0 _ c.index_votes-count.ensures.1 c.take_prefix-basis.ensures.1, prefixed v c.index_votes-count.result c.take_prefix-basis.result c.take_prefix-basis.ensures.0 _ c.take_prefix-basis.ensures.2)
