use Prim.Native.Nat.{◌^◌, ◌<◌}
use mathlib.Core.Path.{refl}
use Rattle.octets.proofs.Laws.{bytes_known}
use Rattle.votes.proofs.Came.{vote_place, kept}
use borrow.Author.Rules.{rules}
use Rattle.votes.proofs.keep_vote.Goals as goal

pub keep_vote-requires : goal.keep_vote-requires
keep_vote-requires c = let v : c.args.cast.view < 256 ^ 4 = c.requires.wide in let k = vote_place _ _ c.args.message.now c.args.cast.view c.args.cast c.requires (bytes_known c.args.message.now (λ i. (c.type_inv.message i).fits)) v _ c.come_to.ensures in (search rules, c.requires.given.sent.sender, k, search rules, search rules)

pub returns : goal.returns
returns c = let v : c.args.cast.view < 256 ^ 4 = c.requires.wide in kept _ _ c.args.message.now c.args.cast.view c.args.cast c.requires (bytes_known c.args.message.now (λ i. (c.type_inv.message i).fits)) v _ _ _ _ _ c.come_to.ensures refl c.get32-number.ensures refl c.keep_vote.ensures
