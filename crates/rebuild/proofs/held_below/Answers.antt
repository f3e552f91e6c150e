use Prim.Native.Nat.{ℕ, ◌<◌, ◌≤◌}
use mathlib.Core.Path.{refl}
use native.Mathlib.Omega.{arith}
use Rattle.rebuild.specs.Tables.{votes_of}
use Rattle.ballots.proofs.Votes.{votes_long}
use Rattle.rebuild.proofs.Holders.{holders_start, holders_same, held_here, held_nowhere}
use Rattle.rebuild.proofs.held_below.Goals as goal

lt_le : (a b c : ℕ) → a < b → b ≤ c → a < c
lt_le a b c h k = omega arith

pub loop-r-init : goal.loop-r-init
loop-r-init c = holders_start c.args.count.top (votes_of c.args.votes) c.args.e

pub holds_at-requires : goal.holds_at-requires
holds_at-requires c = (c.requires.0, omega arith)

pub returns-then-holds_at : goal.returns-then-holds_at
returns-then-holds_at c = held_here _ _ c.args.e _ _ _ (votes_long _ _ _ _ c.requires.0.given.sent) c.loop-r-test.true c.requires.1 c.loop-r.invariant _ c.holds_at.ensures c.if-holds_at.true

pub loop-r-preserved : goal.loop-r-preserved
loop-r-preserved c = holders_same _ _ c.args.e _ 0 0 0 _ (votes_long _ _ _ _ c.requires.0.given.sent) (lt_le _ _ _ c.loop-r-test.true c.requires.1) c.loop-r.invariant _ c.holds_at.ensures c.if-holds_at.false refl

pub returns : goal.returns
returns c = held_nowhere _ _ c.args.e _ _ c.loop-r.auto.r-end c.loop-r-test.false c.loop-r.invariant
