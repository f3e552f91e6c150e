use borrow.Author.Tests.{not-false}
use Prim.Native.Nat.{ℕ, ◌≤◌, ◌<◌}
use mathlib.Core.Path.{◌≡◌, ◌∙◌}
use mathlib.Core.Option.{none}
use native.Mathlib.Omega.{arith}
use lib.ListN.{get_or}
use Rattle.entries.proofs.Table.{is_table, row_read}
use Rattle.ballots.specs.Ballots.{vote_of}
use Rattle.rebuild.specs.Tables.{votes_of}
use Rattle.rebuild.proofs.Holders.{counts_some}
use Rattle.rebuild.proofs.Added.{sorted_on, as_new, log_start, log_turn, log_stop, log_end, from_passed, from_stopped, from_added}
use Rattle.rebuild.proofs.add_from.Goals as goal

below : (i m n : ℕ) → i < m → m ≡ n → i < n
below i m n h e = omega arith

ended : (i m n : ℕ) → m ≤ i → m ≡ n → n ≤ i
ended i m n h e = omega arith

pub counted-requires : goal.counted-requires
counted-requires c = (c.requires.0.counted.given, c.requires.1)

pub returns-then-not-counted : goal.returns-then-not-counted
returns-then-not-counted c = from_passed _ _ _ _ _ c.counted.ensures _ _ c.requires.2 c.if-not-counted.true-raw

pub log_of-log-requires : goal.log_of-log-requires
log_of-log-requires c = (c.requires.0.counted.given, c.requires.1, counts_some _ (get_or (votes_of c.args.votes) c.args.r none) _ c.counted.ensures (not-false _ c.if-not-counted.false-raw))

pub loop-i-init : goal.loop-i-init
loop-i-init c = (c.count-number.ensures ∙ c.log_of-log.ensures.count, log_start _ _ _ (vote_of (get_or (votes_of c.args.votes) c.args.r none)).log _ c.requires.2)

pub is_new-new-requires : goal.is_new-new-requires
is_new-new-requires c = (c.requires.0, c.requires.1)

pub add_entry-requires : goal.add_entry-requires
add_entry-requires c = (is_table _ _ _ c.loop-i.invariant.1, sorted_on _ _ _ _ c.requires.3 c.loop-i.invariant.1)

pub returns-then-not-add_entry : goal.returns-then-not-add_entry
returns-then-not-add_entry c = from_stopped _ _ _ _ _ c.counted.ensures _ _ _ c.if-not-counted.false-raw (log_stop _ _ _ _ _ _ _ _ c.loop-i.invariant.1 (below _ _ _ c.loop-i-test.true c.loop-i.invariant.0) (c.entry_at-e.ensures ∙ row_read _ _ c.log_of-log.ensures.rows _ (below _ _ _ c.loop-i-test.true c.loop-i.invariant.0)) c.add_entry.result (as_new _ _ _ _ _ _ c.is_new-new.ensures c.add_entry.ensures) c.if-not-add_entry.true-raw)

pub loop-i-preserved : goal.loop-i-preserved
loop-i-preserved c = (c.loop-i.invariant.0, log_turn _ _ _ _ _ _ _ _ c.loop-i.invariant.1 (below _ _ _ c.loop-i-test.true c.loop-i.invariant.0) (c.entry_at-e.ensures ∙ row_read _ _ c.log_of-log.ensures.rows _ (below _ _ _ c.loop-i-test.true c.loop-i.invariant.0)) c.add_entry.result (as_new _ _ _ _ _ _ c.is_new-new.ensures c.add_entry.ensures) c.if-not-add_entry.false-raw)

pub returns : goal.returns
returns c = from_added _ _ _ _ _ c.counted.ensures _ _ _ c.if-not-counted.false-raw (log_end _ _ _ _ _ _ (ended _ _ _ c.loop-i-test.false c.loop-i.invariant.0) c.loop-i.invariant.1)
