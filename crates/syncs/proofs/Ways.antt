-- The ways through the handler of kind 4. Assumes nothing.
use Prim.Native.Nat.{ℕ, suc, ◌+◌, ◌-◌, ◌*◌, ◌≤◌, ◌<◌}
use mathlib.Core.Path.{◌≡◌, sym, ap, ◌∙◌}
use mathlib.Core.Bool.{false}
use mathlib.Core.List.{List}
use native.Mathlib.Omega.{arith}
use lib.ListN.{length}
use borrow.Author.Tests.{le-leb, lt-leb}
use Rattle.octets.specs.Bytes.{num, splice, flat}
use Rattle.octets.proofs.Codecs.{length_items, get_or_items}
use Rattle.rules.specs.Choice.{pick, any}
use Rattle.rules.specs.Entry.{no_entry, entry_of, last_before}
use Rattle.rules.specs.Log.{last_of}
use Rattle.rules.specs.Wire.{Wire, tag_of, wire_bytes}
use Rattle.rules.specs.Kind.{known, row_of}
use Rattle.rules.specs.Read.{entry_at, entries_at, length_for, wire_in}
use Rattle.rules.specs.State.{State}
use Rattle.rules.specs.Image.{image, state_of}
use Rattle.rules.specs.Step.{Outcome, refused, on_replica_sync}
use Rattle.rules.specs.Bytes.{Left, leaves, closes}
use Rattle.rules.specs.declared.Entry.{Entry}
use Rattle.rules.specs.declared.Header.{Header}
use Rattle.rules.specs.declared.Shape.{Shape}
use Rattle.rules.specs.declared.Message.{Message}
use Rattle.rules.specs.declared.Message.TheVariants.{ReplicaSync}
use Rattle.places.proofs.Sections.{stands_midway}
use Rattle.places.proofs.Head.{sync_of}
use Rattle.handler.specs.Handler.{Ready, handled}
use Rattle.handler.proofs.Told.{Told, told_length, told_entries, ready_told}
use Rattle.handler.proofs.Closes.{closes_refused, closes_sent, closes_tight, handled_own}
use Rattle.early.specs.Listed.{listed_in}
use Rattle.syncs.specs.Takes.{late_by, synced_by, slow_replies, takes, Coming}
use Rattle.early.specs.declared.Listed.{Listed}
use Rattle.syncs.proofs.Slow.{all_long}

-- ---- the rule

module _ (sh : Shape) (st : State) (w : Wire) (log : List Entry) (e : w.entries ≡ log) where
  rule_old : length log ≤ st.logged.sync → on_replica_sync sh st w ≡ refused 7
  unfolding on_replica_sync pick
  rule_old h = rw (e, le-leb (length log) st.logged.sync h)

  rule_long : st.logged.sync < length log → sh.c < length log → on_replica_sync sh st w ≡ refused 8
  unfolding on_replica_sync pick row_of
  rule_long h k = rw (e, lt-leb (length log) st.logged.sync h, lt-leb (length log) sh.c k)

  rule_takes : st.logged.sync < length log → length log ≤ sh.c → on_replica_sync sh st w ≡ takes sh st log
  unfolding on_replica_sync takes late_by synced_by slow_replies pick
  rule_takes h k = rw (e, lt-leb (length log) st.logged.sync h, le-leb (length log) sh.c k)

module _ (sh : Shape) (st : State) (log : List Entry) (b out : List ℕ) where
  pub late_full : sh.c < length (late_by st log) → leaves 8 b out ≡ closes sh b out (takes sh st log)
  unfolding takes pick
  late_full h = sym (rw (lt-leb (length (late_by st log)) sh.c h) (closes_refused sh b out 8))

  pub out_full : length (late_by st log) ≤ sh.c → length out < length (flat wire_bytes (slow_replies st log)) → leaves 9 b out ≡ closes sh b out (takes sh st log)
  unfolding takes pick
  out_full h k = sym (rw (le-leb (length (late_by st log)) sh.c h) (closes_tight sh b out (synced_by st log) (slow_replies st log) k))

  pub all_done : (sent : ℕ) (b₁ out₁ : List ℕ) → length (late_by st log) ≤ sh.c → length (flat wire_bytes (slow_replies st log)) ≤ length out → sent ≡ length (flat wire_bytes (slow_replies st log))
      → b₁ ≡ image sh (synced_by st log) → out₁ ≡ splice out 0 (flat wire_bytes (slow_replies st log)) → record { refused = false; number = 0; offset = 0; sent = sent; state = b₁; out = out₁ } ≡ closes sh b out (takes sh st log)
  unfolding takes pick
  all_done sent b₁ out₁ h k s x y = sym (rw (le-leb (length (late_by st log)) sh.c h) (closes_sent sh b out (synced_by st log) (slow_replies st log) k ∙ sym (rw (s, x, y))))

-- ---- the log in the message

module _ {sh : Shape} {b msg : List ℕ} {log : Listed} (g : Coming sh b msg log) where
  abbrev st : State
  st = state_of sh b

  abbrev entries : List Entry
  entries = listed_in msg log

  long : length entries ≡ log.count
  long = length_items (entry_at msg) 24 log.at log.count

  -- its last entry
  pub last_is : (last : Entry) → last ≡ entry_at msg (log.at + 24 * (log.count - 1)) → last ≡ last_of entries
  unfolding last_before
  last_is last q =
      let n : length entries ≡ suc (log.count - 1) = long ∙ omega (arith, g.past) in
      q ∙ sym (ap (last_before (entry_of entries)) n ∙ get_or_items (entry_at msg) 24 log.at log.count (log.count - 1) no_entry (omega (arith, g.past)))

  pub too_late : (out : List ℕ) (late : ℕ) → late ≡ length (late_by st entries) → sh.c < late → leaves 8 b out ≡ closes sh b out (takes sh st entries)
  too_late out late e h = late_full sh st entries b out (rw e at h)

  pub too_much : (out : List ℕ) (late n : ℕ) → late ≡ length (late_by st entries) → late ≤ sh.c → n ≡ length_for sh.s 6 1 * (log.count - st.logged.sync) → length out < n → leaves 9 b out ≡ closes sh b out (takes sh st entries)
  too_much out late n e h q k = out_full sh st entries b out (rw e at h) (rw (all_long g, ← q) k)

  pub taken : (out : List ℕ) (late n sent : ℕ) (b₁ out₁ : List ℕ) → late ≡ length (late_by st entries) → late ≤ sh.c → n ≡ length_for sh.s 6 1 * (log.count - st.logged.sync) → n ≤ length out
      → (sent ≡ length (flat wire_bytes (slow_replies st entries))) × (out₁ ≡ splice out 0 (flat wire_bytes (slow_replies st entries))) → b₁ ≡ image sh (synced_by st entries)
      → record { refused = false; number = 0; offset = 0; sent = sent; state = b₁; out = out₁ } ≡ closes sh b out (takes sh st entries)
  taken out late n sent b₁ out₁ e h q k w x = all_done sh st entries b out sent b₁ out₁ (rw e at h) (rw (all_long g, ← q) k) w.0 x w.1

  -- what its rows are put in by
  pub list_asked : (log.at + 24 * log.count ≤ length msg) × (log.count ≤ 4096)
  list_asked = (g.inside, omega (arith, g.room, g.stands.fits.small))

-- ---- the handler

module _ (sh : Shape) (b msg out : List ℕ) (m : Message) (h : Header) (r : Ready sh b m msg) (e : m ≡ ReplicaSync h) where
  tag : tag_of m ≡ 4
  tag = ap tag_of e

  here : Told sh.n sh.s m msg
  unfolding any
  here = ready_told sh b msg m r (ap (λ (x : Message). known (tag_of x)) e)

  pub place_inside : (at : ℕ) → at ≡ entries_at sh.s 4 → at + 4 ≤ length msg
  place_inside at p =
      let w : length msg ≡ length_for sh.s 4 (num msg (entries_at sh.s 4) 4) = rw tag at (told_length sh.n sh.s m msg here) in
      omega arith

  module _ (at count : ℕ) (p : at ≡ entries_at sh.s 4) (q : count ≡ num msg at 4) where
    abbrev log : Listed
    log = record { at = at + 4; count = count }

    count_is : num msg (entries_at sh.s 4) 4 ≡ count
    count_is = ap (λ (a : ℕ). num msg a 4) (sym p) ∙ sym q

    whole : length msg ≡ at + 4 + 24 * count
    whole = (rw tag at (told_length sh.n sh.s m msg here)) ∙ rw (count_is, ← p)

    entries_are : (wire_in sh.s msg).entries ≡ listed_in msg log
    entries_are = (rw tag at (told_entries sh.n sh.s m msg here)) ∙ rw (count_is, ← p)

    count_long : length (listed_in msg log) ≡ count
    count_long = length_items (entry_at msg) 24 (at + 4) count

    by_rule : (o : Outcome) → on_replica_sync sh (state_of sh b) (wire_in sh.s msg) ≡ o → closes sh b out o ≡ handled 4 on_replica_sync sh m b msg out
    by_rule o z = sym (handled_own 4 on_replica_sync sh m b msg out tag ∙ ap (closes sh b out) z)

    module _ (sync : ℕ) (y : sync ≡ num b 24 8) where
      sync_is : sync ≡ (state_of sh b).logged.sync
      sync_is = y ∙ sync_of (stands_midway r.stands)

      pub not_longer : count ≤ sync → leaves 7 b out ≡ handled 4 on_replica_sync sh m b msg out
      not_longer l = sym (closes_refused sh b out 7) ∙ by_rule (refused 7) (rule_old sh (state_of sh b) _ (listed_in msg log) entries_are (omega (arith, count_long, sync_is)))

      pub too_long : sync < count → sh.c < count → leaves 8 b out ≡ handled 4 on_replica_sync sh m b msg out
      too_long l k = sym (closes_refused sh b out 8) ∙ by_rule (refused 8) (rule_long sh (state_of sh b) _ (listed_in msg log) entries_are (omega (arith, count_long, sync_is)) (omega (arith, count_long)))

      pub coming : sync < count → count ≤ sh.c → Coming sh b msg log
      coming l k = record { stands = r.stands; inside = omega (arith, whole); past = omega (arith, sync_is); room = k }

      pub handled_so : sync < count → count ≤ sh.c → (x : Left) → x ≡ closes sh b out (takes sh (state_of sh b) (listed_in msg log)) → x ≡ handled 4 on_replica_sync sh m b msg out
      handled_so l k x z = z ∙ by_rule (takes sh (state_of sh b) (listed_in msg log)) (rule_takes sh (state_of sh b) _ (listed_in msg log) entries_are (omega (arith, count_long, sync_is)) (omega (arith, count_long)))
