-- The log as it stands in the state, and the messages that carry it. Assumes nothing.
use Prim.Native.Nat.{ℕ, ◌+◌, ◌*◌, ◌-◌, ◌%◌, ◌^◌, ◌<◌}
use mathlib.Core.Path.{◌≡◌, refl, ap, ◌∙◌}
use mathlib.Core.List.{List, [], ◌∷◌, ◌++◌, append_assoc}
use native.Mathlib.Omega.{arith}
use lib.ListN.{length, take, drop}
use lib.Dec.{lit<, lit≤}
use Rattle.octets.specs.Bytes.{le, num, part, flat}
use Rattle.octets.proofs.Laws.{length_le, part_past, part_front}
use Rattle.octets.proofs.Sections.{part_whole}
use Rattle.octets.proofs.Codecs.{back_number}
use Rattle.rules.specs.Kind.{row_of}
use Rattle.rules.specs.Choice.{pick}
use Rattle.rules.specs.Group.{only, others, leader}
use Rattle.rules.specs.Wire.{entry_bytes, wire_bytes}
use Rattle.rules.specs.Read.{length_for}
use Rattle.rules.specs.State.{State}
use Rattle.rules.specs.Image.{zero_bytes, table_bytes, state_of, at_log}
use Rattle.rules.specs.Step.{send_leader, send_followers}
use Rattle.rules.specs.declared.Shape.{Shape}
use Rattle.rules.proofs.Entries.{long_entry}
use Rattle.rules.proofs.Tables.{flat_long, TableFits}
use Rattle.places.specs.Layout.{start_of, Fits}
use Rattle.places.proofs.Sections.{Laid, drop_all, get_in}
use Rattle.places.proofs.Head.{get_head}
use Rattle.places.proofs.Logged.{log_long}
use Rattle.handler.specs.Sending.{message_bytes, headed_in, leader_in}
use Rattle.handler.proofs.Sends.{Sender, sent_length, own_group, own_replica, message_sent}
use Rattle.changes.specs.Changes.{log_in, vote_in, start_in}
use Rattle.places.proofs.Kept.{view_at_lem}

-- the log as it is lent
pub log_lent : (sh : Shape) (b : List ℕ) (start count end : ℕ) → start ≡ start_of sh at_log + 4 → count ≡ length (state_of sh b).logged.log → end ≡ start + 24 * count → take (end - start) (drop start b) ≡ log_in sh b
unfolding part
log_lent sh b start count end e q h =
    let n : end - start ≡ 24 * count = omega arith in
    rw (n, e, q)

-- how long the two kinds are
pub vote_room : (s k : ℕ) → length_for s 8 k ≡ 40 + 4 * s + 24 * k
unfolding pick row_of
vote_room s k = omega arith

pub start_room : (s k : ℕ) → length_for s 9 k ≡ 24 + 4 * s + 24 * k
unfolding pick row_of
start_room s k = omega arith

module _ {sh : Shape} {st : State} {b : List ℕ} (l : Laid sh st b) (t : TableFits sh.c st.logged.log) where
  log_number : num b (start_of sh at_log) 4 ≡ length st.logged.log
  unfolding table_bytes
  log_number =
      back_number 4 b (start_of sh at_log) (length st.logged.log) _ (omega (arith, t.room, t.counted))
      (drop_all l 3 (start_of sh at_log) (lit< tt) refl ∙ append_assoc (le 4 (length st.logged.log)) (flat entry_bytes st.logged.log ++ zero_bytes (24 * (sh.c - length st.logged.log))) _)

  -- the log that is read has the length of the one that was written
  pub log_counted : Fits sh → length (state_of sh b).logged.log ≡ length st.logged.log
  log_counted z = omega (arith, log_long sh b (record { fits = z; size = l.size }), log_number, t.room)

  log_block : Fits sh → log_in sh b ≡ flat entry_bytes st.logged.log
  unfolding table_bytes
  log_block g =
      let n = 24 * length st.logged.log in
      let x = flat entry_bytes st.logged.log in
      let z = zero_bytes (24 * (sh.c - length st.logged.log)) in
      let m : length x ≡ n = flat_long entry_bytes 24 long_entry st.logged.log in
      ap (λ (k : ℕ). part b (start_of sh at_log + 4) (24 * k)) (log_counted g)
      ∙ get_in l 3 4 (start_of sh at_log + 4) n (lit< tt) refl (omega (arith, t.room))
      ∙ part_past (le 4 (length st.logged.log)) (x ++ z) 4 4 n (length_le 4 (length st.logged.log)) (lit≤ tt)
      ∙ part_front x z 0 n (omega arith)
      ∙ part_whole x n (omega arith)

  module _ (z : Fits sh) (f : Sender sh st) where
    -- kind 8
    pub vote_sent : st.site.group < sh.s → st.view.normal < 256 ^ 4 → st.logged.sync < 256 ^ 8 → message_bytes sh b (vote_in sh b) (log_in sh b) ≡ wire_bytes (send_leader sh st 8 st.site.group (st.view.normal ∷ st.logged.sync ∷ []) st.logged.log)
    vote_sent h fn fs =
        let en : num b 12 4 ≡ st.view.normal = get_head l 5 12 4 st.view.normal (lit< tt) (simp length_le) (lit≤ tt) refl fn in
        let es : num b 24 8 ≡ st.logged.sync = get_head l 7 24 8 st.logged.sync (lit< tt) (simp length_le) (lit≤ tt) refl fs in
        message_sent l f (vote_in sh b) (log_in sh b) 8 st.site.group (only (leader sh.n st.view.g_vec st.site.group)) (st.view.normal ∷ st.logged.sync ∷ []) st.logged.log
        (ap (λ (g : ℕ). headed_in b 8 g (only (leader_in sh b g))) (own_group l f) ∙ ap (λ (v : ℕ). headed_in b 8 st.site.group (only (v % sh.n))) (view_at_lem l f.places f.g_vec st.site.group h))
        (rw (en, es)) (log_block z) t.each

    pub vote_long : length (wire_bytes (send_leader sh st 8 st.site.group (st.view.normal ∷ st.logged.sync ∷ []) st.logged.log)) ≡ length_for sh.s 8 (length st.logged.log)
    unfolding pick row_of
    vote_long = sent_length sh.s st 8 st.site.group (only (leader sh.n st.view.g_vec st.site.group)) (st.view.normal ∷ st.logged.sync ∷ []) st.logged.log f.places refl refl

    -- kind 9
    pub start_sent : message_bytes sh b (start_in sh b) (log_in sh b) ≡ wire_bytes (send_followers sh st 9 st.logged.log)
    start_sent =
        message_sent l f (start_in sh b) (log_in sh b) 9 st.site.group (others sh.n st.site.replica) [] st.logged.log
        (ap (λ (g : ℕ). headed_in b 9 g (others sh.n (num b 1 1))) (own_group l f) ∙ ap (λ (r : ℕ). headed_in b 9 st.site.group (others sh.n r)) (own_replica l f))
        refl (log_block z) t.each

    pub start_long : length (wire_bytes (send_followers sh st 9 st.logged.log)) ≡ length_for sh.s 9 (length st.logged.log)
    unfolding pick row_of
    start_long = sent_length sh.s st 9 st.site.group (others sh.n st.site.replica) [] st.logged.log f.places refl refl
