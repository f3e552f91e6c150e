-- What a tick sends, one message at a time: the room for it, and what is written. Assumes nothing.
use Rattle.places.proofs.Sections.{midway_laid}
use Prim.Native.Nat.{ℕ, ◌+◌, ◌*◌, ◌-◌, ◌/◌, ◌%◌, ◌≤◌, ◌<◌}
use mathlib.Core.Path.{◌≡◌, refl, sym, ap, ◌∙◌}
use mathlib.Core.Bool.{false}
use mathlib.Core.List.{List, [], ◌∷◌, append-nil}
use native.Mathlib.Omega.{arith}
use native.Mathlib.Nat.{mul-div_cancel_left, mul-le-mul}
use lib.ListN.{length, take, drop, get_or}
use lib.Dec.{lit<, lit≤}
use Rattle.octets.specs.Bytes.{num, flat, splice}
use Rattle.octets.proofs.Laws.{length_le}
use Rattle.octets.proofs.Codecs.{All}
use Rattle.rules.specs.Choice.{pick}
use Rattle.rules.specs.Group.{only, others}
use Rattle.rules.specs.Entry.{no_entry, entry_of}
use Rattle.rules.specs.Kind.{bare, numbers_in, row_of}
use Rattle.rules.specs.Wire.{entry_bytes, wire_bytes, header_in, numbers_of}
use Rattle.rules.specs.Read.{length_for}
use Rattle.rules.specs.Image.{state_of, at_early, at_gvec, at_log}
use Rattle.rules.specs.Digest.{digest}
use Rattle.rules.specs.Step.{send, send_out, send_leader, send_followers, unplaced_reply}
use Rattle.rules.specs.declared.Entry.{Entry}
use Rattle.rules.specs.declared.Header.{Header}
use Rattle.rules.specs.declared.Shape.{Shape}
use Rattle.rules.specs.declared.Message.{Message}
use Rattle.rules.specs.declared.Message.TheVariants.{FastReply, ReplicaSync, SyncStatus}
use Rattle.rules.proofs.Choice.{all_at}
use Rattle.rules.proofs.Entries.{EntryFits, long_entry}
use Rattle.rules.proofs.Tables.{flat_long}
use Rattle.places.specs.Layout.{start_of, Sized}
use Rattle.places.proofs.Head.{get_head}
use Rattle.handler.specs.Sending.{message_bytes, headed_in}
use Rattle.handler.proofs.Sends.{sender, sent_length, message_sent, own_group, own_replica}
use Rattle.releases.specs.Releasing.{Releasing}
use Rattle.releases.proofs.LogBytes.{log_rest, log_entry, early_entry}
use Rattle.places.proofs.Kept.{view_at_lem}

-- how long a message is
pub placed_long : (s : ℕ) → length_for s 5 1 ≡ 72 + 4 * s
unfolding pick row_of
placed_long s = omega arith

pub replies_small : (s k : ℕ) → s ≤ 8 → k ≤ 4096 → length_for s 5 1 * k ≤ 425984
replies_small s k a b = mul-le-mul (let z : length_for s 5 1 ≤ 104 = omega (arith, placed_long s) in z) b

pub log_long : (s n : ℕ) → length_for s 4 n ≡ 24 + 4 * s + 24 * n
unfolding pick row_of
log_long s n = omega arith

pub status_long : (s : ℕ) → length_for s 10 0 ≡ 32 + 4 * s
unfolding pick row_of
status_long s = omega arith

one_flat : (e : Entry) → entry_bytes e ≡ flat entry_bytes (e ∷ [])
unfolding flat
one_flat e = sym (append-nil (entry_bytes e))

module _ {sh : Shape} {b : List ℕ} (m : Releasing sh b) where
  pub sized : Sized sh b
  sized = record { fits = m.midway.fits; size = m.midway.size }

  -- the room that a message of j entries asks for
  room : (at q j L : ℕ) (x : List ℕ) → length x ≡ 24 * j → j ≤ 4096 → at + (24 + 4 * sh.s + 8 * q + 24 * j) ≤ L
      → Sized sh b × (24 * (length x / 24) ≡ length x) × (length x ≤ 98304) × (at + (24 + 4 * sh.s + 8 * q + length x) ≤ L)
  room at q j L x e l h =
      let d : length x / 24 ≡ j = rw e (mul-div_cancel_left j (lit< tt)) in
      (sized, omega arith, omega arith, omega arith)

  -- what is written is what the state sends
  said : (out out' x : List ℕ) (at r k g t : ℕ) (msg : Message) (xs : List ℕ) (es : List Entry) → header_in msg ≡ headed_in b k g t → numbers_of msg ≡ xs → x ≡ flat entry_bytes es → All EntryFits es → bare k ≡ false → length xs ≡ numbers_in k
      → (r ≡ at + length (message_bytes sh b msg x)) × (out' ≡ splice out at (message_bytes sh b msg x)) → (r ≡ at + length_for sh.s k (length es)) × (out' ≡ splice out at (wire_bytes (send (state_of sh b) k g t xs es)))
  said out out' x at r k g t msg xs es hh hn hx fe hb hl w =
      let q : message_bytes sh b msg x ≡ wire_bytes (send (state_of sh b) k g t xs es) = message_sent (midway_laid m.midway) (sender m.midway.holds) msg x k g t xs es hh hn hx fe in
      let l : length (message_bytes sh b msg x) ≡ length_for sh.s k (length es) = ap length q ∙ sent_length sh.s (state_of sh b) k g t xs es m.midway.holds.g_vec_places hb hl in
      (w.0 ∙ ap (λ (n : ℕ). at + n) l, w.1 ∙ ap (splice out at) q)

  -- ---- an entry that is placed
  module _ (from end n : ℕ) (hf : from ≡ start_of sh at_log + (4 + 24 * n)) (he : end ≡ from + 24) (hn : n < length (state_of sh b).logged.log) where
    placed_bytes : take (end - from) (drop from b) ≡ entry_bytes (entry_of (state_of sh b).logged.log n)
    placed_bytes = log_entry m.midway from end n hf he hn

    pub placed_room : (at L : ℕ) → at + length_for sh.s 5 1 ≤ L
        → Sized sh b × (24 * (length (take (end - from) (drop from b)) / 24) ≡ length (take (end - from) (drop from b))) × (length (take (end - from) (drop from b)) ≤ 98304) × (at + (24 + 4 * sh.s + 8 * 3 + length (take (end - from) (drop from b))) ≤ L)
    placed_room at L h = room at 3 1 L (take (end - from) (drop from b)) (ap length placed_bytes ∙ long_entry (entry_of (state_of sh b).logged.log n)) (omega arith) (omega (arith, placed_long sh.s))

    pub placed_told : (out out' : List ℕ) (at r sum : ℕ) (h : Header) → h ≡ headed_in b 5 255 1
        → (r ≡ at + length (message_bytes sh b (FastReply h 1 (n + 1) sum) (take (end - from) (drop from b)))) × (out' ≡ splice out at (message_bytes sh b (FastReply h 1 (n + 1) sum) (take (end - from) (drop from b))))
        → (r ≡ at + length_for sh.s 5 1) × (out' ≡ splice out at (wire_bytes (send_out (state_of sh b) 5 (1 ∷ (n + 1) ∷ sum ∷ []) (entry_of (state_of sh b).logged.log n))))
    unfolding pick row_of
    placed_told out out' at r sum h hh w =
        let e = entry_of (state_of sh b).logged.log n in
        said out out' (take (end - from) (drop from b)) at r 5 255 1 (FastReply h 1 (n + 1) sum) (1 ∷ (n + 1) ∷ sum ∷ []) (e ∷ []) hh refl (placed_bytes ∙ one_flat e) (all_at EntryFits no_entry (state_of sh b).logged.log m.midway.holds.log.each n hn, tt) refl refl w

  -- ---- one that is not
  module _ (from end i : ℕ) (hf : from ≡ start_of sh at_early + (4 + 24 * i)) (he : end ≡ from + 24) (hi : i < length (state_of sh b).waiting.early) where
    unplaced_bytes : take (end - from) (drop from b) ≡ entry_bytes (entry_of (state_of sh b).waiting.early i)
    unplaced_bytes = early_entry m.midway from end i hf he hi

    pub unplaced_room : (L : ℕ) → length_for sh.s 5 1 ≤ L
        → Sized sh b × (24 * (length (take (end - from) (drop from b)) / 24) ≡ length (take (end - from) (drop from b))) × (length (take (end - from) (drop from b)) ≤ 98304) × (0 + (24 + 4 * sh.s + 8 * 3 + length (take (end - from) (drop from b))) ≤ L)
    unplaced_room L h = room 0 3 1 L (take (end - from) (drop from b)) (ap length unplaced_bytes ∙ long_entry (entry_of (state_of sh b).waiting.early i)) (omega arith) (omega (arith, placed_long sh.s))

    pub unplaced_told : (out out' : List ℕ) (r sum : ℕ) (h : Header) → h ≡ headed_in b 5 255 1 → sum ≡ digest (state_of sh b).logged.log
        → (r ≡ 0 + length (message_bytes sh b (FastReply h 0 0 sum) (take (end - from) (drop from b)))) × (out' ≡ splice out 0 (message_bytes sh b (FastReply h 0 0 sum) (take (end - from) (drop from b))))
        → (r ≡ length_for sh.s 5 1) × (out' ≡ splice out 0 (wire_bytes (unplaced_reply (state_of sh b) (entry_of (state_of sh b).waiting.early i))))
    unfolding pick unplaced_reply row_of
    unplaced_told out out' r sum h hh hs w =
        let e = entry_of (state_of sh b).waiting.early i in
        let s = said out out' (take (end - from) (drop from b)) 0 r 5 255 1 (FastReply h 0 0 sum) (0 ∷ 0 ∷ sum ∷ []) (e ∷ []) hh refl (unplaced_bytes ∙ one_flat e) (all_at EntryFits no_entry (state_of sh b).waiting.early m.midway.holds.early.each i hi, tt) refl refl w in
        (omega (arith, s.0), s.1 ∙ rw hs)

  -- ---- the log, to all followers
  module _ (from end : ℕ) (hf : from ≡ start_of sh at_log + 4) (he : end ≡ from + 24 * length (state_of sh b).logged.log) where
    whole_bytes : take (end - from) (drop from b) ≡ flat entry_bytes (state_of sh b).logged.log
    whole_bytes = log_rest m.midway 0 (length (state_of sh b).logged.log) from (end - from) (omega arith) (omega arith) (omega arith)

    pub log_room : (at L : ℕ) → at + length_for sh.s 4 (length (state_of sh b).logged.log) ≤ L
        → Sized sh b × (24 * (length (take (end - from) (drop from b)) / 24) ≡ length (take (end - from) (drop from b))) × (length (take (end - from) (drop from b)) ≤ 98304) × (at + (24 + 4 * sh.s + 8 * 0 + length (take (end - from) (drop from b))) ≤ L)
    log_room at L h =
        room at 0 (length (state_of sh b).logged.log) L (take (end - from) (drop from b)) (ap length whole_bytes ∙ flat_long entry_bytes 24 long_entry (state_of sh b).logged.log)
        (omega (arith, m.midway.holds.log.room, m.midway.fits.small)) (omega (arith, log_long sh.s (length (state_of sh b).logged.log)))

    pub log_told : (out out' : List ℕ) (at r g own t : ℕ) (h : Header) → g ≡ num b 0 1 → own ≡ num b 1 1 → t ≡ others sh.n own → h ≡ headed_in b 4 g t
        → (r ≡ at + length (message_bytes sh b (ReplicaSync h) (take (end - from) (drop from b)))) × (out' ≡ splice out at (message_bytes sh b (ReplicaSync h) (take (end - from) (drop from b))))
        → (r ≡ at + length_for sh.s 4 (length (state_of sh b).logged.log)) × (out' ≡ splice out at (wire_bytes (send_followers sh (state_of sh b) 4 (state_of sh b).logged.log)))
    unfolding pick row_of
    log_told out out' at r g own t h hg ho ht hh w =
        let st = state_of sh b in
        let y : headed_in b 4 g t ≡ headed_in b 4 st.site.group (others sh.n st.site.replica) = rw (hg ∙ own_group (midway_laid m.midway) (sender m.midway.holds), ht ∙ ap (others sh.n) (ho ∙ own_replica (midway_laid m.midway) (sender m.midway.holds))) in
        said out out' (take (end - from) (drop from b)) at r 4 st.site.group (others sh.n st.site.replica) (ReplicaSync h) [] st.logged.log (hh ∙ y) refl whole_bytes m.midway.holds.log.each refl refl w

  -- ---- the sync point, to the leader
  pub sync_in : num b 24 8 ≡ (state_of sh b).logged.sync
  sync_in = get_head (midway_laid m.midway) 7 24 8 (state_of sh b).logged.sync (lit< tt) (simp length_le) (lit≤ tt) refl m.midway.holds.sync

  pub status_room : (at L : ℕ) → at + length_for sh.s 10 0 ≤ L
      → Sized sh b × (24 * (length (take (0 - 0) (drop 0 b)) / 24) ≡ length (take (0 - 0) (drop 0 b))) × (length (take (0 - 0) (drop 0 b)) ≤ 98304) × (at + (24 + 4 * sh.s + 8 * 1 + length (take (0 - 0) (drop 0 b))) ≤ L)
  status_room at L h = room at 1 0 L (take (0 - 0) (drop 0 b)) refl (omega arith) (omega (arith, status_long sh.s))

  pub status_told : (out out' : List ℕ) (at r g own view t sync : ℕ) (h : Header) → g ≡ num b 0 1 → own ≡ num b 0 1 → view ≡ num b (start_of sh at_gvec + 4 * own) 4 → t ≡ only (view % sh.n) → sync ≡ num b 24 8 → h ≡ headed_in b 10 g t
      → (r ≡ at + length (message_bytes sh b (SyncStatus h sync) (take (0 - 0) (drop 0 b)))) × (out' ≡ splice out at (message_bytes sh b (SyncStatus h sync) (take (0 - 0) (drop 0 b))))
      → (r ≡ at + length_for sh.s 10 0) × (out' ≡ splice out at (wire_bytes (send_leader sh (state_of sh b) 10 (state_of sh b).site.group ((state_of sh b).logged.sync ∷ []) [])))
  unfolding pick flat row_of
  status_told out out' at r g own view t sync h hg ho hv ht hs hh w =
      let st = state_of sh b in
      let a : own ≡ st.site.group = ho ∙ own_group (midway_laid m.midway) (sender m.midway.holds) in
      let v : view ≡ get_or st.view.g_vec st.site.group 0 = hv ∙ ap (λ (j : ℕ). num b (start_of sh at_gvec + 4 * j) 4) a ∙ view_at_lem (midway_laid m.midway) m.midway.holds.g_vec_places m.midway.holds.g_vec st.site.group m.own.group in
      let y : headed_in b 10 g t ≡ headed_in b 10 st.site.group (only (get_or st.view.g_vec st.site.group 0 % sh.n)) = rw (hg ∙ own_group (midway_laid m.midway) (sender m.midway.holds), ht ∙ ap (λ (x : ℕ). only (x % sh.n)) v) in
      let n : sync ≡ st.logged.sync = hs ∙ sync_in in
      said out out' (take (0 - 0) (drop 0 b)) at r 10 st.site.group (only (get_or st.view.g_vec st.site.group 0 % sh.n)) (SyncStatus h sync) (st.logged.sync ∷ []) [] (hh ∙ y) (ap (λ (x : ℕ). x ∷ []) n) refl tt refl refl w
